use mathlib.Core.Path.{◌≡◌}
use mathlib.Core.List.{◌++◌}
use Prim.Native.Nat.{◌+◌, ◌*◌, ◌≤◌}
use lib.ListN.{length, take, drop}
use Rattle.model.specs.Fields.{read_present, present_length}
use Rattle.fields.specs.Codes.{codings}
use Rattle.fields.proofs.layout.Layout.read.Given as goal

abbrev pub invariant-loop-i : goal.invariant-loop-i
invariant-loop-i g l =
    (take l.i l.values ++ read_present l.bits (codings (drop l.i l.self.codings)) (drop l.at l.s) ≡ read_present l.map (codings l.self.codings) (drop l.from l.s))
    × (l.at ≤ l.from + 8 * l.i)
    × (length l.values ≡ length l.self.codings)
    × (l.at + present_length l.bits (codings (drop l.i l.self.codings)) ≡ l.from + present_length l.map (codings l.self.codings))
