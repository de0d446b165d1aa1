use mathlib.Core.Path.{◌≡◌}
use Prim.Native.Nat.{◌+◌, ◌*◌, ◌≤◌}
use lib.ListN.{drop}
use Rattle.model.specs.Fields.{present_length}
use Rattle.fields.specs.Codes.{codings}
use Rattle.fields.proofs.layout.Layout.length.Given as goal

abbrev pub invariant-loop-coding : goal.invariant-loop-coding
invariant-loop-coding g l =
    (l.n + present_length l.bits (codings (drop l.coding-index l.self.codings)) ≡ present_length l.map (codings l.self.codings))
    × (l.n ≤ 8 * l.coding-index)
