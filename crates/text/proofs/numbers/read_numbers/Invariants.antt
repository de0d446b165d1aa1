use mathlib.Core.Path.{◌≡◌}
use Prim.Native.Nat.{◌-◌}
use lib.ListN.{length, take}
use Rattle.model.specs.Lines.{numbers}
use Rattle.text.specs.Parts.{after}
use Rattle.text.proofs.NumberLaws.{prepend}
use Rattle.text.proofs.numbers.read_numbers.Given as goal

abbrev pub invariant-loop-x : goal.invariant-loop-x
invariant-loop-x g l =
    (length l.x-items ≡ g.row.N) × (prepend (take l.x-index l.x-items) (numbers (g.row.N - l.x-index) (after 32 l.left)) ≡ numbers g.row.N (after 32 l.rest))
