use mathlib.Core.Path.{◌≡◌}
use lib.ListN.{get_or}
use Rattle.masks.specs.Masks.{joined}
use Rattle.masks.proofs.join_each.Given as goal

abbrev pub invariant-loop-k : goal.invariant-loop-k
invariant-loop-k l = l.sum ≡ joined (λ k. get_or l.column k 0) l.mask l.k
