use mathlib.Core.Path.{◌≡◌}
use Rattle.rules.specs.Columns.{tally}
use Rattle.rules.proofs.capability.children_counted.Given as goal

abbrev pub invariant-loop-n : goal.invariant-loop-n
invariant-loop-n l = l.table ≡ tally l.r.capabilities l.n
