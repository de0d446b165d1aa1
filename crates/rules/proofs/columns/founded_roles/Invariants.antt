use mathlib.Core.Path.{◌≡◌}
use Rattle.rules.specs.Columns.{masked, is_founded}
use Rattle.rules.proofs.columns.founded_roles.Given as goal

abbrev pub invariant-loop-k : goal.invariant-loop-k
invariant-loop-k l = l.mask ≡ masked (is_founded l.roles) l.k
