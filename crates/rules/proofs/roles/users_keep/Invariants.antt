use mathlib.Core.Path.{◌≡◌}
use lib.ListN.{get_or}
use Rattle.masks.specs.Tests.{all_below}
use Rattle.model.specs.Rules.{user_keeps}
use Rattle.rules.proofs.roles.users_keep.Given as goal

abbrev pub invariant-loop-u : goal.invariant-loop-u
invariant-loop-u l = l.ok ≡ all_below l.u (λ u. user_keeps l.enrolled u (get_or l.domains u 0))
