use mathlib.Core.Path.{◌≡◌}
use Rattle.masks.specs.Tests.{all_below}
use Rattle.model.specs.Rules.{role_keeps}
use Rattle.model.specs.State.{role_at}
use Rattle.rules.proofs.roles.roles_keep.Given as goal

abbrev pub invariant-loop-x : goal.invariant-loop-x
invariant-loop-x l = l.ok ≡ all_below l.x-index (λ k. role_keeps l.enrolled l.domains k (role_at l.roles k))
