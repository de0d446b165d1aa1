use mathlib.Core.Path.{◌≡◌}
use Rattle.masks.specs.Tests.{all_below}
use Rattle.model.specs.Rules.{session_keeps}
use Rattle.model.specs.State.{session_at}
use Rattle.rules.proofs.session.sessions_keep.Given as goal

abbrev pub invariant-loop-s : goal.invariant-loop-s
invariant-loop-s l = l.ok ≡ all_below l.s-index (λ n. session_keeps l.r.enrolled l.r.roles l.r.count l.r.capabilities n (session_at l.r.sessions n))
