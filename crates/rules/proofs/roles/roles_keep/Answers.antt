use mathlib.Core.Bool.{◌&&◌}
use mathlib.Core.Path.{ap, ◌∙◌}
use Rattle.model.specs.State.{role_at}
use Rattle.rules.proofs.Laws.{all_more}
use Rattle.rules.proofs.Agreement.{role_agrees}
use Rattle.rules.proofs.roles.roles_keep.Goals as goal

pub loop-x-preserved : goal.loop-x-preserved
loop-x-preserved c =
    let l = c.loop-x in
    let a = c.args in
    all_more l.x-index _ l.invariant
    (ap (λ t. l.ok && t)
    (c.role_keeps-ok.ensures ∙ role_agrees a.enrolled a.domains.now c.domain_users-users.result l.x-index (role_at a.roles.now l.x-index) c.domain_users-users.ensures))
