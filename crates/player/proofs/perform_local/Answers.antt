use mathlib.Core.Path.{sym, ap, subst, ◌∙◌}
use Rattle.model.specs.declared.Register.{Register}
use Rattle.model.specs.Rulings.{Effect}
use Rattle.origins.specs.Authority.{Columns}
use Rattle.places.specs.declared.Names.{Names}
use Rattle.places.specs.Requests.{changes_role}
use Rattle.dispatch.proofs.Columns.{columns_stay}
use Rattle.player.proofs.perform_local.Goals as goal

-- no role has changed, and the columns stay
pub returns-else-changes_role-clause-columns : goal.returns-else-changes_role-clause-columns
returns-else-changes_role-clause-columns c =
    let a = c.args in
    let same = ap (λ (m : Names). changes_role m.follow) (sym c.names_of.ensures) ∙ sym c.changes_role.ensures ∙ c.if-changes_role.false in
    subst
    (λ (z : Effect Register). Columns a.columns.now z.after.roles)
    (sym c.perform-answer.ensures)
    (columns_stay a.r.now a.columns.now a.q c.requires.formed c.requires.columns same)
