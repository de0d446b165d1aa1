use mathlib.Core.Path.{refl, sym, ◌∙◌}
use borrow.Author.Rules.{rules}
use Rattle.rules.proofs.Laws.{all_fails}
use Rattle.rules.proofs.capability.capabilities_keep.Goals as goal

pub returns-then-not-place_keeps : goal.returns-then-not-place_keeps
returns-then-not-place_keeps c few =
    let n = c.loop-n.n in
    all_fails _ n _ c.loop-n-test.true
    (sym (c.place_keeps.ensures c.columns_of-columns.ensures (record { enrolled = refl; founded = c.founded_roles.ensures; count = refl }) (c.children_counted-children.ensures few n (search rules)))
    ∙ c.if-not-place_keeps.true)
