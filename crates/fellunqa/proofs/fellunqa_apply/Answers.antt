use mathlib.Core.Path.{◌∙◌}
use borrow.Author.Rules.{sfits_of}
use mir.Syntax.{w64}
use mir.ValLaws.{to_z-of_z}
use Rattle.fellunqa.proofs.Laws.{returned_is}
use Rattle.fellunqa.proofs.fellunqa_apply.Goals as goal

pub returns : goal.returns
returns c =
    let z = c.number_of.result in
    (to_z-of_z w64 z (sfits_of {w = w64} {z = z} c.number_of.type_inv) ∙ c.number_of.ensures ∙ returned_is _ _ c.enter.ensures.0, c.enter.ensures.1)
