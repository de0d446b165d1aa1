use mathlib.Core.Path.{◌∙◌, refl}
use Rattle.player.proofs.Laws.{line_broken}
use Rattle.player.proofs.step.step_of.Goals as goal

pub returns-then-not-formed : goal.returns-then-not-formed
returns-then-not-formed c =
    λ r h. line_broken r c.args.line.now _ c.in-Some-parse.ensures _ refl (h ∙ c.if-not-formed.true)
