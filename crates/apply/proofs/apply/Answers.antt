use mathlib.Core.Path.{sym, ◌∙◌}
use Rattle.masks.proofs.Truth.{true→T}
use Rattle.model.specs.Requests.{call_of}
use Rattle.model.proofs.Settling.{step-settled}
use Rattle.apply.proofs.apply.Goals as goal

pub returns-then-well_formed : goal.returns-then-well_formed
returns-then-well_formed c =
    c.apply_trusted.ensures ∙ sym (step-settled c.args.r (call_of c.args.q) (true→T _ (sym c.well_formed-2.ensures ∙ c.if-well_formed.true)))
