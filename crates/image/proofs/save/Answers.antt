use Rattle.std.proofs.Common.{sym, ◌∙◌}
use Rattle.image.proofs.Calls.{save_broken}
use Rattle.image.proofs.save.Goals as goal

pub returns-then-not-well_formed : goal.returns-then-not-well_formed
returns-then-not-well_formed c =
    let w = save_broken c.args.r c.args.buffer.now (sym c.well_formed-2.ensures ∙ c.if-not-well_formed.true) in
    (w.answer, w.leaves)
