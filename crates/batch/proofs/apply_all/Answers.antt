use mathlib.Core.Path.{refl, sym, ◌∙◌}
use lib.ListN.{take}
use Rattle.batch.proofs.Laws.{all_broken, all_formed}
use Rattle.batch.proofs.apply_all.Goals as goal

pub returns-then-well_formed : goal.returns-then-well_formed
returns-then-well_formed c =
    let a = c.args in
    let n = c.min-n in
    all_formed a.start a.requests.now n.result n.ensures (take n.result a.requests.now) c.apply_formed.result.register c.apply_formed.result.answers refl c.apply_formed.ensures

pub returns-else-well_formed : goal.returns-else-well_formed
returns-else-well_formed c =
    let a = c.args in
    let n = c.min-n in
    all_broken a.start a.requests.now n.result n.ensures c.refusals.result (sym c.well_formed-2.ensures ∙ c.if-well_formed.false) c.refusals.ensures
