use mathlib.Core.Path.{refl}
use native.Mathlib.Omega.{arith}
use Rattle.decoding.proofs.Reading.{chosen_start, chosen_more, chosen_all}
use Rattle.decoding.proofs.read_chosen.Goals as goal

pub loop-row-init : goal.loop-row-init
loop-row-init g c = chosen_start _ _ _ _ _ _ _ _ refl

pub loop-row-preserved : goal.loop-row-preserved
loop-row-preserved g c =
    chosen_more _ _ _ _ c.loop-row.invariant c.loop-row-test.true g.met.T.Decode.narrow _ _ c.read_if.ensures (rw c.WIDTH.ensures at c.if_set-at.ensures)

pub overflow_add-at : goal.overflow_add-at
overflow_add-at g c = omega (arith, c.loop-row.invariant.near, c.if_set-at.ensures.1, c.WIDTH.ensures, g.met.T.Decode.narrow, c.loop-row-test.true, c.requires)

pub returns : goal.returns
returns g c =
    let done = chosen_all _ _ _ _ c.loop-row.invariant c.loop-row-test.false in
    (done.0, done.1, omega (arith, c.loop-row.invariant.near, c.loop-row.auto.row-index-end, c.loop-row.invariant.places, c.requires))
