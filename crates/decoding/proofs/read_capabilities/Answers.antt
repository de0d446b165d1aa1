use native.Mathlib.Omega.{arith}
use Rattle.decoding.proofs.Rest.{read_step, read_rows, read_after, read_exact, read_reach}
use Rattle.decoding.proofs.read_capabilities.Goals as goal

pub loop-row-preserved : goal.loop-row-preserved
loop-row-preserved c =
    let r = c.read_capability-read in
    read_step c.loop-row.invariant c.loop-row-test.true _ _ _ r.ensures.0 r.ensures.1 r.ensures.2

pub returns-clause-rows : goal.returns-clause-rows
returns-clause-rows c = read_rows c.loop-row.invariant c.loop-row-test.false

pub returns-clause-exact : goal.returns-clause-exact
returns-clause-exact c = read_exact c.loop-row.invariant c.loop-row-test.false

pub returns-clause-end : goal.returns-clause-end
returns-clause-end c = (read_reach c.loop-row.invariant c.loop-row-test.false, omega (arith, c.loop-row.invariant.near, c.loop-row.auto.row-index-end))

pub returns-clause-after : goal.returns-clause-after
returns-clause-after c = read_after c.loop-row.invariant c.loop-row-test.false
