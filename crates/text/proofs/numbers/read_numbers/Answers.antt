use mathlib.Core.Path.{◌∙◌}
use Rattle.std.proofs.Common.{length-set}
use Rattle.text.proofs.NumberLaws.{numbers_turn}
use Rattle.text.proofs.numbers.read_numbers.Goals as goal

pub loop-x-preserved : goal.loop-x-preserved
loop-x-preserved g c = (
  simp length-set c.loop-x.invariant.0,
  numbers_turn g.row.N c.loop-x.x-index c.loop-x.x-items _ c.loop-x-test.true c.loop-x.invariant.0 _ _ c.in_ok-n.ensures.0 ∙ c.loop-x.invariant.1,
)
