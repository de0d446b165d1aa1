use Rattle.encoding.proofs.Putting.{items_step}
use Rattle.encoding.proofs.section.put_chosen.Goals as goal

pub loop-item-preserved : goal.loop-item-preserved
loop-item-preserved g c = items_step c.loop-item.invariant _ c.loop-item-test.true (rw c.item-item.is at c.put_if-at.ensures) (search)
