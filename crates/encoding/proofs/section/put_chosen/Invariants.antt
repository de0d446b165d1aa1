use Rattle.encoding.proofs.Putting.{ItemsTo}
use Rattle.encoding.proofs.section.put_chosen.Given as goal

abbrev pub invariant-loop-item : goal.invariant-loop-item
invariant-loop-item g l = ItemsTo g.T.Encode.bytes l.mask l.items l.initial.s l.s l.at l.left l.item-index
