use Rattle.std.specs.Iterator.Adapters.{rev_source}
use Rattle.std.specs.Slice.Iter.{iter_rest}
use Rattle.encoding.proofs.Marking.{MaskFrom}
use Rattle.encoding.proofs.section.mask_of.Given as goal

abbrev pub invariant-loop-item : goal.invariant-loop-item
invariant-loop-item g l = MaskFrom g.T.Marked.marked l.items l.mask (iter_rest (rev_source l.item-iterator))
