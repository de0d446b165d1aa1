use Rattle.encoding.proofs.Lengths.{LengthTo}
use Rattle.encoding.proofs.length.image_length.Given as goal

abbrev pub invariant-loop-c : goal.invariant-loop-c
invariant-loop-c l = LengthTo l.fn.formed.register l.c-items l.n l.c-index
