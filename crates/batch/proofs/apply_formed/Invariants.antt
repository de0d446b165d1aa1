use Rattle.batch.proofs.Laws.{Playing}
use Rattle.batch.proofs.apply_formed.Given as goal

abbrev pub invariant-loop-i : goal.invariant-loop-i
invariant-loop-i l = Playing l.fn.start.register l.requests l.register l.answers l.i
