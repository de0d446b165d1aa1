use lib.ListN.{length}
use Rattle.buffers.proofs.Digits.{DigitsFrom}
use Rattle.answers.proofs.AnswerLaws.{decimal-digits}
use Rattle.answers.proofs.put_digits.Given as goal

abbrev pub invariant-loop-i : goal.invariant-loop-i
invariant-loop-i l = DigitsFrom decimal-digits (length l.initial.s) l.n l.initial.s l.s l.i l.x
