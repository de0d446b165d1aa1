use Rattle.buffers.proofs.Digits.{DigitsFrom}
use Rattle.fields.proofs.Parts.{byte_digits}
use Rattle.fields.proofs.number.put.Given as goal

abbrev pub invariant-loop-i : goal.invariant-loop-i
invariant-loop-i l = DigitsFrom byte_digits l.k l.n l.initial.s l.s l.i l.x
