use Rattle.buffers.proofs.Digits.{digits_step}
use Rattle.answers.proofs.put_digits.Goals as goal

pub loop-i-preserved : goal.loop-i-preserved
loop-i-preserved c = digits_step c.loop-i.invariant (search)
