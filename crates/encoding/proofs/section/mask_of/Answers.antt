use native.Mathlib.Omega.{arith}
use Rattle.encoding.proofs.Marking.{mask_fits, mask_done}
use Rattle.encoding.proofs.Turns.{bit_le}
use Rattle.encoding.proofs.section.mask_of.Goals as goal

pub overflow_mul-mask : goal.overflow_mul-mask
overflow_mul-mask g c = omega (arith, mask_fits c.loop-item.invariant _ _ c.in-Some.ensures.steps {b = 0} (omega arith))

pub overflow_add-mask : goal.overflow_add-mask
overflow_add-mask g c = omega (arith, mask_fits c.loop-item.invariant _ _ c.in-Some.ensures.steps {b = c.from.result} (rw c.from.ensures (bit_le c.is_marked.result)))

pub returns : goal.returns
returns g c = mask_done c.loop-item.invariant c.in-None.ensures.steps.0
