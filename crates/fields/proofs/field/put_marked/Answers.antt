use native.Mathlib.Omega.{arith}
use Rattle.fields.specs.declared.coding.Coding.TheVariants.{Number}
use Rattle.fields.proofs.Putting.{fields_step}
use Rattle.fields.proofs.field.put_marked.Goals as goal

pub loop-i-preserved : goal.loop-i-preserved
loop-i-preserved c = fields_step c.loop-i.invariant (Number 0) (omega arith) c.put_if-at.ensures (search)
