use native.Mathlib.Omega.{arith}
use mathlib.Core.Path.{refl}
use Rattle.fields.specs.declared.coding.Coding.TheVariants.{Number}
use Rattle.fields.proofs.Putting.{list_step}
use Rattle.fields.proofs.field.put_all.Goals as goal

pub loop-i-preserved : goal.loop-i-preserved
loop-i-preserved c = list_step c.loop-i.invariant (Number 0) (omega arith) _ refl c.put_if-at.ensures (search)
