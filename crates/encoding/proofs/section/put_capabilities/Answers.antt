use Rattle.encoding.proofs.Putting.{capabilities_next}
use Rattle.encoding.proofs.section.put_capabilities.Goals as goal

pub loop-c-preserved : goal.loop-c-preserved
loop-c-preserved c = capabilities_next c.loop-c.invariant (search) c.put_capability-at.ensures (search)
