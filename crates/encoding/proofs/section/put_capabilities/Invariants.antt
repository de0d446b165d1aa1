use Rattle.encoding.proofs.Putting.{CapabilitiesTo}
use Rattle.encoding.proofs.section.put_capabilities.Given as goal

abbrev pub invariant-loop-c : goal.invariant-loop-c
invariant-loop-c l = CapabilitiesTo l.capabilities l.initial.s l.s l.at l.c-index
