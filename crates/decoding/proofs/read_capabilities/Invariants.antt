use lib.ListN.{length}
use Rattle.decoding.proofs.Rest.{ReadTo}
use Rattle.decoding.proofs.read_capabilities.Given as goal

abbrev pub invariant-loop-row : goal.invariant-loop-row
invariant-loop-row l = ReadTo l.s l.from (length l.fn.rows) l.rows l.exact l.at l.row-index
