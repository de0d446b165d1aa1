use Rattle.fields.proofs.Putting.{FieldsTo}
use Rattle.fields.proofs.field.put_marked.Given as goal

abbrev pub invariant-loop-i : goal.invariant-loop-i
invariant-loop-i l = FieldsTo l.map l.fields l.values l.initial.s l.s l.bits l.at l.i
