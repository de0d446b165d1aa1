use Rattle.model.specs.Fields.{write_all}
use Rattle.fields.proofs.Putting.{ListTo}
use Rattle.fields.proofs.field.put_all.Given as goal

abbrev pub invariant-loop-i : goal.invariant-loop-i
invariant-loop-i l = ListTo write_all l.fields l.values l.initial.s l.s l.at l.i
