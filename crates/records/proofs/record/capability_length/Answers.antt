use Rattle.std.proofs.Common.{arith}
use Rattle.records.proofs.Layouts.{head_length, capability_counted}
use Rattle.records.proofs.record.capability_length.Goals as goal

pub overflow_add-result : goal.overflow_add-result
overflow_add-result c =
    omega (arith, head_length c.head_layout.ensures, (capability_counted c.args.c c.capability_layout.ensures c.capability_fields.ensures c.field_map.ensures c.length-2.ensures).1)
