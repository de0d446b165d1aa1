use Rattle.records.proofs.Layouts.{capability_written}
use Rattle.records.proofs.record.put_capability.Goals as goal

pub returns : goal.returns
returns c =
    capability_written c.args.c c.capability_layout.ensures c.capability_fields-values.ensures c.field_map-map.ensures c.args.s.now c.head_layout.ensures c.head_fields.ensures c.requires c.put-n.ensures c.put.ensures
