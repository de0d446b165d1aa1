use mathlib.Core.Path.{◌≡◌, ◌∙◌}
use mathlib.Core.Bool.{◌&&◌}
use lib.Dec.{eqb, ltb, lt→ltb}
use lib.ListN.{get_or}
use Rattle.masks.proofs.Truth.{T→true, T→false, le→nltb}
use Rattle.records.proofs.Layouts.{capability_fitted, capability_read}
use Rattle.records.proofs.reader.read_capability.Goals as goal
use Rattle.records.proofs.reader.read_capability.Goals.{then-head-lt2, else-head-lt2}

pub capability_of-requires : goal.capability_of-requires
capability_of-requires c =
    capability_fitted c.args.s.now c.args.at (search) c.head_layout.ensures c.capability_layout.ensures c.read-from.ensures c.read-next.ensures

pub returns : goal.returns
returns c =
    let kind = get_or c.read-from.result.0 0 0 in
    let map = get_or c.read-from.result.0 3 0 in
    let is =
    capability_read c.args.s.now c.args.at (search) c.head_layout.ensures c.capability_layout.ensures c.read-from.ensures c.read-next.ensures c.field_map-set.ensures in
    let tests : c.if-head-lt2.result ≡ (ltb kind 2 && eqb c.field_map-set.result map) =
    elim c.if-head-lt2.branch [
      | then-head-lt2 w ↦ rw (T→true (ltb kind 2) (lt→ltb kind 2 w.if-head-lt2.true)) w.result-is
      | else-head-lt2 w ↦ let no = T→false (ltb kind 2) (le→nltb kind 2 w.if-head-lt2.false) in rw no (w.result-is ∙ no)
    ] in
    (c.capability_of.ensures ∙ is.0, is.1, tests ∙ is.2)
