use mathlib.Core.Path.{refl, ap, ◌∙◌}
use mathlib.Core.List.{List, ◌++◌}
use Prim.Native.Nat.{◌+◌, min}
use native.Mathlib.Omega.{arith}
use lib.ListN.{length, drop}
use Rattle.std.proofs.lemmas.List.{drop-replicate}
use Rattle.model.specs.declared.Capability.{Capability}
use Rattle.model.specs.State.{blank_capability}
use Rattle.model.specs.Image.{read_capabilities}
use Rattle.fields.proofs.Reading.{bytes_drop, number_small}
use Rattle.decoding.proofs.Rest.{rest_register, rest_exact, image-register, image_exact}
use Rattle.decoding.proofs.read_image.Goals as goal

pub overflow_cast-r : goal.overflow_cast-r
overflow_cast-r c =
    let s = c.args.s.now in
    omega (arith, number_small 4 (drop 0 s) (bytes_drop 0 s (λ i. omega (arith, c.type_inv.s i))), c.get_at.ensures)

pub returns : goal.returns
returns c =
    let s = c.args.s.now in
    let enrolled = c.get_map in
    let users = rw c.fresh-r.ensures at c.read_chosen-roles_at.ensures in
    let founded = c.get_map-founded in
    let roles = rw c.fresh-r.ensures at c.read_chosen-count_at.ensures in
    let counted = (rw c.fresh-r.ensures at c.read_counted-count.ensures) in
    let sessions = rw c.fresh-r.ensures at c.read_chosen-end.ensures in
    let ra = c.read_chosen-roles_at.result in
    let ca = c.read_chosen-count_at.result in
    let n = c.read_counted-count.result.count in
    let at = c.read_counted-count.result.end in
    let active = c.get_map-active in (
      rest_register s ca n (min 256 n) at active.result counted.count refl counted.after active.ensures _ _ _ _ _ _
          (counted.rows ∙ ap (λ (l : List Capability). read_capabilities (min 256 n) (drop (ca + 2) s) ++ l) (drop-replicate (min 256 n) 256 blank_capability)) sessions.0
          ∙ image-register s _ ra _ ca enrolled.ensures users.1 founded.ensures roles.1 _ _ _ c.get_at.ensures users.0 roles.0,
      rest_exact s ca n (min 256 n) at active.result counted.count refl counted.after active.ensures (length s) c.read_chosen-end.result _ _
          counted.exact counted.end.0 c.sessions_exact.ensures sessions.1
          ∙ image_exact s _ ra _ ca enrolled.ensures users.1 founded.ensures roles.1,
      λ i. omega (arith, c.type_inv.s i),
    )
