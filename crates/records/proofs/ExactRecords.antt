-- Records read from bytes and written again are the bytes that were read, where they are exact.
use mathlib.Core.Path.{◌≡◌, refl, ◌∙◌}
use mathlib.Core.List.{List, [], ◌∷◌}
use Prim.Native.Nat.{ℕ, zero, suc, ◌<◌}
use native.Mathlib.Omega.{arith}
use lib.Dec.{T, eqb, ltb, ltb→lt, eqb→eq}
use lib.ListN.{drop, get_or}
use lib.Seq.{drop-drop, get_or-drop}
use Rattle.masks.specs.Bytes.{number_of, first_bytes}
use Rattle.masks.proofs.Truth.{and_l, and_r}
use Rattle.model.specs.Fields.{mark, write_all, field_map, read_set, read_present, present_length, bit, kind_of, index_of, origin_of, role_codings, role_fields, write_role, role_of, read_role, session_codings, session_fields, write_session, session_of, read_session, head_codings, head_fields, capability_codings, capability_fields, write_capability, capability_of, read_head, read_capability, capability_length}
use Rattle.model.specs.Image.{write_capabilities, read_capabilities, after_capabilities}
use Rattle.fields.specs.Codes.{Bytes}
use Rattle.records.specs.Exact.{exact_capability, exact_capabilities, capabilities_length, exact_session}
use Rattle.fields.proofs.Fields.{total}
use Rattle.fields.proofs.Reading.{bytes_drop}
use Rattle.fields.proofs.ExactFields.{first_join, all_again, present_again}

-- ---- capabilities one after another: where they end, and one more at the end

pub capabilities_at : (n : ℕ) (t : List ℕ) → after_capabilities n t ≡ drop (capabilities_length n t) t
capabilities_at zero t = refl
capabilities_at (suc n) t =
    capabilities_at n (drop (capability_length t) t) ∙ drop-drop (capabilities_length n (drop (capability_length t) t)) (capability_length t) t

-- ---- roles and sessions

pub role_again : (t : List ℕ) → Bytes t → write_role (read_role t) ≡ first_bytes 20 t
unfolding write_role read_role role_of role_fields role_codings total
role_again t h = all_again role_codings t h

kind_again : (k n : ℕ) → k < 2 → kind_of (origin_of k n) ≡ k
kind_again zero n h = refl
kind_again (suc zero) n h = refl
kind_again (suc (suc k)) n h = omega arith

index_again : (k n : ℕ) → index_of (origin_of k n) ≡ n
index_again zero n = refl
index_again (suc k) n = refl

byte_at : (t : List ℕ) → number_of (first_bytes 1 t) ≡ get_or t 0 0
byte_at [] = refl
byte_at (x ∷ t) = omega arith

pub session_again : (t : List ℕ) → Bytes t → T (exact_session t) → write_session (read_session t) ≡ first_bytes 6 t
unfolding write_session read_session session_of session_fields session_codings total
session_again t h e =
    let l : get_or t 1 0 < 2 = ltb→lt (get_or t 1 0) 2 e in
    let k : ℕ = number_of (first_bytes 1 (drop 1 t)) in
    let small : k < 2 = omega (arith, byte_at (drop 1 t), get_or-drop 1 t 0 0) in
    rw (kind_again k (number_of (first_bytes 1 (drop 1 (drop 1 t)))) small, index_again)
    (all_again session_codings t h)

-- ---- capabilities

mark_again : (b : ℕ) (t : List ℕ) → bit (eqb (read_set b mark t) 1) ≡ read_set b mark t
mark_again zero t = refl
mark_again (suc b) t = refl

fields_again : (m : ℕ) (h t : List ℕ) → capability_fields (capability_of h (read_present m capability_codings t)) ≡ read_present m capability_codings t
unfolding capability_fields capability_of capability_codings
fields_again m h t = rw mark_again

module _ (t : List ℕ) (h : Bytes t) (e : T (exact_capability t)) where
  abbrev kind : ℕ
  kind = get_or (read_head t) 0 0

  abbrev fields : ℕ
  fields = get_or (read_head t) 3 0

  abbrev present : List ℕ
  present = read_present fields capability_codings (drop 5 t)

  kind_small : kind < 2
  kind_small = ltb→lt kind 2 (and_l (ltb kind 2) (eqb (field_map present) fields) e)

  map_same : field_map present ≡ fields
  map_same = eqb→eq (field_map present) fields (and_r (ltb kind 2) (eqb (field_map present) fields) e)

  present_same : capability_fields (read_capability t) ≡ present
  unfolding read_capability
  present_same = fields_again fields (read_head t) (drop 5 t)

  origin_same : kind_of (read_capability t).origin ∷ index_of (read_capability t).origin ∷ (read_capability t).creator ∷ fields ∷ [] ≡ read_head t
  unfolding read_capability capability_of read_head head_codings
  origin_same = rw (kind_again kind (get_or (read_head t) 1 0) kind_small, index_again)

  head_same : head_fields (read_capability t) ≡ read_head t
  unfolding head_fields
  head_same = rw (present_same, map_same) origin_same

  head_again : write_all head_codings (read_head t) ≡ first_bytes 5 t
  unfolding read_head head_codings total
  head_again = all_again head_codings t h

  pub capability_again : write_capability (read_capability t) ≡ first_bytes (capability_length t) t
  unfolding write_capability capability_length
  capability_again =
      rw (head_same, present_same, head_again, present_again fields capability_codings (drop 5 t) (bytes_drop 5 t h) map_same)
      (first_join 5 (present_length fields capability_codings) t)

pub capabilities_again : (n : ℕ) (t : List ℕ) → Bytes t → T (exact_capabilities n t) → write_capabilities (read_capabilities n t) ≡ first_bytes (capabilities_length n t) t
capabilities_again zero t h e = refl
capabilities_again (suc n) t h e =
    let u : List ℕ = drop (capability_length t) t in
    rw (capability_again t h (and_l (exact_capability t) (exact_capabilities n u) e), capabilities_again n u (bytes_drop (capability_length t) t h) (and_r (exact_capability t) (exact_capabilities n u) e))
    (first_join (capability_length t) (capabilities_length n u) t)
