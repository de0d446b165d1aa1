-- What is written and read by the code's layouts is what the definitions say of each record.
use mathlib.Core.Path.{◌≡◌, refl, sym, ap, ◌∙◌}
use mathlib.Core.Bool.{◌&&◌}
use mathlib.Core.List.{List, [], ◌∷◌, ◌++◌}
use Prim.Native.Nat.{ℕ, suc, ◌+◌, ◌-◌, ◌≤◌}
use native.Mathlib.Omega.{arith}
use lib.Dec.{T, eqb, ltb}
use lib.ListN.{length, drop, get_or, length-append}
use lib.Seq.{drop-drop}
use borrow.Rule.Slice.PartMut.{put_mid}
use Rattle.masks.specs.Bytes.{front}
use Rattle.model.specs.declared.Role.{Role}
use Rattle.model.specs.declared.Capability.{Capability}
use Rattle.model.specs.declared.Session.{Session}
use Rattle.model.specs.Fields.{Coding, field_map, write_all, read_all, write_present, read_present, present_length, role_codings, role_fields, write_role, role_of, read_role, session_codings, session_fields, write_session, session_of, read_session, head_codings, head_fields, capability_codings, capability_fields, write_capability, capability_of, read_head, read_capability, capability_length}
use Rattle.fields.specs.declared.coding.Coding.{Coding as Coded}
use Rattle.fields.specs.declared.layout.Layout.{Layout}
use Rattle.fields.specs.Codes.{Bytes, Fitted, codings, narrow, write_marked}
use Rattle.records.specs.Exact.{exact_capability}
use Rattle.fields.proofs.Parts.{parts_written}
use Rattle.fields.proofs.Putting.{Put}
use Rattle.fields.proofs.Codes.{write_full, read_full, write_map}
use Rattle.fields.proofs.Reading.{bytes_drop, fitted_all, fitted_present}
use Rattle.fields.proofs.Fields.{present_length_lem}
use Rattle.records.proofs.Records.{head_size, capability_small}

-- as many codings as the layout has
pub length_codings : (cs : List Coded) → length (codings cs) ≡ length cs
length_codings [] = refl
length_codings (c ∷ cs) = ap suc (length_codings cs)

-- a layout whose codings are n that are known has n, few and narrow, so that they may be read
pub says_table : {n : ℕ} {cs : List Coding} (t : Layout n) → codings t.codings ≡ cs → length cs ≡ n
    → (length t.codings ≡ n) × (length t.codings ≤ 16) × T (narrow t.codings)
says_table {n} {cs} t e en =
    let l : length t.codings ≡ n = sym (length_codings t.codings) ∙ ap length e ∙ en in
    (l, omega (arith, l, t.few), t.narrow)

-- no record has more than 16 fields
abbrev Few : List Coding → Type 0
Few cs = length cs ≤ 16

role_few : Few role_codings
unfolding role_codings
role_few = omega arith

session_few : Few session_codings
unfolding session_codings
session_few = omega arith

head_few : Few head_codings
unfolding head_codings
head_few = omega arith

-- ---- what is written

module _ {cs : List Coding} {values : List ℕ} where
  all_written : (table : List Coding) (fields : List ℕ) → Few table → cs ≡ table → values ≡ fields → write_marked 65535 cs values ≡ write_all table fields
  all_written table fields h e f = rw (e, f) (write_full 16 table fields h)

  pub role_written : (x : Role) → cs ≡ role_codings → values ≡ role_fields x → write_marked 65535 cs values ≡ write_role x
  unfolding write_role
  role_written x = all_written role_codings (role_fields x) role_few

  pub session_written : (x : Session) → cs ≡ session_codings → values ≡ session_fields x → write_marked 65535 cs values ≡ write_session x
  unfolding write_session
  session_written x = all_written session_codings (session_fields x) session_few

  pub head_written : (c : Capability) → cs ≡ head_codings → values ≡ head_fields c → write_marked 65535 cs values ≡ write_all head_codings (head_fields c)
  head_written c = all_written head_codings (head_fields c) head_few

capability_parts : (c : Capability) → write_capability c ≡ write_all head_codings (head_fields c) ++ write_present capability_codings (capability_fields c)
unfolding write_capability
capability_parts c = refl

capability_size : (c : Capability) → length (write_capability c) ≡ 5 + length (write_present capability_codings (capability_fields c))
capability_size c = ap length (capability_parts c) ∙ length-append (write_all head_codings (head_fields c)) _ ∙ rw head_size

-- the head of a capability, and then its fields
pub head_five : (c : Capability) {cs : List Coding} {values : List ℕ} → cs ≡ head_codings → values ≡ head_fields c
    → (length (write_marked 65535 cs values) ≡ 5) × (5 ≤ length (write_capability c))
head_five c e f = (ap length (head_written c e f) ∙ head_size c, omega (arith, capability_size c))

module _ (c : Capability) {cs : List Coding} {values : List ℕ} {m : ℕ} (ec : cs ≡ capability_codings) (ev : values ≡ capability_fields c) (em : m ≡ field_map values) where
  present_written : write_marked m cs values ≡ write_present capability_codings (capability_fields c)
  present_written = rw (em, ec, ev) (write_map capability_codings (capability_fields c))

  pub present_size : 5 + length (write_marked m cs values) ≡ length (write_capability c)
  present_size = omega (arith, ap length present_written, capability_size c)

  pub capability_written : (s : List ℕ) {hs : List Coding} {hv t last : List ℕ} {n k : ℕ} → hs ≡ head_codings → hv ≡ head_fields c → length (write_capability c) ≤ length s
      → (n ≡ length (write_marked 65535 hs hv)) × (t ≡ front (write_marked 65535 hs hv) s) → Put (write_marked m cs values) n t k last
      → (n + k ≡ length (write_capability c)) × (put_mid n (length t - n) t last ≡ front (write_capability c) s)
  capability_written s {hs} {hv} eh ef room h =
      let parts : write_capability c ≡ write_marked 65535 hs hv ++ write_marked m cs values = rw (head_written c eh ef, present_written) (capability_parts c) in
      parts_written _ _ s parts (sym h.0) (omega (arith, present_size, head_five c eh ef)) h.1

  -- its bytes by the map of its fields
  pub capability_counted : {n : ℕ} → n ≡ present_length m cs → (5 + n ≡ length (write_capability c)) × (5 + n ≤ 48)
  capability_counted {n} en =
      let there : n ≡ present_length (field_map (capability_fields c)) capability_codings = en ∙ rw (em, ev, ec) in
      let size : 5 + n ≡ length (write_capability c) = omega (arith, there, present_length_lem capability_codings (capability_fields c), capability_size c) in
      (size, omega (arith, size, capability_small c))

pub head_length : {cs : List Coding} → cs ≡ head_codings → present_length 65535 cs ≡ 5
unfolding head_codings
head_length e = rw e refl

-- ---- what is read

module _ (s : List ℕ) (at : ℕ) (b : Bytes s) {cs : List Coding} {f : List ℕ} (ef : f ≡ read_present 65535 cs (drop at s)) where
  all_read : (table : List Coding) → Few table → cs ≡ table → f ≡ read_all table (drop at s)
  all_read table h e = ef ∙ ap (λ (l : List Coding). read_present 65535 l (drop at s)) e ∙ read_full 16 table (drop at s) h

  all_fitted : (table : List Coding) → Few table → cs ≡ table → Fitted table f
  all_fitted table h e = rw (all_read table h e) (fitted_all table (drop at s) (bytes_drop at s b))

  pub role_fitted : cs ≡ role_codings → Fitted role_codings f
  role_fitted = all_fitted role_codings role_few

  pub role_reads : cs ≡ role_codings → role_of f ≡ read_role (drop at s)
  unfolding read_role
  role_reads e = ap role_of (all_read role_codings role_few e)

  pub session_fitted : cs ≡ session_codings → Fitted session_codings f
  session_fitted = all_fitted session_codings session_few

  pub session_reads : cs ≡ session_codings → session_of f ≡ read_session (drop at s)
  unfolding read_session
  session_reads e = ap session_of (all_read session_codings session_few e)

module _ (s : List ℕ) (at : ℕ) (b : Bytes s) {hs cs : List Coding} {h f : List ℕ} {from next : ℕ} (eh : hs ≡ head_codings) (ec : cs ≡ capability_codings)
    (rh : (h ≡ read_present 65535 hs (drop at s)) × (from ≡ at + present_length 65535 hs))
    (rf : (f ≡ read_present (get_or h 3 0) cs (drop from s)) × (next ≡ from + present_length (get_or h 3 0) cs)) where
  head_is : h ≡ read_all head_codings (drop at s)
  head_is = all_read s at b rh.0 head_codings head_few eh

  head_read : h ≡ read_head (drop at s)
  unfolding read_head
  head_read = head_is

  head_ends : from ≡ at + 5
  head_ends = omega (arith, rh.1, head_length eh)

  present_is : f ≡ read_present (get_or h 3 0) capability_codings (drop 5 (drop at s))
  present_is = rf.0 ∙ rw (ec, head_ends, drop-drop)

  pub capability_fitted : Fitted head_codings h × Fitted capability_codings f
  capability_fitted = (
    rw head_is (fitted_all head_codings (drop at s) (bytes_drop at s b)),
    rw present_is (fitted_present (get_or h 3 0) capability_codings (drop 5 (drop at s)) (bytes_drop 5 (drop at s) (bytes_drop at s b))),
  )

  capability_reads : capability_of h f ≡ read_capability (drop at s)
  unfolding read_capability
  capability_reads = rw (present_is, head_read)

  capability_ends : next ≡ at + capability_length (drop at s)
  unfolding capability_length
  capability_ends =
      let there : present_length (get_or h 3 0) cs ≡ present_length (get_or (read_head (drop at s)) 3 0) capability_codings = rw (ec, head_read) in
      omega (arith, head_ends)

  exact_reads : {g : ℕ} → g ≡ field_map f → (ltb (get_or h 0 0) 2 && eqb g (get_or h 3 0)) ≡ exact_capability (drop at s)
  exact_reads eg = rw (eg, present_is, head_read)

  pub capability_read : {g : ℕ} → g ≡ field_map f → (capability_of h f ≡ read_capability (drop at s)) × (next ≡ at + capability_length (drop at s))
      × ((ltb (get_or h 0 0) 2 && eqb g (get_or h 3 0)) ≡ exact_capability (drop at s))
  capability_read eg = (capability_reads, capability_ends, exact_reads eg)
