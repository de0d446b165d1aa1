-- The length of an image by its masks, its count and its capabilities.
use mathlib.Core.Path.{◌≡◌, refl, sym, ap, ◌∙◌}
use mathlib.Core.Bool.{Bool}
use mathlib.Core.List.{List, [], ◌∷◌}
use Prim.Native.Nat.{ℕ, zero, suc, ◌+◌, ◌*◌, ◌/◌, ◌%◌, ◌^◌, ◌≤◌, ◌<◌}
use native.Mathlib.Nat.{zero-mul, one-mul, mul-one, add-mul, pow-suc}
use native.Mathlib.Omega.{arith}
use lib.Arith.{lt-one}
use lib.Count.{ones, ones_step}
use lib.ListN.{length, take, drop, get_or, length-append, drop_of_length-le}
use lib.Seq.{length-take-le}
use Rattle.masks.specs.Bytes.{bytes_of}
use Rattle.masks.proofs.MaskLaws.{ones_zero}
use Rattle.model.specs.declared.Capability.{Capability}
use Rattle.model.specs.declared.Register.{Register}
use Rattle.model.specs.State.{blank_capability}
use Rattle.model.specs.Invariant.{WellFormed}
use Rattle.model.specs.Fields.{bit, write_role, write_session, write_capability}
use Rattle.model.specs.Image.{mask_where, chosen, write_chosen, write_capabilities, chosen_length, founded_roles, active_sessions, encode}
use Rattle.encoding.specs.Sections.{is_founded, is_active}
use Rattle.fields.proofs.Numbers.{length-bytes, length-map}
use Rattle.records.proofs.Records.{role_size, session_size, capabilities_small}
use Rattle.encoding.proofs.Turns.{bit_le, where_small, capabilities-step}
use Rattle.encoding.proofs.Whole.{mapped_size, counted_size, sections_size}

-- ---- items of w bytes each

module _ {A : Type 0} (write : A → List ℕ) (w : ℕ) (sizes : (a : A) → length (write a) ≡ w) where
  pub item-length : (b : ℕ) (a : A) → b < 2 → length (chosen b (write a)) ≡ b * w
  item-length zero a l = sym (zero-mul w)
  item-length (suc zero) a l = sizes a ∙ sym (one-mul w)
  item-length (suc (suc b)) a l = absurd (omega arith)

  -- the bytes of the items of a mask
  pub chosen-length : (m : ℕ) (l : List A) → chosen_length w m (length l) ≡ length (write_chosen write m l)
  chosen-length m [] = refl
  chosen-length m (a ∷ l) =
      let b : m % 2 < 2 = omega arith in
      rw length-append (omega (arith, item-length (m % 2) a b, chosen-length (m / 2) l))

  pub chosen_small : (m : ℕ) (l : List A) → length (write_chosen write m l) ≤ w * length l
  chosen_small m [] = omega arith
  chosen_small m (a ∷ l) = rw length-append (omega (arith, chosen_le (m % 2), chosen_small (m / 2) l))
    where
      chosen_le : (b : ℕ) → length (chosen b (write a)) ≤ w
      chosen_le zero = omega arith
      chosen_le (suc b) = omega (arith, sizes a)

-- by how many there are
chosen_ones : (w k m : ℕ) → m < 2 ^ k → chosen_length w m k ≡ ones m * w
chosen_ones w zero m h = sym (ap (λ (x : ℕ). x * w) (ap ones (lt-one h) ∙ ones_zero) ∙ zero-mul w)
chosen_ones w (suc k) m h =
    let half : m / 2 < 2 ^ k = omega (arith, rw pow-suc at h) in
    ap (λ (x : ℕ). m % 2 * w + x) (chosen_ones w k (m / 2) half) ∙ sym (ap (λ (x : ℕ). x * w) (ones_step m) ∙ add-mul (m % 2) (ones (m / 2)) w)

chosen_counted : {A : Type 0} (write : A → List ℕ) (w : ℕ) → ((a : A) → length (write a) ≡ w) → (k : ℕ) (l : List A) → length l ≡ k
    → {m n : ℕ} → m < 2 ^ k → n ≡ ones m → n * w ≡ length (write_chosen write m l)
chosen_counted write w sizes k l ek {m} {n} h en =
    ap (λ (x : ℕ). x * w) en ∙ sym (chosen_ones w k m h) ∙ ap (chosen_length w m) (sym ek) ∙ chosen-length write w sizes m l

-- ---- an image

size_sum : {a b d e : ℕ} (u f c s : ℕ) → a ≡ 8 + u → b ≡ 4 + f → d ≡ 2 + c → e ≡ 8 + s → 4 + (a + (b + (d + e))) ≡ 26 + u + f + c + s
size_sum u f c s ea eb ed ee = omega arith

module _ (r : Register) where
  -- the length by the bytes of the users, roles, capabilities and sessions
  pub image_sum : {u f c s : ℕ} → u ≡ length (write_chosen (bytes_of 1) r.enrolled r.domains) → f ≡ length (write_chosen write_role (founded_roles r.roles) r.roles)
      → c ≡ length (write_capabilities (take r.count r.capabilities)) → s ≡ length (write_chosen write_session (active_sessions r.sessions) r.sessions)
      → 26 + u + f + c + s ≡ length (encode r)
  unfolding founded_roles active_sessions
  image_sum {u} {f} {c} {s} eu ef ec es =
      sym (sections_size r ∙ size_sum u f c s (mapped_size 8 (bytes_of 1) r.enrolled r.domains ∙ ap (λ (x : ℕ). 8 + x) (sym eu)) (mapped_size 4 write_role (founded_roles r.roles) r.roles ∙ ap (λ (x : ℕ). 4 + x) (sym ef))
      (counted_size r.count r.capabilities ∙ ap (λ (x : ℕ). 2 + x) (sym ec)) (mapped_size 8 write_session (active_sessions r.sessions) r.sessions ∙ ap (λ (x : ℕ). 8 + x) (sym es)))

  -- the same by the masks
  pub image_size : (u f c s : ℕ) → length r.domains ≡ 64 → length r.roles ≡ 32 → length r.sessions ≡ 64
      → u ≡ chosen_length 1 r.enrolled 64 → f ≡ chosen_length 20 (founded_roles r.roles) 32
      → c ≡ length (write_capabilities (take r.count r.capabilities)) → s ≡ chosen_length 6 (active_sessions r.sessions) 64
      → 26 + u + f + c + s ≡ length (encode r)
  image_size u f c s ld lr ls eu ef ec es =
      image_sum
      (eu ∙ ap (chosen_length 1 r.enrolled) (sym ld) ∙ chosen-length (bytes_of 1) 1 (length-bytes 1) r.enrolled r.domains)
      (ef ∙ ap (chosen_length 20 (founded_roles r.roles)) (sym lr) ∙ chosen-length write_role 20 role_size (founded_roles r.roles) r.roles)
      ec
      (es ∙ ap (chosen_length 6 (active_sessions r.sessions)) (sym ls) ∙ chosen-length write_session 6 session_size (active_sessions r.sessions) r.sessions)

-- ---- the mask of the items that pass a test

pub bit_here : (b : Bool) (m : ℕ) → (bit b + 2 * m) % 2 ≡ bit b
bit_here b m = omega (arith, bit_le b)

pub bits-after : (b : Bool) (m : ℕ) → (bit b + 2 * m) / 2 ≡ m
bits-after b m = omega (arith, bit_le b)

where_counted : {A : Type 0} (write : A → List ℕ) (w : ℕ) → ((a : A) → length (write a) ≡ w) → (test : A → Bool) (k : ℕ) (l : List A) → length l ≡ k
    → {n : ℕ} → n ≡ ones (mask_where test l) → n * w ≡ length (write_chosen write (mask_where test l) l)
where_counted write w sizes test k l ek en = chosen_counted write w sizes k l ek (rw (← ek) (where_small test l)) en

-- ---- the loop over the capabilities of a register that keeps the rules

-- the most that so many capabilities can come to
pub image_most : (r : Register) → WellFormed r → length (encode r) ≤ 1114 + 48 * r.count
unfolding encode
image_most r h =
    let u : length (write_chosen (bytes_of 1) r.enrolled r.domains) ≤ 1 * length r.domains = chosen_small (bytes_of 1) 1 (length-bytes 1) r.enrolled r.domains in
    let x : length (write_chosen write_role (founded_roles r.roles) r.roles) ≤ 20 * length r.roles = chosen_small write_role 20 role_size (founded_roles r.roles) r.roles in
    let c : length (write_capabilities (take r.count r.capabilities)) ≤ 48 * length (take r.count r.capabilities) = capabilities_small (take r.count r.capabilities) in
    let s : length (write_chosen write_session (active_sessions r.sessions) r.sessions) ≤ 6 * length r.sessions = chosen_small write_session 6 session_size (active_sessions r.sessions) r.sessions in
    let amount : length (take r.count r.capabilities) ≡ r.count = length-take-le r.count r.capabilities (omega (arith, h.count, h.capability_places)) in
    simp (length-append, length-map) (omega (arith, amount, h.user_places, h.role_places, h.session_places))

pub image_small : (r : Register) → WellFormed r → length (encode r) ≤ 13402
image_small r h = omega (arith, image_most r h, h.count)

-- all but the capabilities from number i on, of those up to the count, has n bytes
pub record LengthTo (r : Register) (cs : List Capability) (n i : ℕ) : Type 0 where
  pub formed : WellFormed r
  pub rest : n + length (write_capabilities (drop i cs)) ≡ length (encode r)

pub length_start : {r : Register} → WellFormed r → {u f s k : ℕ} → u ≡ ones r.enrolled → f ≡ ones (mask_where is_founded r.roles)
    → s ≡ ones (mask_where is_active r.sessions) → k ≡ r.count → LengthTo r (take k r.capabilities) (26 + u + f * 20 + s * 6) 0
unfolding founded_roles active_sessions
length_start {r} h {u} {f} {s} {k} eu ef es ek =
    let users : u ≡ length (write_chosen (bytes_of 1) r.enrolled r.domains) = sym (mul-one u) ∙ chosen_counted (bytes_of 1) 1 (length-bytes 1) 64 r.domains h.user_places h.enrolled eu in
    let roles = where_counted write_role 20 role_size is_founded 32 r.roles h.role_places ef in
    let sessions = where_counted write_session 6 session_size is_active 64 r.sessions h.session_places es in
    record { formed = h; rest = rw ek (omega (arith, image_sum r users roles refl sessions)) }

module _ {r : Register} {cs : List Capability} {n i : ℕ} (f : LengthTo r cs n i) where
  pub length-step : i < length cs → {m : ℕ} → m ≡ length (write_capability (get_or cs i blank_capability)) → LengthTo r cs (n + m) (i + 1)
  length-step h e =
      let c : List ℕ = write_capability (get_or cs i blank_capability) in
      let split = ap length (capabilities-step cs i h) ∙ length-append c (write_capabilities (drop (i + 1) cs)) in
      record { formed = f.formed; rest = omega (arith, split, f.rest, e) }

  pub length_fits : n ≤ 13402
  length_fits = omega (arith, f.rest, image_small r f.formed)

  pub length_done : length cs ≤ i → n ≡ length (encode r)
  length_done h = omega (arith, f.rest, ap (λ (l : List Capability). length (write_capabilities l)) (drop_of_length-le cs h))
