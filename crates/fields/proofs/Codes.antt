-- Laws of codings, of the fields that a map of fields says are there, and of each turn of a loop over fields.
use mathlib.Core.Path.{◌≡◌, refl, sym, ap, ◌∙◌}
use mathlib.Core.List.{List, [], ◌∷◌, ◌++◌}
use Prim.Native.Nat.{ℕ, zero, suc, ◌+◌, ◌-◌, ◌*◌, ◌/◌, ◌%◌, ◌^◌, ◌≤◌, ◌<◌}
use native.Mathlib.Nat.{pow-suc, one-mul, one-le-pow, not-suc-le-zero, le_of_suc-le-suc}
use native.Mathlib.Numerals.{add-one, sub-one}
use native.Mathlib.Omega.{arith}
use mathlib.Core.Bool.{Bool, true, false, not}
use lib.Dec.{T, leb, eqb, leb→le, lit<}
use lib.ListN.{length, take, drop, get_or, set, length-drop}
use lib.Pow.{pow_mono}
use borrow.Author.Tests.{ne_eqb}
use lib.Seq.{drop-cons, drop-drop}
use Rattle.masks.proofs.Truth.{and_l, and_r}
use Rattle.model.specs.Fields.{Coding as Meant, width, write_all, write_present, written, read_field, read_all, is_set, field_map, bit, write_set, read_set, read_present, present_length}
use Rattle.fields.specs.declared.coding.Coding.{Coding}
use Rattle.fields.specs.Codes.{coding_of, codings, narrow, write_bit, write_marked}
use Rattle.std.specs.Int.{from_bool}
use Rattle.fields.proofs.Parts.{fill_step}
use Rattle.fields.proofs.Fields.{map_small, bit_here, bits-after}

-- ---- one coding

pub set-written : (c : Meant) (v : ℕ) → (v ≡ 0 → ⊥) → write_set c v ≡ written c v
set-written c zero h = absurd (h refl)
set-written c (suc v) h = refl

-- ---- the codings of a layout

pub narrow_at : (cs : List Coding) (i : ℕ) (d : Coding) → T (narrow cs) → i < length cs → width (coding_of (get_or cs i d)) ≤ 8
narrow_at [] i d h l = absurd (not-suc-le-zero l)
narrow_at (c ∷ cs) zero d h l = leb→le _ _ (and_l (leb (width (coding_of c)) 8) (narrow cs) h)
narrow_at (c ∷ cs) (suc i) d h l = narrow_at cs i d (and_r (leb (width (coding_of c)) 8) (narrow cs) h) (le_of_suc-le-suc l)

module _ (cs : List Coding) (i : ℕ) (d : Coding) (h : i < length cs) where
  abbrev here : Meant
  here = coding_of (get_or cs i d)

  abbrev after : List Meant
  after = codings (drop (i + 1) cs)

  pub codings_turn : codings (drop i cs) ≡ here ∷ after
  codings_turn = ap codings (drop-cons cs i d h) ∙ rw add-one

  -- a turn of the loop that reads
  pub read_turn : (f s : List ℕ) (m at v next : ℕ) (whole : List ℕ) → i < length f → v ≡ read_set (m % 2) here (drop at s) → next ≡ m % 2 * width here
      → take i f ++ read_present m (codings (drop i cs)) (drop at s) ≡ whole
      → take (i + 1) (set f i v) ++ read_present (m / 2) after (drop (at + next) s) ≡ whole
  read_turn f s m at v next whole hf ev en e =
      let split : read_present m (codings (drop i cs)) (drop at s) ≡ v ∷ read_present (m / 2) after (drop (at + next) s) =
      rw (codings_turn, ev, en, drop-drop) in
      fill_step f i v (read_present (m / 2) after (drop (at + next) s)) hf ∙ (rw split at e)

  pub length_turn : (m : ℕ) → present_length m (codings (drop i cs)) ≡ m % 2 * width here + present_length (m / 2) after
  length_turn m = rw codings_turn

-- ---- all fields, and those that are not 0

halves : (n : ℕ) → ((2 ^ suc n - 1) % 2 ≡ 1) × ((2 ^ suc n - 1) / 2 ≡ 2 ^ n - 1)
halves n =
    let pos : 0 < 2 ^ n = one-le-pow n 2 (lit< tt) in
    (rw pow-suc (omega arith), rw pow-suc (omega arith))

pub write_full : (n : ℕ) (cs : List Meant) (vs : List ℕ) → length cs ≤ n → write_marked (2 ^ n - 1) cs vs ≡ write_all cs vs
write_full n [] vs h = refl
write_full n (c ∷ cs) [] h = refl
write_full zero (c ∷ cs) (v ∷ vs) h = absurd (not-suc-le-zero h)
write_full (suc n) (c ∷ cs) (v ∷ vs) h = rw ((halves n).0, (halves n).1) (ap (λ (l : List ℕ). written c v ++ l) (write_full n cs vs (le_of_suc-le-suc h)))

pub read_full : (n : ℕ) (cs : List Meant) (s : List ℕ) → length cs ≤ n → read_present (2 ^ n - 1) cs s ≡ read_all cs s
read_full n [] s h = refl
read_full zero (c ∷ cs) s h = absurd (not-suc-le-zero h)
read_full (suc n) (c ∷ cs) s h =
    rw ((halves n).0, (halves n).1, one-mul) (ap (λ (l : List ℕ). read_field c s ∷ l) (read_full n cs (drop (width c) s) (le_of_suc-le-suc h)))

bit_set : (c : Meant) (v : ℕ) → write_bit (is_set v) c v ≡ write_set c v
bit_set c zero = refl
bit_set c (suc v) = refl

pub write_map : (cs : List Meant) (vs : List ℕ) → write_marked (field_map vs) cs vs ≡ write_present cs vs
write_map [] vs = refl
write_map (c ∷ cs) [] = refl
write_map (c ∷ cs) (v ∷ vs) =
    rw (bit_here v (field_map vs), bits-after v (field_map vs), bit_set c v) (ap (λ (l : List ℕ). write_set c v ++ l) (write_map cs vs))

-- ---- the map

pub set_from : (v : ℕ) → from_bool (not (eqb v 0)) ≡ is_set v
set_from zero = refl
set_from (suc v) = rw (ne_eqb (suc v) 0 (λ z. omega arith)) refl

-- a field is written by its bit exactly if it is not 0
pub set_bit : (c : Meant) (v : ℕ) {b : ℕ} → b ≡ from_bool (not (eqb v 0)) → write_set c v ≡ write_bit b c v
set_bit c v e = rw (e, set_from) (sym (bit_set c v))

pub bit_from : (b : Bool) → from_bool b ≡ bit b
bit_from true = refl
bit_from false = refl

pub map-step : (f : List ℕ) (i : ℕ) → 0 < i → i ≤ length f → field_map (drop (i - 1) f) ≡ is_set (get_or f (i - 1) 0) + 2 * field_map (drop i f)
map-step f zero h hi = absurd (not-suc-le-zero h)
map-step f (suc m) h hi = rw sub-one (ap field_map (drop-cons f m 0 hi))

pub map_below : (f : List ℕ) (i : ℕ) → length f ≤ 16 → field_map (drop i f) < 65536
map_below f i h =
    let l : length (drop i f) ≤ 16 = rw length-drop (omega arith) in
    omega (arith, map_small (drop i f), pow_mono l)
