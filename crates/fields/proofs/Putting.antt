-- Loops that write items one after another: one law for what such a loop owes, over the function that writes one item.
use mathlib.Core.Path.{◌≡◌}
use mathlib.Core.List.{List, ◌∷◌, ◌++◌}
use Prim.Native.Nat.{ℕ, ◌+◌, ◌-◌, ◌/◌, ◌%◌, ◌≤◌, ◌<◌}
use native.Mathlib.Numerals.{add-one}
use native.Mathlib.Omega.{arith}
use lib.ListN.{length, take, drop, get_or}
use lib.Seq.{drop-cons}
use borrow.Rule.Slice.PartMut.{put_mid}
use Rattle.masks.specs.Bytes.{front}
use Rattle.model.specs.Fields.{Coding as Meant}
use Rattle.fields.specs.declared.coding.Coding.{Coding}
use Rattle.fields.specs.Codes.{coding_of, codings, write_bit, write_marked}
use Rattle.fields.proofs.Codes.{codings_turn}
use Rattle.fields.proofs.Writing.{Writing, writing_fits, writing_within, writing_step}

-- the n bytes xs are written at the front of the part from `at` on, which is `last` after it
abbrev pub Put : (xs : List ℕ) (at : ℕ) (s : List ℕ) (n : ℕ) (last : List ℕ) → Type 0
Put xs at s n last = (n ≡ length xs) × (last ≡ front xs (take (length s - at) (drop at s)))

-- a turn: xs fits the part and ends within the buffer, and then ys is left to write
pub record Turn (whole xs ys : List ℕ) (at : ℕ) (s s₀ : List ℕ) : Type 0 where
  pub fits : length xs ≤ length (take (length s - at) (drop at s))
  pub within : {n : ℕ} → n ≡ length xs → at + n ≤ length s₀
  pub step : {n : ℕ} {last : List ℕ} → Put xs at s n last → length (put_mid at (length s - at) s last) ≡ length s
      → Writing whole ys (at + n) (put_mid at (length s - at) s last) s₀

pub turn : (whole rest xs ys : List ℕ) (at : ℕ) (s s₀ : List ℕ) → Writing whole rest at s s₀ → length whole ≤ length s₀ → rest ≡ xs ++ ys → Turn whole xs ys at s s₀
turn whole rest xs ys at s s₀ w room e =
    record {
      fits = writing_fits whole rest xs ys at s s₀ w e room;
      within = λ en. omega (arith, writing_within whole rest xs ys at s s₀ w e room);
      step = λ {n} {last} p same. writing_step whole rest xs ys at s s₀ w e room last n p.0 p.1 same;
    }

-- ---- fields

-- the first i fields are written, and `bits` are the bits of the map for the others
pub record FieldsTo (map : ℕ) (cs : List Coding) (values s₀ s : List ℕ) (bits at i : ℕ) : Type 0 where
  pub amount : length cs ≡ length values
  pub room : length (write_marked map (codings cs) values) ≤ length s₀
  pub writing : Writing (write_marked map (codings cs) values) (write_marked bits (codings (drop i cs)) (drop i values)) at s s₀

module _ {map : ℕ} {cs : List Coding} {values s₀ s : List ℕ} {bits at i : ℕ} (f : FieldsTo map cs values s₀ s bits at i) where
  module _ (d : Coding) (h : i < length cs) where
    abbrev field : List ℕ
    field = write_bit (bits % 2) (coding_of (get_or cs i d)) (get_or values i 0)

    pub fields_turn : Turn (write_marked map (codings cs) values) field (write_marked (bits / 2) (codings (drop (i + 1) cs)) (drop (i + 1) values)) at s s₀
    fields_turn =
        let hv : i < length values = omega (arith, f.amount) in
        turn _ (write_marked bits (codings (drop i cs)) (drop i values)) _ _ at s s₀ f.writing f.room
        (rw (codings_turn cs i d h, add-one, drop-cons values i 0))

    pub fields_step : {n : ℕ} {last : List ℕ} → Put field at s n last → length (put_mid at (length s - at) s last) ≡ length s
        → FieldsTo map cs values s₀ (put_mid at (length s - at) s last) (bits / 2) (at + n) (i + 1)
    fields_step p same = record { amount = f.amount; room = f.room; writing = fields_turn.step p same }

-- ---- all fields, or those that are not 0: `write` writes them from a list of codings and one of values

pub record ListTo (write : List Meant → List ℕ → List ℕ) (cs : List Coding) (values s₀ s : List ℕ) (at i : ℕ) : Type 0 where
  pub amount : length cs ≡ length values
  pub room : length (write (codings cs) values) ≤ length s₀
  pub writing : Writing (write (codings cs) values) (write (codings (drop i cs)) (drop i values)) at s s₀

module _ {write : List Meant → List ℕ → List ℕ} {cs : List Coding} {values s₀ s : List ℕ} {at i : ℕ} (f : ListTo write cs values s₀ s at i) where
  module _ (d : Coding) (h : i < length cs) (xs : List ℕ)
      (e : write (coding_of (get_or cs i d) ∷ codings (drop (i + 1) cs)) (get_or values i 0 ∷ drop (i + 1) values) ≡ xs ++ write (codings (drop (i + 1) cs)) (drop (i + 1) values)) where
    pub list_turn : Turn (write (codings cs) values) xs (write (codings (drop (i + 1) cs)) (drop (i + 1) values)) at s s₀
    list_turn =
        let hv : i < length values = omega (arith, f.amount) in
        turn _ (write (codings (drop i cs)) (drop i values)) _ _ at s s₀ f.writing f.room
        (rw (codings_turn cs i d h, add-one, drop-cons values i 0 hv) (rw add-one at e))

    pub list_step : {n : ℕ} {last : List ℕ} → Put xs at s n last → length (put_mid at (length s - at) s last) ≡ length s
        → ListTo write cs values s₀ (put_mid at (length s - at) s last) (at + n) (i + 1)
    list_step p same = record { amount = f.amount; room = f.room; writing = list_turn.step p same }
