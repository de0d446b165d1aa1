-- The items of a mask read one after another: a law for each turn of the loop.
use mathlib.Core.Path.{◌≡◌, sym, ap, ◌∙◌}
use mathlib.Core.Bool.{Bool, true, ◌&&◌, and_assoc}
use mathlib.Core.List.{List, ◌++◌}
use Prim.Native.Nat.{ℕ, suc, ◌+◌, ◌-◌, ◌*◌, ◌/◌, ◌%◌, ◌≤◌, ◌<◌}
use native.Mathlib.Nat.{sub-zero}
use native.Mathlib.Omega.{arith}
use lib.ListN.{length, take, drop, set, length-set}
use lib.Seq.{drop-drop}
use Rattle.model.specs.Image.{item_or, read_chosen, chosen_length}
use Rattle.records.specs.Exact.{exact_session}
use Rattle.decoding.specs.Exact.{exact_sessions}
use Rattle.fields.proofs.Parts.{fill_step, fill_done}

-- a turn of the loop that reads k items of w bytes
chosen_turn : {A : Type 0} (blank : A) (read : List ℕ → A) (w k i at m : ℕ) (v : A) (next : ℕ) (s : List ℕ) (f whole : List A) → i < k → i < length f
    → v ≡ item_or blank read (m % 2) (drop at s) → next ≡ m % 2 * w
    → take i f ++ read_chosen blank read w m (k - i) (drop at s) ≡ whole
    → take (i + 1) (set f i v) ++ read_chosen blank read w (m / 2) (k - (i + 1)) (drop (at + next) s) ≡ whole
chosen_turn blank read w k i at m v next s f whole hk hf ev en h =
    let n : k - i ≡ suc (k - (i + 1)) = omega arith in
    fill_step f i v (read_chosen blank read w (m / 2) (k - (i + 1)) (drop (at + next) s)) hf ∙ rw (ev, en, ← drop-drop) (rw n at h)

-- the loop that reads k items of w bytes by a mask, of which i are read
module _ {A : Type 0} (blank : A) (read : List ℕ → A) (w k : ℕ) where
  pub record ChosenTo (s : List ℕ) (from mask : ℕ) (rows : List A) (at m i : ℕ) : Type 0 where
    pub filled : take i rows ++ read_chosen blank read w m (k - i) (drop at s) ≡ read_chosen blank read w mask k (drop from s)
    pub reach : at + chosen_length w m (k - i) ≡ from + chosen_length w mask k
    pub near : at ≤ from + 20 * i
    pub places : length rows ≡ k

  pub chosen_start : (s : List ℕ) (from mask : ℕ) (rows : List A) → length rows ≡ k → ChosenTo s from mask rows from mask 0
  chosen_start s from mask rows l = record { filled = rw sub-zero; reach = rw sub-zero; near = omega arith; places = l }

  module _ {s : List ℕ} {from mask : ℕ} {rows : List A} {at m i : ℕ} (l : ChosenTo s from mask rows at m i) where
    pub chosen_more : i < k → w ≤ 20 → (v : A) (n : ℕ) → v ≡ item_or blank read (m % 2) (drop at s) → (n ≡ m % 2 * w) × (n ≤ w)
        → ChosenTo s from mask (set rows i v) (at + n) (m / 2) (i + 1)
    chosen_more h small v n ev en =
        let e : k - i ≡ suc (k - (i + 1)) = omega arith in
        let u : chosen_length w m (k - i) ≡ m % 2 * w + chosen_length w (m / 2) (k - (i + 1)) = ap (chosen_length w m) e in
        record {
          filled = chosen_turn blank read w k i at m v n s rows _ h (omega (arith, l.places)) ev en.0 l.filled;
          reach = omega (arith, l.reach, u, en.0);
          near = omega (arith, l.near, en.1);
          places = simp length-set l.places;
        }

    pub chosen_all : k ≤ i → (rows ≡ read_chosen blank read w mask k (drop from s)) × (at ≡ from + chosen_length w mask k)
    chosen_all h =
        let e : k - i ≡ 0 = omega arith in
        (sym (fill_done rows i (omega (arith, l.places))) ∙ (rw e at l.filled), omega (arith, rw e at l.reach))

-- a turn of the loop that tests sessions
pub sessions_turn : (i at m : ℕ) (s : List ℕ) (exact here : Bool) (next : ℕ) (whole : Bool) → i < 64
    → here ≡ item_or true exact_session (m % 2) (drop at s) → next ≡ m % 2 * 6
    → (exact && exact_sessions m (64 - i) (drop at s)) ≡ whole
    → ((exact && here) && exact_sessions (m / 2) (64 - (i + 1)) (drop (at + next) s)) ≡ whole
sessions_turn i at m s exact here next whole h eh en e =
    let n : 64 - i ≡ suc (64 - (i + 1)) = omega arith in
    and_assoc exact here (exact_sessions (m / 2) (64 - (i + 1)) (drop (at + next) s)) ∙ rw (eh, en, ← drop-drop) (rw n at e)
