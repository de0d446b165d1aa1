-- A section that a mask drives: the items of the mask one after another. They are read again as they were, and what the mask
-- lacks is blank.
use mathlib.Core.Path.{◌≡◌, refl, sym, ap, ◌∙◌}
use mathlib.Core.Bool.{Bool, true, false, not}
use mathlib.Core.List.{List, [], ◌∷◌, ◌++◌, append_assoc}
use Prim.Native.Nat.{ℕ, zero, suc, ◌*◌, ◌/◌, ◌%◌, ◌^◌, ◌<◌}
use native.Mathlib.Nat.{div-div-eq-div-mul, pow-succ', div-one, not-suc-le-zero, le_of_suc-le-suc}
use native.Mathlib.Omega.{arith}
use lib.Dec.{T, eqb}
use lib.ListN.{length, drop, get_or}
use lib.Seq.{drop_at, drop-drop}
use Rattle.masks.specs.Masks.{has}
use Rattle.masks.specs.Bytes.{map_bytes}
use Rattle.model.specs.Fields.{bit}
use Rattle.model.specs.Image.{mask_where, chosen, write_chosen, item_or, read_chosen, chosen_length, map_at, after_chosen}
use Rattle.fields.proofs.Numbers.{length-map, map_back}
use Rattle.records.proofs.Records.{Good}
use Rattle.encoding.proofs.Lengths.{bit_here, bits-after, item-length, chosen-length}

-- ---- the bits of a mask from the lowest on

has-next : (m k : ℕ) → has (m / 2) k ≡ has m (suc k)
unfolding has
has-next m k = ap (λ (x : ℕ). eqb (x % 2) 1) (div-div-eq-div-mul m 2 (2 ^ k)) ∙ rw pow-succ'

has_first : (m : ℕ) → has m 0 ≡ eqb (m % 2) 1
unfolding has
has_first m = ap (λ (x : ℕ). eqb (x % 2) 1) (div-one m)

-- ---- the mask of the items that pass

bit_test : (b : Bool) → eqb (bit b) 1 ≡ b
bit_test true = refl
bit_test false = refl

pub has_where : {A : Type 0} (p : A → Bool) (l : List A) (d : A) (k : ℕ) → k < length l → has (mask_where p l) k ≡ p (get_or l k d)
has_where p [] d k h = absurd (not-suc-le-zero h)
has_where p (a ∷ l) d zero h =
    has_first (mask_where p (a ∷ l)) ∙ ap (λ (x : ℕ). eqb x 1) (bit_here (p a) (mask_where p l)) ∙ bit_test (p a)
has_where p (a ∷ l) d (suc k) h =
    sym (has-next (mask_where p (a ∷ l)) k) ∙ ap (λ (x : ℕ). has x k) (bits-after (p a) (mask_where p l)) ∙ has_where p l d k (le_of_suc-le-suc h)

-- ---- items of w bytes each

too_large : (n : ℕ) → suc (suc n) < 2 → ⊥
too_large n h = omega arith

module _ {A : Type 0} (blank : A) (write : A → List ℕ) (read : List ℕ → A) where
  -- an item by its bit
  abbrev Item : ℕ → A → Type 0
  Item zero a = a ≡ blank
  Item (suc b) a = Good write read a

  abbrev pub Kept : ℕ → List A → Type 0
  Kept m [] = Unit {0}
  Kept m (a ∷ l) = Item (m % 2) a × Kept (m / 2) l

  by_bit : (b : ℕ) (a : A) → (T (eqb b 1) → Good write read a) → (T (not (eqb b 1)) → a ≡ blank) → b < 2 → Item b a
  by_bit zero a f g l = g tt
  by_bit (suc zero) a f g l = f tt
  by_bit (suc (suc b)) a f g l = absurd (too_large b l)

  pub kept : (m : ℕ) (l : List A) (d : A) → ((k : ℕ) → k < length l → T (has m k) → Good write read (get_or l k d))
      → ((k : ℕ) → k < length l → T (not (has m k)) → get_or l k d ≡ blank) → Kept m l
  kept m [] d f g = tt
  kept m (a ∷ l) d f g = (
    by_bit (m % 2) a (λ t. f 0 (omega arith) (rw has_first t)) (λ t. g 0 (omega arith) (rw has_first t)) (omega arith),
    kept (m / 2) l d (λ k h t. f (suc k) (omega arith) (rw has-next at t)) (λ k h t. g (suc k) (omega arith) (rw has-next at t)),
  )

  item_back : (b : ℕ) (a : A) (rest : List ℕ) → Item b a → item_or blank read b (chosen b (write a) ++ rest) ≡ a
  item_back zero a rest h = sym h
  item_back (suc b) a rest h = h rest

  module _ (w : ℕ) (sizes : (a : A) → length (write a) ≡ w) where
    chosen_back : (m : ℕ) (l : List A) (rest : List ℕ) → Kept m l
        → read_chosen blank read w m (length l) (write_chosen write m l ++ rest) ≡ l
    chosen_back m [] rest h = refl
    chosen_back m (a ∷ l) rest h =
        let more : List ℕ = write_chosen write (m / 2) l ++ rest in
        let b : m % 2 < 2 = omega arith in
        rw (append_assoc (chosen (m % 2) (write a)) (write_chosen write (m / 2) l) rest, item_back (m % 2) a more h.0, drop_at (chosen (m % 2) (write a)) more (m % 2 * w) (item-length write w sizes (m % 2) a b))
        (ap (λ (t : List A). a ∷ t) (chosen_back (m / 2) l rest h.1))

    -- the map of a section, the section, and what follows it
    pub record Section (v k m : ℕ) (l : List A) (rest s : List ℕ) : Type 0 where
      pub mask : map_at v s ≡ m
      pub items : read_chosen blank read w (map_at v s) k (drop v s) ≡ l
      pub after : after_chosen v w k s ≡ rest

    pub section_back : (v k m : ℕ) (l : List A) (rest s : List ℕ) → s ≡ map_bytes v m ++ (write_chosen write m l ++ rest)
        → length l ≡ k → m < 256 ^ v → Kept m l → Section v k m l rest s
    section_back v k m l rest s es ek small h =
        let body : List ℕ = write_chosen write m l ++ rest in
        let em : map_at v s ≡ m = ap (map_at v) es ∙ map_back v m body small in
        let ed : drop v s ≡ body = ap (drop v) es ∙ drop_at (map_bytes v m) body v (length-map v m) in
        let el : chosen_length w (map_at v s) k ≡ length (write_chosen write m l) = rw (em, ← ek) (chosen-length write w sizes m l) in
        record {
          mask = em;
          items = rw (em, ed, ← ek) (chosen_back m l rest h);
          after = sym (drop-drop (chosen_length w (map_at v s) k) v s) ∙ rw (ed) (drop_at (write_chosen write m l) rest (chosen_length w (map_at v s) k) (sym el));
        }
