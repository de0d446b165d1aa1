-- Laws of parts: `split` by the first part and what follows it, lent parts, and comparing.
use mathlib.Core.Path.{◌≡◌, refl, sym, ap, ap₂, ◌∙◌}
use mathlib.Core.List.{List, [], ◌∷◌}
use Prim.Native.Nat.{ℕ, suc, ◌+◌, ◌-◌, ◌≤◌, ◌<◌}
use native.Mathlib.Nat.{suc-ne-zero}
use native.Mathlib.Numerals.{add-one}
use native.Mathlib.Omega.{arith}
use lib.Dec.{eqb}
use lib.ListN.{length, take, drop, length-drop, drop_of_length-le}
use lib.Seq.{drop-cons, drop-drop, take_all}
use Rattle.std.specs.List.{position_or_len}
use Rattle.std.proofs.lemmas.List.Recursion.{is_position_or_len}
use Rattle.masks.specs.Bytes.{split}
use Rattle.text.specs.Parts.{before, after}

-- ---- before

-- how many stand before b is where std finds it
pub length_before-position : (b : ℕ) (s : List ℕ) → length (before b s) ≡ position_or_len (λ x. eqb x b) s
length_before-position b s = is_position_or_len (λ l. length (before b l)) (λ x. eqb x b) refl (λ x xs. grind arith) s

-- a list's first bytes, as many as stand before b
pub take-before : (b : ℕ) (s : List ℕ) → take (length (before b s)) s ≡ before b s
take-before b [] = refl
take-before b (x ∷ s) = grind (arith, take-before b s)

pub length_before : (b : ℕ) (s : List ℕ) → length (before b s) ≤ length s
length_before b [] = omega arith
length_before b (x ∷ s) = grind (arith, length_before b s)

-- ---- split: the first part, and the parts that follow it

pub split-before : (b : ℕ) (s : List ℕ) → split b s ≡ before b s ∷ after b (drop (length (before b s)) s)
split-before b [] = refl
split-before b (x ∷ s) = grind (arith, split-before b s)

-- the same, as a slice is cut
pub cut_split : (b : ℕ) (s : List ℕ) → split b s ≡ take (length (before b s)) s ∷ after b (drop (length (before b s)) s)
cut_split b s = rw take-before (split-before b s)

-- an empty rest has no word, and one that is not empty has one
pub after_empty : (b : ℕ) (s : List ℕ) → length s ≡ 0 → after b s ≡ []
after_empty b [] h = refl
after_empty b (x ∷ s) h = absurd (suc-ne-zero _ h)

pub after_word : (b : ℕ) (s : List ℕ) → (length s ≡ 0 → ⊥) → after b s ≡ before b (drop 1 s) ∷ after b (drop (length (before b (drop 1 s))) (drop 1 s))
after_word b [] h = absurd (h refl)
after_word b (x ∷ s) h = split-before b s

-- a separator follows the first part
pub after_more : (b : ℕ) (s : List ℕ) (n : ℕ) → n < length s → after b (drop n s) ≡ split b (drop (suc n) s)
after_more b s n h = ap (after b) (drop-cons s n 0 h)

-- nothing follows it
pub after_end : (b : ℕ) (s : List ℕ) (n : ℕ) → length s ≤ n → after b (drop n s) ≡ []
after_end b s n h = ap (after b) (drop_of_length-le s h)

-- the parts from `at` on, n being where the next separator is: one that ends with it, and those after it
pub split-line : (b : ℕ) (s : List ℕ) (at n : ℕ) → n ≡ length (before b (drop at s)) → at + n < length s
    → split b (drop at s) ≡ take (at + n - at) (drop at s) ∷ split b (drop (at + n + 1) s)
split-line b s at n e h =
    let k : at + n - at ≡ length (before b (drop at s)) = omega arith in
    let d : after b (drop n (drop at s)) ≡ split b (drop (at + n + 1) s) = rw (drop-drop, add-one) (after_more b s (at + n) h) in
    split-before b (drop at s) ∙ rw (k, take-before b (drop at s), ← e) (ap (λ (l : List (List ℕ)). before b (drop at s) ∷ l) d)

-- the last part, which none ends
pub split_last : (b : ℕ) (s : List ℕ) (at n : ℕ) → n ≡ length (before b (drop at s)) → at + n ≡ length s → split b (drop at s) ≡ drop at s ∷ []
split_last b s at n e h =
    let l : List ℕ = drop at s in
    let long : length l ≤ n = rw length-drop (omega arith) in
    let whole : before b l ≡ l = sym (take-before b l) ∙ ap (λ (k : ℕ). take k l) (sym e) ∙ take_all n l long in
    let rest : after b (drop (length (before b l)) l) ≡ [] = ap (λ (k : ℕ). after b (drop k l)) (sym e) ∙ after_end b l n long in
    split-before b l ∙ ap₂ (λ (w : List ℕ) (ws : List (List ℕ)). w ∷ ws) whole rest
