-- The number in some of 8 bytes that were read at once.
use mathlib.Core.Path.{◌≡◌, refl, sym, ap, ◌∙◌}
use mathlib.Core.List.{List, [], ◌∷◌, ◌++◌}
use Prim.Native.Nat.{ℕ, zero, suc, ◌+◌, ◌-◌, ◌*◌, ◌/◌, ◌%◌, ◌^◌, ◌≤◌, ◌<◌, min}
use native.Mathlib.Nat.{pow-succ', mul_assoc, add-zero, pow-le-pow_right, sub-add-min_cancel, not-suc-le-zero, le_of_suc-le-suc}
use native.Mathlib.Omega.{arith}
use lib.ListN.{length, take, drop, length-drop, drop_of_length-le}
use lib.Seq.{take_all}
use lib.Dec.{lit<}
use Rattle.std.proofs.lemmas.List.{take_min}
use Rattle.masks.specs.Bytes.{number_from, number_of, mask_of, first_bytes}
use Rattle.fields.specs.Codes.{Bytes}
use Rattle.fields.proofs.Numbers.{pow_256}
use Rattle.fields.proofs.Parts.{part_there}
use Rattle.fields.proofs.Reading.{bytes_drop, bytes_first, length_first, number_small}
use Rattle.fields.proofs.ExactFields.{first_join, from_high}

from_append : (xs ys : List ℕ) (a : ℕ) → number_from a (xs ++ ys) ≡ number_from (number_from a xs) ys
from_append [] ys a = refl
from_append (x ∷ xs) ys a = from_append xs ys (a * 256 + x)

-- the number in the first of more bytes
number_first : (k m : ℕ) (t : List ℕ) → Bytes t → number_of (first_bytes (k + m) t) / 256 ^ m ≡ number_of (first_bytes k t)
number_first k m t h =
    let ys : List ℕ = first_bytes m (drop k t) in
    ap (λ (l : List ℕ). number_of l / 256 ^ m) (sym (first_join k m t))
    ∙ ap (λ (n : ℕ). n / 256 ^ m) (from_append (first_bytes k t) ys 0)
    ∙ ap (λ (j : ℕ). number_from (number_of (first_bytes k t)) ys / 256 ^ j) (sym (length_first m (drop k t)))
    ∙ from_high ys (number_of (first_bytes k t)) (bytes_first m (drop k t) (bytes_drop k t h))

pub number_window : (s : List ℕ) (at k : ℕ) → Bytes s → k ≤ 8 → at + 8 ≤ length s
    → number_of (take (at + 8 - at) (drop at s)) / 2 ^ (64 - 8 * k) ≡ number_of (first_bytes k (drop at s))
number_window s at k b hk h =
    let e : k + (8 - k) ≡ 8 = omega arith in
    let p : 8 * (8 - k) ≡ 64 - 8 * k = omega arith in
    ap (λ (l : List ℕ). number_of l / 2 ^ (64 - 8 * k)) (part_there s at 8 h)
    ∙ ap (λ (j : ℕ). number_of (first_bytes 8 (drop at s)) / 2 ^ j) (sym p)
    ∙ ap (λ (q : ℕ). number_of (first_bytes 8 (drop at s)) / q) (sym (pow_256 (8 - k)))
    ∙ ap (λ (j : ℕ). number_of (first_bytes j (drop at s)) / 256 ^ (8 - k)) (sym e)
    ∙ number_first k (8 - k) (drop at s) (bytes_drop at s b)

-- ---- where fewer bytes are there

from_zeros : (k a : ℕ) → number_from a (first_bytes k []) ≡ a * 256 ^ k
from_zeros zero a = omega arith
from_zeros (suc k) a = from_zeros k (a * 256 + 0) ∙ rw (add-zero, pow-succ', ← mul_assoc) refl

from_cut : (k : ℕ) (s : List ℕ) (a : ℕ) → number_from a (take k s) * 256 ^ (k - length s) ≡ number_from a (first_bytes k s)
from_cut zero s a = let e : 0 - length s ≡ 0 = omega arith in rw e (omega arith)
from_cut (suc k) [] a = let e : suc k - 0 ≡ suc k = omega arith in rw e (sym (from_zeros (suc k) a))
from_cut (suc k) (x ∷ s) a = let e : suc k - suc (length s) ≡ k - length s = omega arith in rw e (from_cut k s (a * 256 + x))

-- the number of those that are there, shifted by the others
pub number_cut : (s : List ℕ) (k n : ℕ) → Bytes s → k ≤ 8 → n ≡ min k (length s)
    → number_of (take n s) * 2 ^ (8 * (k - n)) % 2 ^ 64 ≡ number_of (first_bytes k s)
number_cut s k n b h e =
    let left : 8 * (k - n) ≡ 8 * (k - length s) = omega (arith, sub-add-min_cancel k (length s)) in
    let whole : number_of (take n s) * 2 ^ (8 * (k - n)) ≡ number_of (first_bytes k s) =
    rw (left, ← pow_256, e, take_min) (from_cut k s 0) in
    let most : 256 ^ k ≤ 256 ^ 8 = pow-le-pow_right (lit< tt) h in
    let small : number_of (first_bytes k s) < 2 ^ 64 = omega (arith, number_small k s b) in
    omega (arith, whole, small)

-- the others of a mask are its high bytes
mask_first : (s : List ℕ) (k : ℕ) → length s ≤ k → mask_of s ≡ mask_of (first_bytes k s)
mask_first [] zero h = refl
mask_first [] (suc k) h = ap (λ (n : ℕ). n * 256 + 0) (mask_first [] k (omega arith))
mask_first (x ∷ s) zero h = absurd (not-suc-le-zero h)
mask_first (x ∷ s) (suc k) h = ap (λ (n : ℕ). n * 256 + x) (mask_first s k (le_of_suc-le-suc h))

pub mask_cut : (s : List ℕ) (at k : ℕ) → length s < at + k → mask_of (take (length s - at) (drop at s)) ≡ mask_of (first_bytes k (drop at s))
mask_cut s at k h =
    let all : take (length s - at) (drop at s) ≡ drop at s = take_all (length s - at) (drop at s) (rw length-drop (omega arith)) in
    rw all (mask_first (drop at s) k (rw length-drop (omega arith)))

-- none of them are there
pub number_none : (s : List ℕ) (at k : ℕ) → length s ≤ at → 0 ≡ number_of (first_bytes k (drop at s))
number_none s at k h = rw (drop_of_length-le s h) (let z : 0 ≡ 0 * 256 ^ k = omega arith in z ∙ sym (from_zeros k 0))

pub mask_none : (s : List ℕ) (at k : ℕ) → length s ≤ at → 0 ≡ mask_of (first_bytes k (drop at s))
mask_none s at k h = rw (drop_of_length-le s h) (mask_first [] k (omega arith))
