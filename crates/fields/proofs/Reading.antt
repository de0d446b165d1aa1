-- What is read from bytes is in its range.
use mathlib.Core.Path.{◌≡◌, refl, ap}
use mathlib.Core.List.{List, [], ◌∷◌}
use Prim.Native.Nat.{ℕ, zero, suc, ◌+◌, ◌*◌, ◌/◌, ◌%◌, ◌^◌, ◌<◌}
use native.Mathlib.Nat.{pow-suc, pow-succ', mul_assoc, one-le-pow, one-mul}
use native.Mathlib.Omega.{arith}
use lib.Arith.{digits_lt}
use lib.Dec.{T, leb, lit<}
use lib.ListN.{length, drop, get_or}
use lib.Seq.{get_or-drop}
use mir.Syntax.{Width}
use mir.Val.{bits, Fits}
use mir.Facts.{Fits-bits}
use Rattle.masks.specs.Bytes.{number_from, number_of, mask_of, first_bytes}
use Rattle.model.specs.Fields.{Coding, plain, bitmap, mark, width, read_field, read_all, read_set, read_present}
use Rattle.fields.specs.Codes.{Bytes, Fitting, Fitted}
use Rattle.fields.proofs.Numbers.{pow_256}

-- ---- bytes

pub bytes_drop : (n : ℕ) (s : List ℕ) → Bytes s → Bytes (drop n s)
bytes_drop n s h i = rw (get_or-drop n s i 0) (h (n + i))

pub bytes_first : (k : ℕ) (s : List ℕ) → Bytes s → Bytes (first_bytes k s)
bytes_first zero s h i = omega arith
bytes_first (suc k) [] h zero = omega arith
bytes_first (suc k) [] h (suc i) = bytes_first k [] h i
bytes_first (suc k) (b ∷ s) h zero = h 0
bytes_first (suc k) (b ∷ s) h (suc i) = bytes_first k s (λ j. h (suc j)) i

pub length_first : (k : ℕ) (s : List ℕ) → length (first_bytes k s) ≡ k
length_first zero s = refl
length_first (suc k) [] = ap suc (length_first k [])
length_first (suc k) (b ∷ s) = ap suc (length_first k s)

from_small : (s : List ℕ) (a n : ℕ) → a < n → Bytes s → number_from a s < n * 256 ^ length s
from_small [] a n h b = omega arith
from_small (x ∷ s) a n h b =
    let x-small : x < 256 = b 0 in
    let next : a * 256 + x < n * 256 = omega arith in
    rw (pow-succ', ← mul_assoc) (from_small s (a * 256 + x) (n * 256) next (λ i. b (suc i)))

pub number_small : (k : ℕ) (s : List ℕ) → Bytes s → number_of (first_bytes k s) < 256 ^ k
number_small k s h = rw (length_first, one-mul) at (from_small (first_bytes k s) 0 1 (omega arith) (bytes_first k s h))

mask_under : (s : List ℕ) → Bytes s → mask_of s < 256 ^ length s
mask_under [] h = omega arith
mask_under (x ∷ s) h = rw pow-suc (digits_lt (mask_under s (λ i. h (suc i))) (h 0))

pub mask_small : (k : ℕ) (s : List ℕ) → Bytes s → mask_of (first_bytes k s) < 256 ^ k
mask_small k s h = rw length_first at (mask_under (first_bytes k s) (bytes_first k s h))

-- ---- fields

fitting_field : (c : Coding) (s : List ℕ) → Bytes s → Fitting c (read_field c s)
fitting_field (plain w) s h = number_small w s h
fitting_field (bitmap w) s h = mask_small w s h
fitting_field mark s h = omega arith

fitting_none : (c : Coding) → Fitting c 0
fitting_none (plain w) = one-le-pow w 256 (lit< tt)
fitting_none (bitmap w) = one-le-pow w 256 (lit< tt)
fitting_none mark = omega arith

fitting_set : (b : ℕ) (c : Coding) (s : List ℕ) → Bytes s → Fitting c (read_set b c s)
fitting_set zero c s h = fitting_none c
fitting_set (suc b) c s h = fitting_field c s h

pub fitted_all : (cs : List Coding) (s : List ℕ) → Bytes s → Fitted cs (read_all cs s)
fitted_all [] s h i = omega arith
fitted_all (c ∷ cs) s h zero = fitting_field c s h
fitted_all (c ∷ cs) s h (suc i) = fitted_all cs (drop (width c) s) (bytes_drop (width c) s h) i

pub fitted_present : (m : ℕ) (cs : List Coding) (s : List ℕ) → Bytes s → Fitted cs (read_present m cs s)
fitted_present m [] s h i = omega arith
fitted_present m (c ∷ cs) s h zero = fitting_set (m % 2) c s h
fitted_present m (c ∷ cs) s h (suc i) = fitted_present (m / 2) cs (drop (m % 2 * width c) s) (bytes_drop (m % 2 * width c) s h) i

-- the bits of a coding's values
abbrev pub bits_of : Coding → ℕ
bits_of (plain w) = 8 * w
bits_of (bitmap w) = 8 * w
bits_of mark = 1

fitting_bits : (c : Coding) (v : ℕ) → Fitting c v → v < 2 ^ bits_of c
fitting_bits (plain w) v h = rw pow_256 at h
fitting_bits (bitmap w) v h = rw pow_256 at h
fitting_bits mark v h = h

-- so field i fits every width that has the bits of its coding
pub fitted_fits : (cs : List Coding) (f : List ℕ) → Fitted cs f → {w : Width} (i : ℕ) → T (leb (bits_of (get_or cs i mark)) (bits w)) → Fits w (get_or f i 0)
fitted_fits cs f h i t = Fits-bits (bits_of (get_or cs i mark)) t (fitting_bits (get_or cs i mark) (get_or f i 0) (h i))
