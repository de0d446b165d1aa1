-- The laws of masks.
use mathlib.Core.Path.{◌≡◌, refl, sym, ap, ap₂, ◌∙◌, subst}
use mathlib.Core.Logic.{◌⊎◌, inl, inr, ◌≢◌}
use mathlib.Core.Bool.{Bool, true, false, not, ◌&&◌, ◌||◌, xor, or-false}
use Prim.Native.Nat.{ℕ, zero, suc, ◌+◌, ◌*◌, ◌/◌, ◌%◌, ◌^◌, ◌≤◌, ◌<◌, min, max}
use native.Mathlib.Nat.{div-eq_of_lt, lt_of_lt_of_le, one-mul}
use native.Mathlib.Decide.{dec_lt}
use native.Mathlib.Omega.{arith}
use lib.Arith.{bin_ind}
use lib.Bits.{bit_and, bit_or, bit_xor, differ, and_step, or_step, xor_step, and_shr, or_shr, xor_shr, and_zero_l, or_zero_r, and_le_r, or_lt}
use lib.Count.{ones, ones_in, ones_step}
use lib.Dec.{T, eqb, not_T, eqb→eq, eqb-zero-suc, eqb-suc-zero, eqb-suc-suc, lit<}
use lib.Pow.{shr-shr, pow_pos, pow-lt, pow_mono, shl_exact}
use Rattle.masks.specs.Masks.{has, within, including, excluding}
use Rattle.masks.proofs.Truth.{T→false, and_l, and_r, and_i, or_l, or_r, or_cases, same_test, eq→eqb, decided}

-- ---- one digit

digit_lt : (m k : ℕ) → m / 2 ^ k % 2 < 2
digit_lt m k = omega arith

digit_and : (a b k : ℕ) → bit_and a b / 2 ^ k % 2 ≡ min (a / 2 ^ k % 2) (b / 2 ^ k % 2)
digit_and a b k = rw (and_shr a b k) (omega (arith, and_step (a / 2 ^ k) (b / 2 ^ k)))

digit_or : (a b k : ℕ) → bit_or a b / 2 ^ k % 2 ≡ max (a / 2 ^ k % 2) (b / 2 ^ k % 2)
digit_or a b k = rw (or_shr a b k) (omega (arith, or_step (a / 2 ^ k) (b / 2 ^ k)))

-- what is so of the four pairs of digits
of_digits : (f : ℕ → ℕ → ℕ) (g : Bool → Bool → Bool) → eqb (f 0 0) 1 ≡ g false false → eqb (f 0 1) 1 ≡ g false true
    → eqb (f 1 0) 1 ≡ g true false → eqb (f 1 1) 1 ≡ g true true → (d e : ℕ) → d < 2 → e < 2 → eqb (f d e) 1 ≡ g (eqb d 1) (eqb e 1)
of_digits f g p q r s zero zero h l = p
of_digits f g p q r s zero (suc zero) h l = q
of_digits f g p q r s (suc zero) zero h l = r
of_digits f g p q r s (suc zero) (suc zero) h l = s
of_digits f g p q r s zero (suc (suc e)) h l = absurd (omega arith)
of_digits f g p q r s (suc zero) (suc (suc e)) h l = absurd (omega arith)
of_digits f g p q r s (suc (suc d)) e h l = absurd (omega arith)

-- ---- the items of a mask made of two

pub has_and : (a b k : ℕ) → has (bit_and a b) k ≡ (has a k && has b k)
unfolding has
has_and a b k = ap (λ (x : ℕ). eqb x 1) (digit_and a b k) ∙ of_digits min ◌&&◌ refl refl refl refl _ _ (digit_lt a k) (digit_lt b k)

pub has_or : (a b k : ℕ) → has (bit_or a b) k ≡ (has a k || has b k)
unfolding has
has_or a b k = ap (λ (x : ℕ). eqb x 1) (digit_or a b k) ∙ of_digits max ◌||◌ refl refl refl refl _ _ (digit_lt a k) (digit_lt b k)

pub has_zero : (k : ℕ) → has 0 k ≡ false
unfolding has
has_zero k = ap (λ (x : ℕ). eqb (x % 2) 1) (div-eq_of_lt (pow_pos k))

-- ---- two masks with the same items are equal

digit_eq : (d e : ℕ) → d < 2 → e < 2 → eqb d 1 ≡ eqb e 1 → d ≡ e
digit_eq zero zero g h p = refl
digit_eq zero (suc zero) g h p = cc
digit_eq (suc zero) zero g h p = cc
digit_eq (suc zero) (suc zero) g h p = refl
digit_eq zero (suc (suc e)) g h p = absurd (omega arith)
digit_eq (suc zero) (suc (suc e)) g h p = absurd (omega arith)
digit_eq (suc (suc d)) e g h p = absurd (omega arith)

-- the lowest digit, and the items of the other digits
lowest : (a b : ℕ) → ((k : ℕ) → has a k ≡ has b k) → a % 2 ≡ b % 2
unfolding has
lowest a b h = omega (arith, digit_eq (a / 2 ^ 0 % 2) (b / 2 ^ 0 % 2) (digit_lt a 0) (digit_lt b 0) (h 0))

has_half : (a k : ℕ) → has (a / 2) k ≡ has a (1 + k)
unfolding has
has_half a k = ap (λ (x : ℕ). eqb (x % 2) 1) (shr-shr a 1 k)

halves : (a b : ℕ) → ((k : ℕ) → has a k ≡ has b k) → (k : ℕ) → has (a / 2) k ≡ has (b / 2) k
halves a b h k = has_half a k ∙ h (1 + k) ∙ sym (has_half b k)

no_items : (b : ℕ) → ((k : ℕ) → has 0 k ≡ has b k) → 0 ≡ b
no_items =
    bin_ind
    (λ b. ((k : ℕ) → has 0 k ≡ has b k) → 0 ≡ b)
    (λ h. refl)
    (λ b ih h. omega (arith, ih (halves 0 b h), lowest 0 b h))

pub mask_ext : (a b : ℕ) → ((k : ℕ) → has a k ≡ has b k) → a ≡ b
mask_ext =
    bin_ind
    (λ a. (b : ℕ) → ((k : ℕ) → has a k ≡ has b k) → a ≡ b)
    no_items
    (λ a ih b h. omega (arith, ih (b / 2) (halves a b h), lowest a b h))

-- ---- within

pub within_has : (a b : ℕ) → T (within a b) → (k : ℕ) → T (has a k) → T (has b k)
unfolding within
within_has a b w k h = and_r (has a k) (has b k) (subst T (has_and a b k) (subst (λ (x : ℕ). T (has x k)) (sym (eqb→eq _ _ w)) h))

pub has_within : (a b : ℕ) → ((k : ℕ) → T (has a k) → T (has b k)) → T (within a b)
unfolding within
has_within a b h =
    eq→eqb _ _ (mask_ext (bit_and a b) a (λ k. has_and a b k ∙ same_test _ _ (and_l (has a k) (has b k)) (λ t. and_i (has a k) (has b k) t (h k t))))

pub within_refl : (a : ℕ) → T (within a a)
within_refl a = has_within a a (λ k h. h)

pub within_trans : (a b c : ℕ) → T (within a b) → T (within b c) → T (within a c)
within_trans a b c g h = has_within a c (λ k t. within_has b c h k (within_has a b g k t))

pub within_or : (a b c : ℕ) → T (within a c) → T (within b c) → T (within (bit_or a b) c)
within_or a b c g h = has_within _ _ (λ k t. cases k (or_cases (has a k) (has b k) (subst T (has_or a b k) t)))
  where
    cases : (k : ℕ) → T (has a k) ⊎ T (has b k) → T (has c k)
    cases k (inl t) = within_has a c g k t
    cases k (inr t) = within_has b c h k t

pub within_or_l : (a b : ℕ) → T (within a (bit_or a b))
within_or_l a b = has_within _ _ (λ k t. subst T (sym (has_or a b k)) (or_l (has a k) (has b k) t))

pub within_or_r : (a b : ℕ) → T (within b (bit_or a b))
within_or_r a b = has_within _ _ (λ k t. subst T (sym (has_or a b k)) (or_r (has a k) (has b k) t))

pub within_and_r : (a b : ℕ) → T (within (bit_and a b) b)
within_and_r a b = has_within _ _ (λ k t. and_r (has a k) (has b k) (subst T (has_and a b k) t))

pub within_and_l : (a b : ℕ) → T (within (bit_and a b) a)
within_and_l a b = has_within _ _ (λ k t. and_l (has a k) (has b k) (subst T (has_and a b k) t))

pub within_or_mono : (a b c d : ℕ) → T (within a c) → T (within b d) → T (within (bit_or a b) (bit_or c d))
within_or_mono a b c d g h =
    within_or a b (bit_or c d) (within_trans a c _ g (within_or_l c d)) (within_trans b d _ h (within_or_r c d))

pub within_zero : (b : ℕ) → T (within 0 b)
unfolding within
within_zero b = eq→eqb _ _ (and_zero_l b)

-- ---- one item

digit_xor : (a b k : ℕ) → bit_xor a b / 2 ^ k % 2 ≡ differ (a / 2 ^ k % 2) (b / 2 ^ k % 2)
digit_xor a b k = rw (xor_shr a b k) (omega (arith, xor_step (a / 2 ^ k) (b / 2 ^ k), small _ _ (digit_lt a k) (digit_lt b k)))
  where
    small : (d e : ℕ) → d < 2 → e < 2 → differ d e < 2
    small zero e g h = h
    small (suc zero) zero g h = g
    small (suc zero) (suc e) g h = omega arith
    small (suc (suc d)) e g h = absurd (omega arith)

pub has_xor : (a b k : ℕ) → has (bit_xor a b) k ≡ xor (has a k) (has b k)
unfolding has xor
has_xor a b k = ap (λ (x : ℕ). eqb x 1) (digit_xor a b k) ∙ of_digits differ xor refl refl refl refl _ _ (digit_lt a k) (digit_lt b k)

has_suc : (a k : ℕ) → has a (suc k) ≡ has (a / 2) k
has_suc a k = sym (has_half a k ∙ ap (has a) (omega arith))

pub has_single : (j k : ℕ) → has (2 ^ j) k ≡ eqb k j
unfolding has
has_single zero zero = refl
has_single zero (suc k) = has_suc 1 k ∙ has_zero k ∙ sym (eqb-suc-zero k)
has_single (suc j) zero = ap (λ (x : ℕ). eqb x 1) even ∙ sym (eqb-zero-suc j)
  where
    even : 2 ^ suc j / 2 ^ 0 % 2 ≡ 0
    even = omega arith
has_single (suc j) (suc k) = has_suc (2 ^ suc j) k ∙ ap (λ (x : ℕ). has x k) half ∙ has_single j k ∙ sym (eqb-suc-suc k j)
  where
    half : 2 ^ suc j / 2 ≡ 2 ^ j
    half = omega arith

pub has-including : (m j k : ℕ) → has (including m j) k ≡ (has m k || eqb k j)
unfolding including
has-including m j k = has_or m (2 ^ j) k ∙ ap (λ b. has m k || b) (has_single j k)

pub within-including : (m j : ℕ) → T (within m (including m j))
unfolding including
within-including m j = within_or_l m (2 ^ j)

pub excluding-within : (m j : ℕ) → T (has m j) → T (within (excluding m j) m)
unfolding excluding xor
excluding-within m j h = has_within _ _ (λ k t. cases k (decided (eqb k j)) (subst T (has_xor m (2 ^ j) k ∙ ap (xor (has m k)) (has_single j k)) t))
  where
    cases : (k : ℕ) → T (eqb k j) ⊎ T (not (eqb k j)) → T (xor (has m k) (eqb k j)) → T (has m k)
    cases k (inl e) t = subst (λ (x : ℕ). T (has m x)) (sym (eqb→eq k j e)) h
    cases k (inr e) t = off (has m k) (subst (λ (b : Bool). T (xor (has m k) b)) (T→false (eqb k j) e) t)
      where
        off : (b : Bool) → T (xor b false) → T b
        off true u = tt
        off false u = u

-- a mask within one that is below 2 ^ w is below it too
pub within_le : (a b : ℕ) → T (within a b) → a ≤ b
unfolding within
within_le a b w = omega (arith, and_le_r a b, eqb→eq (bit_and a b) a w)

-- the other items are as they were
pub has_other : (m k j : ℕ) → j ≢ k → has (including m k) j ≡ has m j
has_other m k j e = has-including m k j ∙ ap (λ b. has m j || b) (T→false (eqb j k) (not_T (eqb j k) (λ t. e (eqb→eq j k t)))) ∙ or-false (has m j)

-- one item more, one more of them
pub ones_including : (k m : ℕ) → T (not (has m k)) → ones (including m k) ≡ suc (ones m)
unfolding including has
ones_including zero m h =
    let clear : m % 2 ≡ 0 = omega (arith, off (m / 2 ^ 0 % 2) (digit_lt m 0) h) in
    let low : bit_or m 1 % 2 ≡ 1 = omega (arith, or_step m 1) in
    let high : bit_or m 1 / 2 ≡ m / 2 = omega (arith, or_step m 1, or_zero_r (m / 2)) in
    ones_step (bit_or m 1) ∙ ap₂ (λ (x y : ℕ). x + ones y) low high ∙ omega (arith, ones_step m)
  where
    off : (d : ℕ) → d < 2 → T (not (eqb d 1)) → d ≡ 0
    off zero l t = refl
    off (suc zero) l t = absurd t
    off (suc (suc d)) l t = absurd (omega arith)
ones_including (suc k) m h =
    let half : 2 ^ suc k / 2 ≡ 2 ^ k = omega arith in
    let step : bit_or m (2 ^ suc k) ≡ bit_or (m / 2) (2 ^ k) * 2 + m % 2 = or_step m (2 ^ suc k) ∙ ap₂ (λ (x y : ℕ). bit_or (m / 2) x * 2 + y) half (omega arith) in
    let low : bit_or m (2 ^ suc k) % 2 ≡ m % 2 = omega (arith, step) in
    let high : bit_or m (2 ^ suc k) / 2 ≡ bit_or (m / 2) (2 ^ k) = omega (arith, step) in
    ones_step (bit_or m (2 ^ suc k)) ∙ ap₂ (λ (x y : ℕ). x + ones y) low high
    ∙ omega (arith, ones_including k (m / 2) (subst (λ (b : Bool). T (not b)) (has_suc m k) h), ones_step m)

pub ones_zero : ones 0 ≡ 0
unfolding ones ones_in
ones_zero = refl

pub single_within : (k e : ℕ) → T (has e k) → T (within (2 ^ k) e)
single_within k e h = has_within _ _ (λ j t. subst (λ (x : ℕ). T (has e x)) (sym (eqb→eq j k (subst T (has_single k j) t))) h)

pub including-within : (m k e : ℕ) → T (within m e) → T (has e k) → T (within (including m k) e)
unfolding including
including-within m k e h g = within_or m (2 ^ k) e h (single_within k e g)

-- ---- ranges

-- a mask of w bits with one item more
pub including_lt : (w m k : ℕ) → m < 2 ^ w → k < w → including m k < 2 ^ w
unfolding including
including_lt w m k l g = or_lt w m (2 ^ k) l (pow-lt g)

-- an item of a mask of w bits is below w
pub has_lt : (w m k : ℕ) → m < 2 ^ w → T (has m k) → k < w
unfolding has
has_lt w m k l h = cases (dec_lt k w)
  where
    cases : Dec (k < w) → k < w
    cases (yes g) = g
    cases (no g) =
        absurd (subst (λ (x : ℕ). T (eqb (x % 2) 1)) (div-eq_of_lt (lt_of_lt_of_le l (pow_mono (omega arith)))) h)

-- a mask of w bits has no item from w on
pub no_bit : (w m k : ℕ) → m < 2 ^ w → w ≤ k → has m k ≡ false
unfolding has
no_bit w m k h l = rw (div-eq_of_lt (lt_of_lt_of_le h (pow_mono l)))

-- the machine's `1 << k` at a width above k
pub one_shl : (w k : ℕ) → k < w → (1 * 2 ^ k) % 2 ^ w ≡ 2 ^ k
one_shl w k h = shl_exact {a = 1} 1 k w (lit< tt) (omega arith) ∙ one-mul (2 ^ k)
