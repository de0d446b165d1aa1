-- Numbers and maps as bytes, at every width: what was written is read again. Comparing bytes.
use mathlib.Core.Path.{◌≡◌, refl, sym, ap, ◌∙◌}
use mathlib.Core.Bool.{true}
use mathlib.Core.List.{List, [], ◌∷◌, ◌++◌}
use Prim.Native.Nat.{ℕ, zero, suc, ◌+◌, ◌-◌, ◌*◌, ◌/◌, ◌%◌, ◌^◌, ◌<◌}
use native.Mathlib.Nat.{pow-suc, pow-succ', mul_assoc, add_assoc, add-mul, mod-eq_of_lt, zero-mul, div-one, div-div-eq-div-mul, one-le-pow, not-suc-le-zero, le_of_suc-le-suc}
use native.Mathlib.Omega.{arith}
use lib.Arith.{mod-mul}
use lib.Dec.{lit<}
use lib.ListN.{length, get_or}
use lib.Pow.{field, mod-mod-pow, shr-shr, pow-add}
use borrow.Author.Tests.{eq-eqb}
use Rattle.masks.specs.Bytes.{bytes_of, number_from, number_of, map_bytes, mask_of, first_bytes, same_bytes}

-- ---- numbers

pub length-bytes : (k n : ℕ) → length (bytes_of k n) ≡ k
length-bytes zero n = refl
length-bytes (suc k) n = ap suc (length-bytes k n)

number_from_lem : (k n a : ℕ) → number_from a (bytes_of k n) ≡ a * 256 ^ k + n % 256 ^ k
number_from_lem zero n a = omega arith
number_from_lem (suc k) n a =
    let p : ℕ = 256 ^ k in
    let d : ℕ = n / 256 ^ k % 256 in
    let pos : 0 < 256 ^ k = one-le-pow k 256 (lit< tt) in
    number_from_lem k n (a * 256 + d)
    ∙ rw (pow-succ', mod-mul n {m = 256} {c = p} (lit< tt) pos, add-mul, mul_assoc, add_assoc)

number-bytes : (k n : ℕ) → n < 256 ^ k → number_of (bytes_of k n) ≡ n
number-bytes k n h = number_from_lem k n 0 ∙ omega (arith, zero-mul (256 ^ k), mod-eq_of_lt h)

-- ---- maps

pub length-map : (k n : ℕ) → length (map_bytes k n) ≡ k
length-map zero n = refl
length-map (suc k) n = ap suc (length-map k (n / 256))

mask_map : (k n : ℕ) → n < 256 ^ k → mask_of (map_bytes k n) ≡ n
mask_map zero n h = omega arith
mask_map (suc k) n h =
    let e = mask_map k (n / 256) (let p : n < 256 ^ k * 256 = rw pow-suc at h in omega arith) in
    omega arith

pub ruleset lengths = (length-bytes, length-map)

-- ---- at the front of what follows

pub first_append : (xs ys : List ℕ) → first_bytes (length xs) (xs ++ ys) ≡ xs
first_append [] ys = refl
first_append (x ∷ xs) ys = ap (λ (l : List ℕ). x ∷ l) (first_append xs ys)

first_at : (k : ℕ) (xs ys : List ℕ) → length xs ≡ k → first_bytes k (xs ++ ys) ≡ xs
first_at k xs ys e = ap (λ (j : ℕ). first_bytes j (xs ++ ys)) (sym e) ∙ first_append xs ys

pub number_back : (w n : ℕ) (rest : List ℕ) → n < 256 ^ w → number_of (first_bytes w (bytes_of w n ++ rest)) ≡ n
number_back w n rest h = ap number_of (first_at w (bytes_of w n) rest (length-bytes w n)) ∙ number-bytes w n h

pub map_back : (w n : ℕ) (rest : List ℕ) → n < 256 ^ w → mask_of (first_bytes w (map_bytes w n ++ rest)) ≡ n
map_back w n rest h = ap mask_of (first_at w (map_bytes w n) rest (length-map w n)) ∙ mask_map w n h

-- ---- item j of a mask stands at bit j % 8 of byte j / 8 of its map

map_byte : (k n i : ℕ) → i < k → get_or (map_bytes k n) i 0 ≡ n / 256 ^ i % 256
map_byte zero n i h = absurd (not-suc-le-zero h)
map_byte (suc k) n zero h = ap (λ (x : ℕ). x % 256) (sym (div-one n))
map_byte (suc k) n (suc i) h =
    map_byte k (n / 256) i (le_of_suc-le-suc h) ∙ ap (λ (x : ℕ). x % 256) (div-div-eq-div-mul n 256 (256 ^ i)) ∙ rw pow-succ'

bit_at : ℕ → ℕ → ℕ
bit_at n j = n / 2 ^ j % 2

bit_of_byte : (x b : ℕ) → b < 8 → bit_at (x % 256) b ≡ bit_at x b
unfolding bit_at
bit_of_byte x b h =
    let e : 8 - b + b ≡ 8 = omega arith in
    let d : 7 - b + 1 ≡ 8 - b = omega arith in
    ap (λ (j : ℕ). x % 2 ^ j / 2 ^ b % 2) (sym e)
    ∙ ap (λ (y : ℕ). y % 2) (field x (8 - b) b)
    ∙ ap (λ (j : ℕ). x / 2 ^ b % 2 ^ j % 2) (sym d)
    ∙ mod-mod-pow (x / 2 ^ b) (7 - b) 1

pub pow_256 : (i : ℕ) → 256 ^ i ≡ 2 ^ (8 * i)
pow_256 zero = refl
pow_256 (suc i) =
    let e : 8 * i + 8 ≡ 8 * suc i = omega arith in
    pow-suc 256 i ∙ ap (λ (p : ℕ). p * 256) (pow_256 i) ∙ sym (pow-add 2 (8 * i) 8) ∙ ap (λ (j : ℕ). 2 ^ j) e

pub map_item : (k n j : ℕ) → j < 8 * k → get_or (map_bytes k n) (j / 8) 0 / 2 ^ (j % 8) % 2 ≡ n / 2 ^ j % 2
unfolding bit_at
map_item k n j h =
    let e : 8 * (j / 8) + j % 8 ≡ j = omega arith in
    ap (λ (x : ℕ). bit_at x (j % 8)) (map_byte k n (j / 8) (omega arith))
    ∙ bit_of_byte (n / 256 ^ (j / 8)) (j % 8) (omega arith)
    ∙ ap (λ (p : ℕ). n / p / 2 ^ (j % 8) % 2) (pow_256 (j / 8))
    ∙ ap (λ (x : ℕ). x % 2) (shr-shr n (8 * (j / 8)) (j % 8))
    ∙ ap (λ (i : ℕ). bit_at n i) e

-- ---- comparing

pub same_refl : (a : List ℕ) → same_bytes a a ≡ true
same_refl [] = refl
same_refl (x ∷ xs) = rw (eq-eqb x x refl) (same_refl xs)
