-- Writing into parts, reading with 0 past the end, filling arrays, comparing: a law for each turn of a loop.
use mathlib.Core.Path.{◌≡◌, refl, sym, ap, ◌∙◌}
use mathlib.Core.List.{List, [], ◌∷◌, ◌++◌, append-nil}
use Prim.Native.Nat.{ℕ, zero, suc, ◌+◌, ◌-◌, ◌*◌, ◌/◌, ◌%◌, ◌^◌, ◌≤◌, ◌<◌}
use native.Mathlib.Nat.{pow-suc, pow-le-pow_right, zero-add, not-suc-le-zero, le_of_suc-le-suc}
use native.Mathlib.Numerals.{add-one, sub-one}
use native.Mathlib.Omega.{arith}
use lib.ListN.{length, take, drop, get_or, set, replicate, length-append, length-drop}
use lib.Seq.{drop-cons, take-suc-set, drop-set-lt, append_snoc, drop-drop, take_all}
use lib.Arith.{digits_lt}
use lib.Dec.{lit<}
use borrow.Rule.Slice.PartMut.{put_mid}
use Rattle.buffers.proofs.Parts.{placed, placed_append, placed_set, tail_back}
use Rattle.buffers.proofs.Digits.{Digits}
use Rattle.masks.specs.Bytes.{bytes_of, number_from, map_bytes, mask_of, first_bytes, front}

-- ---- writing a number

-- its bytes are its digits to the base 256
abbrev pub byte_digits : Digits
byte_digits = record { base = 256; digit = λ x. x % 256; digits = bytes_of; none = λ n. refl; more = λ k n. refl }

-- ---- reading a number byte by byte

pub byte_step : (i x b : ℕ) → x < 256 ^ i → b < 256 → x * 256 + b < 256 ^ (i + 1)
byte_step i x b hx hb = rw (add-one, pow-suc) (digits_lt hx hb)

pub byte_fits : (i x b : ℕ) → i < 8 → x < 256 ^ i → b < 256 → x * 256 + b < 2 ^ 64
byte_fits i x b hi hx hb =
    let h : i + 1 ≤ 8 = omega arith in
    let p : 256 ^ (i + 1) ≤ 256 ^ 8 = pow-le-pow_right (lit< tt) h in
    omega (arith, byte_step i x b hx hb)

-- ---- an array that is filled from its front

pub fill_step : {A : Type 0} (f : List A) (i : ℕ) (v : A) (rest : List A) → i < length f → take (i + 1) (set f i v) ++ rest ≡ take i f ++ (v ∷ rest)
fill_step {A} f i v rest h = rw add-one (ap (λ (l : List A). l ++ rest) (take-suc-set f i v h) ∙ append_snoc (take i f) v rest)

pub fill_done : {A : Type 0} (f : List A) (i : ℕ) → length f ≤ i → take i f ++ [] ≡ f
fill_done f i h = append-nil (take i f) ∙ take_all i f h

-- what follows the filled part stays as it was
pub rest_step : {A : Type 0} (f : List A) (i k : ℕ) (v d : A) → drop i f ≡ replicate (k - i) d → i < k → drop (i + 1) (set f i v) ≡ replicate (k - (i + 1)) d
rest_step {A} f i k v d e h =
    let n : k - i ≡ suc (k - (i + 1)) = omega arith in
    let one : drop (i + 1) f ≡ drop 1 (drop i f) = sym (drop-drop 1 i f) in
    drop-set-lt (i + 1) f i v (omega arith) ∙ one ∙ ap (drop 1) (e ∙ ap (λ (j : ℕ). replicate j d) n)

-- ---- reading with 0 past the end

pub first_step : (k p : ℕ) (s : List ℕ) → first_bytes (suc k) (drop p s) ≡ get_or s p 0 ∷ first_bytes k (drop (p + 1) s)
first_step k zero [] = refl
first_step k zero (b ∷ s) = refl
first_step k (suc p) [] = rw add-one refl
first_step k (suc p) (b ∷ s) = first_step k p s ∙ rw (add-one, add-one)

-- a turn of a loop that makes a number of k bytes
pub past_turn : (s : List ℕ) (at k i x : ℕ) → i < k
    → number_from x (first_bytes (k - i) (drop (at + i) s)) ≡ number_from (x * 256 + get_or s (at + i) 0) (first_bytes (k - (i + 1)) (drop (at + (i + 1)) s))
past_turn s at k i x h =
    let e : k - i ≡ suc (k - (i + 1)) = omega arith in
    let a : at + i + 1 ≡ at + (i + 1) = omega arith in
    ap (λ (j : ℕ). number_from x (first_bytes j (drop (at + i) s))) e
    ∙ ap (number_from x) (first_step (k - (i + 1)) (at + i) s)
    ∙ ap (λ (j : ℕ). number_from (x * 256 + get_or s (at + i) 0) (first_bytes (k - (i + 1)) (drop j s))) a

-- a turn of a loop that copies k bytes
pub first_turn : (s f : List ℕ) (at k i v : ℕ) (whole : List ℕ) → i < k → i < length f → v ≡ get_or s (at + i) 0
    → take i f ++ first_bytes (k - i) (drop (at + i) s) ≡ whole
    → take (i + 1) (set f i v) ++ first_bytes (k - (i + 1)) (drop (at + (i + 1)) s) ≡ whole
first_turn s f at k i v whole hk hf ev h =
    let e : k - i ≡ suc (k - (i + 1)) = omega arith in
    let a : at + i + 1 ≡ at + (i + 1) = omega arith in
    let split : first_bytes (k - i) (drop (at + i) s) ≡ v ∷ first_bytes (k - (i + 1)) (drop (at + (i + 1)) s) =
    ap (λ (j : ℕ). first_bytes j (drop (at + i) s)) e
    ∙ first_step (k - (i + 1)) (at + i) s
    ∙ rw (ev, a) in
    fill_step f i v (first_bytes (k - (i + 1)) (drop (at + (i + 1)) s)) hf ∙ (rw split at h)

-- fewer of them
pub first_fewer : (k n : ℕ) (s : List ℕ) → k ≤ n → take k (first_bytes n s) ≡ first_bytes k s
first_fewer zero n s h = refl
first_fewer (suc k) zero s h = absurd (not-suc-le-zero h)
first_fewer (suc k) (suc n) [] h = ap (λ (l : List ℕ). 0 ∷ l) (first_fewer k n [] (le_of_suc-le-suc h))
first_fewer (suc k) (suc n) (b ∷ s) h = ap (λ (l : List ℕ). b ∷ l) (first_fewer k n s (le_of_suc-le-suc h))

-- all of which are there
pub first_there : (k : ℕ) (s : List ℕ) → k ≤ length s → take k s ≡ first_bytes k s
first_there zero s h = refl
first_there (suc k) [] h = absurd (not-suc-le-zero h)
first_there (suc k) (b ∷ s) h = ap (λ (l : List ℕ). b ∷ l) (first_there k s (le_of_suc-le-suc h))

pub part_there : (s : List ℕ) (at k : ℕ) → at + k ≤ length s → take (at + k - at) (drop at s) ≡ first_bytes k (drop at s)
part_there s at k h =
    let e : at + k - at ≡ k = omega arith in
    let room : k ≤ length (drop at s) = rw length-drop (omega arith) in
    rw e (first_there k (drop at s) room)

-- a turn of the loop that reads a number, and of the one that reads a mask
pub number_turn : (s : List ℕ) (i x : ℕ) → i < length s → number_from x (drop i s) ≡ number_from (x * 256 + get_or s i 0) (drop (i + 1) s)
number_turn s i x h = rw (add-one, drop-cons s i 0)

pub mask_turn : (s : List ℕ) (i : ℕ) → 0 < i → i ≤ length s → mask_of (drop (i - 1) s) ≡ mask_of (drop i s) * 256 + get_or s (i - 1) 0
mask_turn s zero h hi = absurd (not-suc-le-zero h)
mask_turn s (suc m) h hi = rw sub-one (ap mask_of (drop-cons s m 0 hi))

-- ---- maps, byte by byte

-- a turn of the loop that writes a map
pub map_turn : (i k x : ℕ) (s : List ℕ) → i < k → i < length s
    → placed (i + 1) (map_bytes (k - (i + 1)) (x / 256)) (set s i (x % 256)) ≡ placed i (map_bytes (k - i) x) s
map_turn i k x s hk hs =
    let e : k - i ≡ suc (k - (i + 1)) = omega arith in
    placed_set i (x % 256) (map_bytes (k - (i + 1)) (x / 256)) s hs ∙ ap (λ (j : ℕ). placed i (map_bytes j x) s) (sym e)

-- xs at the front, and then ys after it
two_parts : (xs ys s t last : List ℕ) (at : ℕ) → at ≡ length xs → length xs ≤ length s → t ≡ front xs s
    → last ≡ front ys (take (length t - at) (drop at t)) → put_mid at (length t - at) t last ≡ front (xs ++ ys) s
two_parts xs ys s t last at ea h et el =
    let k : 0 + length xs ≤ length s = omega arith in
    tail_back at ys t last el
    ∙ ap (λ (l : List ℕ). placed at ys l) et
    ∙ ap (λ (j : ℕ). placed j ys (front xs s)) (ea ∙ sym (zero-add (length xs)))
    ∙ placed_append 0 xs ys s k

-- a whole of two parts, of which the first has n bytes, is written once both are
pub parts_written : (xs ys s : List ℕ) {whole t last : List ℕ} {n q : ℕ} → whole ≡ xs ++ ys → length xs ≡ n → n + length ys ≤ length s → t ≡ front xs s
    → (q ≡ length ys) × (last ≡ front ys (take (length t - n) (drop n t))) → (n + q ≡ length whole) × (put_mid n (length t - n) t last ≡ front whole s)
parts_written xs ys s {whole} {t} {last} {n} e en room et p = (
  omega (arith, ap length e, length-append xs ys),
  two_parts xs ys s t last n (sym en) (omega arith) et p.1 ∙ ap (λ (l : List ℕ). front l s) (sym e),
)
