-- Laws of writing into a buffer and into parts of it, `&mut s[at..]`: a law for each turn of a loop.
use mathlib.Core.Path.{◌≡◌, sym, ap, ◌∙◌}
use mathlib.Core.List.{List, [], ◌∷◌, ◌++◌, append_assoc, append-nil}
use Prim.Native.Nat.{ℕ, zero, suc, ◌+◌, ◌-◌, ◌/◌, ◌^◌, ◌≤◌, ◌<◌}
use native.Mathlib.Nat.{pow-zero, pow-suc, div-div-eq-div-mul, div-one, sub_self, not-suc-le-zero, le_refl, add_assoc}
use native.Mathlib.Numerals.{sub-one, add-one}
use native.Mathlib.Omega.{arith}
use lib.ListN.{length, take, drop, get_or, set, length-drop, length-append, take-append-drop, drop_of_length-le}
use lib.Seq.{take-suc, append_snoc, set_at, set_split, take_at, drop_at, drop-drop, take_all, length-take-le}
use borrow.Rule.Slice.PartMut.{put_mid}
use Rattle.masks.specs.Bytes.{front}

-- s with xs in the place of its bytes from `at` on
abbrev pub placed : ℕ → List ℕ → List ℕ → List ℕ
placed at xs s = take at s ++ front xs (drop at s)

-- with r from i on, the byte before it
pub back_step : (s r : List ℕ) (i v : ℕ) → 0 < i → i ≤ length s → set (take i s ++ r) (i - 1) v ≡ take (i - 1) s ++ (v ∷ r)
back_step s r zero v h hi = absurd (not-suc-le-zero h)
back_step s r (suc m) v h hi =
    rw sub-one
    (ap (λ (l : List ℕ). set (l ++ r) m v) (take-suc s m 0 hi)
    ∙ ap (λ (l : List ℕ). set l m v) (append_snoc (take m s) (get_or s m 0) r)
    ∙ set_at (take m s) (get_or s m 0) r v m (length-take-le m s (omega arith)))

-- the quotient by the next power, in any base
pub div_step : (b n k i : ℕ) → 0 < i → i ≤ k → n / b ^ (k - i) / b ≡ n / b ^ (k - (i - 1))
div_step b n k i h hi =
    let e : suc (k - i) ≡ k - (i - 1) = omega arith in
    div-div-eq-div-mul n (b ^ (k - i)) b ∙ ap (λ (p : ℕ). n / p) (sym (pow-suc b (k - i))) ∙ ap (λ (j : ℕ). n / b ^ j) e

pub div_start : (b k n : ℕ) → n ≡ n / b ^ (k - k)
div_start b k n = rw (sub_self, pow-zero) (sym (div-one n))

pub length_placed : (at : ℕ) (xs s : List ℕ) → at + length xs ≤ length s → length (placed at xs s) ≡ length s
length_placed at xs s h = simp (length-append, length-drop, length-take-le at s (omega arith)) (omega arith)

-- xs from `at` on, and then ys after it, is both from `at` on
pub placed_append : (at : ℕ) (xs ys s : List ℕ) → at + length xs ≤ length s
    → placed (at + length xs) ys (placed at xs s) ≡ placed at (xs ++ ys) s
placed_append at xs ys s h =
    let p : List ℕ = take at s ++ xs in
    let r : List ℕ = drop (length xs) (drop at s) in
    let e : length p ≡ at + length xs = simp (length-append, length-take-le at s (omega arith)) in
    let q : placed at xs s ≡ p ++ r = sym (append_assoc (take at s) xs r) in
    ap (λ (l : List ℕ). take (at + length xs) l ++ front ys (drop (at + length xs) l)) q
    ∙ ap (λ (l : List ℕ). l ++ front ys (drop (at + length xs) (p ++ r))) (take_at p r (at + length xs) e)
    ∙ ap (λ (l : List ℕ). p ++ front ys l) (drop_at p r (at + length xs) e)
    ∙ simp (append_assoc, drop-drop, length-append, add_assoc)

-- a turn of a loop that stores byte by byte
pub placed_set : (i v : ℕ) (ys s : List ℕ) → i < length s → placed (i + 1) ys (set s i v) ≡ placed i (v ∷ ys) s
placed_set i v ys s h =
    let one : set s i v ≡ placed i (v ∷ []) s = set_split s i v h ∙ rw (drop-drop 1 i s, add-one) in
    ap (placed (i + 1) ys) one ∙ placed_append i (v ∷ []) ys s (omega arith)

pub placed_nil : (at : ℕ) (s : List ℕ) → placed at [] s ≡ s
placed_nil at s = take-append-drop at s

length-drop_le : (at : ℕ) (s : List ℕ) → length (drop at s) ≤ length s - at
length-drop_le at s = rw length-drop (le_refl _)

-- what is lent is all from `at` on
pub tail : (at : ℕ) (s : List ℕ) → take (length s - at) (drop at s) ≡ drop at s
tail at s = take_all (length s - at) (drop at s) (rw length-drop (le_refl _))

pub length_tail : (at : ℕ) (s : List ℕ) → length (take (length s - at) (drop at s)) ≡ length s - at
length_tail at s = ap length (tail at s) ∙ length-drop at s

-- where the callee put xs at the front of what was lent, the whole has xs at `at`
pub tail_back : (at : ℕ) (xs s last : List ℕ) → last ≡ front xs (take (length s - at) (drop at s)) → put_mid at (length s - at) s last ≡ placed at xs s
tail_back at xs s last e =
    let d : drop (length s - at) (drop at s) ≡ [] = drop_of_length-le (drop at s) (length-drop_le at s) in
    ap (λ (l : List ℕ). take at s ++ (l ++ drop (length s - at) (drop at s))) (e ∙ ap (front xs) (tail at s))
    ∙ ap (λ (l : List ℕ). take at s ++ (front xs (drop at s) ++ l)) d
    ∙ ap (λ (l : List ℕ). take at s ++ l) (append-nil (front xs (drop at s)))

-- a turn of a loop that writes: where the rest written from `at` on gives `whole`, it does so after xs, its first part, was written
pub tail_step : (at : ℕ) (xs ys s last whole : List ℕ) → placed at (xs ++ ys) s ≡ whole → at + length xs ≤ length s
    → last ≡ front xs (take (length s - at) (drop at s)) → placed (at + length xs) ys (put_mid at (length s - at) s last) ≡ whole
tail_step at xs ys s last whole h k e = ap (placed (at + length xs) ys) (tail_back at xs s last e) ∙ placed_append at xs ys s k ∙ h
