-- Laws of answers as lines.
use mathlib.Core.Path.{◌≡◌, refl, sym, ap, ◌∙◌}
use mathlib.Core.List.{List, [], ◌∷◌, ◌++◌, append-nil, append_assoc}
use Prim.Native.Nat.{ℕ, zero, suc, ◌+◌, ◌-◌, ◌*◌, ◌/◌, ◌%◌, ◌^◌, ◌≤◌, ◌<◌}
use native.Mathlib.Nat.{pow-suc, le_refl}
use native.Mathlib.Omega.{arith}
use borrow.Author.Tests.{lt-ltb, le-ltb}
use lib.ListN.{length, take, drop, get_or, set, length-append, length-drop, drop_of_length-le}
use lib.Seq.{length-take-le}
use borrow.Rule.Slice.PartMut.{put_mid}
use Rattle.buffers.proofs.Parts.{placed, placed_append, placed_nil, placed_set, length_placed}
use Rattle.buffers.proofs.Digits.{Digits, DigitsFrom, length_digits, digits_start, digits_done}
use Rattle.masks.specs.Bytes.{front}
use Rattle.model.specs.Rulings.{Outcome, value, refused}
use Rattle.model.specs.Lines.{digits_of, digit_count, decimal, answer_line, printed}
use Rattle.answers.specs.Writing.{printed_into, filled}
use Rattle.answers.proofs.WriteLaws.{into_room, filled_room, into_short, filled_short}

-- ---- how many digits

pub count_low : (f n : ℕ) → 1 ≤ digit_count f n
count_low zero n = omega arith
count_low (suc f) n = grind arith

pub count_high : (f n : ℕ) → digit_count f n ≤ suc f
count_high zero n = omega arith
count_high (suc f) n = grind (arith, count_high f (n / 10))

pub count_done : (f x : ℕ) → x < 10 → digit_count f x ≡ 1
count_done zero x h = refl
count_done (suc f) x h = rw (lt-ltb x 10 h)

-- k digits counted, x left of the number, m the whole count and one
pub record Counted (k x m : ℕ) : Type 0 where
  pub low : 1 ≤ k
  pub high : k ≤ 10
  pub small : x < 10 ^ (11 - k)
  pub sum : k + digit_count (10 - k) x ≡ m

pub count_turn : (k x m : ℕ) → Counted k x m → 10 ≤ x → Counted (k + 1) (x / 10) m
count_turn k x m h l = go (10 - k) refl
  where
    go : (f : ℕ) → 10 - k ≡ f → Counted (k + 1) (x / 10) m
    go zero e = let a : 11 - k ≡ 1 = omega arith in let s : x < 10 = rw a at h.small in omega arith
    go (suc f) e =
        let a : 11 - k ≡ suc (10 - k) = omega arith in
        let b : 11 - (k + 1) ≡ 10 - k = omega arith in
        let d : 10 - (k + 1) ≡ f = omega arith in
        let s : x < 10 ^ (10 - k) * 10 = rw (a, pow-suc) at h.small in
        let c : digit_count (suc f) x ≡ suc (digit_count f (x / 10)) = rw (le-ltb x 10 l) in
        let t : k + digit_count (suc f) x ≡ m = rw e at h.sum in
        record { low = omega arith; high = omega arith; small = rw b (omega arith); sum = rw d (omega arith) }

power_pos : (k : ℕ) → 1 ≤ 10 ^ k
power_pos zero = omega arith
power_pos (suc k) = rw pow-suc (omega (arith, power_pos k))

pub count_power : (f x k : ℕ) → k ≤ f → 10 ^ k ≤ x → x < 10 * 10 ^ k → digit_count f x ≡ k + 1
count_power f x zero h low high = rw (count_done f x (omega arith))
count_power zero x (suc k) h low high = absurd (omega arith)
count_power (suc f) x (suc k) h low high =
    let l : 10 ^ k * 10 ≤ x = rw pow-suc at low in
    let m : x < 10 * (10 ^ k * 10) = rw pow-suc at high in
    let p = power_pos k in
    let r : digit_count f (x / 10) ≡ k + 1 = count_power f (x / 10) k (omega arith) (omega arith) (omega arith) in
    rw (le-ltb x 10 (omega arith)) (omega arith)

-- ---- digits

abbrev pub decimal-digits : Digits
decimal-digits = record { base = 10; digit = λ x. 48 + x % 10; digits = digits_of; none = λ n. refl; more = λ k n. refl }

pub digits_filled : {k n : ℕ} {s₀ s : List ℕ} {i x : ℕ} → DigitsFrom decimal-digits k n s₀ s i x → i ≤ 0 → length s₀ ≡ k → s ≡ digits_of k n
digits_filled {k} {n} {s₀} f h e =
    let none : drop (length (digits_of k n)) s₀ ≡ [] = drop_of_length-le s₀ (omega (arith, e, length_digits decimal-digits k n)) in
    digits_done f h ∙ ap (λ (l : List ℕ). digits_of k n ++ l) none ∙ append-nil (digits_of k n)

pub digits_begin : (n : ℕ) (s : List ℕ) → DigitsFrom decimal-digits (length s) n s s (length s) n
digits_begin n s = digits_start (le_refl (length s))

-- ---- lines

pub length-line : (w : List ℕ) (n : ℕ) → length w ≡ 2 → length (answer_line w n) ≡ 4 + digit_count 9 n
unfolding answer_line decimal
length-line w n e = simp (length-append, length_digits decimal-digits, e) (omega arith)

module _ (w s : List ℕ) (n k : ℕ) (two : length w ≡ 2) (e : k ≡ digit_count 9 n) (h : length s ≤ 3 + k) where
  pub none_filled : 0 ≡ filled (answer_line w n) s
  none_filled = sym (filled_short (answer_line w n) s (omega (arith, length-line w n two)))

  pub none_printed : s ≡ printed_into (answer_line w n) s
  none_printed = sym (into_short (answer_line w n) s (omega (arith, length-line w n two)))

put_placed : (a k : ℕ) (s d : List ℕ) → length d ≡ k → put_mid a k s d ≡ placed a d s
put_placed a k s d e = ap (λ (j : ℕ). take a s ++ (d ++ drop j (drop a s))) (sym e)

set_placed : (i v : ℕ) (s : List ℕ) → i < length s → set s i v ≡ placed i (v ∷ []) s
set_placed i v s h = sym (placed_nil (i + 1) (set s i v)) ∙ placed_set i v [] s h

-- the two letters of a word stored one by one
two_set : (w s : List ℕ) → length w ≡ 2 → 2 ≤ length s → set (set s 0 (get_or w 0 0)) 1 (get_or w 1 0) ≡ w ++ drop 2 s
two_set [] s e h = absurd (omega arith)
two_set (x ∷ []) s e h = absurd (omega arith)
two_set (x ∷ y ∷ z ∷ w) s e h = absurd (omega arith)
two_set (x ∷ y ∷ []) [] e h = absurd (omega arith)
two_set (x ∷ y ∷ []) (a ∷ []) e h = absurd (omega arith)
two_set (x ∷ y ∷ []) (a ∷ b ∷ s) e h = refl

-- a line's four parts, each after the one before it
line-written : (w s d : List ℕ) (n k : ℕ) → length w ≡ 2 → k ≡ digit_count 9 n → 3 + k < length s → d ≡ digits_of k n
    → placed (3 + k) (10 ∷ []) (placed 3 d (placed 2 (32 ∷ []) (placed 0 w s))) ≡ front (answer_line w n) s
unfolding answer_line decimal
line-written w s d n k e f room g =
    let a : List ℕ = w ++ (32 ∷ []) in
    let b : List ℕ = a ++ d in
    let la : 0 + length w ≡ 2 = omega arith in
    let lb : 0 + length a ≡ 3 = simp length-append (omega arith) in
    let lc : 0 + length b ≡ 3 + k = omega (arith, length-append a d, lb, ap length g, length_digits decimal-digits k n) in
    let one : placed 2 (32 ∷ []) (placed 0 w s) ≡ placed 0 a s =
    ap (λ (j : ℕ). placed j (32 ∷ []) (placed 0 w s)) (sym la) ∙ placed_append 0 w (32 ∷ []) s (omega arith) in
    let two : placed 3 d (placed 0 a s) ≡ placed 0 b s = ap (λ (j : ℕ). placed j d (placed 0 a s)) (sym lb) ∙ placed_append 0 a d s (omega (arith, length-append a d)) in
    let three : placed (3 + k) (10 ∷ []) (placed 0 b s) ≡ placed 0 (b ++ (10 ∷ [])) s =
    ap (λ (j : ℕ). placed j (10 ∷ []) (placed 0 b s)) (sym lc) ∙ placed_append 0 b (10 ∷ []) s (omega arith) in
    let line : b ++ (10 ∷ []) ≡ w ++ ((32 ∷ []) ++ (d ++ (10 ∷ []))) = simp append_assoc in
    ap (λ (l : List ℕ). placed (3 + k) (10 ∷ []) (placed 3 d l)) one
    ∙ ap (placed (3 + k) (10 ∷ [])) two
    ∙ three
    ∙ ap (λ (l : List ℕ). front l s) (line ∙ ap (λ (l : List ℕ). w ++ ((32 ∷ []) ++ (l ++ (10 ∷ [])))) (g ∙ ap (λ (j : ℕ). digits_of j n) f))

-- the same as the code writes it: its word, a space, d in the part that is lent for it, and a line feed
module _ (w s : List ℕ) (n k : ℕ) (e : length w ≡ 2) (f : k ≡ digit_count 9 n) (room : 3 + k < length s) where
  pub line_filled : 3 + k + 1 ≡ filled (answer_line w n) s
  line_filled = omega (arith, length-line w n e, filled_room (answer_line w n) s (omega (arith, length-line w n e)))

  pub line_printed : (d : List ℕ) → (let s2 = set (set (set s 0 (get_or w 0 0)) 1 (get_or w 1 0)) 2 32 in
      d ≡ digits_of (length (take (3 + k - 3) (drop 3 s2))) n → set (put_mid 3 (3 + k - 3) s2 d) (3 + k) 10 ≡ printed_into (answer_line w n) s)
  line_printed d g =
      let s1 : List ℕ = placed 0 w s in
      let s2 : List ℕ = placed 2 (32 ∷ []) s1 in
      let k3 : 3 + k - 3 ≡ k = omega arith in
      let l1 : length s1 ≡ length s = length_placed 0 w s (omega arith) in
      let l2 : length s2 ≡ length s = length_placed 2 (32 ∷ []) s1 (omega arith) ∙ l1 in
      let e2 : set (set (set s 0 (get_or w 0 0)) 1 (get_or w 1 0)) 2 32 ≡ s2 =
      ap (λ (l : List ℕ). set l 2 32) (two_set w s e (omega arith) ∙ ap (λ (j : ℕ). w ++ drop j s) (sym e)) ∙ set_placed 2 32 s1 (omega arith) in
      let lent : length (take (3 + k - 3) (drop 3 s2)) ≡ k = length-take-le (3 + k - 3) (drop 3 s2) (simp length-drop (omega arith)) ∙ k3 in
      let g2 : d ≡ digits_of k n = g ∙ ap (λ (l : List ℕ). digits_of (length (take (3 + k - 3) (drop 3 l))) n) e2 ∙ ap (λ (j : ℕ). digits_of j n) lent in
      let ld : length d ≡ k = ap length g2 ∙ length_digits decimal-digits k n in
      let l3 : length (placed 3 d s2) ≡ length s = length_placed 3 d s2 (omega arith) ∙ l2 in
      ap (λ (l : List ℕ). set (put_mid 3 (3 + k - 3) l d) (3 + k) 10) e2
      ∙ ap (λ (l : List ℕ). set l (3 + k) 10) (put_placed 3 (3 + k - 3) s2 d (ld ∙ sym k3))
      ∙ set_placed (3 + k) 10 (placed 3 d s2) (omega arith)
      ∙ line-written w s d n k e f room g2
      ∙ sym (into_room (answer_line w n) s (omega (arith, length-line w n e)))

-- ---- what is printed has 5 to 14 bytes

pub printed_least : (o : Outcome) → 5 ≤ length (printed o)
printed_least (value v) = omega (arith, length-line (111 ∷ 107 ∷ []) v refl, count_low 9 v)
printed_least (refused n) = omega (arith, length-line (110 ∷ 111 ∷ []) n refl, count_low 9 n)

pub printed_most : (o : Outcome) → length (printed o) ≤ 14
printed_most (value v) = omega (arith, length-line (111 ∷ 107 ∷ []) v refl, count_high 9 v)
printed_most (refused n) = omega (arith, length-line (110 ∷ 111 ∷ []) n refl, count_high 9 n)

-- so 14 bytes are room for every answer
pub printed_room : (o : Outcome) (s : List ℕ) → 14 ≤ length s → (printed_into (printed o) s ≡ front (printed o) s) × (filled (printed o) s ≡ length (printed o))
printed_room o s h =
    let room : length (printed o) ≤ length s = omega (arith, printed_most o) in
    (into_room (printed o) s room, filled_room (printed o) s room)
