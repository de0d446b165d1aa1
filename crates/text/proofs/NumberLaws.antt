-- Laws of numbers in a line.
use mathlib.Core.Path.{◌≡◌, refl, sym, ap, ◌∙◌}
use mathlib.Core.Bool.{cond, ◌&&◌}
use mathlib.Core.List.{List, [], ◌∷◌, ◌++◌, append-nil}
use mathlib.Core.Option.{Option, none, some}
use Prim.Native.Nat.{ℕ, suc, ◌+◌, ◌-◌, ◌*◌, ◌≤◌, ◌<◌}
use native.Mathlib.Numerals.{add-one}
use native.Mathlib.Omega.{arith}
use lib.ListN.{length, take, drop, get_or, set}
use lib.Seq.{drop-cons, take-suc-set, append_snoc, take_all}
use Rattle.model.specs.Rules.{bits}
use Rattle.model.specs.Lines.{and_then, is_digit, digits, numbers}
use Rattle.text.specs.Parts.{after}
use Rattle.text.specs.Readers.{first_number}
use Rattle.text.proofs.PartLaws.{after_empty, after_word}

-- the digits of w from byte i on
pub digits_turn : (x : ℕ) (w : List ℕ) (i : ℕ) → i < length w
    → digits x (drop i w)
    ≡ cond (is_digit (get_or w i 0) && bits 32 (x * 10 + (get_or w i 0 - 48))) (digits (x * 10 + (get_or w i 0 - 48)) (drop (i + 1) w)) none
digits_turn x w i h = rw (add-one, drop-cons w i 0)

-- ---- exactly k numbers, those of f before byte i read

abbrev pub prepend : List ℕ → Option (List ℕ) → Option (List ℕ)
prepend got none = none
prepend got (some rest) = some (got ++ rest)

pub prepend_nil : (o : Option (List ℕ)) → prepend [] o ≡ o
prepend_nil none = refl
prepend_nil (some rest) = refl

pub numbers_front : (k : ℕ) (ws : List (List ℕ)) → numbers (suc k) ws ≡ and_then (first_number ws) (λ r. and_then (numbers k r.1) (λ rest. some (r.0 ∷ rest)))
numbers_front k [] = refl
numbers_front k (w ∷ ws) = grind arith

module _ (k i : ℕ) (f : List ℕ) (ws : List (List ℕ)) (h : i < k) where
  numbers-step : numbers (k - i) ws ≡ and_then (first_number ws) (λ r. and_then (numbers (k - (i + 1)) r.1) (λ rest. some (r.0 ∷ rest)))
  numbers-step = let e : k - i ≡ suc (k - (i + 1)) = omega arith in rw e (numbers_front (k - (i + 1)) ws)

  pub numbers_stop : none ≡ first_number ws → none ≡ prepend (take i f) (numbers (k - i) ws)
  numbers_stop e = rw (numbers-step, sym e)

  pub numbers_turn : length f ≡ k → (n : ℕ) (rest : List (List ℕ)) → some (n, rest) ≡ first_number ws
      → prepend (take (i + 1) (set f i n)) (numbers (k - (i + 1)) rest) ≡ prepend (take i f) (numbers (k - i) ws)
  numbers_turn l n rest e = cases (numbers (k - (i + 1)) rest) ∙ rw (numbers-step, sym e)
    where
      cases : (o : Option (List ℕ)) → prepend (take (i + 1) (set f i n)) o ≡ prepend (take i f) (and_then o (λ r. some (n ∷ r)))
      cases none = refl
      cases (some r) =
          rw add-one (ap some (ap (λ (x : List ℕ). x ++ r) (take-suc-set f i n (omega arith)) ∙ append_snoc (take i f) n r))

-- the numbers end where the line does
module _ (k i : ℕ) (f s : List ℕ) (h : k ≤ i) (l : length f ≤ i) where
  pub numbers_done : length s ≡ 0 → prepend (take i f) (numbers (k - i) (after 32 s)) ≡ some f
  numbers_done e = let z : k - i ≡ 0 = omega arith in rw (z, after_empty 32 s e, take_all i f l) (ap some (append-nil f))

  pub numbers_left : (length s ≡ 0 → ⊥) → prepend (take i f) (numbers (k - i) (after 32 s)) ≡ none
  numbers_left e = let z : k - i ≡ 0 = omega arith in rw (z, after_word 32 s e)
