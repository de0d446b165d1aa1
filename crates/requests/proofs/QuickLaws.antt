-- The quick reader of checks: a line that begins with the word and a space, and five numbers after that.
use mathlib.Core.Path.{◌≡◌, sym, ap, ◌∙◌}
use mathlib.Core.Bool.{Bool, true}
use mathlib.Core.List.{List, [], ◌∷◌, ◌++◌}
use mathlib.Core.Option.{some}
use Prim.Native.Nat.{ℕ, suc, ◌-◌}
use lib.ListN.{length, take, drop, take-append-drop}
use Rattle.buffers.proofs.Parts.{tail}
use Rattle.buffers.proofs.Comparing.{same_eq}
use Rattle.masks.specs.Bytes.{bytes, same_bytes}
use Rattle.model.specs.Calls.{check}
use Rattle.model.specs.State.{context_of}
use Rattle.model.specs.Lines.{nth, context_in, numbers, of_numbers, forms, parse}
use Rattle.text.specs.Parts.{after}
use Rattle.text.specs.Readers.{first_number}
use Rattle.text.proofs.PartLaws.{after_empty}
use Rattle.text.proofs.NumberLaws.{numbers_front}

-- the words of a line that begins so
check_parse : (line : List ℕ) → line ≡ bytes "check " ++ drop 6 line
    → parse line ≡ of_numbers 5 (λ v. check (nth v 0) (nth v 1) (context_in 2 v)) (after 32 (drop 5 line))
unfolding parse forms
check_parse line e = ap parse e ∙ ap (λ (l : List ℕ). of_numbers 5 (λ v. check (nth v 0) (nth v 1) (context_in 2 v)) (after 32 (drop 5 l))) (sym e)

number_then : (k n : ℕ) (ws rest : List (List ℕ)) (v : List ℕ) → some (n, rest) ≡ first_number ws → numbers k rest ≡ some v → numbers (suc k) ws ≡ some (n ∷ v)
number_then k n ws rest v e h = numbers_front k ws ∙ rw (sym e, h)

-- the whole line: the test b of its front, the five numbers, and the rest s after them
module _ (line : List ℕ) (b : Bool) (front : b ≡ same_bytes (take 6 line) (bytes "check ")) (passed : b ≡ true) where
  pub check_right : (session permission hour place device : ℕ) (w1 w2 w3 w4 : List (List ℕ)) (s : List ℕ)
      → some (session, w1) ≡ first_number (after 32 (take (length line - 5) (drop 5 line)))
      → some (permission, w2) ≡ first_number w1
      → some (hour, w3) ≡ first_number w2
      → some (place, w4) ≡ first_number w3
      → some (device, after 32 s) ≡ first_number w4
      → length s ≡ 0
      → parse line ≡ some (check session permission (context_of hour place device))
  check_right session permission hour place device w1 w2 w3 w4 s e1 e2 e3 e4 e5 h =
      let same : take 6 line ≡ bytes "check " = same_eq (take 6 line) (bytes "check ") (sym front ∙ passed) in
      let begins : line ≡ bytes "check " ++ drop 6 line = sym (take-append-drop 6 line) ∙ ap (λ (l : List ℕ). l ++ drop 6 line) same in
      let all : numbers 5 (after 32 (drop 5 line)) ≡ some (session ∷ permission ∷ hour ∷ place ∷ device ∷ []) =
      number_then 4 session (after 32 (drop 5 line)) w1 _ (rw tail at e1) (number_then 3 permission w1 w2 _ e2 (number_then 2 hour w2 w3 _ e3 (number_then 1 place w3 w4 _ e4
      (number_then 0 device w4 (after 32 s) _ e5 (ap (numbers 0) (after_empty 32 s h)))))) in
      check_parse line begins ∙ rw all
