-- How much a journal prints: at most five bytes for each byte of its input. An empty line takes one byte and gets `no 1`.
use mathlib.Core.Path.{◌≡◌, refl, sym, ap, ◌∙◌}
use mathlib.Core.Bool.{Bool, true, false, cond, ◌&&◌}
use mathlib.Core.List.{List, [], ◌∷◌}
use mathlib.Core.Option.{Option, none}
use Prim.Native.Nat.{ℕ, suc, ◌+◌, ◌*◌, ◌≤◌}
use native.Mathlib.Decide.{dec_le}
use native.Mathlib.Omega.{arith}
use lib.Dec.{T, eqb, ltb, ltb→lt}
use lib.ListN.{length, drop, length-append}
use Rattle.buffers.proofs.Comparing.{same_long}
use Rattle.masks.specs.Bytes.{onto, split}
use Rattle.masks.proofs.Truth.{and_l, and_r}
use Rattle.model.specs.declared.Register.{Register}
use Rattle.model.specs.Rulings.{refused}
use Rattle.model.specs.Calls.{Call}
use Rattle.model.specs.Lines.{Form, forms, by_word, request, parse, decimal, answer_line, printed}
use Rattle.model.specs.Journal.{requested, line_effect, unended, transcript}
use Rattle.text.specs.Parts.{before, after}
use Rattle.text.proofs.PartLaws.{length_before, split-before}
use Rattle.answers.proofs.AnswerLaws.{printed_most}

-- ---- a line of at most three bytes is no request

-- every word has four letters at least
abbrev long : List Form → Bool
long [] = true
long (f ∷ fs) = ltb 3 (length f.word) && long fs

short_none : (w : List ℕ) (args : List (List ℕ)) (fs : List Form) → length w ≤ 3 → T (long fs) → by_word w args fs ≡ none
short_none w args [] l t = refl
short_none w args (f ∷ fs) l t =
    ap (λ (b : Bool). elim b as (λ x. Option Call) [ true ↦ f.read args | false ↦ by_word w args fs ])
    (same_long w f.word (λ e. absurd (omega (arith, ltb→lt 3 (length f.word) (and_l (ltb 3 (length f.word)) (long fs) t)))))
    ∙ short_none w args fs l (and_r (ltb 3 (length f.word)) (long fs) t)

pub parse_short : (s : List ℕ) → length s ≤ 3 → parse s ≡ none
unfolding parse forms
parse_short s l =
    ap request (split-before 32 s)
    ∙ short_none (before 32 s) (after 32 (drop (length (before 32 s)) s)) forms (omega (arith, l, length_before 32 s)) tt

-- ---- one line, with its line feed

refused_size : length (printed (refused 1)) ≡ 5
unfolding answer_line decimal
refused_size = refl

line_most : (r : Register) (w : List ℕ) → length (printed (line_effect r w).answer) ≤ 5 * (length w + 1)
unfolding line_effect
line_most r w = cases (dec_le (length w) 1)
  where
    cases : Dec (length w ≤ 1) → length (printed (requested r (parse w)).answer) ≤ 5 * (length w + 1)
    cases (yes l) = omega (arith, ap (λ (o : Option Call). length (printed (requested r o).answer)) (parse_short w (omega (arith, l))) ∙ refused_size)
    cases (no g) = omega (arith, printed_most (requested r (parse w)).answer)

-- ---- the whole input

-- the bytes of the parts, and of the line feeds between them
abbrev span : List (List ℕ) → ℕ
span [] = 0
span (w ∷ []) = length w
span (w ∷ v ∷ ws) = length w + 1 + span (v ∷ ws)

span_split : (b : ℕ) (s : List ℕ) → span (split b s) ≡ length s
span_split b [] = refl
span_split b (x ∷ s) =
    ap (λ (ws : List (List ℕ)). span (cond (eqb x b) ([] ∷ ws) (onto x ws))) (split-before b s)
    ∙ cases (eqb x b) (before b s) (after b (drop (length (before b s)) s)) (sym (ap span (split-before b s)) ∙ span_split b s)
  where
    cases : (t : Bool) (w : List ℕ) (ws : List (List ℕ)) → span (w ∷ ws) ≡ length s → span (cond t ([] ∷ w ∷ ws) ((x ∷ w) ∷ ws)) ≡ suc (length s)
    cases true w ws h = omega (arith, h)
    cases false w [] h = omega (arith, h)
    cases false w (v ∷ ws) h = omega (arith, h)

parts_most : (r : Register) (ws : List (List ℕ)) → length (transcript r ws) ≤ 5 * span ws
unfolding transcript
parts_most r [] = omega arith
parts_most r (w ∷ []) = last w
  where
    last : (w : List ℕ) → length (unended w) ≤ 5 * length w
    last [] = omega arith
    last (b ∷ w) = omega (arith, refused_size)
parts_most r (w ∷ v ∷ ws) =
    simp length-append (omega (arith, line_most r w, parts_most (line_effect r w).after (v ∷ ws)))

pub transcript_most : (r : Register) (s : List ℕ) → length (transcript r (split 10 s)) ≤ 5 * length s
transcript_most r s = omega (arith, parts_most r (split 10 s), span_split 10 s)
