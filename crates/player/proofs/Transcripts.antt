-- What a journal prints for the rest s of its input, n being where the next line feed is (`count_before(.., 10)`).
use mathlib.Core.Path.{◌≡◌, refl, sym, ap, ap₂, ◌∙◌}
use mathlib.Core.List.{List, [], ◌∷◌, ◌++◌}
use Prim.Native.Nat.{ℕ, ◌+◌, ◌<◌, ◌≤◌}
use native.Mathlib.Numerals.{add-one}
use native.Mathlib.Omega.{arith}
use lib.ListN.{length, take, drop}
use lib.Seq.{take_all}
use Rattle.masks.specs.Bytes.{split}
use Rattle.model.specs.Rulings.{refused}
use Rattle.model.specs.Lines.{printed}
use Rattle.model.specs.Journal.{line_effect, unended, transcript}
use Rattle.model.specs.declared.Register.{Register}
use Rattle.text.specs.Parts.{before, after}
use Rattle.text.proofs.PartLaws.{take-before, split-before, after_more, after_end}

-- a line before other parts
transcript_cons : (r : Register) (line w : List ℕ) (ws more : List (List ℕ)) → ws ≡ w ∷ more
    → transcript r (line ∷ ws) ≡ printed (line_effect r line).answer ++ transcript (line_effect r line).after ws
unfolding transcript
transcript_cons r line w ws more e = rw e

-- something follows the last line feed
unended_some : (s : List ℕ) → 0 < length s → unended s ≡ printed (refused 1)
unended_some [] h = absurd (omega arith)
unended_some (b ∷ s) h = refl

module _ (r : Register) (s : List ℕ) (n : ℕ) (e : n ≡ length (before 10 s)) where
  parts : {w : List ℕ} {ws : List (List ℕ)} → take n s ≡ w → after 10 (drop n s) ≡ ws → split 10 s ≡ w ∷ ws
  parts {w = w} {ws = ws} f g =
      split-before 10 s
      ∙ ap₂ (λ (v : List ℕ) (vs : List (List ℕ)). v ∷ vs)
      (sym (take-before 10 s) ∙ ap (λ (k : ℕ). take k s) (sym e) ∙ f)
      (ap (λ (k : ℕ). after 10 (drop k s)) (sym e) ∙ g)

  -- a line that has its line feed
  pub transcript-line : n < length s →
      let effect = line_effect r (take n s) in
      transcript r (split 10 s) ≡ printed effect.answer ++ transcript effect.after (split 10 (drop (n + 1) s))
  transcript-line h =
      ap (transcript r) (parts refl (rw add-one (after_more 10 s n h)))
      ∙ transcript_cons r (take n s) _ (split 10 (drop (n + 1) s)) _ (split-before 10 (drop (n + 1) s))

  -- what follows the last line feed
  pub transcript_last : n ≡ length s → 0 < length s → transcript r (split 10 s) ≡ printed (refused 1)
  unfolding transcript
  transcript_last whole some =
      let all : length s ≤ n = omega arith in
      ap (transcript r) (parts (take_all n s all) (after_end 10 s n all)) ∙ unended_some s some

-- nothing is left
pub transcript_done : (r : Register) (s : List ℕ) → length s ≡ 0 → transcript r (split 10 s) ≡ []
unfolding transcript
transcript_done r [] h = refl
transcript_done r (b ∷ s) h = absurd (omega (arith, h))
