-- Laws of the request words.
use mathlib.Core.Path.{◌≡◌, refl, sym, ◌∙◌}
use mathlib.Core.Bool.{Bool, true, false}
use mathlib.Core.List.{List, [], ◌∷◌}
use mathlib.Core.Option.{Option}
use Prim.Native.Nat.{ℕ, ◌+◌}
use Prim.Native.String.{String}
use lib.ListN.{drop}
use lib.Seq.{drop-drop}
use Rattle.buffers.proofs.Comparing.{same_eq}
use Rattle.masks.specs.Bytes.{bytes, same_bytes}
use Rattle.model.specs.Calls.{Call, enrol, found, grant, withdraw, appoint, dismiss, clock, allow, lend, hand, check, revoke, close, same}
use Rattle.model.specs.Lines.{Form, nth, context_in, of_numbers, forms, by_word}

-- a word that a test b finds to be q is looked up as q
pub hit : (w q : List ℕ) (b : Bool) (args : List (List ℕ)) (fs : List Form) (o : Option Call)
    → b ≡ same_bytes w q → b ≡ true → o ≡ by_word q args fs → o ≡ by_word w args fs
hit w q b args fs o e t h = rw (same_eq w q (sym e ∙ t)) h

-- one that the tests b1, b2, .. do not find spelt as the first forms is looked up in the others
abbrev word_of : List Form → List ℕ
word_of [] = []
word_of (f ∷ fs) = f.word

module _ (w : List ℕ) (args : List (List ℕ)) (fs : List Form) (o : Option Call) where
  miss : (n : ℕ) (b : Bool) → b ≡ same_bytes w (word_of (drop n fs)) → b ≡ false → o ≡ by_word w args (drop (n + 1) fs) → o ≡ by_word w args (drop n fs)
  miss n b e t h = first (drop n fs) e (rw (drop-drop 1 n fs) h)
    where
      first : (l : List Form) → b ≡ same_bytes w (word_of l) → o ≡ by_word w args (drop 1 l) → o ≡ by_word w args l
      first [] q r = r
      first (f ∷ l) q r = rw (by_word, sym q ∙ t) r

  module _ (b1 b2 b3 b4 b5 : Bool) (e1 : b1 ≡ same_bytes w (word_of fs)) (t1 : b1 ≡ false) (e2 : b2 ≡ same_bytes w (word_of (drop 1 fs))) (t2 : b2 ≡ false)
      (e3 : b3 ≡ same_bytes w (word_of (drop 2 fs))) (t3 : b3 ≡ false) (e4 : b4 ≡ same_bytes w (word_of (drop 3 fs))) (t4 : b4 ≡ false)
      (e5 : b5 ≡ same_bytes w (word_of (drop 4 fs))) (t5 : b5 ≡ false) where
    pub miss5 : o ≡ by_word w args (drop 5 fs) → o ≡ by_word w args fs
    miss5 h = miss 0 b1 e1 t1 (miss 1 b2 e2 t2 (miss 2 b3 e3 t3 (miss 3 b4 e4 t4 (miss 4 b5 e5 t5 h))))

    pub miss6 : (b6 : Bool) → b6 ≡ same_bytes w (word_of (drop 5 fs)) → b6 ≡ false → o ≡ by_word w args (drop 6 fs) → o ≡ by_word w args fs
    miss6 b6 e6 t6 h = miss5 (miss 5 b6 e6 t6 h)

-- ---- the words that only numbers follow

-- how many follow a word, and the call that they make
pub record Numbered : Type 0 where
  pub word : String
  pub arity : ℕ
  pub call : List ℕ → Call

abbrev plain : String → ℕ → (List ℕ → Call) → Numbered
plain w k f = record { word = w; arity = k; call = f }

abbrev pub numbered : List Numbered
numbered =
    plain "enrol" 2 (λ v. enrol (nth v 0) (nth v 1))
    ∷ plain "found" 5 (λ v. found (nth v 0) (nth v 1) (nth v 2) (nth v 3) (nth v 4))
    ∷ plain "grant" 2 (λ v. grant (nth v 0) (nth v 1))
    ∷ plain "withdraw" 2 (λ v. withdraw (nth v 0) (nth v 1))
    ∷ plain "appoint" 2 (λ v. appoint (nth v 0) (nth v 1))
    ∷ plain "dismiss" 2 (λ v. dismiss (nth v 0) (nth v 1))
    ∷ plain "clock" 1 (λ v. clock (nth v 0))
    ∷ plain "allow" 3 (λ v. allow (nth v 0) (nth v 1) (nth v 2))
    ∷ plain "lend" 3 (λ v. lend (nth v 0) (nth v 1) (nth v 2))
    ∷ plain "hand" 3 (λ v. hand (nth v 0) (nth v 1) (nth v 2))
    ∷ plain "check" 5 (λ v. check (nth v 0) (nth v 1) (context_in 2 v))
    ∷ plain "revoke" 2 (λ v. revoke (nth v 0) (nth v 1))
    ∷ plain "close" 1 (λ v. close (nth v 0))
    ∷ plain "same" 2 (λ v. same (nth v 0) (nth v 1))
    ∷ []

-- each of them asks for what its numbers say
abbrev pub AsksNumbers : List Numbered → Type 0
AsksNumbers [] = Unit {0}
AsksNumbers (w ∷ ws) = ((args : List (List ℕ)) → by_word (bytes w.word) args forms ≡ of_numbers w.arity w.call args) × AsksNumbers ws

pub asks-numbers : AsksNumbers numbered
unfolding forms
asks-numbers = (
  λ args. refl,
  (
    λ args. refl,
    (
      λ args. refl,
      (
        λ args. refl,
        (
          λ args. refl,
          (
            λ args. refl,
            (
              λ args. refl,
              (
                λ args. refl,
                (λ args. refl, (λ args. refl, (λ args. refl, (λ args. refl, (λ args. refl, (λ args. refl, tt)))))),
              ),
            ),
          ),
        ),
      ),
    ),
  ),
)
