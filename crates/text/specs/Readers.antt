-- Intermediate: the code's own terms, proved to come to the definitions of `model`.
-- What each reader of a line's arguments answers, by the words that follow it in the line.
use Rattle.std.specs.Prelude.{◌≡◌, List, [], ◌∷◌, ℕ, Option as Maybe, Some, None}
use Rattle.std.proofs.Math.Option.{Option, none, some}
use denote.Ref.{Bor}
use Rattle.model.specs.Lines.{and_then, numeral, change_in, origin_in}
use Rattle.model.specs.Requests.{named_origin, change_of}
use Rattle.model.specs.Revocation.{Change}
use Rattle.model.specs.declared.Change.{Change as ChangeBy}
use Rattle.model.specs.declared.Named.{Named}
use Rattle.model.specs.declared.Origin.{Origin}
use Rattle.text.specs.Parts.{after, past_word}

-- ---- what was read, as the definitions of lines say it

abbrev pub seen : {A : Type 0} → Maybe A → Option A
seen (Some a) = some a
seen None = none

-- a word cut off, before the words of the rest
abbrev pub words_of : Maybe (Bor (List ℕ) × Bor (List ℕ)) → List (List ℕ)
words_of (Some cut) = cut.0.now ∷ after 32 cut.1.now
words_of None = []

-- a number, and the words of the rest
abbrev pub number_of : Maybe (ℕ × Bor (List ℕ)) → Option (ℕ × List (List ℕ))
number_of (Some read) = some (read.0, after 32 read.1.now)
number_of None = none

abbrev pub name_of : Maybe Named → Option Origin
name_of (Some name) = some (named_origin name)
name_of None = none

abbrev pub named_of : Maybe (Named × Bor (List ℕ)) → Option (Origin × List (List ℕ))
named_of (Some read) = some (named_origin read.0, after 32 read.1.now)
named_of None = none

abbrev pub by_of : Maybe ChangeBy → Option Change
by_of (Some change) = some (change_of change)
by_of None = none

-- ---- what a list of words begins with, and the other words

abbrev pub first_number : List (List ℕ) → Option (ℕ × List (List ℕ))
first_number [] = none
first_number (w ∷ ws) = and_then (numeral w) (λ n. some (n, ws))

-- `role` or `pass` and its number
abbrev pub first_name : List (List ℕ) → Option (Origin × List (List ℕ))
first_name [] = none
first_name (kind ∷ ws) = and_then (first_number ws) (λ r. and_then (origin_in kind r.0) (λ o. some (o, r.1)))

-- a change, the last argument
abbrev pub last_change : List (List ℕ) → Option Change
last_change [] = none
last_change (w ∷ []) = change_in w
last_change (w ∷ more ∷ ws) = none

-- what a reader leaves is what follows the word that it read
abbrev pub Leaves : {A : Type 0} → List ℕ → Maybe (A × Bor (List ℕ)) → Type 0
Leaves s (Some read) = read.1.now ≡ past_word s
Leaves s None = Unit {0}

-- the same of a reader that reads two words
abbrev pub LeavesTwo : {A : Type 0} → List ℕ → Maybe (A × Bor (List ℕ)) → Type 0
LeavesTwo s (Some read) = read.1.now ≡ past_word (past_word s)
LeavesTwo s None = Unit {0}

-- a reader that reads only some numbers: what it reads is right
abbrev pub Short : List ℕ → Maybe (ℕ × Bor (List ℕ)) → Type 0
Short s (Some read) = (number_of (Some read) ≡ first_number (after 32 s)) × (read.1.now ≡ past_word s)
Short s None = Unit {0}
