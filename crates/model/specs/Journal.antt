-- Document 01, "Journal and door": the journal program.
use Rattle.std.specs.Prelude.{true, false, List, [], ◌∷◌, ◌++◌, ℕ, leb, length}
use Rattle.std.proofs.Math.Option.{Option, none, some}
use Rattle.masks.specs.Bytes.{split}
use Rattle.model.specs.declared.Register.{Register}
use Rattle.model.specs.State.{fresh}
use Rattle.model.specs.Rulings.{Effect, refused}
use Rattle.model.specs.Calls.{Call, step}
use Rattle.model.specs.Lines.{parse, printed}

-- "A line that yields no request gets 1."
abbrev pub requested : Register → Option Call → Effect Register
requested r none = record { answer = refused 1; after = r }
requested r (some c) = step r c

unfoldable pub line_effect : Register → List ℕ → Effect Register
line_effect r line = requested r (parse line)

-- what follows the last line feed: "So does a last line without a line feed."
abbrev pub unended : List ℕ → List ℕ
unended [] = []
unended (b ∷ line) = printed (refused 1)

-- the parts of the input between line feeds: all but the last are lines
unfoldable pub transcript : Register → List (List ℕ) → List ℕ
transcript r [] = []
transcript r (line ∷ []) = unended line
transcript r (line ∷ next ∷ more) =
    printed (line_effect r line).answer ++ transcript (line_effect r line).after (next ∷ more)

-- "Above 32,768 bytes it prints just no 1."
unfoldable pub journal : Register → List ℕ → List ℕ
journal r input = elim (leb (length input) 32768) [ true ↦ transcript r (split 10 input) | false ↦ printed (refused 1) ]

-- "The journal program reads standard input, starts fresh and prints .."
abbrev pub program : List ℕ → List ℕ
program input = journal fresh input
