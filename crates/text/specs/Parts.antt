-- Intermediate: the code's own terms, proved to come to the definitions of `model`.
-- A list of bytes by the part before its first separator and what follows that part.
use Rattle.std.specs.Prelude.{Bool, true, cond, List, [], ◌∷◌, ℕ, eqb, length, drop}
use Rattle.masks.specs.Bytes.{split}

-- the bytes before the first that equals b, or all of them
abbrev pub before : ℕ → List ℕ → List ℕ
before b [] = []
before b (x ∷ s) = let rest = before b s in cond (eqb x b) [] (x ∷ rest)

-- a word ends before these bytes: there are none, or a space comes first
abbrev pub ends_word : List ℕ → Bool
ends_word [] = true
ends_word (x ∷ s) = eqb x 32

-- the parts that follow a part, where s begins with the separator after it or is empty
abbrev pub after : ℕ → List ℕ → List (List ℕ)
after b [] = []
after b (x ∷ s) = split b s

-- the bytes that follow a word, where s begins with the separator before it or is empty
abbrev pub past_word : List ℕ → List ℕ
past_word [] = []
past_word (x ∷ s) = drop (length (before 32 s)) s
