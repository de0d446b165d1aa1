-- Intermediate: the code's own terms, proved to come to the definitions of `model`.
-- The first of a list of guards that applies, as a number; 0 if none does.
use Rattle.std.specs.Prelude.{Bool, true, cond, ◌&&◌, List, [], ◌∷◌, ℕ, suc, ltb, ⊤, Result, Ok, Err}
use Rattle.model.specs.Rulings.{Guard, applies, number}
use Rattle.model.specs.Requests.{refusal_number}
use Rattle.model.specs.declared.Refusal.{Refusal}

-- what the guards of a call say: no refusal, or the document's number of one
abbrev pub guarded : Result ⊤ Refusal → ℕ
guarded (Ok u) = 0
guarded (Err why) = refusal_number why

unfoldable pub first_number : List Guard → ℕ
first_number [] = 0
first_number (g ∷ gs) = cond (applies g) (number g) (first_number gs)

-- every refusal has a number of its own, which is not 0
abbrev pub numbered : List Guard → Bool
numbered [] = true
numbered (g ∷ gs) = ltb 0 (number g) && numbered gs

-- one more, below a limit
unfoldable pub raised_of : ℕ → ℕ → ℕ
raised_of x limit = cond (ltb x limit) (suc x) x
