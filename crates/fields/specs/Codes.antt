-- Intermediate: the code's own terms, proved to come to the definitions of `model`.
-- What the code's codings mean, and the fields that a map of fields says are there.
use Rattle.std.specs.Prelude.{Bool, true, ◌&&◌, List, [], ◌∷◌, ◌++◌, ℕ, zero, suc, ◌/◌, ◌%◌, ◌^◌, ◌<◌, leb, get_or}
use Rattle.model.specs.Fields.{Coding as Meant, plain, bitmap, mark, width, written}
use Rattle.fields.specs.declared.coding.Coding.{Coding}
use Rattle.fields.specs.declared.coding.Coding.TheVariants.{Number, Map, Mark}

-- all items are bytes
abbrev pub Bytes : List ℕ → Type 0
Bytes s = (i : ℕ) → get_or s i 0 < 256

abbrev pub coding_of : Coding → Meant
coding_of (Number w) = plain w
coding_of (Map w) = bitmap w
coding_of Mark = mark

abbrev pub codings : List Coding → List Meant
codings [] = []
codings (c ∷ cs) = coding_of c ∷ codings cs

-- no field has more than 8 bytes
abbrev pub narrow : List Coding → Bool
narrow [] = true
narrow (c ∷ cs) = leb (width (coding_of c)) 8 && narrow cs

-- ---- the fields that a map says are there

abbrev pub write_bit : ℕ → Meant → ℕ → List ℕ
write_bit zero c v = []
write_bit (suc b) c v = written c v

abbrev pub write_marked : ℕ → List Meant → List ℕ → List ℕ
write_marked m [] vs = []
write_marked m (c ∷ cs) [] = []
write_marked m (c ∷ cs) (v ∷ vs) = write_bit (m % 2) c v ++ write_marked (m / 2) cs vs

-- ---- what was read is in its range

-- a value that the coding c can hold
abbrev pub Fitting : Meant → ℕ → Type 0
Fitting (plain w) v = v < 256 ^ w
Fitting (bitmap w) v = v < 256 ^ w
Fitting mark v = v < 2

abbrev pub Fitted : List Meant → List ℕ → Type 0
Fitted cs f = (i : ℕ) → Fitting (get_or cs i mark) (get_or f i 0)
