-- Document 01, "Journal and door": the C entry point, which the document calls the door. Its buffer is the document's area.
use Rattle.std.specs.Prelude.{true, false, cond, List, [], ◌∷◌, ◌++◌, ℕ, ◌+◌, leb, ℤ, pos, neg_ℤ, length}
use Rattle.std.proofs.Math.Option.{Option, none, some}
use Rattle.masks.specs.Bytes.{bytes_of, front, split}
use Rattle.model.specs.declared.Register.{Register}
use Rattle.model.specs.Rulings.{Outcome, value, refused}
use Rattle.model.specs.Calls.{Call, step}
use Rattle.model.specs.Image.{encode, decode, loads}
use Rattle.model.specs.Lines.{parse}

-- a refusal, or a value and the new image
pub data Return : Type 0 where
  declined : ℕ → Return
  done : ℕ → List ℕ → Return

-- "one line with its line feed (any other bytes get 1)": the parts between line feeds are the line and nothing
abbrev pub sole_line : List (List ℕ) → Option Call
sole_line [] = none
sole_line (line ∷ []) = none
sole_line (line ∷ [] ∷ []) = parse line
sole_line (line ∷ [] ∷ next ∷ more) = none
sole_line (line ∷ (b ∷ rest) ∷ more) = none

-- "16 (the area is shorter than the new image and 2 bytes)"
abbrev pub fitted : ℕ → ℕ → List ℕ → Return
fitted room v image = cond (leb (length image + 2) room) (done v image) (declined 16)

abbrev pub answered : ℕ → Outcome → Register → Return
answered room (value v) after = fitted room v (encode after)
answered room (refused n) after = declined n

abbrev pub called : ℕ → Register → Option Call → Return
called room r none = declined 1
called room r (some c) = answered room (step r c).answer (step r c).after

-- "Order: 14, 1, the call's own, 16"
unfoldable pub entry : List ℕ → List ℕ → ℕ → Return
entry image line room =
    elim (loads image) [ true ↦ called room (decode image) (sole_line (split 10 line)) | false ↦ declined 14 ]

-- "It returns the value, or the refusal as a negative number"
abbrev pub returned : Return → ℤ
returned (declined n) = neg_ℤ (pos n)
returned (done v image) = pos v

-- "on acceptance the area starts with the new image's length (2 bytes) and the image, and its further bytes are untouched"
abbrev pub buffer_after : Return → List ℕ → List ℕ
buffer_after (declined n) buffer = buffer
buffer_after (done v image) buffer = front (bytes_of 2 (length image) ++ image) buffer
