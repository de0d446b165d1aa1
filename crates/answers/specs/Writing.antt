-- Intermediate: the code's own terms, proved to come to the definitions of `model`.
-- What a writer of text does to the buffer that it is lent.
use Rattle.std.specs.Prelude.{cond, List, ℕ, leb, length}
use Rattle.masks.specs.Bytes.{front}

-- the buffer s with the text at its front; where it has no room for the text, it stays as it was
unfoldable pub printed_into : List ℕ → List ℕ → List ℕ
printed_into text s = cond (leb (length text) (length s)) (front text s) s

-- how many bytes of s this fills
unfoldable pub filled : List ℕ → List ℕ → ℕ
filled text s = cond (leb (length text) (length s)) (length text) 0
