-- Laws of writing into a buffer and into parts of it.
use mathlib.Core.Path.{◌≡◌}
use mathlib.Core.List.{List}
use Prim.Native.Nat.{ℕ, ◌≤◌, ◌<◌}
use borrow.Author.Tests.{le-leb, lt-leb}
use lib.ListN.{length}
use Rattle.masks.specs.Bytes.{front}
use Rattle.answers.specs.Writing.{printed_into, filled}

-- ---- room for a text

module _ (text s : List ℕ) (h : length text ≤ length s) where
  pub into_room : printed_into text s ≡ front text s
  unfolding printed_into
  into_room = rw (le-leb _ _ h)

  pub filled_room : filled text s ≡ length text
  unfolding filled
  filled_room = rw (le-leb _ _ h)

module _ (text s : List ℕ) (h : length s < length text) where
  pub into_short : printed_into text s ≡ s
  unfolding printed_into
  into_short = rw (lt-leb _ _ h)

  pub filled_short : filled text s ≡ 0
  unfolding filled
  filled_short = rw (lt-leb _ _ h)
