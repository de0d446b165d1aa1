-- A journal over the register that was saved.
use Rattle.std.specs.Prelude.{cond, List, ℕ}
use Rattle.model.specs.Image.{decode, loads}
use Rattle.player.specs.Play.{journal_length, journal_buffer}

-- how many bytes are printed; none for bytes that are no image
unfoldable pub played_length : (image lines out : List ℕ) → ℕ
played_length image lines out = cond (loads image) (journal_length (decode image) lines out) 0

-- the output after it
unfoldable pub played_buffer : (image lines out : List ℕ) → List ℕ
played_buffer image lines out = cond (loads image) (journal_buffer (decode image) lines out) out
