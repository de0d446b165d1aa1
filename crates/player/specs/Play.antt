-- What a journal leaves in the output that it is lent: 163,840 bytes are room for the answers to 32,768
-- bytes of input, five for each.
use Rattle.std.specs.Prelude.{cond, List, ℕ, leb, length}
use Rattle.masks.specs.Bytes.{front}
use Rattle.model.specs.declared.Register.{Register}
use Rattle.model.specs.Journal.{journal}

-- how many bytes are printed
unfoldable pub journal_length : Register → List ℕ → List ℕ → ℕ
journal_length r input out = cond (leb 163840 (length out)) (length (journal r input)) 0

-- the output: the journal's text at its front, or as it was where there is no room
unfoldable pub journal_buffer : Register → List ℕ → List ℕ → List ℕ
journal_buffer r input out = cond (leb 163840 (length out)) (front (journal r input) out) out
