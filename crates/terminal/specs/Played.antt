-- What the journal program makes of the bytes that it reads.
use Rattle.std.specs.Prelude.{◌≡◌, List, ℕ, length, take, Option, IfSome}
use Rattle.std.specs.Io.KnownBytes.{Appends}
use Rattle.masks.specs.Bytes.{front}
use Rattle.model.specs.Journal.{program}
use Rattle.terminal.specs.Transfer.{Transfers}
use Rattle.terminal.specs.declared.transfer.End.{End}
use Rattle.terminal.specs.declared.transfer.End.TheVariants.{Ended, Whole, Failed}
use Rattle.terminal.specs.declared.transfer.Transferred.{Transferred}
use Rattle.terminal.specs.declared.Played.{Played}

-- the program's answers to an input stand at the front of the output, and just they are what is to be written
abbrev pub Replies : (input before after : List ℕ) → Transferred → Type 0
Replies input before after written = (after ≡ front (program input) before) × Transfers (length (program input)) written

-- by how reading stopped: an input that could not be read to its end is not answered
abbrev pub Answers : End → (input before after : List ℕ) → Transferred → Type 0
Answers Ended input before after written = Replies input before after written
Answers Whole input before after written = Replies input before after written
Answers (Failed error) input before after written = (after ≡ before) × (written ≡ record { count = 0; end = Failed error })

-- up to 32,769 bytes are read, one above the limit, and just those that were read are answered
abbrev pub Plays : (room before after : List ℕ) → Played → Type 0
Plays room before after p =
    Transfers 32769 p.input × Answers p.input.end (take p.input.count room) before after p.output

-- where the reader was read to its end and the writer took all, it holds, after what it held, the program's answers to all that was
-- left to read; this speaks of readers and writers whose bytes are known
abbrev pub AnswersWhole : Played → (left held after : Option (List ℕ)) → Type 0
AnswersWhole p left held after = p.input.end ≡ Ended → p.output.end ≡ Whole → IfSome left (λ input. Appends held after (program input))
