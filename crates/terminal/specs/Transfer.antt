-- How many bytes a transfer moves, and why it stops.
use Rattle.std.specs.Prelude.{◌≡◌, ℕ, ◌≤◌, ◌<◌, List, Option, Result, Ok, Err, ⊤}
use Rattle.std.specs.Io.KnownBytes.{IsAtEnd}
use Rattle.terminal.specs.declared.transfer.End.{End}
use Rattle.terminal.specs.declared.transfer.End.TheVariants.{Ended, Whole, Failed}
use Rattle.terminal.specs.declared.transfer.Transferred.{Transferred}

-- n of the lent bytes were moved: all of them where the transfer is called whole, fewer where the input ended
abbrev pub Ends : (lent n : ℕ) → End → Type 0
Ends lent n Ended = n < lent
Ends lent n Whole = n ≡ lent
Ends lent n (Failed error) = n ≤ lent

-- one call moves no more than it is lent, or it is the end of what was lent
abbrev pub Moves : ℕ → Result ℕ End → Type 0
Moves lent (Ok k) = k ≤ lent
Moves lent (Err end) = Ends lent 0 end

-- where a transfer says that the input ended, no known byte is left
abbrev pub EndsAtEnd : End → Option (List ℕ) → Type 0
EndsAtEnd Ended left = IsAtEnd left
EndsAtEnd Whole left = ⊤
EndsAtEnd (Failed error) left = ⊤

abbrev pub Transfers : ℕ → Transferred → Type 0
Transfers lent t = Ends lent t.count t.end

-- how many bytes one call moved
abbrev pub moved : Result ℕ End → ℕ
moved (Ok k) = k
moved (Err end) = 0

-- where a call says that the input ended, no known byte is left
abbrev pub StopsAtEnd : Result ℕ End → Option (List ℕ) → Type 0
StopsAtEnd (Ok k) left = ⊤
StopsAtEnd (Err end) left = EndsAtEnd end left
