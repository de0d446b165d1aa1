-- Intermediate: the code's own terms, proved to come to the definitions of `model`.
-- What the quick reader of checks says of a line.
use Rattle.std.specs.Prelude.{◌≡◌, List, ℕ, Option, Some, None}
use Rattle.std.proofs.Math.Option.{some}
use Rattle.model.specs.Calls.{check}
use Rattle.model.specs.Lines.{parse}
use Rattle.model.specs.declared.Context.{Context}

-- the line is that check, or nothing is said
abbrev pub Quickly : List ℕ → Option (ℕ × ℕ × Context) → Type 0
Quickly line (Some read) = parse line ≡ some (check read.0 read.1 read.2)
Quickly line None = Unit {0}
