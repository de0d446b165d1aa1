-- Worked cases of journal lines: which calls they are, and what is printed for them. The calls and outputs were worked out
-- from document 01 by hand. `proofs/JournalCases.antt` proves them.
use Rattle.std.specs.Prelude.{◌≡◌, List, [], ◌∷◌, ◌++◌, ℕ, replicate}
use Rattle.std.proofs.Math.Option.{Option, some}
use Prim.Native.String.{String}
use Rattle.masks.specs.Bytes.{bytes}
use Rattle.model.specs.declared.Origin.TheVariants.{Role as ofRole, Capability as ofCapability}
use Rattle.model.specs.State.{context_of, plan_of}
use Rattle.model.specs.Revocation.{raise, lower}
use Rattle.model.specs.Calls.{Call, enrol, found, grant, withdraw, appoint, dismiss, clock, create, allow, lend, hand, opening, check, amend, revoke, close, same}
use Rattle.model.specs.Lines.{parse}
use Rattle.model.specs.Journal.{program}

-- ---- a line and the call that it is

infix 68 ◌means◌
pub data Reading : Type 0 where
  ◌means◌ : String → Call → Reading

abbrev pub parsed : List Reading → List (Option Call)
parsed [] = []
parsed ((t means c) ∷ xs) = parse (bytes t) ∷ parsed xs

abbrev pub meant : List Reading → List (Option Call)
meant [] = []
meant ((t means c) ∷ xs) = some c ∷ meant xs

-- the seventeen words; no two arguments of a line are alike, so that each shows where it belongs
abbrev pub readings : List Reading
readings =
    "enrol 3 2" means enrol 3 2
    ∷ "found 5 4 3 2 1" means found 5 4 3 2 1
    ∷ "grant 2 1" means grant 2 1
    ∷ "withdraw 2 1" means withdraw 2 1
    ∷ "appoint 2 1" means appoint 2 1
    ∷ "dismiss 2 1" means dismiss 2 1
    ∷ "clock 4294967295" means clock 4294967295
    ∷ "create 1 role 2 3 4 5 6 7 8 9 10 11 12 13" means create 1 (ofRole 2) (context_of 3 4 5) (plan_of 6 7 8 9 10 11 12 13)
    ∷ "create 1 pass 2 3 4 5 6 7 8 9 10 11 12 13" means create 1 (ofCapability 2) (context_of 3 4 5) (plan_of 6 7 8 9 10 11 12 13)
    ∷ "allow 3 2 1" means allow 3 2 1
    ∷ "lend 3 2 1" means lend 3 2 1
    ∷ "hand 3 2 1" means hand 3 2 1
    ∷ "open 1 2 role 3 4 5 6" means opening 1 2 (ofRole 3) (context_of 4 5 6)
    ∷ "open 1 2 pass 3 4 5 6" means opening 1 2 (ofCapability 3) (context_of 4 5 6)
    ∷ "check 1 2 3 4 5" means check 1 2 (context_of 3 4 5)
    ∷ "amend 3 2 1" means amend 3 2 (raise 1)
    ∷ "amend 3 2 -1" means amend 3 2 (lower 1)
    ∷ "revoke 2 1" means revoke 2 1
    ∷ "close 1" means close 1
    ∷ "same 2 1" means same 2 1
    ∷ []

-- ---- a line and the line that is printed for it

infix 68 ◌prints◌
pub data Line : Type 0 where
  ◌prints◌ : String → String → Line

-- a text with its line feed
abbrev pub line : String → List ℕ
line t = bytes t ++ (10 ∷ [])

abbrev pub typed : List Line → List ℕ
typed [] = []
typed ((t prints a) ∷ xs) = line t ++ typed xs

abbrev pub shown : List Line → List ℕ
shown [] = []
shown ((t prints a) ∷ xs) = line a ++ shown xs

-- user 3, appointed to role 1, makes capability 0 with use limit 2
abbrev pub prologue : List Line
prologue =
    "enrol 3 0" prints "ok 0"
    ∷ "found 1 0 16777215 65535 65535" prints "ok 0"
    ∷ "grant 1 0" prints "ok 0"
    ∷ "appoint 3 1" prints "ok 0"
    ∷ "create 3 role 1 9 0 0 0 100 2 1 1 16777215 65535 65535" prints "ok 0"
    ∷ []

-- the journal program, given the lines, prints their answers
pub record Played (xs : List Line) : Type 0 where
  pub played : program (typed xs) ≡ shown xs

pub record JournalCases : Type 0 where
  -- each word with its arguments in their order
  pub words : parsed readings ≡ meant readings
  -- the largest number is read, and is no user; one more is no number
  pub largest : Played ("enrol 4294967295 0" prints "no 2" ∷ "enrol 4294967296 0" prints "no 1" ∷ [])
  -- a number has no zeros before it
  pub leading_zero : Played ("enrol 03 0" prints "no 1" ∷ "enrol 3 00" prints "no 1" ∷ "enrol 3 0" prints "ok 0" ∷ [])
  -- a minus is for amend's change alone, and not before 0
  pub minus : Played (prologue
      ++ ("amend 3 0 -0" prints "no 1"
      ∷ "amend 3 0 0" prints "no 4"
      ∷ "amend 3 0 -01" prints "no 1"
      ∷ "amend 3 0 -1" prints "ok 1"
      ∷ "amend 3 0 1" prints "ok 2"
      ∷ "amend 3 -0 1" prints "no 1"
      ∷ "clock -1" prints "no 1"
      ∷ []))
  -- dismiss names the user first: user 1 is not there
  pub user_first : Played (prologue
      ++ ("dismiss 1 3" prints "no 3"
      ∷ "dismiss 3 1" prints "ok 0"
      ∷ "dismiss 3 1" prints "no 4"
      ∷ []))
  -- no request: spaces too many, arguments too few or too many, no word of the journal; nothing is changed by them
  pub malformed : Played ("" prints "no 1"
      ∷ " enrol 3 0" prints "no 1"
      ∷ "enrol  3 0" prints "no 1"
      ∷ "enrol 3 0 " prints "no 1"
      ∷ "enrol 3" prints "no 1"
      ∷ "enrol 3 0 0" prints "no 1"
      ∷ "Enrol 3 0" prints "no 1"
      ∷ "check 5 4" prints "no 1"
      ∷ "check 5 4 9 0" prints "no 1"
      ∷ "check 5 4 9 0 0 0" prints "no 1"
      ∷ "check 5 4 9 0 0" prints "no 3"
      ∷ "save 26" prints "no 1"
      ∷ "load" prints "no 1"
      ∷ "enrol 3 0" prints "ok 0"
      ∷ [])
  -- a last line that no line feed ends is no request
  pub unended : program (typed prologue ++ bytes "revoke 3 0") ≡ shown prologue ++ line "no 1"
  -- no line, nothing printed
  pub nothing : program [] ≡ []
  -- 32,768 bytes are played: a line, and the blanks after it as an unended one
  pub longest : program (line "enrol 3 0" ++ replicate 32758 32) ≡ line "ok 0" ++ line "no 1"
  -- one byte more, and no line is played
  pub too_long : program (line "enrol 3 0" ++ replicate 32759 32) ≡ line "no 1"
