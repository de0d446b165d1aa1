-- Document 01, "Journal and door": its listing, input and output whole. `proofs/Listing.antt` proves the one from the other.
use Rattle.std.specs.Prelude.{◌≡◌, List, [], ◌∷◌, ◌++◌, ℕ}
use Prim.Native.String.{String}
use Rattle.masks.specs.Bytes.{bytes}
use Rattle.model.specs.Journal.{program}

-- lines with their line feeds
abbrev lines : List String → List ℕ
lines [] = []
lines (t ∷ ts) = bytes t ++ (10 ∷ lines ts)

abbrev pub listing : List ℕ
listing =
    lines
    ("enrol 3 0"
    ∷ "found 1 0 16777215 65535 65535"
    ∷ "grant 1 0"
    ∷ "grant 1 4"
    ∷ "appoint 3 1"
    ∷ "create 3 role 1 9 0 0 0 100 2 1 1 16777215 65535 65535"
    ∷ "allow 3 0 16"
    ∷ "hand 3 3 0"
    ∷ "open 5 3 pass 0 9 0 0"
    ∷ "check 5 4 9 0 0"
    ∷ "revoke 3 0"
    ∷ "check 5 4 9 0 0"
    ∷ [])

pub record Listing : Type 0 where
  pub played : program listing ≡ lines ("ok 0" ∷ "ok 0" ∷ "ok 0" ∷ "ok 0" ∷ "ok 0" ∷ "ok 0" ∷ "ok 16" ∷ "ok 1" ∷ "ok 0" ∷ "ok 1" ∷ "ok 1" ∷ "ok 0" ∷ [])
