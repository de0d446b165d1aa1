-- Intermediate: the code's own terms, proved to come to the definitions of `model`.
-- What the sections of an image are, beside the definitions of `model`.
use Rattle.std.specs.Prelude.{◌≡◌, Bool, List, ◌++◌, ℕ, length, take}
use Rattle.masks.specs.Bytes.{bytes_of, map_bytes, front}
use Rattle.model.specs.declared.Role.{Role}
use Rattle.model.specs.declared.Capability.{Capability}
use Rattle.model.specs.declared.Session.{Session}
use Rattle.model.specs.Image.{write_chosen, write_capabilities}

-- the n bytes xs are written at the front of a part, which is `new` after it
abbrev pub Puts : List ℕ → ℕ → List ℕ → List ℕ → Type 0
Puts xs n old new = (n ≡ length xs) × (new ≡ front xs old)

-- a map of w bytes and the items of it
unfoldable pub mapped : {A : Type 0} → ℕ → (A → List ℕ) → ℕ → List A → List ℕ
mapped w write m l = map_bytes w m ++ write_chosen write m l

-- a count and as many capabilities
unfoldable pub counted_capabilities : ℕ → List Capability → List ℕ
counted_capabilities n cs = bytes_of 2 n ++ write_capabilities (take n cs)

-- what stands in the maps of roles and of sessions
abbrev pub is_founded : Role → Bool
is_founded x = x.founded

abbrev pub is_active : Session → Bool
is_active s = s.active
