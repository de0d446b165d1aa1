-- Intermediate: the code's own terms, proved to come to the definitions of `model`.
-- The numbers of origins: as an element holds them, and as a request names them.
use Rattle.std.specs.Prelude.{◌≡◌, ℕ, ◌%◌}
use Rattle.model.specs.declared.Origin.{Origin}
use Rattle.model.specs.declared.Origin.TheVariants.{Role as ofRole, Capability as ofCapability}
use Rattle.model.specs.declared.Named.{Named}
use Rattle.model.specs.declared.Named.TheVariants.{Role as nameRole, Capability as nameCapability}

-- the number of the role, or of the capability; 0 if it is the other
abbrev pub role_held : Origin → ℕ
role_held (ofRole k) = k
role_held (ofCapability n) = 0

abbrev pub capability_held : Origin → ℕ
capability_held (ofRole k) = 0
capability_held (ofCapability n) = n

-- the origin that a request names, its number brought into the range
abbrev pub named_in : Named → Origin
named_in (nameRole k) = ofRole (k % 32)
named_in (nameCapability n) = ofCapability (n % 256)

-- the role that an origin is stands at place i, or the capability at place j
abbrev pub Placed : Origin → ℕ → ℕ → Type 0
Placed (ofRole k) i j = i ≡ k % 32
Placed (ofCapability n) i j = j ≡ n % 256
