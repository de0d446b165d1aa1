-- Intermediate: the code's own terms, proved to come to the definitions of `model`.
-- Masks and tables that the sweep makes once.
use Rattle.std.specs.Prelude.{Bool, cond, List, ◌≡◌, ℕ, zero, suc, ◌+◌, ◌^◌, ◌≤◌, ◌<◌, eqb, get_or, set, replicate}
use Rattle.std.specs.Int.Bits.{bit_or}
use Rattle.model.specs.declared.Origin.{Origin}
use Rattle.model.specs.declared.Origin.TheVariants.{Role as ofRole, Capability as ofCapability}
use Rattle.model.specs.declared.Role.{Role}
use Rattle.model.specs.declared.Capability.{Capability}
use Rattle.model.specs.declared.Register.{Register}
use Rattle.entries.specs.declared.capability.Known.{Known}
use Rattle.model.specs.State.{role_at, origin_at, capability_at, blank_capability}

-- the mask of the numbers below n that pass
unfoldable pub masked : (ℕ → Bool) → ℕ → ℕ
masked p zero = 0
masked p (suc n) = bit_or (masked p n) (cond (p n) (2 ^ n) 0)

abbrev pub is_founded : List Role → ℕ → Bool
is_founded roles k = (role_at roles k).founded

-- what the rules of the register's capabilities go by
pub record KnownOf (k : Known) (r : Register) : Type 0 where
  pub enrolled : k.enrolled ≡ r.enrolled
  pub founded : k.founded ≡ masked (is_founded r.roles) 32
  pub count : k.count ≡ r.count

-- user u is of domain d
abbrev pub in_domain : List ℕ → ℕ → ℕ → Bool
in_domain domains d u = eqb (get_or domains u 0) d

-- the places from b on are not in use, and blank
abbrev pub BlankFrom : Register → ℕ → Type 0
BlankFrom r b = (n : ℕ) → b ≤ n → n < 256 → (r.count ≤ n) × (capability_at r.capabilities n ≡ blank_capability)

-- a table of counts with one capability more, whose origin is given
abbrev pub bumped : List ℕ → Origin → List ℕ
bumped t (ofRole k) = t
bumped t (ofCapability k) = set t k (get_or t k 0 + 1)

-- for each capability, how many of the first n were created from it, counted in one pass
unfoldable pub tally : List Capability → ℕ → List ℕ
tally cs zero = replicate 256 0
tally cs (suc n) = bumped (tally cs n) (origin_at cs n)
