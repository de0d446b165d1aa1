-- same (§6.17).
use Rattle.std.specs.Prelude.{Bool, cond, ℕ, suc, eqb, ltb}
use mathlib.Core.List.{List, [], ◌∷◌, zip_with}
use Rattle.masks.specs.Tests.{each}
use Rattle.model.specs.declared.Capability.{Capability}
use Rattle.model.specs.declared.Register.{Register}
use Rattle.model.specs.State.{authority}
use Rattle.model.specs.Lineage.{root}
use Rattle.model.specs.Rules.{is_capability}
use Rattle.model.specs.Rulings.{Ruling, Guard, ◌unless◌, role, capability}

-- §3.1.3: the domain of the role where the lineage of capability n ends
unfoldable pub domain_of : Register → ℕ → ℕ
domain_of r n = (role r (root (suc n) r.capabilities n)).domain

-- §2.1.3: life, limits and context masks, as they stand now
abbrev pub constraints : Capability → List ℕ
constraints c =
    c.first
    ∷ c.last
    ∷ c.use_limit
    ∷ c.creation_limit
    ∷ c.hop_limit
    ∷ c.hours
    ∷ c.places
    ∷ c.devices
    ∷ []

-- §6.17.2: all that is compared of capability n
abbrev pub compared : Register → ℕ → List ℕ
compared r n = domain_of r n ∷ authority r.roles (capability r n) ∷ constraints (capability r n)

-- §6.17.2: it is equal, number by number
unfoldable pub alike : Register → ℕ → ℕ → Bool
alike r m n = each (zip_with eqb (compared r m) (compared r n))

-- §6.17.1
abbrev pub same_guards : (count m n : ℕ) → List Guard
same_guards count m n =
    2 unless (is_capability m ∷ is_capability n ∷ [])
    ∷ 3 unless (ltb m count ∷ ltb n count ∷ [])
    ∷ []

-- §6.17.1, §6.17.2
unfoldable pub same_ruling : Register → ℕ → ℕ → Ruling Register
same_ruling r m n = record { guards = same_guards r.count m n; result = cond (alike r m n) 1 0; after = r }
