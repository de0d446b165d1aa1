-- Intermediate: the code's own terms, proved to come to the definitions of `model`.
-- What an origin allows, as the code reads it, and the rules of one thing over that.
use Rattle.std.specs.Prelude.{Bool, cond, List, [], ◌∷◌, ℕ, eqb, leb, ltb}
use Rattle.masks.specs.Masks.{has, within}
use Rattle.masks.specs.Tests.{each}
use Rattle.model.specs.declared.Role.{Role}
use Rattle.model.specs.declared.Capability.{Capability}
use Rattle.model.specs.declared.Session.{Session}
use Rattle.model.specs.State.{Terms, opened_in, claims, below, admitted, in_context}
use Rattle.model.specs.Rules.{is_user, is_origin, is_domain, bits, role_blank, capability_blank, in_range, earlier, own_keeps, session_blank}

-- the rules of a founded role x; peers are the users of its domain
abbrev pub role_with : ℕ → ℕ → Role → List Bool
role_with enrolled peers x =
    is_domain x.domain
    ∷ bits 32 x.permissions
    ∷ bits 24 x.hours
    ∷ bits 16 x.places
    ∷ bits 16 x.devices
    ∷ bits 64 x.appointed
    ∷ within x.appointed enrolled
    ∷ within x.appointed peers
    ∷ []

abbrev pub role_keeps_with : ℕ → ℕ → Role → Bool
role_keeps_with enrolled peers x = cond x.founded (each (role_with enrolled peers x)) (role_blank x)

-- the rules of capability n: founded are the roles that are, `there` says whether its origin is, t is what that allows, made the number
-- created from it
abbrev pub capability_with : ℕ → ℕ → ℕ → Bool → Terms → ℕ → Capability → List Bool
capability_with enrolled founded n there t made c =
    in_range c
    ∷ within c.lent founded
    ∷ there
    ∷ earlier n c.origin
    ∷ below (claims c) t
    ∷ eqb c.creations made
    ∷ leb c.creations c.creation_limit
    ∷ own_keeps enrolled c
    ∷ []

unfoldable pub place_with : ℕ → ℕ → ℕ → ℕ → Bool → Terms → ℕ → Capability → Bool
place_with enrolled founded count n there t made c =
    cond (ltb n count) (each (capability_with enrolled founded n there t made c)) (capability_blank c)

-- the rules of an open session; t is what its role or capability allows
abbrev pub session_with : ℕ → Bool → Terms → Session → List Bool
session_with enrolled there t s =
    is_user s.user
    ∷ is_origin s.on
    ∷ in_context (opened_in s)
    ∷ has enrolled s.user
    ∷ there
    ∷ admitted t (opened_in s)
    ∷ []

unfoldable pub session_keeps_with : ℕ → Bool → Terms → Session → Bool
session_keeps_with enrolled there t s = cond s.active (each (session_with enrolled there t s)) (session_blank s)
