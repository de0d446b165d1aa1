-- Document 01, "Shelf rules", as a test that computes: `wellFormed`. Each list of tests is in the document's order:
-- ranges; what is named exists; the tree; the counts. `Invariant.antt` says the same by propositions.
use Rattle.std.specs.Prelude.{Bool, true, false, cond, not, List, [], ◌∷◌, ℕ, ◌^◌, eqb, leb, ltb, get_or, length}
use Rattle.std.specs.Int.Count.{ones}
use Rattle.masks.specs.Masks.{has, within}
use Rattle.masks.specs.Tests.{each, implies, all_below, all_from}
use Rattle.model.specs.declared.Origin.{Origin}
use Rattle.model.specs.declared.Origin.TheVariants.{Role as ofRole, Capability as ofCapability}
use Rattle.model.specs.declared.Role.{Role}
use Rattle.model.specs.declared.Capability.{Capability}
use Rattle.model.specs.declared.Session.{Session}
use Rattle.model.specs.declared.Register.{Register}
use Rattle.model.specs.State.{role_at, exists, terms, claims, below, admitted, in_context, opened_in}
use Rattle.model.specs.Lineage.{children}

-- ---- "Domains are 0 to 7, users 0 to 63, roles 0 to 31, permissions 0 to 31, passes 0 to 255, sessions 0 to 63."

abbrev pub is_domain : ℕ → Bool
is_domain d = ltb d 8

abbrev pub is_user : ℕ → Bool
is_user u = ltb u 64

abbrev pub is_role : ℕ → Bool
is_role k = ltb k 32

abbrev pub is_permission : ℕ → Bool
is_permission p = ltb p 32

abbrev pub is_capability : ℕ → Bool
is_capability n = ltb n 256

abbrev pub is_session : ℕ → Bool
is_session s = ltb s 64

abbrev pub is_origin : Origin → Bool
is_origin (ofRole k) = is_role k
is_origin (ofCapability n) = is_capability n

-- a number, or a mask, of so many bits
abbrev pub bits : ℕ → ℕ → Bool
bits w m = ltb m (2 ^ w)

-- ---- users

-- a domain, "once enrolled"; 0 for a user not enrolled
unfoldable pub user_keeps : ℕ → ℕ → ℕ → Bool
user_keeps enrolled u domain = cond (has enrolled u) (is_domain domain) (eqb domain 0)

-- ---- roles

abbrev pub role_blank_tests : Role → List Bool
role_blank_tests x =
    eqb x.domain 0
    ∷ eqb x.permissions 0
    ∷ eqb x.hours 0
    ∷ eqb x.places 0
    ∷ eqb x.devices 0
    ∷ eqb x.appointed 0
    ∷ []

unfoldable pub role_blank : Role → Bool
role_blank x = each (role_blank_tests x)

-- "appointed users share the role's domain"
unfoldable pub same_domain : List ℕ → Role → Bool
same_domain domains x = all_below 64 (λ u. implies (has x.appointed u) (eqb (get_or domains u 0) x.domain))

abbrev pub role_tests : ℕ → List ℕ → Role → List Bool
role_tests enrolled domains x =
    is_domain x.domain
    ∷ bits 32 x.permissions
    ∷ bits 24 x.hours
    ∷ bits 16 x.places
    ∷ bits 16 x.devices
    ∷ bits 64 x.appointed
    ∷ within x.appointed enrolled
    ∷ same_domain domains x
    ∷ []

unfoldable pub role_keeps : ℕ → List ℕ → ℕ → Role → Bool
role_keeps enrolled domains k x = cond x.founded (each (role_tests enrolled domains x)) (role_blank x)

-- ---- capabilities

abbrev pub is_role_zero : Origin → Bool
is_role_zero (ofRole k) = eqb k 0
is_role_zero (ofCapability k) = false

abbrev pub capability_blank_tests : Capability → List Bool
capability_blank_tests c =
    is_role_zero c.origin
    ∷ eqb c.creator 0
    ∷ eqb c.permissions 0
    ∷ eqb c.lent 0
    ∷ eqb c.holders 0
    ∷ eqb c.first 0
    ∷ eqb c.last 0
    ∷ eqb c.use_limit 0
    ∷ eqb c.uses 0
    ∷ eqb c.creation_limit 0
    ∷ eqb c.creations 0
    ∷ eqb c.hop_limit 0
    ∷ eqb c.hops 0
    ∷ eqb c.hours 0
    ∷ eqb c.places 0
    ∷ eqb c.devices 0
    ∷ not c.revoked
    ∷ []

unfoldable pub capability_blank : Capability → Bool
capability_blank c = each (capability_blank_tests c)

-- "Every number is in its range"
abbrev pub range_tests : Capability → List Bool
range_tests c =
    is_origin c.origin
    ∷ is_user c.creator
    ∷ bits 32 c.permissions
    ∷ bits 32 c.lent
    ∷ bits 64 c.holders
    ∷ bits 32 c.first
    ∷ bits 32 c.last
    ∷ bits 16 c.use_limit
    ∷ bits 16 c.uses
    ∷ bits 16 c.creation_limit
    ∷ bits 16 c.creations
    ∷ bits 16 c.hop_limit
    ∷ bits 16 c.hops
    ∷ bits 24 c.hours
    ∷ bits 16 c.places
    ∷ bits 16 c.devices
    ∷ []

unfoldable pub in_range : Capability → Bool
in_range c = each (range_tests c)

-- every role of the mask is founded
unfoldable pub all_founded : List Role → ℕ → Bool
all_founded roles m = all_below 32 (λ k. implies (has m k) (role_at roles k).founded)

-- "its origin, whose number is smaller where it is a pass"
unfoldable pub earlier : ℕ → Origin → Bool
earlier n (ofRole k) = true
earlier n (ofCapability k) = ltb k n

-- "For every pass its hop count equals the number of its holders, .. at most their limits"; "First tick is at most last."
abbrev pub own_tests : ℕ → Capability → List Bool
own_tests enrolled c =
    has enrolled c.creator
    ∷ within c.holders enrolled
    ∷ leb c.first c.last
    ∷ eqb c.hops (ones c.holders)
    ∷ leb c.hops c.hop_limit
    ∷ []

unfoldable pub own_keeps : ℕ → Capability → Bool
own_keeps enrolled c = each (own_tests enrolled c)

-- capability n: ranges, lent roles and origin exist, its place in the tree, its claims on its origin, its creations, itself
abbrev pub capability_tests : ℕ → List Role → ℕ → List Capability → ℕ → Capability → List Bool
capability_tests enrolled roles count cs n c =
    in_range c
    ∷ all_founded roles c.lent
    ∷ exists roles count c.origin
    ∷ earlier n c.origin
    ∷ below (claims c) (terms roles cs c.origin)
    ∷ eqb c.creations (children count cs n)
    ∷ leb c.creations c.creation_limit
    ∷ own_keeps enrolled c
    ∷ []

unfoldable pub capability_keeps : ℕ → List Role → ℕ → List Capability → ℕ → Capability → Bool
capability_keeps enrolled roles count cs n c = each (capability_tests enrolled roles count cs n c)

unfoldable pub place_keeps : ℕ → List Role → ℕ → List Capability → ℕ → Capability → Bool
place_keeps enrolled roles count cs n c =
    cond (ltb n count) (capability_keeps enrolled roles count cs n c) (capability_blank c)

-- ---- sessions

abbrev pub session_blank_tests : Session → List Bool
session_blank_tests s =
    eqb s.user 0 ∷ is_role_zero s.on ∷ eqb s.hour 0 ∷ eqb s.place 0 ∷ eqb s.device 0 ∷ []

unfoldable pub session_blank : Session → Bool
session_blank s = each (session_blank_tests s)

-- "A session's context has its ranges and is admitted by its role or pass."
abbrev pub session_tests : ℕ → List Role → ℕ → List Capability → Session → List Bool
session_tests enrolled roles count cs s =
    is_user s.user
    ∷ is_origin s.on
    ∷ in_context (opened_in s)
    ∷ has enrolled s.user
    ∷ exists roles count s.on
    ∷ admitted (terms roles cs s.on) (opened_in s)
    ∷ []

unfoldable pub session_keeps : ℕ → List Role → ℕ → List Capability → ℕ → Session → Bool
session_keeps enrolled roles count cs i s =
    cond s.active (each (session_tests enrolled roles count cs s)) (session_blank s)

-- ---- the register

abbrev pub well_formed_tests : Register → List Bool
well_formed_tests r =
    bits 32 r.clock
    ∷ bits 64 r.enrolled
    ∷ leb r.count 256
    ∷ eqb (length r.domains) 64
    ∷ eqb (length r.roles) 32
    ∷ eqb (length r.capabilities) 256
    ∷ eqb (length r.sessions) 64
    ∷ all_from (user_keeps r.enrolled) 0 r.domains
    ∷ all_from (role_keeps r.enrolled r.domains) 0 r.roles
    ∷ all_from (place_keeps r.enrolled r.roles r.count r.capabilities) 0 r.capabilities
    ∷ all_from (session_keeps r.enrolled r.roles r.count r.capabilities) 0 r.sessions
    ∷ []

-- the register keeps the shelf rules
unfoldable pub well_formed : Register → Bool
well_formed r = each (well_formed_tests r)
