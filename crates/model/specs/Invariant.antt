-- Intermediate: `proofs/Rules.antt` proves that a register has these exactly where the test `wellFormed` of `Rules.antt` passes.
-- Document 01, "Shelf rules", by propositions.
use Rattle.std.specs.Prelude.{◌≡◌, List, ℕ, ◌^◌, ◌≤◌, ◌<◌, T, get_or, length, not}
use Rattle.std.specs.Int.Count.{ones}
use Rattle.masks.specs.Masks.{has, within}
use Rattle.model.specs.declared.Origin.{Origin}
use Rattle.model.specs.declared.Origin.TheVariants.{Role as ofRole, Capability as ofCapability}
use Rattle.model.specs.declared.Role.{Role}
use Rattle.model.specs.declared.Capability.{Capability}
use Rattle.model.specs.declared.Session.{Session}
use Rattle.model.specs.declared.Register.{Register}
use Rattle.model.specs.State.{role_at, capability_at, session_at, blank_role, blank_capability, blank_session, Terms, terms, claims}
use Rattle.model.specs.Lineage.{children}

-- the number of a role or of a capability is in its range
abbrev pub OriginInRange : Origin → Type 0
OriginInRange (ofRole k) = k < 32
OriginInRange (ofCapability n) = n < 256

-- a role is founded, a capability has been created
abbrev pub Exists : List Role → ℕ → Origin → Type 0
Exists roles count (ofRole k) = T (role_at roles k).founded
Exists roles count (ofCapability n) = n < count

-- "its origin, whose number is smaller where it is a pass"
abbrev pub Earlier : ℕ → Origin → Type 0
Earlier n (ofRole k) = Unit {0}
Earlier n (ofCapability k) = k < n

-- "Below its origin a pass has: .. within .."
pub record Below (a b : Terms) : Type 0 where
  pub grants : T (within a.grants b.grants)
  pub lendable : T (within a.lendable b.lendable)
  pub hours : T (within a.hours b.hours)
  pub places : T (within a.places b.places)
  pub devices : T (within a.devices b.devices)
  pub first : b.first ≤ a.first
  pub last : a.last ≤ b.last
  pub use_limit : a.use_limit ≤ b.use_limit
  pub creation_limit : a.creation_limit ≤ b.creation_limit
  pub hop_limit : a.hop_limit ≤ b.hop_limit
  pub revoked : T b.revoked → T a.revoked

-- "A context is admitted when all three masks have its bit."
pub record Admits (t : Terms) (hour place device : ℕ) : Type 0 where
  pub hours : T (has t.hours hour)
  pub places : T (has t.places place)
  pub devices : T (has t.devices device)

-- a founded role: its ranges, and "appointed users share the role's domain"
pub record RoleRules (enrolled : ℕ) (domains : List ℕ) (x : Role) : Type 0 where
  pub domain : x.domain < 8
  pub permissions : x.permissions < 2 ^ 32
  pub hours : x.hours < 2 ^ 24
  pub places : x.places < 2 ^ 16
  pub devices : x.devices < 2 ^ 16
  pub appointed : x.appointed < 2 ^ 64
  pub appointed_enrolled : T (within x.appointed enrolled)
  pub same_domain : (u : ℕ) → u < 64 → T (has x.appointed u) → get_or domains u 0 ≡ x.domain

-- "Every number is in its range", of a capability
pub record CapabilityRanges (c : Capability) : Type 0 where
  pub origin : OriginInRange c.origin
  pub creator : c.creator < 64
  pub permissions : c.permissions < 2 ^ 32
  pub lent : c.lent < 2 ^ 32
  pub holders : c.holders < 2 ^ 64
  pub first : c.first < 2 ^ 32
  pub last : c.last < 2 ^ 32
  pub use_limit : c.use_limit < 2 ^ 16
  pub uses : c.uses < 2 ^ 16
  pub creation_limit : c.creation_limit < 2 ^ 16
  pub creations : c.creations < 2 ^ 16
  pub hop_limit : c.hop_limit < 2 ^ 16
  pub hops : c.hops < 2 ^ 16
  pub hours : c.hours < 2 ^ 24
  pub places : c.places < 2 ^ 16
  pub devices : c.devices < 2 ^ 16

-- capability n, which has been created
pub record CapabilityRules (enrolled : ℕ) (roles : List Role) (count : ℕ) (cs : List Capability) (n : ℕ) (c : Capability) : Type 0 where
  pub ranges : CapabilityRanges c
  pub creator_enrolled : T (has enrolled c.creator)
  pub holders_enrolled : T (within c.holders enrolled)
  pub lent_founded : (k : ℕ) → k < 32 → T (has c.lent k) → T (role_at roles k).founded
  pub origin_exists : Exists roles count c.origin
  pub origin_earlier : Earlier n c.origin
  pub below_origin : Below (claims c) (terms roles cs c.origin)
  pub life : c.first ≤ c.last
  pub hops_counted : c.hops ≡ ones c.holders
  pub creations_counted : c.creations ≡ children count cs n
  pub hops_limited : c.hops ≤ c.hop_limit
  pub creations_limited : c.creations ≤ c.creation_limit

-- an open session: "A session's context has its ranges and is admitted by its role or pass."
pub record SessionRules (enrolled : ℕ) (roles : List Role) (count : ℕ) (cs : List Capability) (s : Session) : Type 0 where
  pub user : s.user < 64
  pub on_range : OriginInRange s.on
  pub hour : s.hour < 24
  pub place : s.place < 16
  pub device : s.device < 16
  pub user_enrolled : T (has enrolled s.user)
  pub on_exists : Exists roles count s.on
  pub context_admitted : Admits (terms roles cs s.on) s.hour s.place s.device

-- the shelf rules; what is not there is blank, all 0
pub record WellFormed (r : Register) : Type 0 where
  pub clock : r.clock < 2 ^ 32
  pub enrolled : r.enrolled < 2 ^ 64
  pub count : r.count ≤ 256
  pub user_places : length r.domains ≡ 64
  pub role_places : length r.roles ≡ 32
  pub capability_places : length r.capabilities ≡ 256
  pub session_places : length r.sessions ≡ 64
  pub users : (u : ℕ) → u < 64 → T (has r.enrolled u) → get_or r.domains u 0 < 8
  pub users_blank : (u : ℕ) → u < 64 → T (not (has r.enrolled u)) → get_or r.domains u 0 ≡ 0
  pub roles : (k : ℕ) → k < 32 → T (role_at r.roles k).founded → RoleRules r.enrolled r.domains (role_at r.roles k)
  pub roles_blank : (k : ℕ) → k < 32 → T (not (role_at r.roles k).founded) → role_at r.roles k ≡ blank_role
  pub capabilities : (n : ℕ) → n < r.count → CapabilityRules r.enrolled r.roles r.count r.capabilities n (capability_at r.capabilities n)
  pub capabilities_blank : (n : ℕ) → r.count ≤ n → n < 256 → capability_at r.capabilities n ≡ blank_capability
  pub sessions : (s : ℕ) → s < 64 → T (session_at r.sessions s).active → SessionRules r.enrolled r.roles r.count r.capabilities (session_at r.sessions s)
  pub sessions_blank : (s : ℕ) → s < 64 → T (not (session_at r.sessions s).active) → session_at r.sessions s ≡ blank_session
