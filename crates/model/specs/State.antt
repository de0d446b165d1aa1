-- Document 01, "What the shelf holds": a fresh register, authority, what an origin allows, life, context.
-- A capability is the document's pass.
use Rattle.std.specs.Prelude.{Bool, true, false, List, [], ◌∷◌, ℕ, ◌^◌, leb, ltb, get_or, replicate}
use Rattle.std.specs.Int.Bits.{bit_or}
use Rattle.masks.specs.Masks.{has, within, joined}
use Rattle.masks.specs.Tests.{each, implies}
use Rattle.model.specs.declared.Origin.{Origin}
use Rattle.model.specs.declared.Origin.TheVariants.{Role as ofRole, Capability as ofCapability}
use Rattle.model.specs.declared.Role.{Role}
use Rattle.model.specs.declared.Capability.{Capability}
use Rattle.model.specs.declared.Session.{Session}
use Rattle.model.specs.declared.Context.{Context}
use Rattle.model.specs.declared.Plan.{Plan}
use Rattle.model.specs.declared.Register.{Register}

-- ---- arguments that belong together: "hour place device"; "first last, use creation hop limits, hours places devices"

abbrev pub context_of : (hour place device : ℕ) → Context
context_of hour place device = record { hour = hour; place = place; device = device }

abbrev pub plan_of : (first last uses creations hops hours places devices : ℕ) → Plan
plan_of first last uses creations hops hours places devices =
    record {
      first = first;
      last = last;
      uses = uses;
      creations = creations;
      hops = hops;
      hours = hours;
      places = places;
      devices = devices;
    }

-- the context of a session's opening
abbrev pub opened_in : Session → Context
opened_in s = context_of s.hour s.place s.device

-- ---- a capability with nothing in it yet

-- create: "The new pass has .. no authority, no holder, counts 0"
abbrev pub new_capability : (user : ℕ) → Origin → Plan → Capability
new_capability user o plan =
    record {
      origin = o;
      creator = user;
      permissions = 0;
      lent = 0;
      holders = 0;
      first = plan.first;
      last = plan.last;
      use_limit = plan.uses;
      uses = 0;
      creation_limit = plan.creations;
      creations = 0;
      hop_limit = plan.hops;
      hops = 0;
      hours = plan.hours;
      places = plan.places;
      devices = plan.devices;
      revoked = false;
    }

-- ---- "what is kept for a thing not there is 0"

abbrev pub blank_role : Role
blank_role =
    record { founded = false; domain = 0; permissions = 0; hours = 0; places = 0; devices = 0; appointed = 0 }

abbrev pub blank_capability : Capability
blank_capability = new_capability 0 (ofRole 0) (plan_of 0 0 0 0 0 0 0 0)

abbrev pub blank_session : Session
blank_session = record { active = false; user = 0; on = ofRole 0; hour = 0; place = 0; device = 0 }

-- "A fresh register has clock 0 and nothing else."
abbrev pub fresh : Register
fresh =
    record {
      clock = 0;
      enrolled = 0;
      domains = replicate 64 0;
      roles = replicate 32 blank_role;
      count = 0;
      capabilities = replicate 256 blank_capability;
      sessions = replicate 64 blank_session;
    }

-- ---- things by their number

abbrev pub role_at : List Role → ℕ → Role
role_at roles k = get_or roles k blank_role

abbrev pub capability_at : List Capability → ℕ → Capability
capability_at cs n = get_or cs n blank_capability

abbrev pub session_at : List Session → ℕ → Session
session_at ss s = get_or ss s blank_session

abbrev pub origin_at : List Capability → ℕ → Origin
origin_at cs n = (capability_at cs n).origin

-- ---- an origin and what stands there: what a call asks of a role or of a capability, it asks of this

pub data Party : Type 0 where
  the_role : ℕ → Role → Party
  the_capability : ℕ → Capability → Party

abbrev pub party : List Role → List Capability → Origin → Party
party roles cs (ofRole k) = the_role k (role_at roles k)
party roles cs (ofCapability n) = the_capability n (capability_at cs n)

-- a role is founded, a capability has been created
abbrev pub there : ℕ → Party → Bool
there count (the_role k x) = x.founded
there count (the_capability n c) = ltb n count

unfoldable pub exists : List Role → ℕ → Origin → Bool
exists roles count o = there count (party roles [] o)

-- the user is appointed to the role, or holds the capability
abbrev pub has_member : Party → ℕ → Bool
has_member (the_role k x) user = has x.appointed user
has_member (the_capability n c) user = has c.holders user

-- §3.3.2: from the first tick on, and before the last
abbrev pub life_tests : Capability → ℕ → List Bool
life_tests c tick = leb c.first tick ∷ ltb tick c.last ∷ []

-- §3.3.3: a role is in life at every tick, the last of all too
abbrev pub lives : Party → ℕ → Bool
lives (the_role k x) tick = true
lives (the_capability n c) tick = each (life_tests c tick)

-- uses, and creations, are below their limit; a role counts none
abbrev pub may_use : Party → Bool
may_use (the_role k x) = true
may_use (the_capability n c) = ltb c.uses c.use_limit

abbrev pub may_create : Party → Bool
may_create (the_role k x) = true
may_create (the_capability n c) = ltb c.creations c.creation_limit

-- ---- authority

-- "A role's authority is its permissions."
unfoldable pub role_authority : List Role → ℕ → ℕ
role_authority roles k = (role_at roles k).permissions

-- the authorities of the roles of a mask, joined
unfoldable pub lent_authority : List Role → ℕ → ℕ
lent_authority roles m = joined (role_authority roles) m 32

-- "A pass's authority is its own permissions joined with the authorities of its lent roles."
unfoldable pub authority : List Role → Capability → ℕ
authority roles c = bit_or c.permissions (lent_authority roles c.lent)

-- ---- what an origin allows, a role or a capability alike

pub record Terms : Type 0 where
  pub grants : ℕ
  pub lendable : ℕ
  pub hours : ℕ
  pub places : ℕ
  pub devices : ℕ
  pub first : ℕ
  pub last : ℕ
  pub use_limit : ℕ
  pub creation_limit : ℕ
  pub hop_limit : ℕ
  pub revoked : Bool

-- the terms of a capability that grants the permissions p and may lend the roles m
abbrev pub terms_with : ℕ → ℕ → Capability → Terms
terms_with p m c =
    record {
      grants = p;
      lendable = m;
      hours = c.hours;
      places = c.places;
      devices = c.devices;
      first = c.first;
      last = c.last;
      use_limit = c.use_limit;
      creation_limit = c.creation_limit;
      hop_limit = c.hop_limit;
      revoked = c.revoked;
    }

-- the roles that role k may lend: just itself
unfoldable pub role_lends : List Role → ℕ → ℕ
role_lends roles k = 2 ^ k

-- the roles that whoever has the roles m may lend: what each of them may, joined
unfoldable pub may_lend : List Role → ℕ → ℕ
may_lend roles m = joined (role_lends roles) m 32

-- "An origin may give the permissions of its authority, and the roles lent to it or, where it is a role, just itself."
-- A role's first and last tick, which containment compares (§3.3.3), its limits, and that it is never revoked (§3.3.5)
abbrev pub party_terms : (granted : ℕ → ℕ) (authority : Capability → ℕ) (may_lend : ℕ → ℕ) → Party → Terms
party_terms granted authority may_lend (the_role k x) =
    record {
      grants = granted k;
      lendable = may_lend (2 ^ k);
      hours = x.hours;
      places = x.places;
      devices = x.devices;
      first = 0;
      last = 4294967295;
      use_limit = 65535;
      creation_limit = 65535;
      hop_limit = 65535;
      revoked = false;
    }
party_terms granted authority may_lend (the_capability n c) = terms_with (authority c) (may_lend c.lent) c

-- the terms as far as they need no authority: life, limits, context and the revoked mark
abbrev pub bare_terms : Party → Terms
bare_terms y = party_terms (λ k. 0) (λ c. 0) (λ m. m) y

abbrev pub capability_terms : List Role → Capability → Terms
capability_terms roles c = terms_with (authority roles c) (may_lend roles c.lent) c

unfoldable pub terms : List Role → List Capability → Origin → Terms
terms roles cs o = party_terms (role_authority roles) (authority roles) (may_lend roles) (party roles cs o)

-- what a capability claims of its origin: own permissions, lent roles, life, context and limits
abbrev pub claims : Capability → Terms
claims c = terms_with c.permissions c.lent c

-- "Below its origin a pass has: own permissions within the origin's authority; lent roles within ..; each context mask
-- within; life within ..; each limit at most the origin's ..; the revoked mark if the origin has it."
abbrev pub below_tests : Terms → Terms → List Bool
below_tests a b =
    within a.grants b.grants
    ∷ within a.lendable b.lendable
    ∷ within a.hours b.hours
    ∷ within a.places b.places
    ∷ within a.devices b.devices
    ∷ leb b.first a.first
    ∷ leb a.last b.last
    ∷ leb a.use_limit b.use_limit
    ∷ leb a.creation_limit b.creation_limit
    ∷ leb a.hop_limit b.hop_limit
    ∷ implies b.revoked a.revoked
    ∷ []

unfoldable pub below : Terms → Terms → Bool
below a b = each (below_tests a b)

-- ---- life, context

abbrev pub in_life : List Capability → Origin → ℕ → Bool
in_life cs o tick = lives (party [] cs o) tick

-- "the hour (0 to 23), place and device (0 to 15)"
unfoldable pub in_context : Context → Bool
in_context at = each (ltb at.hour 24 ∷ ltb at.place 16 ∷ ltb at.device 16 ∷ [])

-- "A context is admitted when all three masks have its bit."
abbrev pub admitted_tests : Terms → Context → List Bool
admitted_tests t at = has t.hours at.hour ∷ has t.places at.place ∷ has t.devices at.device ∷ []

unfoldable pub admitted : Terms → Context → Bool
admitted t at = each (admitted_tests t at)
