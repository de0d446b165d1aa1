-- Intermediate: the code's own terms, proved to come to the definitions of `model`.
-- The elements that a request names, and where they stand.
use Rattle.std.specs.Prelude.{Bool, true, false, ℕ, ◌%◌}
use Rattle.model.specs.declared.Origin.{Origin}
use Rattle.model.specs.declared.Named.{Named}
use Rattle.model.specs.declared.Named.TheVariants.{Role as nameRole, Capability as nameCapability}
use Rattle.model.specs.declared.LocalRequest.{LocalRequest}
use Rattle.model.specs.declared.LocalRequest.TheVariants.{Enrol, Found, Grant, Appoint, Dismiss, Clock, Create, Allow, Lend, Hand, Open, Check, Close}
use Rattle.model.specs.declared.Register.{Register}
use Rattle.model.specs.State.{capability_at, session_at}
use Rattle.origins.specs.Numbers.{role_held, capability_held}
use Rattle.slots.specs.Slots.{Places}
use Rattle.places.specs.declared.Follow.{Follow}
use Rattle.places.specs.declared.Follow.TheVariants.{Nothing, Role as TheRole, Origin as TheOrigin, Session as TheSession, Count}
use Rattle.places.specs.declared.Names.{Names}

abbrev pub names_with : (user role parent capability session : ℕ) → Follow → Names
names_with user role parent capability session follow =
    record { user = user; role = role; parent = parent; capability = capability; session = session; follow = follow }

abbrev pub role_in : Named → ℕ
role_in (nameRole k) = k
role_in (nameCapability n) = 0

abbrev pub capability_in : Named → ℕ
capability_in (nameRole k) = 0
capability_in (nameCapability n) = n

abbrev pub names_of : LocalRequest → Names
names_of (Enrol user domain) = names_with user 0 0 0 0 Nothing
names_of (Found role domain hours places devices) = names_with 0 role 0 0 0 TheRole
names_of (Grant role permission) = names_with 0 role 0 0 0 TheRole
names_of (Appoint user role) = names_with user role 0 0 0 TheRole
names_of (Dismiss user role) = names_with user role 0 0 0 TheRole
names_of (Clock tick) = names_with 0 0 0 0 0 Nothing
names_of (Create user origin at plan) = names_with 0 (role_in origin) (capability_in origin) 0 0 Count
names_of (Allow user capability permissions) = names_with 0 0 0 capability 0 TheOrigin
names_of (Lend user capability roles) = names_with 0 0 0 capability 0 TheOrigin
names_of (Hand user receiver capability) = names_with 0 0 0 capability 0 Nothing
names_of (Open session user on at) = names_with 0 (role_in on) 0 (capability_in on) session Nothing
names_of (Check session permission at) = names_with 0 0 0 0 session TheSession
names_of (Close session) = names_with 0 0 0 0 session Nothing

abbrev pub capability_place : Follow → ℕ → Origin → ℕ → ℕ
capability_place Nothing named on count = named
capability_place TheRole named on count = named
capability_place TheOrigin named on count = named
capability_place TheSession named on count = capability_held on
capability_place Count named on count = count

abbrev pub role_place : Follow → ℕ → Origin → Origin → ℕ
role_place Nothing named on origin = named
role_place TheRole named on origin = named
role_place TheOrigin named on origin = role_held origin
role_place TheSession named on origin = role_held on
role_place Count named on origin = named

abbrev pub parent_place : Follow → ℕ → Origin → ℕ
parent_place Nothing named origin = named
parent_place TheRole named origin = named
parent_place TheOrigin named origin = capability_held origin
parent_place TheSession named origin = named
parent_place Count named origin = named

-- the request may change the role that it names
abbrev pub changes_role : Follow → Bool
changes_role Nothing = false
changes_role TheRole = true
changes_role TheOrigin = false
changes_role TheSession = false
changes_role Count = false

-- where the elements of a request stand in a register
abbrev pub places_in : Register → Names → Places
places_in r m =
    let on : Origin = (session_at r.sessions (m.session % 64)).on in
    let n : ℕ = capability_place m.follow m.capability on r.count % 256 in
    let origin : Origin = (capability_at r.capabilities n).origin in
    record {
      user = m.user % 64;
      role = role_place m.follow m.role on origin % 32;
      parent = parent_place m.follow m.parent origin % 256;
      capability = n;
      session = m.session % 64;
    }
