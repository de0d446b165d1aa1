-- Intermediate: the code's own terms, proved to come to the definitions of `model`.
-- The elements at some places of a register, read and put back.
use Rattle.std.specs.Prelude.{ℕ, get_or, set}
use Rattle.model.specs.declared.Role.{Role}
use Rattle.model.specs.declared.Capability.{Capability}
use Rattle.model.specs.declared.Session.{Session}
use Rattle.model.specs.declared.Register.{Register}
use Rattle.model.specs.State.{role_at, capability_at, session_at}
use Rattle.model.specs.Rulings.{Effect, Ruling, into, ruled}
use Rattle.model.specs.Requests.{outcome_of}
use Rattle.slots.specs.declared.Slots.{Slots}
use Rattle.slots.specs.declared.Decision.{Decision}

-- where the elements stand
pub record Places : Type 0 where
  pub user : ℕ
  pub role : ℕ
  pub parent : ℕ
  pub capability : ℕ
  pub session : ℕ

abbrev pub look : Register → Places → Slots
look r p =
    record {
      clock = r.clock;
      enrolled = r.enrolled;
      count = r.count;
      domain = get_or r.domains p.user 0;
      role = role_at r.roles p.role;
      parent = capability_at r.capabilities p.parent;
      capability = capability_at r.capabilities p.capability;
      session = session_at r.sessions p.session;
    }

-- the capability is put after its parent: where both stand at one place, the capability stays
unfoldable pub put : Register → Places → Slots → Register
put r p v =
    record {
      clock = v.clock;
      enrolled = v.enrolled;
      domains = set r.domains p.user v.domain;
      roles = set r.roles p.role v.role;
      count = v.count;
      capabilities = set (set r.capabilities p.parent v.parent) p.capability v.capability;
      sessions = set r.sessions p.session v.session;
    }

abbrev pub ruled_of : Decision → Effect Slots
ruled_of d = record { answer = outcome_of d.answer; after = d.slots }

-- the register with the elements put back
abbrev pub lifted : Register → Places → Effect Slots → Effect Register
lifted r p q = record { answer = q.answer; after = put r p q.after }

-- ---- elements with one or two put anew

abbrev pub with_clock_slot : Slots → ℕ → Slots
with_clock_slot v t =
    record { clock = t; enrolled = v.enrolled; count = v.count; domain = v.domain; role = v.role; parent = v.parent; capability = v.capability; session = v.session }

abbrev pub with_user_slot : Slots → ℕ → ℕ → Slots
with_user_slot v e d =
    record { clock = v.clock; enrolled = e; count = v.count; domain = d; role = v.role; parent = v.parent; capability = v.capability; session = v.session }

abbrev pub with_role_slot : Slots → Role → Slots
with_role_slot v x =
    record { clock = v.clock; enrolled = v.enrolled; count = v.count; domain = v.domain; role = x; parent = v.parent; capability = v.capability; session = v.session }

abbrev pub with_capability_slot : Slots → Capability → Slots
with_capability_slot v c =
    record { clock = v.clock; enrolled = v.enrolled; count = v.count; domain = v.domain; role = v.role; parent = v.parent; capability = c; session = v.session }

-- a new capability, its parent, and the count
abbrev pub with_created_slots : Slots → ℕ → Capability → Capability → Slots
with_created_slots v n p c =
    record { clock = v.clock; enrolled = v.enrolled; count = n; domain = v.domain; role = v.role; parent = p; capability = c; session = v.session }

-- a session, and the capability that it is on
abbrev pub with_session_slots : Slots → Capability → Session → Slots
with_session_slots v c s =
    record { clock = v.clock; enrolled = v.enrolled; count = v.count; domain = v.domain; role = v.role; parent = v.parent; capability = c; session = s }

-- ---- a ruling on one of them

abbrev pub on_role : Slots → Ruling Role → Effect Slots
on_role v q = ruled v (into (with_role_slot v) q)

abbrev pub on_capability : Slots → Ruling Capability → Effect Slots
on_capability v q = ruled v (into (with_capability_slot v) q)
