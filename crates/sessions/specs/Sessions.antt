-- Intermediate: the code's own terms, proved to come to the definitions of `model`.
-- The calls on sessions over the elements that they name: the model's rulings, on the elements that are read.
use Rattle.std.specs.Prelude.{Bool, List, [], ◌∷◌, ℕ, drop}
use Rattle.masks.specs.Tests.{each}
use Rattle.model.specs.declared.Origin.{Origin}
use Rattle.model.specs.declared.Named.{Named}
use Rattle.model.specs.declared.Context.{Context}
use Rattle.model.specs.declared.Role.{Role}
use Rattle.model.specs.declared.Capability.{Capability}
use Rattle.model.specs.declared.Session.{Session}
use Rattle.model.specs.Rulings.{Effect, Outcome, Ruling, Guard, ◌unless◌, into, ruled, verdict}
use Rattle.model.specs.State.{in_context}
use Rattle.model.specs.Rules.{is_session, is_user, is_origin}
use Rattle.model.specs.Requests.{named_origin}
use Rattle.model.specs.Sessions.{opening_session, permitting, checking, closing}
use Rattle.slots.specs.declared.Slots.{Slots}
use Rattle.slots.specs.Slots.{with_session_slots}
use Rattle.origins.specs.declared.authority.RoleColumns.{RoleColumns}
use Rattle.origins.specs.Authority.{granted_by}
use Rattle.origins.specs.Terms.{party_in, slot_terms}
use Rattle.slots.specs.Terms.{used_in}

unfoldable pub close_decision : Slots → ℕ → Effect Slots
close_decision v s = ruled v (into (with_session_slots v v.capability) (closing v.session s))

-- the session s has the permission in this context; x or c is the role or the capability that it is on; what it may lend is not read
unfoldable pub permits_in : (tick : ℕ) → Session → Role → Capability → RoleColumns → (permission : ℕ) → Context → Bool
permits_in tick s x c column q at =
    each (permitting tick (party_in s.on x c) (slot_terms s.on x c (granted_by column s.on c) 0) s.user q at)

-- the answer alone, since check changes nothing
unfoldable pub check_answer : (tick : ℕ) → Session → Role → Capability → RoleColumns → (n permission : ℕ) → Context → Outcome
check_answer tick s x c column n q at =
    let a : Ruling Session = checking s (permits_in tick s x c column q at) n q at in
    verdict a.guards a.result

abbrev pub check_decision : Slots → RoleColumns → (n permission : ℕ) → Context → Effect Slots
check_decision v column n q at =
    record { answer = check_answer v.clock v.session v.role v.capability column n q at; after = v }

-- of the terms only the masks and the revoked mark are read, so no authority
abbrev pub opening_on : Slots → Origin → (s user : ℕ) → Context → Ruling Session
opening_on v o s user at =
    opening_session v.clock v.enrolled v.count v.session (party_in o v.role v.capability) (slot_terms o v.role v.capability 0 0) s user o at

-- the tests for the origin that is read; it is the one named only where the ranges pass
abbrev pub opening_tests : Slots → Origin → (s user : ℕ) → Named → Context → List Guard
opening_tests v o s user named at =
    (2 unless (is_session s ∷ is_user user ∷ is_origin (named_origin named) ∷ in_context at ∷ [])) ∷ drop 1 (opening_on v o s user at).guards

unfoldable pub open_decision : Slots → (s user : ℕ) → Named → Context → Effect Slots
open_decision v s user o at = ruled v (into (with_session_slots v (used_in (named_origin o) v.capability)) (opening_on v (named_origin o) s user at))
