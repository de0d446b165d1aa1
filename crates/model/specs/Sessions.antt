-- open, check, close.
use Rattle.std.specs.Prelude.{Bool, true, cond, not, List, [], ◌∷◌, ℕ, suc, set}
use Rattle.masks.specs.Masks.{has}
use Rattle.masks.specs.Tests.{each}
use Rattle.model.specs.declared.Origin.{Origin}
use Rattle.model.specs.declared.Origin.TheVariants.{Role as ofRole, Capability as ofCapability}
use Rattle.model.specs.declared.Capability.{Capability}
use Rattle.model.specs.declared.Session.{Session}
use Rattle.model.specs.declared.Register.{Register}
use Rattle.model.specs.declared.Context.{Context}
use Rattle.model.specs.State.{Party, there, has_member, lives, may_use, Terms, capability_at, session_at, blank_session, admitted, in_context}
use Rattle.model.specs.Rules.{is_user, is_session, is_permission, is_origin}
use Rattle.model.specs.Setters.{with_uses, with_capabilities, with_sessions}
use Rattle.model.specs.Rulings.{Ruling, into, ◌unless◌, ◌when◌, party_of, terms_of}

-- "On a pass, uses rise by one."
abbrev pub used_once : Capability → Capability
used_once c = with_uses c (suc c.uses)

abbrev pub used : List Capability → Origin → List Capability
used cs (ofRole k) = cs
used cs (ofCapability n) = set cs n (used_once (capability_at cs n))

abbrev pub new_session : (user : ℕ) → Origin → Context → Session
new_session user o at =
    record { active = true; user = user; on = o; hour = at.hour; place = at.place; device = at.device }

-- "open session user, role or pass, number, hour place device. 2; 3; 4 session already open; 6 not appointed or not a
-- holder; 7; 8; 9; 10 uses at or above their limit.": x is the session, y what it is to be on, with the terms t
abbrev pub opening_session : (clock enrolled count : ℕ) → Session → Party → Terms → (s user : ℕ) → Origin → Context → Ruling Session
opening_session clock enrolled count x y t s user o at =
    record {
      guards =
          2 unless (is_session s ∷ is_user user ∷ is_origin o ∷ in_context at ∷ [])
          ∷ 3 unless (has enrolled user ∷ there count y ∷ [])
          ∷ 4 when x.active
          ∷ 6 unless (has_member y user ∷ [])
          ∷ 7 when t.revoked
          ∷ 8 unless (lives y clock ∷ [])
          ∷ 9 unless (admitted t at ∷ [])
          ∷ 10 unless (may_use y ∷ [])
          ∷ [];
      result = 0;
      after = new_session user o at;
    }

-- §6.13.2: what a check asks of a role or a capability, with the terms t, in the context that it names
abbrev pub permitting : (clock : ℕ) → Party → Terms → (user permission : ℕ) → Context → List Bool
permitting clock y t user p at =
    has_member y user
    ∷ not t.revoked
    ∷ lives y clock
    ∷ has t.grants p
    ∷ admitted t at
    ∷ []

-- §6.13.1, §6.13.3: x is the session, whose opening is not read; `permitted` says whether it has the permission in this context
abbrev pub checking : Session → (permitted : Bool) → (s p : ℕ) → Context → Ruling Session
checking x permitted s p at =
    record {
      guards =
          2 unless (is_session s ∷ is_permission p ∷ in_context at ∷ [])
          ∷ 3 unless (x.active ∷ [])
          ∷ [];
      result = cond permitted 1 0;
      after = x;
    }

-- "close session. 2; 3."
abbrev pub closing : Session → (s : ℕ) → Ruling Session
closing x s =
    record {
      guards =
          2 unless (is_session s ∷ [])
          ∷ 3 unless (x.active ∷ [])
          ∷ [];
      result = 0;
      after = blank_session;
    }

-- ---- the calls on the register

abbrev pub session : Register → ℕ → Session
session r s = session_at r.sessions s

abbrev pub putting_session : Register → ℕ → Session → Register
putting_session r s x = with_sessions r (set r.sessions s x)

unfoldable pub open_ruling : Register → (s user : ℕ) → Origin → Context → Ruling Register
open_ruling r s user o at =
    into (putting_session (with_capabilities r (used r.capabilities o)) s)
    (opening_session r.clock r.enrolled r.count (session r s) (party_of r o) (terms_of r o) s user o at)

abbrev pub permit_tests : Register → Origin → (user permission : ℕ) → Context → List Bool
permit_tests r o user p at = permitting r.clock (party_of r o) (terms_of r o) user p at

unfoldable pub permits : Register → Origin → (user permission : ℕ) → Context → Bool
permits r o user p at = each (permit_tests r o user p at)

unfoldable pub check_ruling : Register → (s permission : ℕ) → Context → Ruling Register
check_ruling r s p at = into (λ x. r) (checking (session r s) (permits r (session r s).on (session r s).user p at) s p at)

unfoldable pub close_ruling : Register → ℕ → Ruling Register
close_ruling r s = into (putting_session r s) (closing (session r s) s)
