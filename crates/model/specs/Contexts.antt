-- Contexts (§3.3.4) in checks: what a context that a capability admits says of its lineage, and what a check in one context says of the
-- same check in others (§6.13.3 to §6.13.5). Every context is meant, in range or not. `proofs/Contexts.antt` proves it.
use Rattle.std.specs.Prelude.{◌≡◌, ◌↔◌, not, List, ℕ, ◌<◌, T}
use Rattle.masks.specs.Masks.{has}
use Rattle.model.specs.declared.Origin.TheVariants.{Role as ofRole, Capability as ofCapability}
use Rattle.model.specs.declared.Register.{Register}
use Rattle.model.specs.declared.Context.{Context}
use Rattle.model.specs.State.{opened_in, session_at, in_context}
use Rattle.model.specs.Lineage.{Descends, Reaches}
use Rattle.model.specs.Rules.{well_formed}
use Rattle.model.specs.Rulings.{refused, role, capability, opened, admits}
use Rattle.model.specs.Sessions.{new_session, session, putting_session}
use Rattle.model.specs.Calls.{check}
use Rattle.model.specs.Lists.{Event, run, derived_from}
use Rattle.model.specs.Theorem.{asked, Yes, Sound, RoleSound}
use Rattle.model.specs.Alike.{ChecksAs}

-- these masks have the hour, the place and the device
abbrev pub InMasks : (hours places devices : ℕ) → Context → Type 0
InMasks hours places devices at = T (has hours at.hour) × T (has places at.place) × T (has devices at.device)

-- the register as if session s had been opened in another context
abbrev pub opened_elsewhere : Register → ℕ → Context → Register
opened_elsewhere r s other = putting_session r s (new_session (session r s).user (session r s).on other)

pub record ContextLaws : Type 0 where
  -- §3.3.4: a role or a capability admits what its own three masks have
  pub role_admits : (r : Register) (k : ℕ) (at : Context)
      → T (admits r (ofRole k) at) ↔ InMasks (role r k).hours (role r k).places (role r k).devices at
  pub capability_admits : (r : Register) (n : ℕ) (at : Context)
      → T (admits r (ofCapability n) at) ↔ InMasks (capability r n).hours (capability r n).places (capability r n).devices at
  -- §6.13.5, after every list: a context that a capability admits is admitted by all that it descends from and by the role at the end
  pub above_admits : (start : Register) (events : List Event) → T (well_formed start) → let r : Register = run start events in
      (n m : ℕ) (at : Context) → n < r.count → Descends (derived_from start events) n m → T (admits r (ofCapability n) at) → T (admits r (ofCapability m) at)
  pub end_admits : (start : Register) (events : List Event) → T (well_formed start) → let r : Register = run start events in
      (f n k : ℕ) (at : Context) → n < r.count → Reaches (derived_from start events) f n k → T (admits r (ofCapability n) at) → T (admits r (ofRole k) at)
  -- so, of a session on a capability, its holders and its own authority, mark, life and masks decide
  pub own_decides : (r : Register) (s p n : ℕ) (at : Context) → T (well_formed r) → T (opened r s) → (session_at r.sessions s).on ≡ ofCapability n
      → Yes r s p at ↔ (T (has (capability r n).holders (session_at r.sessions s).user) × Sound r p at n)
  -- §6.13.2: of a session on a role, the appointment and what the role grants and admits
  pub role_decides : (r : Register) (s p k : ℕ) (at : Context) → T (well_formed r) → T (opened r s) → (session_at r.sessions s).on ≡ ofRole k
      → Yes r s p at ↔ (T (has (role r k).appointed (session_at r.sessions s).user) × RoleSound r p at k)
  -- §6.13.1: out of range, the context is refused with 2, whether the session is open or not
  pub out_of_range : (r : Register) (s p : ℕ) (at : Context) → T (well_formed r) → T (not (in_context at)) → asked r (check s p at) ≡ refused 2
  -- §6.13.4: what an open session is on admits the context of its opening
  pub opening_admitted : (r : Register) (s : ℕ) → T (well_formed r) → T (opened r s) → T (admits r (session r s).on (opened_in (session r s)))
  -- so it is yes in a context exactly if it is yes in that of the session's opening, and what the session is on admits the context
  pub as_opened : (r : Register) (s p : ℕ) (at : Context) → T (well_formed r) → T (opened r s)
      → Yes r s p at ↔ (Yes r s p (opened_in (session r s)) × T (admits r (session r s).on at))
  -- §6.13.3: where the session was opened is not read
  pub opening_unread : (r : Register) (s : ℕ) (other : Context) → T (well_formed r) → T (well_formed (opened_elsewhere r s other)) → T (opened r s)
      → ChecksAs r s (opened_elsewhere r s other) s
