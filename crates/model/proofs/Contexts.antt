-- The laws of `specs/Contexts.antt`: by containment along the lineage (`admitted-below`), and as a check of an open session is yes exactly
-- if it is permitted (`yes-permits`).
use mathlib.Core.Path.{◌≡◌, refl, sym, ap, ◌∙◌, subst}
use mathlib.Core.Logic.{◌↔◌}
use mathlib.Core.Bool.{Bool, true, false, cond, not}
use mathlib.Core.List.{List, [], ◌∷◌}
use Prim.Native.Nat.{ℕ, ◌<◌}
use native.Mathlib.Omega.{arith}
use lib.Dec.{T, ltb→lt}
use lib.Seq.{get_or-set_same}
use Rattle.masks.specs.Masks.{has}
use Rattle.masks.specs.Tests.{Each}
use Rattle.masks.proofs.Truth.{each→, each←, cond_yes, T→false}
use Rattle.model.specs.declared.Origin.{Origin}
use Rattle.model.specs.declared.Origin.TheVariants.{Role as ofRole, Capability as ofCapability}
use Rattle.model.specs.declared.Session.{Session}
use Rattle.model.specs.declared.Register.{Register}
use Rattle.model.specs.declared.Context.{Context}
use Rattle.model.specs.State.{Terms, terms, blank_session, opened_in, origin_at, exists, in_context, admitted, admitted_tests}
use Rattle.model.specs.Lineage.{Descends, Reaches, here}
use Rattle.model.specs.Rules.{well_formed, is_session, is_permission, session_keeps, session_tests, session_blank}
use Rattle.model.specs.Rulings.{refused, Guard, ◌unless◌, verdict, role, capability, opened, terms_of, admits}
use Rattle.model.specs.Sessions.{session, new_session, permits, permit_tests, check_ruling}
use Rattle.model.specs.Calls.{check, ruling}
use Rattle.model.specs.Lists.{Event, run, derived_from}
use Rattle.model.specs.Theorem.{asked, Yes, Sound, RoleSound, Entitled}
use Rattle.model.specs.Alike.{ChecksAs}
use Rattle.model.specs.Contexts.{InMasks, opened_elsewhere, ContextLaws}
use Rattle.model.proofs.Settling.{step_answer}
use Rattle.model.proofs.Kept.{Kept}
use Rattle.model.proofs.Rules.{kept→}
use Rattle.model.proofs.Running.{run_keeps}
use Rattle.model.proofs.History.{Shows, derived_shown}
use Rattle.model.proofs.Checks.{opened_lt, admitted-below, within_upper, within-role, checked, check_open, yes_permits, permits-role, role-permits, session_on, sound_entitled, exact_check_holds}

-- ---- the three masks

masks_admit : (t : Terms) (at : Context) → T (admitted t at) ↔ InMasks t.hours t.places t.devices at
unfolding admitted
masks_admit t at = (
  (λ h. let e : Each (admitted_tests t at) = each→ (admitted_tests t at) h in (e.0, e.1.0, e.1.1.0)),
  (λ m. each← (admitted_tests t at) (m.0, (m.1, (m.2, tt)))),
)

role_admits : (r : Register) (k : ℕ) (at : Context) → T (admits r (ofRole k) at) ↔ InMasks (role r k).hours (role r k).places (role r k).devices at
unfolding terms
role_admits r k at = masks_admit (terms_of r (ofRole k)) at

capability_admits : (r : Register) (n : ℕ) (at : Context)
    → T (admits r (ofCapability n) at) ↔ InMasks (capability r n).hours (capability r n).places (capability r n).devices at
unfolding terms
capability_admits r n at = masks_admit (terms_of r (ofCapability n)) at

-- ---- up the lineage, after a list

module _ (start : Register) (events : List Event) (w : T (well_formed start)) where
  abbrev after : Register
  after = run start events

  above_admits : (n m : ℕ) (at : Context) → n < after.count → Descends (derived_from start events) n m
      → T (admits after (ofCapability n) at) → T (admits after (ofCapability m) at)
  above_admits n m at l c =
      admitted-below _ _ (within_upper after (derived_from start events) (run_keeps start events (kept→ start w)) (derived_shown start events (kept→ start w)) l c) at

  end_admits : (f n k : ℕ) (at : Context) → n < after.count → Reaches (derived_from start events) f n k
      → T (admits after (ofCapability n) at) → T (admits after (ofRole k) at)
  end_admits f n k at l c =
      admitted-below _ _ (within-role after (derived_from start events) (run_keeps start events (kept→ start w)) (derived_shown start events (kept→ start w)) l c) at

-- ---- checks of one register

module _ (r : Register) (w : T (well_formed r)) where
  k : Kept r
  k = kept→ r w

  shows : Shows r (origin_at r.capabilities)
  shows i l = refl

  module _ (s : ℕ) (t : T (opened r s)) where
    abbrev Permitted : (p : ℕ) → Context → Origin → Type 0
    Permitted p at o = T (permits r o (session r s).user p at)

    yes : (p : ℕ) (at : Context) → Yes r s p at ↔ Permitted p at (session r s).on
    yes p at = yes_permits r (origin_at r.capabilities) k shows s p at t

    own_decides : (p n : ℕ) (at : Context) → (session r s).on ≡ ofCapability n
        → Yes r s p at ↔ (T (has (capability r n).holders (session r s).user) × Sound r p at n)
    unfolding exists
    own_decides p n at on = (
      (λ q. let e : Entitled r (origin_at r.capabilities) (session r s).user p at n = exact.0 q in (e.holder, e.lineage n here)),
      (λ h. exact.1 (sound_entitled r (origin_at r.capabilities) k shows n _ p at l h.0 h.1)),
    )
      where
        exact : Yes r s p at ↔ Entitled r (origin_at r.capabilities) (session r s).user p at n
        exact = exact_check_holds r (origin_at r.capabilities) k shows s p n at t on

        l : n < r.count
        l = ltb→lt _ _ (subst (λ (o : Origin). T (exists r.roles r.count o)) on (session_on r (origin_at r.capabilities) k shows s t))

    role_decides : (p j : ℕ) (at : Context) → (session r s).on ≡ ofRole j
        → Yes r s p at ↔ (T (has (role r j).appointed (session r s).user) × RoleSound r p at j)
    role_decides p j at on = (
      (λ q. permits-role r (origin_at r.capabilities) k shows j _ p at (subst (Permitted p at) on ((yes p at).0 q))),
      (λ h. (yes p at).1 (subst (Permitted p at) (sym on) (role-permits r (origin_at r.capabilities) k shows j _ p at h))),
    )

    -- the rules: what the session is on admits the context of the opening
    opening_admitted : T (admits r (session r s).on (opened_in (session r s)))
    unfolding session_keeps
    opening_admitted =
        (each→ (session_tests r.enrolled r.roles r.count r.capabilities (session r s))
        (cond_yes (opened r s) _ (session_blank (session r s)) (k.sessions.session s (opened_lt r k s t)) t)).1.1.1.1.1.0

    -- a check asks the same in every context but for what the context is asked of
    elsewhere : (p : ℕ) (at other : Context) (o : Origin) → Permitted p at o → T (admits r o other) → Permitted p other o
    unfolding permits
    elsewhere p at other o h a =
        let e : Each (permit_tests r o (session r s).user p at) = each→ (permit_tests r o (session r s).user p at) h in
        each← (permit_tests r o (session r s).user p other) (e.0, (e.1.0, (e.1.1.0, (e.1.1.1.0, (a, tt)))))

    admitted-there : (p : ℕ) (at : Context) (o : Origin) → Permitted p at o → T (admits r o at)
    unfolding permits
    admitted-there p at o h = (each→ (permit_tests r o (session r s).user p at) h).1.1.1.1.0

    as_opened : (p : ℕ) (at : Context) → Yes r s p at ↔ (Yes r s p (opened_in (session r s)) × T (admits r (session r s).on at))
    as_opened p at = (
      (λ q. let h = (yes p at).0 q in ((yes p _).1 (elsewhere p at _ _ h opening_admitted), admitted-there p at _ h)),
      (λ h. (yes p at).1 (elsewhere p _ at _ ((yes p _).0 h.0) h.1)),
    )

    opening_unread : (other : Context) → T (well_formed (opened_elsewhere r s other)) → ChecksAs r s (opened_elsewhere r s other) s
    unfolding permits
    opening_unread other w' p at =
        let there : session (opened_elsewhere r s other) s ≡ new_session (session r s).user (session r s).on other =
        get_or-set_same r.sessions s _ blank_session (omega (arith, opened_lt r k s t, k.sessions.amount)) in
        check_open (opened_elsewhere r s other) s p at (kept→ (opened_elsewhere r s other) w') (subst (λ (x : Session). T x.active) (sym there) tt)
        ∙ ap (λ (x : Session). checked p at (permits r x.on x.user p at)) there
        ∙ sym (check_open r s p at k t)

  -- a range that does not hold is refused first
  out_of_range : (s p : ℕ) (at : Context) → T (not (in_context at)) → asked r (check s p at) ≡ refused 2
  unfolding ruling check_ruling
  out_of_range s p at h =
      let rest : List Guard = 3 unless (opened r s ∷ []) ∷ [] in
      let v : ℕ = cond (permits r (session r s).on (session r s).user p at) 1 0 in
      step_answer r (check s p at) w
      ∙ ap (λ (b : Bool). verdict (2 unless (is_session s ∷ is_permission p ∷ b ∷ []) ∷ rest) v) (T→false (in_context at) h)
      ∙ refuses (is_session s) (is_permission p) rest v
    where
      refuses : (a b : Bool) (rest : List Guard) (v : ℕ) → verdict (2 unless (a ∷ b ∷ false ∷ []) ∷ rest) v ≡ refused 2
      refuses false b rest v = refl
      refuses true false rest v = refl
      refuses true true rest v = refl

pub context_laws : ContextLaws
context_laws =
    record {
      role_admits = role_admits;
      capability_admits = capability_admits;
      above_admits = above_admits;
      end_admits = end_admits;
      own_decides = λ r s p n at w t. own_decides r w s t p n at;
      role_decides = λ r s p j at w t. role_decides r w s t p j at;
      out_of_range = λ r s p at w. out_of_range r w s p at;
      opening_admitted = λ r s w t. opening_admitted r w s t;
      as_opened = λ r s p at w t. as_opened r w s t p at;
      opening_unread = λ r s other w w' t. opening_unread r w s t other w';
    }
