-- Of a register that keeps the rules and shows the origins `derived`: containment along derivation, and exact checks.
use mathlib.Core.Path.{◌≡◌, sym, ap, ap₂, ◌∙◌, subst}
use mathlib.Core.Logic.{◌⊎◌, inl, inr, ◌↔◌}
use mathlib.Core.Bool.{Bool, cond}
use mathlib.Core.List.{List, [], ◌∷◌}
use Prim.Native.Nat.{ℕ, suc, ◌<◌}
use native.Mathlib.Nat.{le_refl}
use native.Mathlib.Decide.{dec_lt}
use native.Mathlib.Omega.{arith}
use lib.Dec.{T, T_not, not_T, ltb, lt→ltb, ltb→lt}
use lib.ListN.{get_or-eq_default}
use Rattle.masks.specs.Masks.{has}
use Rattle.masks.specs.Tests.{Each}
use Rattle.masks.proofs.Truth.{each→, each←, cond_yes, T→true}
use Rattle.masks.proofs.MaskLaws.{within_has, has_lt}
use Rattle.model.specs.declared.Origin.{Origin}
use Rattle.model.specs.declared.Origin.TheVariants.{Role as ofRole, Capability as ofCapability}
use Rattle.model.specs.declared.Session.{Session}
use Rattle.model.specs.declared.Register.{Register}
use Rattle.model.specs.declared.Context.{Context}
use Rattle.model.specs.State.{Terms, terms, role_authority, session_at, blank_session, origin_at, exists, in_context, admitted, admitted_tests}
use Rattle.model.specs.Lineage.{Descends, here, Reaches, last_step, one_step}
use Rattle.model.specs.Rules.{session_keeps, session_tests, session_blank, is_session, is_permission}
use Rattle.model.specs.Invariant.{Below, RoleRules}
use Rattle.model.specs.Rulings.{Outcome, value, refused, Guard, ◌unless◌, role, capability, opened, terms_of, Clear, verdict}
use Rattle.model.specs.Sessions.{permits, permit_tests, check_ruling}
use Rattle.model.specs.Calls.{check, ruling}
use Rattle.model.specs.Theorem.{asked, Yes, Contained, Sound, RoleSound, Entitled}
use Rattle.model.proofs.Settling.{value_refused, one_yes, verdict_cases, clear_verdict, step_answer}
use Rattle.model.proofs.Authority.{authority_small}
use Rattle.model.proofs.Kept.{Kept}
use Rattle.model.proofs.Places.{role→}
use Rattle.model.proofs.Ranges.{founded_lt}
use Rattle.model.proofs.Rules.{kept←}
use Rattle.model.proofs.Tree.{contained, descends_shown, reaches, reaches_below}
use Rattle.model.proofs.History.{Shows}
use Rattle.model.proofs.Lives.{life_above}

-- the role that a lineage reaches is one
pub reaches_one : {derived : ℕ → Origin} {f n j k : ℕ} → Reaches derived f n j → Reaches derived f n k → j ≡ k
reaches_one (last_step a) (last_step b) = cc
reaches_one (last_step a) (one_step b q) = let z : ◌≡◌ {A = ℕ} 0 1 = cc in absurd (omega arith)
reaches_one (one_step a q) (last_step b) = let z : ◌≡◌ {A = ℕ} 0 1 = cc in absurd (omega arith)
reaches_one {derived = derived} {k = k} (one_step {f = f} {m = m} a q) (one_step {m = i} b p) =
    let e : i ≡ m = cc in
    reaches_one q (subst (λ (x : ℕ). Reaches derived f x k) e p)

-- so every role that the lineage of an entitlement reaches is sound
pub ends_each : (r : Register) (derived : ℕ → Origin) (user p : ℕ) (at : Context) (n : ℕ) → Entitled r derived user p at n
    → (k : ℕ) → Reaches derived (suc n) n k → RoleSound r p at k
ends_each r derived user p at n h k q = subst (RoleSound r p at) (reaches_one h.ends.1 q) h.ends.2

-- what is admitted lies below what admits it
pub admitted-below : (t t' : Terms) → Below t t' → (at : Context) → T (admitted t at) → T (admitted t' at)
unfolding admitted
admitted-below t t' w at h =
    let e : Each (admitted_tests t at) = each→ (admitted_tests t at) h in
    each← (admitted_tests t' at) (
      within_has _ _ w.hours at.hour e.0,
      (within_has _ _ w.places at.place e.1.0, (within_has _ _ w.devices at.device e.1.1.0, tt)),
    )

-- a session that is open has its place
pub opened_lt : (r : Register) → Kept r → (s : ℕ) → T (opened r s) → s < 64
opened_lt r k s h = cases (dec_lt s 64)
  where
    cases : Dec (s < 64) → s < 64
    cases (yes g) = g
    cases (no g) = absurd (subst (λ (x : Session). T x.active) (get_or-eq_default r.sessions blank_session (omega (arith, k.sessions.amount))) h)

-- what a check of an open session comes to, by what it is permitted
abbrev pub checked : ℕ → Context → Bool → Outcome
checked p at permitted = verdict (2 unless (is_permission p ∷ in_context at ∷ []) ∷ []) (cond permitted 1 0)

pub check_open : (r : Register) (s p : ℕ) (at : Context) → Kept r → T (opened r s)
    → asked r (check s p at) ≡ checked p at (permits r (session_at r.sessions s).on (session_at r.sessions s).user p at)
unfolding ruling check_ruling
check_open r s p at k t =
    step_answer r (check s p at) (kept← r k)
    ∙ ap₂
    (λ (a b : Bool). verdict (2 unless (a ∷ is_permission p ∷ in_context at ∷ []) ∷ 3 unless (b ∷ []) ∷ []) (cond (permits r (session_at r.sessions s).on (session_at r.sessions s).user p at) 1 0))
    (T→true (is_session s) (lt→ltb s 64 (opened_lt r k s t))) (T→true (opened r s) t)

checked_yes : (p : ℕ) (at : Context) (permitted : Bool) → checked p at permitted ≡ value 1 → T permitted
checked_yes p at permitted e = cases (verdict_cases gs)
  where
    gs : List Guard
    gs = 2 unless (is_permission p ∷ in_context at ∷ []) ∷ []

    cases : (Clear gs × ((v : ℕ) → verdict gs v ≡ value v)) ⊎ ((m : ℕ) × ((v : ℕ) → verdict gs v ≡ refused m)) → T permitted
    cases (inl c) = one_yes permitted (sym (c.1 _) ∙ e)
    cases (inr m) = value_refused (sym e ∙ m.1 _)

yes_checked : (p : ℕ) (at : Context) (permitted : Bool) → T (is_permission p) × T (in_context at) → T permitted → checked p at permitted ≡ value 1
yes_checked p at permitted q h =
    clear_verdict (2 unless (is_permission p ∷ in_context at ∷ []) ∷ []) (cond permitted 1 0) ((q.0, (q.1, tt)), tt)
    ∙ ap (λ (b : Bool). value (cond b 1 0)) (T→true permitted h)

module _ (r : Register) (derived : ℕ → Origin) (k : Kept r) (shows : Shows r derived) where
  pub shown : {n m : ℕ} → n < r.count → Descends derived n m → Descends (origin_at r.capabilities) n m
  shown = descends_shown r.enrolled r.roles r.count r.capabilities k.capabilities derived shows

  pub within_upper : {n m : ℕ} → n < r.count → Descends derived n m → Below (terms_of r (ofCapability n)) (terms_of r (ofCapability m))
  within_upper l c = contained r.enrolled r.roles r.count r.capabilities k.capabilities l (shown l c)

  pub within-role : {f n j : ℕ} → n < r.count → Reaches derived f n j → Below (terms_of r (ofCapability n)) (terms_of r (ofRole j))
  within-role l c = reaches_below r.enrolled r.roles r.count r.capabilities k.capabilities derived shows l c

  pub containment_holds : (lower upper : ℕ) → lower < r.count → Descends derived lower upper → Contained r lower upper
  unfolding terms
  containment_holds n m l c =
      let h : Below (terms_of r (ofCapability n)) (terms_of r (ofCapability m)) = within_upper l c in
      record {
        authority_within = h.grants;
        first = h.first;
        last = h.last;
        hours = h.hours;
        places = h.places;
        devices = h.devices;
        use_limit = h.use_limit;
        creation_limit = h.creation_limit;
        hop_limit = h.hop_limit;
        revoked = h.revoked;
      }

  pub bounded_holds : (n : ℕ) → n < r.count → (j : ℕ) × Reaches derived (suc n) n j × T (role r j).founded
  bounded_holds n l = reaches r.enrolled r.roles r.count r.capabilities k.capabilities derived shows (suc n) n (le_refl (suc n)) l

  -- ---- sessions

  -- what a session is on is there
  pub session_on : (s : ℕ) → T (opened r s) → T (exists r.roles r.count (session_at r.sessions s).on)
  unfolding session_keeps
  session_on s t =
      (each→ (session_tests r.enrolled r.roles r.count r.capabilities (session_at r.sessions s))
      (cond_yes (opened r s) _ (session_blank (session_at r.sessions s)) (k.sessions.session s (opened_lt r k s t)) t)).1.1.1.1.0

  -- ---- yes on a role, and on a capability by the capability alone and along its lineage

  pub permits-role : (j user p : ℕ) (at : Context) → T (permits r (ofRole j) user p at) → T (has (role r j).appointed user) × RoleSound r p at j
  unfolding permits terms
  permits-role j user p at h =
      let e : Each (permit_tests r (ofRole j) user p at) = each→ (permit_tests r (ofRole j) user p at) h in
      (e.0, record { grants = e.1.1.1.0; alive = tt; admitting = e.1.1.1.1.0 })

  pub role-permits : (j user p : ℕ) (at : Context) → T (has (role r j).appointed user) × RoleSound r p at j → T (permits r (ofRole j) user p at)
  unfolding permits terms
  role-permits j user p at h = each← (permit_tests r (ofRole j) user p at) (h.0, (tt, (tt, (h.1.grants, (h.1.admitting, tt)))))

  -- the lineage asks nothing that the capability's own terms do not
  pub sound_entitled : (n user p : ℕ) (at : Context) → n < r.count → T (has (capability r n).holders user) → Sound r p at n → Entitled r derived user p at n
  unfolding terms
  sound_entitled n user p at l held own =
      record {
        holder = held;
        lineage = λ m c.
            let w : Below (terms_of r (ofCapability n)) (terms_of r (ofCapability m)) = within_upper l c in
            record {
              grants = within_has _ _ w.grants p own.grants;
              unrevoked = not_T (capability r m).revoked (λ t. T_not (capability r n).revoked own.unrevoked (w.revoked t));
              alive = life_above r.capabilities n m r.clock w.first w.last own.alive;
              admitting = admitted-below _ _ w at own.admitting;
            };
        ends =
            let end : (j : ℕ) × Reaches derived (suc n) n j × T (role r j).founded = bounded_holds n l in
            let w : Below (terms_of r (ofCapability n)) (terms_of r (ofRole end.0)) = within-role l end.1 in
            (end.0, end.1, record { grants = within_has _ _ w.grants p own.grants; alive = tt; admitting = admitted-below _ _ w at own.admitting });
      }

  pub permits_entitled : (n user p : ℕ) (at : Context) → n < r.count → T (permits r (ofCapability n) user p at) → Entitled r derived user p at n
  unfolding permits terms
  permits_entitled n user p at l h =
      let e : Each (permit_tests r (ofCapability n) user p at) = each→ (permit_tests r (ofCapability n) user p at) h in
      sound_entitled n user p at l e.0 (record { grants = e.1.1.1.0; unrevoked = e.1.0; alive = e.1.1.0; admitting = e.1.1.1.1.0 })

  entitled_permits : (n user p : ℕ) (at : Context) → Entitled r derived user p at n → T (permits r (ofCapability n) user p at)
  unfolding permits terms
  entitled_permits n user p at h =
      let q : Sound r p at n = h.lineage n here in
      each← (permit_tests r (ofCapability n) user p at) (h.holder, (q.unrevoked, (q.alive, (q.grants, (q.admitting, tt)))))

  -- ---- what is granted and admitted is in range, as a role's permissions and masks have their widths

  role_range : (j p : ℕ) (at : Context) → T (role r j).founded → RoleSound r p at j → T (is_permission p) × T (in_context at)
  unfolding terms admitted in_context
  role_range j p at f h =
      let rules : RoleRules r.enrolled r.domains (role r j) =
      role→ r.enrolled r.domains j (role r j) f (k.roles.role j (founded_lt r.roles j k.roles.amount f)) in
      let e : Each (admitted_tests (terms_of r (ofRole j)) at) = each→ (admitted_tests (terms_of r (ofRole j)) at) h.admitting in (
        lt→ltb _ _ (has_lt 32 (role_authority r.roles j) p (authority_small r.roles j rules.permissions) h.grants),
        each← (ltb at.hour 24 ∷ ltb at.place 16 ∷ ltb at.device 16 ∷ []) (
          lt→ltb _ _ (has_lt 24 (role r j).hours at.hour rules.hours e.0),
          (
            lt→ltb _ _ (has_lt 16 (role r j).places at.place rules.places e.1.0),
            (lt→ltb _ _ (has_lt 16 (role r j).devices at.device rules.devices e.1.1.0), tt),
          ),
        ),
      )

  permits_range : (o : Origin) (user p : ℕ) (at : Context) → T (exists r.roles r.count o) → T (permits r o user p at) → T (is_permission p) × T (in_context at)
  unfolding exists
  permits_range (ofRole j) user p at t h = role_range j p at t (permits-role j user p at h).1
  permits_range (ofCapability n) user p at t h =
      let l : n < r.count = ltb→lt _ _ t in
      let end : (j : ℕ) × Reaches derived (suc n) n j × T (role r j).founded = bounded_holds n l in
      role_range end.0 p at end.2 (ends_each r derived user p at n (permits_entitled n user p at l h) end.0 end.1)

  -- so a check of an open session is yes exactly if it is permitted
  pub yes_permits : (s p : ℕ) (at : Context) → T (opened r s)
      → Yes r s p at ↔ T (permits r (session_at r.sessions s).on (session_at r.sessions s).user p at)
  yes_permits s p at t =
      let permitted : Bool = permits r (session_at r.sessions s).on (session_at r.sessions s).user p at in
      let a : asked r (check s p at) ≡ checked p at permitted = check_open r s p at k t in (
        (λ q. checked_yes p at permitted (sym a ∙ q)),
        (λ h. a ∙ yes_checked p at permitted (permits_range _ _ p at (session_on s t) h) h),
      )

  pub exact_check_holds : (s p n : ℕ) (at : Context) → T (opened r s) → (session_at r.sessions s).on ≡ ofCapability n
      → Yes r s p at ↔ Entitled r derived (session_at r.sessions s).user p at n
  unfolding exists
  exact_check_holds s p n at t on = (
    (λ q. permits_entitled n _ p at l (subst Permitted on ((yes_permits s p at t).0 q))),
    (λ h. (yes_permits s p at t).1 (subst Permitted (sym on) (entitled_permits n _ p at h))),
  )
    where
      Permitted : Origin → Type 0
      Permitted o = T (permits r o (session_at r.sessions s).user p at)

      l : n < r.count
      l = ltb→lt _ _ (subst (λ (o : Origin). T (exists r.roles r.count o)) on (session_on s t))
