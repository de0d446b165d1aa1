-- Enrol, appoint and dismiss keep the shelf rules.
use mathlib.Core.Path.{◌≡◌, refl, sym, ap, ◌∙◌, subst}
use mathlib.Core.Logic.{◌⊎◌, inl, inr, ◌≢◌}
use mathlib.Core.Bool.{Bool, cond, not}
use mathlib.Core.List.{List}
use Prim.Native.Nat.{ℕ, ◌^◌, ◌<◌}
use native.Mathlib.Omega.{arith}
use lib.Dec.{T, T_not, eqb, ltb, lt→ltb, ltb→lt, eqb→eq}
use lib.ListN.{get_or, set, length, length-set}
use lib.Seq.{get_or-set_other}
use Rattle.model.specs.declared.Role.{Role}
use Rattle.model.specs.declared.Register.{Register}
use Rattle.masks.specs.Masks.{has, within, including, excluding}
use Rattle.masks.proofs.Truth.{cond_i, cond_no, or_cases, or_r, eq→eqb, cond_yes}
use Rattle.masks.proofs.Bounded.{set-each, set_cases}
use Rattle.masks.proofs.MaskLaws.{within_refl, within_trans, within_has, within-including, within_le, excluding-within, including-within, including_lt, has-including, has_other}
use Rattle.model.specs.State.{role_authority, role_at, blank_role, exists}
use Rattle.model.specs.Rules.{user_keeps, role_keeps, role_blank, role_tests}
use Rattle.model.specs.Invariant.{RoleRules}
use Rattle.model.specs.Setters.{with_appointed, with_roles}
use Rattle.model.specs.Rulings.{role, Clear}
use Rattle.model.specs.Administration.{enrol_ruling, appoint_ruling, dismiss_ruling}
use Rattle.model.proofs.Settling.{passed}
use Rattle.model.proofs.Authority.{authority_grows}
use Rattle.model.proofs.Kept.{RolesKept, UsersKept, Kept}
use Rattle.model.proofs.Places.{role→, role←, role_set}
use Rattle.model.proofs.Frames.{RoleFrame, role_frame}
use Rattle.model.proofs.Parts.{more_capabilities, more_sessions, roles_capabilities, roles_sessions}
use Rattle.masks.specs.Tests.{each}

-- ---- appointed users put anew

module _ (enrolled : ℕ) (domains : List ℕ) (k : ℕ) (x : Role) (founded : T x.founded) (h : RoleRules enrolled domains x) (small : enrolled < 2 ^ 64) where
  role_appointed : (m : ℕ) → T (within m enrolled) → ((u : ℕ) → u < 64 → T (has m u) → get_or domains u 0 ≡ x.domain) → T (role_keeps enrolled domains k (with_appointed x m))
  role_appointed m w d =
      role← enrolled domains k (with_appointed x m) founded
      (record { domain = h.domain; permissions = h.permissions; hours = h.hours; places = h.places; devices = h.devices; appointed = omega (arith, within_le m enrolled w); appointed_enrolled = w; same_domain = d })

-- a role with other appointed users
appoint_any : (r : Register) (j m : ℕ) → j < 32 → Kept r → T (role_keeps r.enrolled r.domains j (with_appointed (role r j) m))
    → Kept (with_roles r (set r.roles j (with_appointed (role r j) m)))
appoint_any r j m l k h =
    let x : Role = with_appointed (role r j) m in
    let inside : j < length r.roles = omega (arith, k.roles.amount) in
    let frames : (i : ℕ) → RoleFrame (role r i) (role_at (set r.roles j x) i) =
    λ i. set-each RoleFrame r.roles j x blank_role role_frame (record { founded = refl; hours = refl; places = refl; devices = refl }) i inside in
    let more : (i : ℕ) → T (within (role_authority r.roles i) (role_authority (set r.roles j x) i)) =
    authority_grows r.roles j x inside (within_refl (role r j).permissions) in
    record {
      clock = k.clock;
      users = k.users;
      roles = role_set r.enrolled r.domains r.roles j x l k.roles h;
      capabilities = roles_capabilities r.roles (set r.roles j x) frames more r.enrolled r.count r.capabilities k.capabilities;
      sessions = roles_sessions r.roles (set r.roles j x) frames more r.enrolled r.count r.capabilities r.sessions k.sessions;
    }

pub appoint_keeps : (r : Register) (u j : ℕ) → Kept r → Clear (appoint_ruling r u j).guards → Kept (appoint_ruling r u j).after
unfolding appoint_ruling exists
appoint_keeps r u j k g =
    let gs = (appoint_ruling r u j).guards in
    let l : j < 32 = ltb→lt _ _ (passed 2 gs g).1.0 in
    let f : T (role r j).founded = (passed 3 gs g).1.0 in
    let h : RoleRules r.enrolled r.domains (role r j) = role→ r.enrolled r.domains j (role r j) f (k.roles.role j l) in
    appoint_any r j _ l k
    (role_appointed r.enrolled r.domains j (role r j) f h k.users.small _
    (including-within (role r j).appointed u r.enrolled h.appointed_enrolled (passed 3 gs g).0)
    (λ v lv t. cases h v lv (or_cases (has (role r j).appointed v) (eqb v u) (subst T (has-including (role r j).appointed u v) t))))
  where
    cases : RoleRules r.enrolled r.domains (role r j) → (v : ℕ) → v < 64 → T (has (role r j).appointed v) ⊎ T (eqb v u) → get_or r.domains v 0 ≡ (role r j).domain
    cases h v l (inl t) = h.same_domain v l t
    cases h v l (inr t) = ap (λ (i : ℕ). get_or r.domains i 0) (eqb→eq v u t) ∙ eqb→eq _ _ (passed 5 (appoint_ruling r u j).guards g).0

pub dismiss_keeps : (r : Register) (u j : ℕ) → Kept r → Clear (dismiss_ruling r u j).guards → Kept (dismiss_ruling r u j).after
unfolding dismiss_ruling exists
dismiss_keeps r u j k g =
    let gs = (dismiss_ruling r u j).guards in
    let l : j < 32 = ltb→lt _ _ (passed 2 gs g).1.0 in
    let f : T (role r j).founded = (passed 3 gs g).1.0 in
    let h : RoleRules r.enrolled r.domains (role r j) = role→ r.enrolled r.domains j (role r j) f (k.roles.role j l) in
    let w : T (within (excluding (role r j).appointed u) (role r j).appointed) = excluding-within (role r j).appointed u (passed 4 gs g).0 in
    appoint_any r j _ l k
    (role_appointed r.enrolled r.domains j (role r j) f h k.users.small _
    (within_trans _ (role r j).appointed _ w h.appointed_enrolled)
    (λ v lv t. h.same_domain v lv (within_has _ _ w v t)))

-- ---- enrol

-- a domain put for a user who is not enrolled is no appointed user's
enrolled_roles : (enrolled : ℕ) (domains : List ℕ) (roles : List Role) (u d : ℕ) → T (not (has enrolled u)) → RolesKept enrolled domains roles
    → RolesKept (including enrolled u) (set domains u d) roles
unfolding role_keeps
enrolled_roles enrolled domains roles u d new kept =
    record { amount = kept.amount; role = λ k l. one k (role_at roles k) (kept.role k l) }
  where
    one : (k : ℕ) (x : Role) → T (role_keeps enrolled domains k x) → T (role_keeps (including enrolled u) (set domains u d) k x)
    one k x h =
        cond_i x.founded (each (role_tests (including enrolled u) (set domains u d) x)) (role_blank x)
        (λ f.
        let e : RoleRules enrolled domains x = role→ enrolled domains k x f h in
        cond_yes x.founded _ (role_blank x)
        (role← (including enrolled u) (set domains u d) k x f
        (record {
          domain = e.domain;
          permissions = e.permissions;
          hours = e.hours;
          places = e.places;
          devices = e.devices;
          appointed = e.appointed;
          appointed_enrolled = within_trans _ enrolled _ e.appointed_enrolled (within-including enrolled u);
          same_domain = λ v l t.
              get_or-set_other domains u v d 0 (λ q. T_not (has enrolled u) new (subst (λ (i : ℕ). T (has enrolled i)) q (within_has _ _ e.appointed_enrolled v t)))
              ∙ e.same_domain v l t;
        })) f)
        (λ f. cond_no x.founded (each (role_tests enrolled domains x)) (role_blank x) h f)

enrolled_users : (enrolled : ℕ) (domains : List ℕ) (u d : ℕ) → T (not (has enrolled u)) → u < 64 → d < 8 → UsersKept enrolled domains → UsersKept (including enrolled u) (set domains u d)
unfolding user_keeps
enrolled_users enrolled domains u d new lu ld kept =
    record {
      amount = length-set domains u d ∙ kept.amount;
      small = including_lt 64 enrolled u kept.small lu;
      user = λ v l. one v l (set_cases domains u d 0 v (omega (arith, kept.amount)));
    }
  where
    one : (v : ℕ) → v < 64 → ((v ≡ u) × (get_or (set domains u d) v 0 ≡ d)) ⊎ ((v ≢ u) × (get_or (set domains u d) v 0 ≡ get_or domains v 0)) → T (user_keeps (including enrolled u) v (get_or (set domains u d) v 0))
    one v l (inl e) = cond_i (has (including enrolled u) v) _ _ (λ t. subst (λ (x : ℕ). T (ltb x 8)) (sym e.1) (lt→ltb d 8 ld)) (λ t. absurd (T_not (has (including enrolled u) v) t (subst T (sym (has-including enrolled u v)) (or_r (has enrolled v) (eqb v u) (eq→eqb v u e.0)))))
    one v l (inr e) =
        subst (λ (x : ℕ). T (user_keeps (including enrolled u) v x)) (sym e.1)
        (subst (λ (b : Bool). T (cond b (ltb (get_or domains v 0) 8) (eqb (get_or domains v 0) 0))) (sym (has_other enrolled u v e.0)) (kept.user v l))

pub enrol_keeps : (r : Register) (u d : ℕ) → Kept r → Clear (enrol_ruling r u d).guards → Kept (enrol_ruling r u d).after
unfolding enrol_ruling
enrol_keeps r u d k g =
    let rs = (enrol_ruling r u d).guards in
    let lu : u < 64 = ltb→lt _ _ (passed 2 rs g).0 in
    let ld : d < 8 = ltb→lt _ _ (passed 2 rs g).1.0 in
    let new : T (not (has r.enrolled u)) = passed 4 rs g in
    let w : T (within r.enrolled (including r.enrolled u)) = within-including r.enrolled u in
    record {
      clock = k.clock;
      users = enrolled_users r.enrolled r.domains u d new lu ld k.users;
      roles = enrolled_roles r.enrolled r.domains r.roles u d new k.roles;
      capabilities = more_capabilities r.enrolled (including r.enrolled u) w r.roles r.count r.capabilities k.capabilities;
      sessions = more_sessions r.enrolled (including r.enrolled u) w r.roles r.count r.capabilities r.sessions k.sessions;
    }
