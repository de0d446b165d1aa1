-- Roles and sessions in their places: the tests of one as facts, one put anew, and all of them through a change elsewhere.
use mathlib.Core.Path.{◌≡◌, sym, ◌∙◌, subst}
use mathlib.Core.Logic.{◌⊎◌, inl, inr, ◌≢◌}
use mathlib.Core.List.{List}
use Prim.Native.Nat.{ℕ, ◌<◌}
use native.Mathlib.Omega.{arith}
use lib.Dec.{T, T_not, eqb, lt→ltb, ltb→lt, eqb→eq}
use lib.ListN.{get_or, set, length-set}
use Rattle.masks.specs.Masks.{has}
use Rattle.masks.specs.Tests.{each, Each}
use Rattle.masks.proofs.Truth.{each→, each←, each_at, cond_i, cond_yes, cond_no, implies_i, implies_e, eq→eqb}
use Rattle.masks.proofs.Bounded.{set_cases, all_below_at, all_below_i}
use Rattle.model.specs.declared.Origin.{Origin}
use Rattle.model.specs.declared.Role.{Role}
use Rattle.model.specs.declared.Capability.{Capability}
use Rattle.model.specs.declared.Context.{Context}
use Rattle.model.specs.declared.Session.{Session}
use Rattle.model.specs.State.{terms, role_at, session_at, blank_role, blank_session, opened_in, admitted, exists}
use Rattle.model.specs.Rules.{role_keeps, role_tests, role_blank, same_domain, session_keeps, session_tests, session_blank}
use Rattle.model.specs.Invariant.{RoleRules}
use Rattle.model.proofs.Kept.{RolesKept, SessionsKept}

-- ---- a founded role: its tests as facts, and back

module _ (enrolled : ℕ) (domains : List ℕ) (k : ℕ) (x : Role) (founded : T x.founded) where
  pub role→ : T (role_keeps enrolled domains k x) → RoleRules enrolled domains x
  unfolding role_keeps same_domain
  role→ h =
      let g : T (each (role_tests enrolled domains x)) = cond_yes x.founded (each (role_tests enrolled domains x)) (role_blank x) h founded in
      record {
        domain = ltb→lt _ _ (each_at (role_tests enrolled domains x) g 0);
        permissions = ltb→lt _ _ (each_at (role_tests enrolled domains x) g 1);
        hours = ltb→lt _ _ (each_at (role_tests enrolled domains x) g 2);
        places = ltb→lt _ _ (each_at (role_tests enrolled domains x) g 3);
        devices = ltb→lt _ _ (each_at (role_tests enrolled domains x) g 4);
        appointed = ltb→lt _ _ (each_at (role_tests enrolled domains x) g 5);
        appointed_enrolled = each_at (role_tests enrolled domains x) g 6;
        same_domain = λ u l t. eqb→eq _ _
            (implies_e (has x.appointed u) (eqb (get_or domains u 0) x.domain) (all_below_at 64 _ (each_at (role_tests enrolled domains x) g 7) u l) t);
      }

  pub role← : RoleRules enrolled domains x → T (role_keeps enrolled domains k x)
  unfolding role_keeps same_domain
  role← h =
      cond_i x.founded (each (role_tests enrolled domains x)) (role_blank x)
      (λ t. each← (role_tests enrolled domains x) (
        lt→ltb _ _ h.domain,
        (
          lt→ltb _ _ h.permissions,
          (
            lt→ltb _ _ h.hours,
            (
              lt→ltb _ _ h.places,
              (
                lt→ltb _ _ h.devices,
                (
                  lt→ltb _ _ h.appointed,
                  (
                    h.appointed_enrolled,
                    (all_below_i 64 _ (λ u l. implies_i (has x.appointed u) (eqb (get_or domains u 0) x.domain) (λ g. eq→eqb _ _ (h.same_domain u l g))), tt),
                  ),
                ),
              ),
            ),
          ),
        ),
      ))
      (λ t. absurd (T_not x.founded t founded))

-- ---- one put anew

pub role_set : (enrolled : ℕ) (domains : List ℕ) (roles : List Role) (k : ℕ) (x : Role) → k < 32 → RolesKept enrolled domains roles → T (role_keeps enrolled domains k x) → RolesKept enrolled domains (set roles k x)
role_set enrolled domains roles k x l kept h =
    record { amount = length-set roles k x ∙ kept.amount; role = λ j g. one j g (set_cases roles k x blank_role j (omega (arith, kept.amount))) }
  where
    one : (j : ℕ) → j < 32 → ((j ≡ k) × (role_at (set roles k x) j ≡ x)) ⊎ ((j ≢ k) × (role_at (set roles k x) j ≡ role_at roles j)) → T (role_keeps enrolled domains j (role_at (set roles k x) j))
    one j g (inl e) = subst (λ (y : Role). T (role_keeps enrolled domains j y)) (sym e.1) (subst (λ (i : ℕ). T (role_keeps enrolled domains i x)) (sym e.0) h)
    one j g (inr e) = subst (λ (y : Role). T (role_keeps enrolled domains j y)) (sym e.1) (kept.role j g)

pub session-set : (enrolled : ℕ) (roles : List Role) (count : ℕ) (cs : List Capability) (ss : List Session) (i : ℕ) (s : Session) → i < 64 → SessionsKept enrolled roles count cs ss
    → T (session_keeps enrolled roles count cs i s) → SessionsKept enrolled roles count cs (set ss i s)
session-set enrolled roles count cs ss i s l kept h =
    record { amount = length-set ss i s ∙ kept.amount; session = λ j g. one j g (set_cases ss i s blank_session j (omega (arith, kept.amount))) }
  where
    one : (j : ℕ) → j < 64 → ((j ≡ i) × (session_at (set ss i s) j ≡ s)) ⊎ ((j ≢ i) × (session_at (set ss i s) j ≡ session_at ss j)) → T (session_keeps enrolled roles count cs j (session_at (set ss i s) j))
    one j g (inl e) = subst (λ (y : Session). T (session_keeps enrolled roles count cs j y)) (sym e.1) (subst (λ (n : ℕ). T (session_keeps enrolled roles count cs n s)) (sym e.0) h)
    one j g (inr e) = subst (λ (y : Session). T (session_keeps enrolled roles count cs j y)) (sym e.1) (kept.session j g)

-- ---- all sessions: users stay enrolled, what a session is on stays there and still admits what it admitted

module _
    (enrolled enrolled' : ℕ) (roles roles' : List Role) (count count' : ℕ) (cs cs' : List Capability)
    (users : (u : ℕ) → T (has enrolled u) → T (has enrolled' u))
    (still : (o : Origin) → T (exists roles count o) → T (exists roles' count' o))
    (admits : (o : Origin) → T (exists roles count o) → (at : Context) → T (admitted (terms roles cs o) at) → T (admitted (terms roles' cs' o) at)) where
  pub moved_sessions : (ss : List Session) → SessionsKept enrolled roles count cs ss → SessionsKept enrolled' roles' count' cs' ss
  unfolding session_keeps
  moved_sessions ss k = record { amount = k.amount; session = λ i l. one i (session_at ss i) (k.session i l) }
    where
      one : (i : ℕ) (s : Session) → T (session_keeps enrolled roles count cs i s) → T (session_keeps enrolled' roles' count' cs' i s)
      one i s h =
          cond_i
          s.active
          (each (session_tests enrolled' roles' count' cs' s))
          (session_blank s)
          (λ t.
          let e : Each (session_tests enrolled roles count cs s) = each→ (session_tests enrolled roles count cs s) (cond_yes s.active _ (session_blank s) h t) in
          each← (session_tests enrolled' roles' count' cs' s) (
            e.0,
            (
              e.1.0,
              (
                e.1.1.0,
                (
                  users s.user e.1.1.1.0,
                  (
                    still s.on e.1.1.1.1.0,
                    (admits s.on e.1.1.1.1.0 (opened_in s) e.1.1.1.1.1.0, tt),
                  ),
                ),
              ),
            ),
          ))
          (λ t. cond_no s.active (each (session_tests enrolled roles count cs s)) (session_blank s) h t)
