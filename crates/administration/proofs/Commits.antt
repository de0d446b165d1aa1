-- Each call of administration over the elements that it names, put back, is the call of the model.
use mathlib.Core.Path.{◌≡◌, refl, ap, ◌∙◌}
use mathlib.Core.Bool.{Bool}
use mathlib.Core.List.{List, [], ◌∷◌}
use Prim.Native.Nat.{ℕ, ◌%◌}
use lib.ListN.{get_or}
use Rattle.masks.proofs.Truth.{each_at}
use Rattle.model.specs.declared.Register.{Register}
use Rattle.model.specs.Rules.{is_user, is_domain, is_role, is_permission, bits}
use Rattle.model.specs.Setters.{with_clock}
use Rattle.model.specs.Rulings.{role}
use Rattle.model.specs.Administration.{enrolling, founding, granting, appointing, dismissing, ticking, putting_user, enrol_ruling, found_ruling, grant_ruling, appoint_ruling, dismiss_ruling, clock_ruling}
use Rattle.model.specs.Calls.{enrol, found, grant, appoint, dismiss, clock, ruling, settled}
use Rattle.slots.specs.Slots.{Places, look, lifted, with_clock_slot, with_user_slot}
use Rattle.origins.proofs.Laws.{in_range_lem}
use Rattle.slots.proofs.SlotLaws.{put_clock, put_user, ranged_commit, role_commit}
use Rattle.administration.specs.Administration.{enrol_decision, found_decision, grant_decision, appoint_decision, dismiss_decision, clock_decision}

module _ (r : Register) (p : Places) where
  pub enrol_commit : (user domain : ℕ) → p.user ≡ user % 64 → lifted r p (enrol_decision (look r p) user domain) ≡ settled r (enrol user domain)
  unfolding enrol_decision settled ruling enrol_ruling
  enrol_commit user domain e =
      let ts : List Bool = is_user user ∷ is_domain domain ∷ [] in
      ranged_commit r p ts (enrolling r.enrolled user domain) _ (λ u. with_user_slot (look r p) u.0 u.1) (putting_user r user) refl refl (λ t. refl)
      (λ t g u. put_user r p u.0 u.1 ∙ ap (λ (j : ℕ). putting_user r j u) (e ∙ in_range_lem user 64 (each_at ts t 0)))

  pub found_commit : (k domain hours places devices : ℕ) → p.role ≡ k % 32
      → lifted r p (found_decision (look r p) k domain hours places devices) ≡ settled r (found k domain hours places devices)
  unfolding found_decision settled ruling found_ruling
  found_commit k domain hours places devices e =
      let ts : List Bool = is_role k ∷ is_domain domain ∷ bits 24 hours ∷ bits 16 places ∷ bits 16 devices ∷ [] in
      role_commit r p k ts (λ x. founding x k domain hours places devices) _ (λ x. refl) refl e (λ t. each_at ts t 0) (λ t. refl)

  pub grant_commit : (k q : ℕ) → p.role ≡ k % 32 → lifted r p (grant_decision (look r p) k q) ≡ settled r (grant k q)
  unfolding grant_decision settled ruling grant_ruling
  grant_commit k q e =
      let ts : List Bool = is_role k ∷ is_permission q ∷ [] in
      role_commit r p k ts (λ x. granting x k q) _ (λ x. refl) refl e (λ t. each_at ts t 0) (λ t. refl)

  pub appoint_commit : (user k : ℕ) → p.user ≡ user % 64 → p.role ≡ k % 32 → lifted r p (appoint_decision (look r p) user k) ≡ settled r (appoint user k)
  unfolding appoint_decision settled ruling appoint_ruling
  appoint_commit user k d e =
      let ts : List Bool = is_user user ∷ is_role k ∷ [] in
      role_commit r p k ts (λ x. appointing r.enrolled (get_or r.domains p.user 0) x user k) _ (λ x. refl) refl e (λ t. each_at ts t 1)
      (λ t. ap (λ (j : ℕ). appointing r.enrolled (get_or r.domains j 0) (role r k) user k) (d ∙ in_range_lem user 64 (each_at ts t 0)))

  pub dismiss_commit : (user k : ℕ) → p.role ≡ k % 32 → lifted r p (dismiss_decision (look r p) user k) ≡ settled r (dismiss user k)
  unfolding dismiss_decision settled ruling dismiss_ruling
  dismiss_commit user k e =
      let ts : List Bool = is_user user ∷ is_role k ∷ [] in
      role_commit r p k ts (λ x. dismissing r.enrolled x user k) _ (λ x. refl) refl e (λ t. each_at ts t 1) (λ t. refl)

  pub clock_commit : (tick : ℕ) → lifted r p (clock_decision (look r p) tick) ≡ settled r (clock tick)
  unfolding clock_decision settled ruling clock_ruling
  clock_commit tick =
      ranged_commit r p (bits 32 tick ∷ []) (ticking r.clock tick) _ (with_clock_slot (look r p)) (with_clock r) refl refl (λ t. refl) (λ t g x. put_clock r p x)
