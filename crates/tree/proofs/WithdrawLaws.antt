-- What withdraw's core does is the call of the model.
use mathlib.Core.Path.{◌≡◌, refl, ap₂, ◌∙◌}
use mathlib.Core.List.{[], ◌∷◌}
use Prim.Native.Nat.{ℕ, ◌%◌}
use native.Mathlib.Omega.{arith}
use lib.ListN.{drop}
use Rattle.masks.specs.Masks.{excluding}
use Rattle.model.specs.declared.Refusal.{Refusal}
use Rattle.model.specs.declared.Role.{Role}
use Rattle.model.specs.declared.Register.{Register}
use Rattle.model.specs.Setters.{with_role_permissions}
use Rattle.model.specs.Rules.{is_role, is_permission}
use Rattle.model.specs.Rulings.{refused, ◌unless◌, settle, role}
use Rattle.model.specs.Administration.{putting_role, withdrawing, cut_after_role, withdraw_ruling}
use Rattle.model.specs.Calls.{withdraw, ruling, settled}
use Rattle.model.specs.Requests.{refusal_number}
use Rattle.std.specs.Prelude.{⊤, Result, Ok, Err}
use Rattle.slots.specs.Guards.{guarded, first_number}
use Rattle.sweeps.specs.declared.Sweep.TheVariants.{Cut}
use Rattle.sweeps.specs.Sweeping.{swept_by}
use Rattle.model.proofs.Settling.{settle_past}
use Rattle.origins.proofs.Laws.{in_range_lem}
use Rattle.slots.proofs.GuardLaws.{refuse_ruled, pass_ruled}

-- role j, with x put anew, and the sweep over the capabilities after it
abbrev swept_from : Register → ℕ → Role → Register
swept_from r j x = cut_after_role (putting_role r j x)

module _ (r : Register) (k p : ℕ) (c : Result ⊤ Refusal) (checks : guarded c ≡ first_number (withdrawing (role r (k % 32)) k p).guards) where
  withdraw_guards : (s : Register) → (k % 32 ≡ k → p % 32 ≡ p → s ≡ swept_from r k (withdrawing (role r k) k p).after)
      → settle r (withdrawing (role r (k % 32)) k p).guards 0 s ≡ settled r (withdraw k p)
  unfolding settled ruling withdraw_ruling
  withdraw_guards s h =
      settle_past r (2 unless (is_role k ∷ is_permission p ∷ [])) _ _ _ _ _ _
      (λ ranged.
      let e : k % 32 ≡ k = in_range_lem k 32 ranged.0 in
      ap₂ (λ (j : ℕ) (t : Register). settle r (drop 1 (withdrawing (role r j) k p).guards) 0 t) e (h e (in_range_lem p 32 ranged.1.0)))

  pub withdraw_refused : {why : Refusal} → c ≡ Err why → record { answer = refused (refusal_number why); after = r } ≡ settled r (withdraw k p)
  withdraw_refused q = refuse_ruled r _ _ 0 c checks q ∙ withdraw_guards _ (λ e f. refl)

  pub withdraw_passed : (left : ℕ) → left ≡ excluding (role r (k % 32)).permissions (p % 32) → c ≡ Ok tt → swept_by r (Cut (k % 32) left) ≡ settled r (withdraw k p)
  withdraw_passed left m q =
      pass_ruled r _ _ 0 c tt checks q
      ∙ withdraw_guards _
      (λ e f.
      let at : k % 32 % 32 ≡ k = omega (arith, e) in
      ap₂ (λ (j x : ℕ). swept_from r j (with_role_permissions (role r j) x)) at
      (m ∙ ap₂ (λ (j y : ℕ). excluding (role r j).permissions y) e f))
