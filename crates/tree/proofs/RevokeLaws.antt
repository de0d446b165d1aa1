-- What revoke's core does is the call of the model.
use mathlib.Core.Path.{◌≡◌, refl, sym, ap, ap₂, ◌∙◌}
use mathlib.Core.Logic.{◌⊎◌, inl, inr}
use mathlib.Core.Bool.{Bool, true, false, cond, not, ◌&&◌, ◌||◌}
use mathlib.Core.List.{List, [], ◌∷◌}
use Prim.Native.Nat.{ℕ, zero, suc, ◌+◌, ◌%◌, ◌≤◌, ◌<◌}
use native.Mathlib.Nat.{le_refl, eq-or-lt_of_le}
use native.Mathlib.Omega.{arith}
use lib.Dec.{T, eqb, ltb, ltb→lt}
use lib.ListN.{drop}
use Rattle.masks.specs.Masks.{has}
use Rattle.masks.specs.Tests.{count_below, rising}
use Rattle.masks.proofs.Bounded.{count_below_ext}
use Rattle.masks.proofs.Rising.{rising_later, rising_done}
use Rattle.model.specs.declared.Capability.{Capability}
use Rattle.model.specs.declared.Refusal.{Refusal}
use Rattle.model.specs.declared.Register.{Register}
use Rattle.model.specs.State.{blank_capability, capability_at, origin_at}
use Rattle.model.specs.Setters.{with_capabilities}
use Rattle.model.specs.Sweeps.{mark_one}
use Rattle.model.specs.Lineage.{in_lineage}
use Rattle.model.specs.Rules.{well_formed, is_user, is_capability}
use Rattle.model.specs.Rulings.{refused, Guard, ◌unless◌, settle}
use Rattle.model.specs.Revocation.{revoke_guards, revoke_ruling}
use Rattle.model.specs.Calls.{revoke, ruling, settled}
use Rattle.model.specs.Requests.{refusal_number}
use Rattle.model.proofs.Rules.{kept→}
use Rattle.model.proofs.Revoking.{revoked_after, revoke_at, revoke_capabilities, sweep_marks}
use Rattle.std.specs.Prelude.{⊤, Result, Ok, Err}
use Rattle.slots.specs.Guards.{guarded, first_number}
use Rattle.origins.proofs.Laws.{in_range_lem}
use Rattle.sweeps.specs.declared.Sweep.TheVariants.{Mark}
use Rattle.sweeps.specs.Sweeping.{newly_by, swept_by}
use Rattle.tree.specs.Tree.{lineage_has}
use Rattle.model.proofs.Settling.{settle_past}
use Rattle.slots.proofs.GuardLaws.{refuse_ruled, pass_ruled}
use Rattle.tree.proofs.Ascent.{created_is}

-- the capabilities once revoke's sweep has done those below i, and whether it newly marks i
abbrev marked_below : List Capability → ℕ → ℕ → List Capability
marked_below cs n i = rising blank_capability (mark_one n) i cs

abbrev newly_marked_lem : List Capability → ℕ → ℕ → Bool
newly_marked_lem cs n = newly_by (mark_one n) cs

-- numbers that do not pass add nothing
count_below_lem : (p : ℕ → Bool) (n m : ℕ) → n ≤ m → ((k : ℕ) → n ≤ k → k < m → p k ≡ false) → count_below m p ≡ count_below n p
unfolding count_below
count_below_lem p n zero l h = ap (λ (x : ℕ). count_below x p) {x = 0} {y = n} (omega arith)
count_below_lem p n (suc m) l h = cases (λ g. count_below_lem p n m g (λ k a b. h k a (omega arith))) (eq-or-lt_of_le l)
  where
    cases : (n ≤ m → count_below m p ≡ count_below n p) → (n ≡ suc m) ⊎ (n < suc m) → count_below m p + cond (p m) 1 0 ≡ count_below n p
    cases ih (inl e) = ap (λ (x : ℕ). count_below x p) (sym e)
    cases ih (inr g) = ap (λ (b : Bool). count_below m p + cond b 1 0) (h m (omega arith) (omega arith)) ∙ omega (arith, ih (omega arith))

newly_by_lem : (a b : Bool) → ((a || b) && not a) ≡ (b && not a)
newly_by_lem true true = refl
newly_by_lem true false = refl
newly_by_lem false true = refl
newly_by_lem false false = refl

-- ---- the sweep's marks

module _ (r : Register) (formed : T (well_formed r)) (n : ℕ) (there : n < r.count) where
  abbrev after : List Capability
  after = revoked_after r.enrolled r.roles r.count r.capabilities (kept→ r formed).capabilities n there

  swept : marked_below r.capabilities n 256 ≡ after
  swept = sweep_marks r.enrolled r.roles r.count r.capabilities (kept→ r formed).capabilities n there

  newly_at : (i : ℕ) → i < 256 → newly_marked_lem r.capabilities n i ≡ ((capability_at after i).revoked && not (capability_at r.capabilities i).revoked)
  newly_at i l =
      ap (λ (x : Capability). (mark_one n i (marked_below r.capabilities n i) x).revoked && not x.revoked) (rising_later blank_capability (mark_one n) r.capabilities i i (le_refl i))
      ∙ ap (λ (x : Capability). x.revoked && not (capability_at r.capabilities i).revoked)
      (sym (rising_done blank_capability (mark_one n) r.capabilities 256 i l (omega (arith, (kept→ r formed).capabilities.amount))) ∙ ap (λ (cs : List Capability). capability_at cs i) swept)

  newly_there : (i : ℕ) → i < r.count → newly_marked_lem r.capabilities n i ≡ (in_lineage r.capabilities n i && not (capability_at r.capabilities i).revoked)
  newly_there i l =
      newly_at i (omega (arith, (kept→ r formed).capabilities.enough))
      ∙ ap (λ (x : Capability). x.revoked && not (capability_at r.capabilities i).revoked)
      (revoke_at r.enrolled r.roles r.count r.capabilities (kept→ r formed).capabilities n there i (omega (arith, (kept→ r formed).capabilities.enough)))
      ∙ newly_by_lem (capability_at r.capabilities i).revoked (in_lineage r.capabilities n i)

  newly_blank : (i : ℕ) → r.count ≤ i → i < 256 → newly_marked_lem r.capabilities n i ≡ false
  newly_blank i g l =
      newly_at i l
      ∙ ap (λ (x : Capability). x.revoked && not (capability_at r.capabilities i).revoked)
      ((revoke_capabilities r.enrolled r.roles r.count r.capabilities (kept→ r formed).capabilities n there).blank i g l)

  pub marks_counted : count_below 256 (newly_marked_lem r.capabilities n) ≡ count_below r.count (λ i. in_lineage r.capabilities n i && not (capability_at r.capabilities i).revoked)
  marks_counted =
      count_below_lem (newly_marked_lem r.capabilities n) r.count 256 (kept→ r formed).capabilities.enough newly_blank
      ∙ count_below_ext r.count _ _ newly_there

-- ---- the call

module _
    (r : Register) (formed : T (well_formed r)) (user n : ℕ) (entitled : Bool)
    (along : (f : ℕ) → n % 256 < f → entitled ≡ lineage_has (origin_at r.capabilities) (λ k. eqb (capability_at r.capabilities k).creator user) f (n % 256))
    (k : Result ⊤ Refusal) (checks : guarded k ≡ first_number (revoke_guards r.enrolled r.count user n entitled (capability_at r.capabilities (n % 256)).revoked)) where
  abbrev guards : List Guard
  guards = revoke_guards r.enrolled r.count user n entitled (capability_at r.capabilities (n % 256)).revoked

  revoke_guards_lem : (v : ℕ) (s : Register) → (n % 256 ≡ n → n < r.count → (v ≡ (revoke_ruling r user n).result) × (s ≡ (revoke_ruling r user n).after))
      → settle r guards v s ≡ settled r (revoke user n)
  unfolding settled ruling revoke_ruling
  revoke_guards_lem v s h =
      settle_past r (2 unless (is_user user ∷ is_capability n ∷ [])) _ _ _ _ _ _
      (λ ranged. settle_past r (3 unless (has r.enrolled user ∷ ltb n r.count ∷ [])) _ _ _ _ _ _
      (λ known.
      let e : n % 256 ≡ n = in_range_lem n 256 ranged.1.0 in
      let l : n < r.count = ltb→lt n r.count known.1.0 in
      let w : (v ≡ (revoke_ruling r user n).result) × (s ≡ (revoke_ruling r user n).after) = h e l in
      ap₂ (λ (a b : Bool). settle r (rest a b) v s)
      (created_is r formed user n entitled l (rw e at along))
      (ap (λ (j : ℕ). (capability_at r.capabilities j).revoked) e)
      ∙ ap₂ (settle r (drop 2 (revoke_ruling r user n).guards)) w.0 w.1))
    where
      rest : Bool → Bool → List Guard
      rest a b = drop 2 (revoke_guards r.enrolled r.count user n a b)

  pub revoke_refused : {why : Refusal} → k ≡ Err why → record { answer = refused (refusal_number why); after = r } ≡ settled r (revoke user n)
  revoke_refused q = refuse_ruled r (revoke_ruling r user n).after guards (revoke_ruling r user n).result k checks q ∙ revoke_guards_lem _ _ (λ e l. (refl, refl))

  pub revoke_passed : k ≡ Ok tt → swept_by r (Mark (n % 256)) ≡ settled r (revoke user n)
  unfolding revoke_ruling
  revoke_passed p =
      pass_ruled r _ guards _ k tt checks p
      ∙ revoke_guards_lem _ _
      (λ e l. (
        ap (λ (j : ℕ). count_below 256 (newly_marked_lem r.capabilities j)) e ∙ marks_counted r formed n l,
        ap (λ (j : ℕ). with_capabilities r (marked_below r.capabilities j 256)) e ∙ ap (with_capabilities r) (swept r formed n l),
      ))
