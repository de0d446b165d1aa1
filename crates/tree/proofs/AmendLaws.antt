-- What amend's core does is the call of the model.
use mathlib.Core.Path.{◌≡◌, refl, ap, ap₂, ◌∙◌}
use mathlib.Core.Bool.{Bool, true}
use mathlib.Core.List.{List, [], ◌∷◌}
use Prim.Native.Nat.{ℕ, ◌%◌, ◌≤◌, ◌<◌}
use native.Mathlib.Nat.{mod-eq_of_lt}
use native.Mathlib.Omega.{arith}
use lib.Dec.{T, ltb→lt, leb→le}
use lib.ListN.{drop}
use Rattle.masks.specs.Tests.{rising}
use Rattle.model.specs.declared.Origin.{Origin}
use Rattle.model.specs.declared.Origin.TheVariants.{Role as ofRole, Capability as ofCapability}
use Rattle.model.specs.declared.Refusal.{Refusal}
use Rattle.model.specs.declared.Register.{Register}
use Rattle.model.specs.State.{blank_capability, capability_at, origin_at, terms}
use Rattle.model.specs.Setters.{with_capabilities}
use Rattle.model.specs.Sweeps.{origin_limit, limit_one}
use Rattle.model.specs.Rules.{well_formed, is_user, is_capability}
use Rattle.model.specs.Rulings.{refused, Guard, ◌unless◌, settle, Clear}
use Rattle.model.specs.Revocation.{Change, raise, lower, is_zero, is_change, falls_below, changed, amend_guards, amend_ruling}
use Rattle.model.specs.Calls.{amend, ruling, settled}
use Rattle.model.specs.Requests.{refusal_number}
use Rattle.model.proofs.Rules.{kept→, formed→}
use Rattle.model.proofs.Tree.{falls}
use Rattle.model.proofs.Amending.{sweep_limits}
use Rattle.model.proofs.Settling.{passed, settle_past, settle-after}
use Rattle.std.specs.Prelude.{⊤, Result, Ok, Err}
use Rattle.slots.specs.Guards.{guarded, first_number}
use Rattle.origins.specs.Numbers.{capability_held}
use Rattle.origins.specs.Terms.{bare_in}
use Rattle.origins.proofs.Laws.{in_range_lem, bare_read}
use Rattle.sweeps.specs.declared.Sweep.TheVariants.{Limit}
use Rattle.sweeps.specs.Sweeping.{swept_by}
use Rattle.tree.specs.declared.amending.Amendment.{Amendment}
use Rattle.tree.specs.Orders.{amendment_of}
use Rattle.tree.specs.Guards.{amendment_guards}
use Rattle.slots.proofs.GuardLaws.{refuse_ruled, pass_ruled}

-- ---- what a change asks for

ranged_is : (change : Change) (n : ℕ) → (amendment_of change n).ranged ≡ is_change change
ranged_is (raise d) n = refl
ranged_is (lower d) n = refl

zero_is : (change : Change) (n : ℕ) → (amendment_of change n).zero ≡ is_zero change
zero_is (raise d) n = refl
zero_is (lower d) n = refl

below_is : (change : Change) (n : ℕ) → (amendment_of change n).below ≡ falls_below change n
below_is (raise d) n = refl
below_is (lower d) n = refl

limit_is : (change : Change) (n : ℕ) → T (is_change change) → (amendment_of change n).limit ≡ changed change n
limit_is (raise d) n h = rw (in_range_lem d 65536 h)
limit_is (lower d) n h = refl

-- ---- the call

module _
    (r : Register) (formed : T (well_formed r)) (user n : ℕ) (change : Change) (up bound : ℕ) (at_up : up ≡ capability_held (origin_at r.capabilities (n % 256)))
    (bounded : bound ≡ (bare_in (origin_at r.capabilities (n % 256)) (capability_at r.capabilities up)).use_limit)
    (a : Amendment) (asked : a ≡ amendment_of change (capability_at r.capabilities (n % 256)).use_limit)
    (k : Result ⊤ Refusal) (checks : guarded k ≡ first_number (amendment_guards r.enrolled r.count user n (capability_at r.capabilities (n % 256)) a bound)) where
  abbrev limit : ℕ
  limit = changed change (capability_at r.capabilities n).use_limit

  -- the guards after the first, where capability j is read
  abbrev rest : ℕ → Bool → Bool → ℕ → ℕ → List Guard
  rest j zero below l b = drop 1 (amend_guards r.enrolled r.count (capability_at r.capabilities j) user n true zero below l b)

  abbrev asked_rest : List Guard
  asked_rest = rest n (is_zero change) (falls_below change (capability_at r.capabilities n).use_limit) limit (terms r.roles r.capabilities (origin_at r.capabilities n)).use_limit

  terms_limit : (o : Origin) → origin_limit r.capabilities o ≡ (terms r.roles r.capabilities o).use_limit
  unfolding terms
  terms_limit (ofRole j) = refl
  terms_limit (ofCapability j) = refl

  bound_is : n % 256 ≡ n → bound ≡ (terms r.roles r.capabilities (origin_at r.capabilities n)).use_limit
  bound_is e =
      bounded ∙ (bare_read r.capabilities (origin_at r.capabilities (n % 256)) up at_up).1
      ∙ terms_limit (origin_at r.capabilities (n % 256))
      ∙ ap (λ (j : ℕ). (terms r.roles r.capabilities (origin_at r.capabilities j)).use_limit) e

  amend_limit : n % 256 ≡ n → T (is_change change) → a.limit ≡ limit
  amend_limit e t =
      ap (λ (x : Amendment). x.limit) asked
      ∙ limit_is change (capability_at r.capabilities (n % 256)).use_limit t
      ∙ ap (λ (j : ℕ). changed change (capability_at r.capabilities j).use_limit) e

  amend_guards_lem : (v : ℕ) (s : Register) → (n % 256 ≡ n → T (is_change change) → Clear asked_rest → (v ≡ (amend_ruling r user n change).result) × (s ≡ (amend_ruling r user n change).after))
      → settle r (amendment_guards r.enrolled r.count user n (capability_at r.capabilities (n % 256)) a bound) v s ≡ settled r (amend user n change)
  unfolding settled ruling amend_ruling
  amend_guards_lem v s h =
      ap (λ (b : Bool). settle r (2 unless (is_user user ∷ is_capability n ∷ b ∷ []) ∷ rest (n % 256) a.zero a.below a.limit bound) v s)
      (ap (λ (x : Amendment). x.ranged) asked ∙ ranged_is change (capability_at r.capabilities (n % 256)).use_limit)
      ∙ settle_past r (2 unless (is_user user ∷ is_capability n ∷ is_change change ∷ [])) _ _ _ _ _ _
      (λ ranged. same (in_range_lem n 256 ranged.1.0) ranged.1.1.0)
    where
      same : n % 256 ≡ n → T (is_change change) → settle r (rest (n % 256) a.zero a.below a.limit bound) v s ≡ settle r asked_rest (amend_ruling r user n change).result (amend_ruling r user n change).after
      same e t =
          ap₂ (λ (x y : Bool). settle r (rest (n % 256) x y a.limit bound) v s)
          (ap (λ (x : Amendment). x.zero) asked ∙ zero_is change (capability_at r.capabilities (n % 256)).use_limit)
          (ap (λ (x : Amendment). x.below) asked ∙ below_is change (capability_at r.capabilities (n % 256)).use_limit)
          ∙ ap (λ (j : ℕ). settle r (rest j (is_zero change) (falls_below change (capability_at r.capabilities j).use_limit) a.limit bound) v s) e
          ∙ ap₂ (λ (x y : ℕ). settle r (rest n (is_zero change) (falls_below change (capability_at r.capabilities n).use_limit) x y) v s) (amend_limit e t) (bound_is e)
          ∙ settle-after r asked_rest v _ s _ (h e t)

  pub amend_refused : {why : Refusal} → k ≡ Err why → record { answer = refused (refusal_number why); after = r } ≡ settled r (amend user n change)
  amend_refused q = refuse_ruled r (amend_ruling r user n change).after _ (amend_ruling r user n change).result k checks q ∙ amend_guards_lem _ _ (λ e t g. (refl, refl))

  -- no origin's limit passes 65,535
  limit_small : (o : Origin) → origin_at r.capabilities n ≡ o → n < r.count → (terms r.roles r.capabilities o).use_limit < 65536
  unfolding terms
  limit_small (ofRole j) e l = omega arith
  limit_small (ofCapability j) e l =
      let low : j < n = falls r.enrolled r.roles r.count r.capabilities (kept→ r formed).capabilities n j l e in
      ((formed→ r formed).capabilities j (omega arith)).ranges.use_limit

  pub amend_passed : k ≡ Ok tt → swept_by r (Limit (n % 256) (a.limit % 65536)) ≡ settled r (amend user n change)
  unfolding amend_ruling
  amend_passed p =
      pass_ruled r _ _ (a.limit % 65536) k tt checks p
      ∙ amend_guards_lem (a.limit % 65536) _
      (λ e t g.
      let there : n < r.count = ltb→lt n r.count (passed 3 asked_rest g).1.0 in
      let fits : limit ≤ (terms r.roles r.capabilities (origin_at r.capabilities n)).use_limit = leb→le _ _ (passed 11 asked_rest g).0 in
      let low : limit < 65536 = omega (arith, limit_small (origin_at r.capabilities n) refl there) in
      let same : a.limit % 65536 ≡ limit = ap (λ (x : ℕ). x % 65536) (amend_limit e t) ∙ mod-eq_of_lt low in (
        same,
        ap₂ (λ (j x : ℕ). with_capabilities r (rising blank_capability (limit_one j x) 256 r.capabilities)) e same
            ∙ ap (with_capabilities r) (sweep_limits r.enrolled r.roles r.count r.capabilities (kept→ r formed).capabilities n there limit fits),
      ))
