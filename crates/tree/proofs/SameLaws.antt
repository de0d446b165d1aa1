-- What same's core answers is the call of the model.
use mathlib.Core.Path.{◌≡◌, ap, ap₂, ◌∙◌}
use mathlib.Core.Bool.{Bool, cond}
use mathlib.Core.List.{List, ◌∷◌, zip_with}
use Prim.Native.Nat.{ℕ, ◌%◌, ◌<◌}
use native.Mathlib.Omega.{arith}
use lib.Dec.{T, eqb, ltb→lt}
use Rattle.std.specs.Int.{from_bool}
use Rattle.masks.specs.Tests.{each}
use Rattle.std.specs.Prelude.{⊤, Result, Ok, Err}
use Rattle.model.specs.declared.Refusal.{Refusal}
use Rattle.model.specs.declared.Register.{Register}
use Rattle.model.specs.State.{capability_at, origin_at, role_at}
use Rattle.model.specs.Rules.{well_formed}
use Rattle.model.specs.Rulings.{Outcome, Effect, Clear, verdict, value, refused}
use Rattle.model.specs.Comparison.{domain_of, constraints, compared, alike, same_guards, same_ruling}
use Rattle.model.specs.Requests.{refusal_number}
use Rattle.model.specs.Calls.{same, ruling, settled}
use Rattle.model.proofs.Settling.{settle_same}
use Rattle.slots.specs.Guards.{guarded, first_number}
use Rattle.slots.proofs.GuardLaws.{yes_number, pass_clear, refuse_ruled, pass_ruled}
use Rattle.origins.specs.declared.authority.RoleColumns.{RoleColumns}
use Rattle.origins.specs.Authority.{authority_in, Columns}
use Rattle.origins.proofs.Laws.{in_range_lem, authority_read}
use Rattle.tree.specs.Tree.{lineage_end}
use Rattle.tree.proofs.Ascent.{root_is}

-- what the code reads of capability n is what is compared of it
pub compared_is : (r : Register) → T (well_formed r) → (columns : RoleColumns) → Columns columns r.roles → (n x a : ℕ) → n < r.count
    → ((f : ℕ) → n < f → x ≡ lineage_end (origin_at r.capabilities) f n) → a ≡ authority_in columns (capability_at r.capabilities n)
    → (role_at r.roles x).domain ∷ a ∷ constraints (capability_at r.capabilities n) ≡ compared r n
unfolding domain_of
compared_is r formed columns kept n x a l ends of_c =
    ap₂ (λ (k b : ℕ). (role_at r.roles k).domain ∷ b ∷ constraints (capability_at r.capabilities n)) (root_is r formed n x l ends)
    (of_c ∙ authority_read columns r.roles kept (capability_at r.capabilities n))

-- ---- the call

-- an answer that changes nothing is the call's
pub same_settled : (r : Register) (m n : ℕ) {q : Outcome} → q ≡ verdict (same_guards r.count m n) (cond (alike r m n) 1 0)
    → ◌≡◌ {A = Effect Register} (record { answer = q; after = r }) (settled r (same m n))
unfolding settled ruling same_ruling
same_settled r m n e =
    ap (λ (z : Outcome). record { answer = z; after = r }) e ∙ settle_same r (same_guards r.count m n) (cond (alike r m n) 1 0)

module _ (r : Register) (m n : ℕ) (k : Result ⊤ Refusal) (checks : guarded k ≡ first_number (same_guards r.count m n)) where
  pub same_refused : {why : Refusal} → k ≡ Err why → record { answer = refused (refusal_number why); after = r } ≡ settled r (same m n)
  unfolding settled ruling same_ruling
  same_refused q = refuse_ruled r r (same_guards r.count m n) (cond (alike r m n) 1 0) k checks q

  same_clear : k ≡ Ok tt → Clear (same_guards r.count m n)
  same_clear q = pass_clear (same_guards r.count m n) k tt checks q

  -- both capabilities have been created
  pub first_created : k ≡ Ok tt → m % 256 < r.count
  first_created q =
      let g = same_clear q in
      omega (arith, in_range_lem m 256 g.0.0, ltb→lt m r.count g.1.0.0)

  pub second_created : k ≡ Ok tt → n % 256 < r.count
  second_created q =
      let g = same_clear q in
      omega (arith, in_range_lem n 256 g.0.1.0, ltb→lt n r.count g.1.0.1.0)

  pub same_passed : k ≡ Ok tt → (xs ys : List ℕ) (t : Bool) (v : ℕ) → xs ≡ compared r (m % 256) → ys ≡ compared r (n % 256) → t ≡ each (zip_with eqb xs ys)
      → v ≡ from_bool t → record { answer = value v; after = r } ≡ settled r (same m n)
  unfolding settled ruling same_ruling alike
  same_passed q xs ys t v ex ey et ev =
      let g = same_clear q in
      let one : v ≡ cond (alike r m n) 1 0 =
      ev ∙ yes_number t
      ∙ ap (λ (b : Bool). cond b 1 0) (et ∙ ap₂ (λ (s l : List ℕ). each (zip_with eqb s l)) (ex ∙ ap (compared r) (in_range_lem m 256 g.0.0)) (ey ∙ ap (compared r) (in_range_lem n 256 g.0.1.0))) in
      ap (λ (x : ℕ). record { answer = value x; after = r }) one ∙ pass_ruled r r (same_guards r.count m n) (cond (alike r m n) 1 0) k tt checks q
