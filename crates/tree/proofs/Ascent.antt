-- The lineage by the origins of a register, a step at a time; and that it is the lineage of the model.
use mathlib.Core.Path.{◌≡◌, refl, ap, ◌∙◌, subst}
use mathlib.Core.Bool.{Bool, true, false, ◌||◌}
use Prim.Native.Nat.{ℕ, zero, suc, ◌%◌, ◌<◌, ◌≤◌}
use native.Mathlib.Omega.{arith}
use lib.Dec.{T, eqb}
use borrow.Author.Tests.{lt-ltb, le-ltb}
use Rattle.model.specs.declared.Origin.{Origin}
use Rattle.model.specs.declared.Origin.TheVariants.{Role as ofRole, Capability as ofCapability}
use Rattle.model.specs.declared.Register.{Register}
use Rattle.model.specs.State.{capability_at, origin_at}
use Rattle.model.specs.Lineage.{lineage, onward, any_created, root, ending}
use Rattle.model.specs.Rules.{well_formed}
use Rattle.model.specs.Invariant.{OriginInRange}
use Rattle.model.proofs.Rules.{kept→, formed→}
use Rattle.model.proofs.Tree.{falls}
use Rattle.tree.specs.Tree.{further, lineage_has, ended, lineage_end}

module _ (up : ℕ → Origin) (hit : ℕ → Bool) (n : ℕ) where
  -- n itself passes
  pub has_here : hit n ≡ true → (f : ℕ) → n < f → true ≡ lineage_has up hit f n
  unfolding lineage_has
  has_here h zero l = absurd (omega arith)
  has_here h (suc f) l = rw h

  -- it does not, and n's origin is a role
  pub has_last : hit n ≡ false → (k : ℕ) → up n ≡ ofRole k → (f : ℕ) → n < f → false ≡ lineage_has up hit f n
  unfolding lineage_has
  has_last h k e zero l = absurd (omega arith)
  has_last h k e (suc f) l = rw (h, e)

  -- it goes on from the capability k that n's origin is
  pub has_up : hit n ≡ false → (k : ℕ) → up n ≡ ofCapability k → k < n → (q : Bool) → ((g : ℕ) → k < g → q ≡ lineage_has up hit g k) → (f : ℕ) → n < f → q ≡ lineage_has up hit f n
  unfolding lineage_has
  has_up h k e less q z zero l = absurd (omega arith)
  has_up h k e less q z (suc f) l = rw (h, e, lt-ltb k n less) (z f (omega arith))

  -- a capability that is not below n
  pub has_ended : hit n ≡ false → (k : ℕ) → up n ≡ ofCapability k → n ≤ k → (f : ℕ) → n < f → false ≡ lineage_has up hit f n
  unfolding lineage_has
  has_ended h k e above zero l = absurd (omega arith)
  has_ended h k e above (suc f) l = rw (h, e, le-ltb k n above)

module _ (up : ℕ → Origin) (n k : ℕ) where
  pub end_last : up n ≡ ofRole k → (f : ℕ) → n < f → k % 32 ≡ lineage_end up f n
  unfolding lineage_end
  end_last e zero l = absurd (omega arith)
  end_last e (suc f) l = rw e

  pub end_up : up n ≡ ofCapability k → k < n → (q : ℕ) → ((g : ℕ) → k < g → q ≡ lineage_end up g k) → (f : ℕ) → n < f → q ≡ lineage_end up f n
  unfolding lineage_end
  end_up e less q z zero l = absurd (omega arith)
  end_up e less q z (suc f) l = rw (e, lt-ltb k n less) (z f (omega arith))

  pub end_ended : up n ≡ ofCapability k → n ≤ k → (f : ℕ) → n < f → k % 32 ≡ lineage_end up f n
  unfolding lineage_end
  end_ended e above zero l = absurd (omega arith)
  end_ended e above (suc f) l = rw (e, le-ltb k n above)

-- ---- the lineage of the register

module _ (r : Register) (formed : T (well_formed r)) where
  below : (n k : ℕ) → n < r.count → origin_at r.capabilities n ≡ ofCapability k → k < n
  below n k l e = falls r.enrolled r.roles r.count r.capabilities (kept→ r formed).capabilities n k l e

  -- from the origin o of n
  has_on : (user f n : ℕ) → n < r.count → (o : Origin) → origin_at r.capabilities n ≡ o
      → ((k : ℕ) → k < r.count → lineage_has (origin_at r.capabilities) (λ k. eqb (capability_at r.capabilities k).creator user) f k ≡ any_created r.capabilities user (lineage f r.capabilities k))
      → further n (λ k. lineage_has (origin_at r.capabilities) (λ k. eqb (capability_at r.capabilities k).creator user) f k) o
      ≡ any_created r.capabilities user (onward (λ k. lineage f r.capabilities k) o)
  unfolding any_created
  has_on user f n l (ofRole k) e ih = refl
  has_on user f n l (ofCapability k) e ih =
      let low : k < n = below n k l e in
      rw (lt-ltb k n low) (ih k (omega arith))

  has_is : (user f n : ℕ) → n < r.count → lineage_has (origin_at r.capabilities) (λ k. eqb (capability_at r.capabilities k).creator user) f n
      ≡ any_created r.capabilities user (lineage f r.capabilities n)
  unfolding lineage_has any_created lineage
  has_is user zero n l = refl
  has_is user (suc f) n l =
      ap (λ (b : Bool). eqb (capability_at r.capabilities n).creator user || b)
      (has_on user f n l (origin_at r.capabilities n) refl (λ k g. has_is user f k g))

  -- what the recursion says is what the model says
  pub created_is : (user n : ℕ) (q : Bool) → n < r.count
      → ((f : ℕ) → n < f → q ≡ lineage_has (origin_at r.capabilities) (λ k. eqb (capability_at r.capabilities k).creator user) f n)
      → q ≡ any_created r.capabilities user (lineage (suc n) r.capabilities n)
  created_is user n q l p = p (suc n) (omega arith) ∙ has_is user (suc n) n l

  end_on : (f n : ℕ) → n < r.count → (o : Origin) → origin_at r.capabilities n ≡ o
      → ((k : ℕ) → k < r.count → lineage_end (origin_at r.capabilities) f k ≡ root f r.capabilities k)
      → ended n (λ k. lineage_end (origin_at r.capabilities) f k) o ≡ ending (λ k. root f r.capabilities k) o
  end_on f n l (ofRole k) e ih =
      let low : k < 32 = subst OriginInRange e ((formed→ r formed).capabilities n (omega (arith, (kept→ r formed).capabilities.enough))).ranges.origin in
      omega arith
  end_on f n l (ofCapability k) e ih =
      let low : k < n = below n k l e in
      rw (lt-ltb k n low) (ih k (omega arith))

  end_is : (f n : ℕ) → n < r.count → lineage_end (origin_at r.capabilities) f n ≡ root f r.capabilities n
  unfolding lineage_end root
  end_is zero n l = refl
  end_is (suc f) n l = end_on f n l (origin_at r.capabilities n) refl (λ k g. end_is f k g)

  pub root_is : (n q : ℕ) → n < r.count → ((f : ℕ) → n < f → q ≡ lineage_end (origin_at r.capabilities) f n) → q ≡ root (suc n) r.capabilities n
  root_is n q l p = p (suc n) (omega arith) ∙ end_is (suc n) n l
