-- The creation tree: terms lie within terms along the lineage; the lineage ends at a founded role; who is on a lineage.
use mathlib.Core.Path.{◌≡◌, refl, sym, ap, ◌∙◌, subst}
use mathlib.Core.Logic.{◌⊎◌, inl, inr}
use mathlib.Core.List.{List}
use Prim.Native.Nat.{ℕ, zero, suc, ◌^◌, ◌≤◌, ◌<◌}
use native.Mathlib.Nat.{le_refl, le_trans, not-suc-le-zero}
use native.Mathlib.Omega.{arith}
use lib.Dec.{T, eqb, ltb→lt, eqb→eq, eqb_refl}
use Rattle.model.specs.declared.Origin.{Origin}
use Rattle.model.specs.declared.Origin.TheVariants.{Role as ofRole, Capability as ofCapability}
use Rattle.model.specs.declared.Role.{Role}
use Rattle.model.specs.declared.Capability.{Capability}
use Rattle.masks.specs.Masks.{within}
use Rattle.model.specs.State.{party, there, capability_terms, Terms, terms, claims, authority, lent_authority, may_lend, role_at, capability_at, blank_capability, origin_at, exists}
use Rattle.model.specs.Lineage.{lineage, onward, root, ending, member, in_lineage, Descends, here, up, Reaches, last_step, one_step}
use Rattle.model.specs.Rules.{earlier}
use Rattle.masks.proofs.Truth.{or_l, or_r, or_cases}
use Rattle.masks.proofs.MaskLaws.{within_refl, within_trans, within_or, within_or_r}
use Rattle.model.specs.Invariant.{Below}
use Rattle.model.proofs.Authority.{lend_mono, lent_mono, lent_one, lend_closed, lent_closed}
use Rattle.model.proofs.Kept.{CapabilitiesKept}

-- an origin that is there
pub there-exists : (roles : List Role) (cs : List Capability) (count : ℕ) (o : Origin) → T (there count (party roles cs o)) → T (exists roles count o)
unfolding exists
there-exists roles cs count (ofRole k) h = h
there-exists roles cs count (ofCapability n) h = h

-- ---- terms within terms

pub below_refl : (a : Terms) → Below a a
below_refl a =
    record {
      grants = within_refl _;
      lendable = within_refl _;
      hours = within_refl _;
      places = within_refl _;
      devices = within_refl _;
      first = le_refl _;
      last = le_refl _;
      use_limit = le_refl _;
      creation_limit = le_refl _;
      hop_limit = le_refl _;
      revoked = λ h. h;
    }

pub below_trans : {a b c : Terms} → Below a b → Below b c → Below a c
below_trans {a} {b} {c} g h =
    record {
      grants = within_trans _ b.grants _ g.grants h.grants;
      lendable = within_trans _ b.lendable _ g.lendable h.lendable;
      hours = within_trans _ b.hours _ g.hours h.hours;
      places = within_trans _ b.places _ g.places h.places;
      devices = within_trans _ b.devices _ g.devices h.devices;
      first = le_trans h.first g.first;
      last = le_trans g.last h.last;
      use_limit = le_trans g.use_limit h.use_limit;
      creation_limit = le_trans g.creation_limit h.creation_limit;
      hop_limit = le_trans g.hop_limit h.hop_limit;
      revoked = λ t. g.revoked (h.revoked t);
    }

-- ---- a pass's terms lie within its origin's

-- what an origin may lend carries no more than the origin
pub lends_own : (roles : List Role) (cs : List Capability) (o : Origin) → T (within (lent_authority roles (terms roles cs o).lendable) (terms roles cs o).grants)
unfolding terms authority
lends_own roles cs (ofRole k) = within_trans _ (lent_authority roles (2 ^ k)) _ (lent_closed roles (2 ^ k)) (lent_one roles k)
lends_own roles cs (ofCapability n) =
    let c = capability_at cs n in
    within_trans _ (lent_authority roles c.lent) _ (lent_closed roles c.lent) (within_or_r c.permissions (lent_authority roles c.lent))

-- and whoever has that may lend no more
lends_closed : (roles : List Role) (cs : List Capability) (o : Origin) → T (within (may_lend roles (terms roles cs o).lendable) (terms roles cs o).lendable)
unfolding terms
lends_closed roles cs (ofRole k) = lend_closed roles (2 ^ k)
lends_closed roles cs (ofCapability n) = lend_closed roles (capability_at cs n).lent

-- claims within terms: so is the authority
pub claims-terms : (roles : List Role) (cs : List Capability) (o : Origin) (c : Capability)
    → Below (claims c) (terms roles cs o) → Below (capability_terms roles c) (terms roles cs o)
unfolding authority
claims-terms roles cs o c h =
    record {
      grants =
          within_or c.permissions (lent_authority roles c.lent) _ h.grants
          (within_trans _ (lent_authority roles (terms roles cs o).lendable) _ (lent_mono roles _ _ h.lendable) (lends_own roles cs o));
      lendable = within_trans _ (may_lend roles (terms roles cs o).lendable) _ (lend_mono roles _ _ h.lendable) (lends_closed roles cs o);
      hours = h.hours;
      places = h.places;
      devices = h.devices;
      first = h.first;
      last = h.last;
      use_limit = h.use_limit;
      creation_limit = h.creation_limit;
      hop_limit = h.hop_limit;
      revoked = h.revoked;
    }

-- ---- along the lineage

module _ (enrolled : ℕ) (roles : List Role) (count : ℕ) (cs : List Capability) (kept : CapabilitiesKept enrolled roles count cs) where
  -- an origin that is a pass has a smaller number
  pub falls : (n k : ℕ) → n < count → origin_at cs n ≡ ofCapability k → k < n
  unfolding earlier
  falls n k l e = ltb→lt _ _ (subst (λ (o : Origin). T (earlier n o)) e (kept.capability n l).placed)

  pub descends_there : {n m : ℕ} → n < count → Descends (origin_at cs) n m → m < count
  descends_there l here = l
  descends_there {n} l (up {k = k} e c) = descends_there (omega (arith, falls n k l e)) c

  pub descends_le : {n m : ℕ} → n < count → Descends (origin_at cs) n m → m ≤ n
  descends_le l here = le_refl _
  descends_le {n} l (up {k = k} e c) = omega (arith, falls n k l e, descends_le (omega (arith, falls n k l e)) c)

  -- the lower's terms lie within its origin's, and within those of every pass on its climb
  pub terms_fit : (n : ℕ) → n < count → Below (terms roles cs (ofCapability n)) (terms roles cs (origin_at cs n))
  unfolding terms
  terms_fit n l = claims-terms roles cs (origin_at cs n) (capability_at cs n) (kept.capability n l).fits

  pub contained : {n m : ℕ} → n < count → Descends (origin_at cs) n m → Below (terms roles cs (ofCapability n)) (terms roles cs (ofCapability m))
  contained l here = below_refl _
  contained {n} l (up {k = k} e c) =
      below_trans
      (subst (λ (o : Origin). Below (terms roles cs (ofCapability n)) (terms roles cs o)) e (terms_fit n l))
      (contained (omega (arith, falls n k l e)) c)

  -- the climb reaches a founded role, in at most n + 1 steps
  pub rooted : (f n : ℕ) → n < f → n < count → (k : ℕ) × (root f cs n ≡ k) × T (role_at roles k).founded × Below (terms roles cs (ofCapability n)) (terms roles cs (ofRole k))
  unfolding root exists
  rooted zero n g l = absurd (not-suc-le-zero g)
  rooted (suc f) n g l = cases (origin_at cs n) refl (λ k e. rooted f k (omega (arith, falls n k l e)) (omega (arith, falls n k l e)))
    where
      Goal : Origin → Type 0
      Goal o = (k : ℕ) × (ending (λ j. root f cs j) o ≡ k) × T (role_at roles k).founded × Below (terms roles cs (ofCapability n)) (terms roles cs (ofRole k))

      cases : (o : Origin) → origin_at cs n ≡ o
          → ((k : ℕ) → origin_at cs n ≡ ofCapability k → (j : ℕ) × (root f cs k ≡ j) × T (role_at roles j).founded × Below (terms roles cs (ofCapability k)) (terms roles cs (ofRole j)))
          → Goal o
      cases (ofRole k) e ih = (
        k,
        refl,
        subst (λ (o : Origin). T (exists roles count o)) e (kept.capability n l).origin_there,
        subst (λ (o : Origin). Below (terms roles cs (ofCapability n)) (terms roles cs o)) e (terms_fit n l),
      )
      cases (ofCapability k) e ih =
          let q : (j : ℕ) × (root f cs k ≡ j) × T (role_at roles j).founded × Below (terms roles cs (ofCapability k)) (terms roles cs (ofRole j)) = ih k e in (
            q.0,
            q.1,
            q.2,
            below_trans (subst (λ (o : Origin). Below (terms roles cs (ofCapability n)) (terms roles cs o)) e (terms_fit n l)) q.3,
          )

  -- ---- the list `climb` has exactly the passes on the climb

  pub descends_member : {n m : ℕ} (f : ℕ) → n < f → n < count → Descends (origin_at cs) n m → T (member m (lineage f cs n))
  unfolding lineage member
  descends_member zero g l c = absurd (not-suc-le-zero g)
  descends_member {n} (suc f) g l here = or_l (eqb n n) (member n (onward (λ j. lineage f cs j) (origin_at cs n))) (eqb_refl n)
  descends_member {n} {m} (suc f) g l (up {k = k} e c) = or_r (eqb n m) (member m (onward (λ j. lineage f cs j) (origin_at cs n)))
      (subst (λ (o : Origin). T (member m (onward (λ j. lineage f cs j) o))) (sym e) (descends_member f (omega (arith, falls n k l e)) (omega (arith, falls n k l e)) c))

-- no rule is needed for the converse
pub member_descends : (cs : List Capability) (f n m : ℕ) → T (member m (lineage f cs n)) → Descends (origin_at cs) n m
unfolding lineage member
member_descends cs zero n m h = absurd h
member_descends cs (suc f) n m h = first (λ k t. member_descends cs f k m t) (or_cases (eqb n m) (member m (onward (λ k. lineage f cs k) (origin_at cs n))) h)
  where
    next : (o : Origin) → origin_at cs n ≡ o → ((k : ℕ) → T (member m (lineage f cs k)) → Descends (origin_at cs) k m) → T (member m (onward (λ k. lineage f cs k) o)) → Descends (origin_at cs) n m
    next (ofRole k) e ih t = absurd t
    next (ofCapability k) e ih t = up e (ih k t)

    first : ((k : ℕ) → T (member m (lineage f cs k)) → Descends (origin_at cs) k m) → T (eqb n m) ⊎ T (member m (onward (λ k. lineage f cs k) (origin_at cs n))) → Descends (origin_at cs) n m
    first ih (inl t) = subst (λ (x : ℕ). Descends (origin_at cs) n x) (eqb→eq n m t) here
    first ih (inr t) = next (origin_at cs n) refl ih t

module _ (enrolled : ℕ) (roles : List Role) (count : ℕ) (cs : List Capability) (kept : CapabilitiesKept enrolled roles count cs) where
  pub inLineage→ : (m n : ℕ) → T (in_lineage cs m n) → Descends (origin_at cs) n m
  unfolding in_lineage
  inLineage→ m n h = member_descends cs (suc n) n m h

  pub inLineage← : (m n : ℕ) → n < count → Descends (origin_at cs) n m → T (in_lineage cs m n)
  unfolding in_lineage
  inLineage← m n l c = descends_member enrolled roles count cs kept (suc n) (le_refl (suc n)) l c

  -- the step up: what is on the climb of the origin is on the climb of the pass
  pub in_lineage_up : (m n k : ℕ) → n < count → origin_at cs n ≡ ofCapability k → T (in_lineage cs m k) → T (in_lineage cs m n)
  in_lineage_up m n k l e h = inLineage← m n l (up e (inLineage→ m k h))

-- the climb from a place that is blank has nothing else on it
pub blank_alone : (cs : List Capability) (m n : ℕ) → m < n → capability_at cs n ≡ blank_capability → Descends (origin_at cs) n m → ⊥
blank_alone cs m n l e here = omega arith
blank_alone cs m n l e (up {k = k} o c) =
    let z : ofRole 0 ≡ ofCapability k = sym (ap (λ (x : Capability). x.origin) e) ∙ o in
    let w : ◌≡◌ {A = ℕ} 0 1 = cc in
    omega arith

-- ---- the climb by any record of origins that agrees with the register's

module _
    (enrolled : ℕ) (roles : List Role) (count : ℕ) (cs : List Capability) (kept : CapabilitiesKept enrolled roles count cs)
    (derived : ℕ → Origin) (agrees : (i : ℕ) → i < count → origin_at cs i ≡ derived i) where
  pub descends_shown : {n m : ℕ} → n < count → Descends derived n m → Descends (origin_at cs) n m
  descends_shown l here = here
  descends_shown {n} l (up {k = k} e c) = up (agrees n l ∙ e) (descends_shown (omega (arith, falls enrolled roles count cs kept n k l (agrees n l ∙ e))) c)

  pub descends_derived : {n m : ℕ} → n < count → Descends (origin_at cs) n m → Descends derived n m
  descends_derived l here = here
  descends_derived {n} l (up {k = k} e c) = up (sym (agrees n l) ∙ e) (descends_derived (omega (arith, falls enrolled roles count cs kept n k l e)) c)

  pub reaches : (f n : ℕ) → n < f → n < count → (k : ℕ) × Reaches derived f n k × T (role_at roles k).founded
  unfolding exists
  reaches zero n g l = absurd (not-suc-le-zero g)
  reaches (suc f) n g l = cases (origin_at cs n) refl (λ k e. reaches f k (omega (arith, falls enrolled roles count cs kept n k l e)) (omega (arith, falls enrolled roles count cs kept n k l e)))
    where
      cases : (o : Origin) → origin_at cs n ≡ o
          → ((k : ℕ) → origin_at cs n ≡ ofCapability k → (j : ℕ) × Reaches derived f k j × T (role_at roles j).founded)
          → (k : ℕ) × Reaches derived (suc f) n k × T (role_at roles k).founded
      cases (ofRole k) e ih =
          (k, last_step (sym (agrees n l) ∙ e), subst (λ (o : Origin). T (exists roles count o)) e (kept.capability n l).origin_there)
      cases (ofCapability k) e ih = let q = ih k e in (q.0, one_step (sym (agrees n l) ∙ e) q.1, q.2)

  pub reaches_below : {f n k : ℕ} → n < count → Reaches derived f n k → Below (terms roles cs (ofCapability n)) (terms roles cs (ofRole k))
  reaches_below {n = n} l (last_step e) =
      subst (λ (o : Origin). Below (terms roles cs (ofCapability n)) (terms roles cs o)) (agrees n l ∙ e) (terms_fit enrolled roles count cs kept n l)
  reaches_below {n = n} l (one_step {m = m} e c) =
      below_trans
      (subst (λ (o : Origin). Below (terms roles cs (ofCapability n)) (terms roles cs o)) (agrees n l ∙ e) (terms_fit enrolled roles count cs kept n l))
      (reaches_below (omega (arith, falls enrolled roles count cs kept n m l (agrees n l ∙ e))) c)
