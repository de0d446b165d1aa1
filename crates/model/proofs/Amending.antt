-- Amend keeps the rules of the passes.
use mathlib.Core.Path.{◌≡◌, refl, sym, ap, ap₂, ◌∙◌, subst}
use mathlib.Core.Logic.{◌⊎◌, inl, inr, ⊎_elim}
use mathlib.Core.Bool.{Bool, true, false, cond, not}
use mathlib.Core.List.{List}
use Prim.Native.Nat.{ℕ, ◌≤◌, ◌<◌, min}
use native.Mathlib.Omega.{arith}
use lib.Dec.{T, eqb, not_T, eqb→eq}
use lib.ListN.{length}
use native.Mathlib.Decide.{dec_lt}
use Rattle.model.specs.declared.Origin.{Origin}
use Rattle.model.specs.declared.Origin.TheVariants.{Role as ofRole, Capability as ofCapability}
use Rattle.model.specs.declared.Role.{Role}
use Rattle.model.specs.declared.Capability.{Capability}
use Rattle.masks.specs.Tests.{map_from, rising}
use Rattle.model.specs.State.{capability_terms, terms, claims, authority, role_at, capability_at, origin_at, blank_capability}
use Rattle.model.specs.Lineage.{in_lineage, Descends, here, up}
use Rattle.model.specs.Setters.{with_use_limit}
use Rattle.model.specs.Revocation.{limited}
use Rattle.model.specs.Sweeps.{origin_limit, limit_one}
use Rattle.masks.proofs.Truth.{T→false, eq→eqb}
use Rattle.masks.proofs.Bounded.{map_at_lem, length-map_from}
use Rattle.model.specs.Invariant.{Below}
use Rattle.model.proofs.Kept.{CapabilitiesKept}
use Rattle.model.proofs.Tree.{blank_alone, inLineage→, inLineage←, in_lineage_up, falls, descends_le}
use Rattle.masks.proofs.Rising.{rising_unique}
use Rattle.model.proofs.Frames.{Frame, framed, frames_beyond, role_frame, own_framed, Claims, reworked_capabilities}

-- the limit after an amendment, by who is on whose climb: i is the pass, k its origin, n the pass amended
limit_le : (i-is-n n-above-i k-is-n n-above-k : Bool) (limit u v : ℕ) → u ≤ v
    → (T i-is-n → (limit ≤ v) × T (not k-is-n) × T (not n-above-k))
    → (T k-is-n → T n-above-i) → (T n-above-k → T n-above-i)
    → cond i-is-n limit (cond n-above-i (min u limit) u) ≤ cond k-is-n limit (cond n-above-k (min v limit) v)
limit_le true b true b' limit u v h f g w = absurd (f tt).1
limit_le true b false true limit u v h f g w = absurd (f tt).2
limit_le true b false false limit u v h f g w = (f tt).0
limit_le false true true b' limit u v h f g w = omega arith
limit_le false false true b' limit u v h f g w = absurd (g tt)
limit_le false true false true limit u v h f g w = omega arith
limit_le false false false true limit u v h f g w = absurd (w tt)
limit_le false true false false limit u v h f g w = omega arith
limit_le false false false false limit u v h f g w = h

-- the same limit by what the origin has
limit_same : (i-is-n n-above-i k-is-n n-above-k : Bool) (limit u v : ℕ) → u ≤ v
    → (T n-above-i → T i-is-n ⊎ (T k-is-n ⊎ T n-above-k)) → (T k-is-n → T n-above-i) → (T n-above-k → T n-above-i)
    → cond i-is-n limit (cond n-above-i (min u limit) u) ≡ cond i-is-n limit (min u (cond k-is-n limit (cond n-above-k (min v limit) v)))
limit_same true b a' b' limit u v h f g w = refl
limit_same false true true b' limit u v h f g w = refl
limit_same false true false true limit u v h f g w = omega arith
limit_same false true false false limit u v h f g w = absurd (⊎_elim (λ t. t) (⊎_elim (λ t. t) (λ t. t)) (f tt))
limit_same false false true b' limit u v h f g w = absurd (g tt)
limit_same false false false true limit u v h f g w = absurd (w tt)
limit_same false false false false limit u v h f g w = omega arith

module _
    (enrolled : ℕ) (roles : List Role) (count : ℕ) (cs : List Capability) (kept : CapabilitiesKept enrolled roles count cs) (n : ℕ) (exists : n < count)
    (limit : ℕ) (allowed : limit ≤ (terms roles cs (origin_at cs n)).use_limit) where
  abbrev pub amended : List Capability
  amended = map_from (limited cs n limit) 0 cs

  abbrev pub limit_of : ℕ → ℕ
  limit_of i = cond (eqb i n) limit (cond (in_lineage cs n i) (min (capability_at cs i).use_limit limit) (capability_at cs i).use_limit)

  pub amend_length : length amended ≡ 256
  amend_length = length-map_from (limited cs n limit) 0 cs ∙ kept.amount

  pub amend_at : (i : ℕ) → i < 256 → capability_at amended i ≡ with_use_limit (capability_at cs i) (limit_of i)
  unfolding limited
  amend_at i l = map_at_lem (limited cs n limit) cs blank_capability i (omega (arith, kept.amount))

  pub amend_frames : (i : ℕ) → Frame (capability_at cs i) (capability_at amended i)
  amend_frames = frames_beyond cs amended kept.amount amend_length (λ i l. framed (capability_at cs i) (amend_at i l))

  -- the limit that the origin of n allows, said of i and its origin o where i is n
  allowed_at : (i : ℕ) (o : Origin) → origin_at cs i ≡ o → i ≡ n → limit ≤ (terms roles cs o).use_limit
  allowed_at i o e q = subst (λ (x : Origin). limit ≤ (terms roles cs x).use_limit) (ap (origin_at cs) (sym q) ∙ e) allowed

  amend_claims : (i : ℕ) → i < count → (o : Origin) → origin_at cs i ≡ o → Below (claims (capability_at cs i)) (terms roles cs o)
      → Claims (with_use_limit (capability_at cs i) (limit_of i)) (terms roles amended o)
  unfolding terms authority
  amend_claims i l (ofRole k) e h =
      record { grants = h.grants; lendable = h.lendable; use_limit = limit_le (eqb i n) (in_lineage cs n i) false false limit _ 65535 h.use_limit (λ t. (allowed_at i (ofRole k) e (eqb→eq i n t), tt, tt)) (λ t. absurd t) (λ t. absurd t); revoked = h.revoked }
  amend_claims i l (ofCapability k) e h =
      let below : k < i = falls enrolled roles count cs kept i k l e in
      subst
      (λ (x : Capability). Claims (with_use_limit (capability_at cs i) (limit_of i)) (capability_terms roles x))
      (sym (amend_at k (omega (arith, falls enrolled roles count cs kept i k l e, kept.enough))))
      (record {
        grants = h.grants;
        lendable = h.lendable;
        use_limit =
            limit_le (eqb i n) (in_lineage cs n i) (eqb k n) (in_lineage cs n k) limit _ _ h.use_limit
            (λ t. (allowed_at i (ofCapability k) e (eqb→eq i n t), not_T (eqb k n) (λ q. omega (arith, below, eqb→eq i n t, eqb→eq k n q)), not_T (in_lineage cs n k) (λ q. omega (arith, below, eqb→eq i n t, descends_le enrolled roles count cs kept (omega (arith, below)) (inLineage→ enrolled roles count cs kept n k q)))))
            (λ t. inLineage← enrolled roles count cs kept n i l (up e (subst (λ (x : ℕ). Descends (origin_at cs) k x) (eqb→eq k n t) here)))
            (λ t. in_lineage_up enrolled roles count cs kept n i k l e t);
        revoked = h.revoked;
      })

  amend_blank : (i : ℕ) → count ≤ i → i < 256 → capability_at amended i ≡ blank_capability
  amend_blank i g l =
      amend_at i l
      ∙ ap₂ (λ (a b : Bool). with_use_limit (capability_at cs i) (cond a limit (cond b (min (capability_at cs i).use_limit limit) (capability_at cs i).use_limit)))
      (T→false (eqb i n) (not_T (eqb i n) (λ t. omega (arith, eqb→eq i n t))))
      (T→false (in_lineage cs n i) (not_T (in_lineage cs n i) (λ t. blank_alone cs n i (omega arith) (kept.blank i g l) (inLineage→ enrolled roles count cs kept n i t))))
      ∙ kept.blank i g l

  pub amend_capabilities : CapabilitiesKept enrolled roles count amended
  amend_capabilities =
      reworked_capabilities roles roles count cs amended (λ k. role_frame (role_at roles k)) amend_frames enrolled kept amend_length
      (λ i l. own_framed (capability_at cs i) (amend_at i (omega (arith, kept.enough))) (kept.capability i l).own)
      (λ i l.
      subst
      (λ (c : Capability). Claims c (terms roles amended (origin_at cs i)))
      (sym (amend_at i (omega (arith, kept.enough))))
      (amend_claims i l (origin_at cs i) refl (kept.capability i l).fits))
      amend_blank

  -- ---- the rising sweep of the program comes to the same

  descended : {i m : ℕ} (o : Origin) → origin_at cs i ≡ o → i < count → m ≡ n → Descends (origin_at cs) i m → T (eqb i n) ⊎ ((k : ℕ) × (o ≡ ofCapability k) × T (in_lineage cs n k))
  descended {i} o e l q here = inl (eq→eqb i n q)
  descended {i} o e l q (up {k = k} f c) =
      inr (k, sym e ∙ f, inLineage← enrolled roles count cs kept n k (omega (arith, falls enrolled roles count cs kept i k l f)) (subst (λ (x : ℕ). Descends (origin_at cs) k x) q c))

  origin_bound : (i : ℕ) → i < count → (o : Origin) → origin_at cs i ≡ o → (capability_at cs i).use_limit ≤ (terms roles cs o).use_limit
  origin_bound i l o e = subst (λ (x : Origin). (capability_at cs i).use_limit ≤ (terms roles cs x).use_limit) e (kept.capability i l).fits.use_limit

  limit_rising : (i : ℕ) → i < count → (o : Origin) → origin_at cs i ≡ o → limit_of i ≡ cond (eqb i n) limit (min (capability_at cs i).use_limit (origin_limit amended o))
  unfolding terms
  limit_rising i l (ofRole k) e =
      limit_same (eqb i n) (in_lineage cs n i) false false limit (capability_at cs i).use_limit 65535 (origin_bound i l (ofRole k) e)
      (λ t. only (descended (ofRole k) e l refl (inLineage→ enrolled roles count cs kept n i t))) (λ t. absurd t) (λ t. absurd t)
    where
      only : T (eqb i n) ⊎ ((j : ℕ) × (ofRole k ≡ ofCapability j) × T (in_lineage cs n j)) → T (eqb i n) ⊎ (T false ⊎ T false)
      only (inl t) = inl t
      only (inr q) = let z : ◌≡◌ {A = ℕ} 0 1 = cc q.1 in absurd (omega arith)
  limit_rising i l (ofCapability k) e =
      limit_same (eqb i n) (in_lineage cs n i) (eqb k n) (in_lineage cs n k) limit (capability_at cs i).use_limit (capability_at cs k).use_limit (origin_bound i l (ofCapability k) e)
      (λ t. via (descended (ofCapability k) e l refl (inLineage→ enrolled roles count cs kept n i t)))
      (λ t. inLineage← enrolled roles count cs kept n i l (up e (subst (λ (x : ℕ). Descends (origin_at cs) k x) (eqb→eq k n t) here)))
      (λ t. in_lineage_up enrolled roles count cs kept n i k l e t)
      ∙ ap (λ (x : ℕ). cond (eqb i n) limit (min (capability_at cs i).use_limit x))
      (sym (ap (λ (c : Capability). c.use_limit) (amend_at k (omega (arith, falls enrolled roles count cs kept i k l e, kept.enough)))))
    where
      via : T (eqb i n) ⊎ ((j : ℕ) × (ofCapability k ≡ ofCapability j) × T (in_lineage cs n j)) → T (eqb i n) ⊎ (T (eqb k n) ⊎ T (in_lineage cs n k))
      via (inl t) = inl t
      via (inr q) = let same : q.0 ≡ k = cc q.1 in inr (inr (subst (λ (x : ℕ). T (in_lineage cs n x)) same q.2))

  pub sweep_limits : rising blank_capability (limit_one n limit) 256 cs ≡ amended
  sweep_limits = rising_unique blank_capability (limit_one n limit) cs 256 amended kept.amount amend_length (λ i l ih. one i l ih (dec_lt i count))
    where
      above : (i : ℕ) → i < count → (o : Origin) → origin_at cs i ≡ o → ((k : ℕ) → k < i → capability_at (rising blank_capability (limit_one n limit) i cs) k ≡ capability_at amended k)
          → origin_limit (rising blank_capability (limit_one n limit) i cs) o ≡ origin_limit amended o
      above i l (ofRole k) e ih = refl
      above i l (ofCapability k) e ih = ap (λ (c : Capability). c.use_limit) (ih k (falls enrolled roles count cs kept i k l e))

      one : (i : ℕ) → i < 256 → ((k : ℕ) → k < i → capability_at (rising blank_capability (limit_one n limit) i cs) k ≡ capability_at amended k) → Dec (i < count)
          → limit_one n limit i (rising blank_capability (limit_one n limit) i cs) (capability_at cs i) ≡ capability_at amended i
      one i l ih (yes h) =
          ap (λ (x : ℕ). with_use_limit (capability_at cs i) (cond (eqb i n) limit (min (capability_at cs i).use_limit x))) (above i h (origin_at cs i) refl ih)
          ∙ ap (with_use_limit (capability_at cs i)) (sym (limit_rising i h (origin_at cs i) refl))
          ∙ sym (amend_at i l)
      one i l ih (no h) =
          ap₂ (λ (c : Capability) (b : Bool). with_use_limit c (cond b limit (min c.use_limit (origin_limit (rising blank_capability (limit_one n limit) i cs) c.origin)))) (kept.blank i (omega arith) l)
          (T→false (eqb i n) (not_T (eqb i n) (λ t. omega (arith, eqb→eq i n t))))
          ∙ sym (amend_blank i (omega arith) l)
