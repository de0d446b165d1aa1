-- Revoke keeps the rules of the passes; what it marks.
use mathlib.Core.Path.{◌≡◌, refl, sym, ap, ap₂, ◌∙◌, subst}
use mathlib.Core.Logic.{◌⊎◌, inl, inr}
use mathlib.Core.Bool.{Bool, ◌||◌}
use mathlib.Core.List.{List}
use Prim.Native.Nat.{ℕ, ◌≤◌, ◌<◌}
use native.Mathlib.Omega.{arith}
use lib.Dec.{T, eqb, not_T, eqb→eq}
use lib.ListN.{length}
use native.Mathlib.Decide.{dec_lt}
use Rattle.model.specs.declared.Origin.{Origin}
use Rattle.model.specs.declared.Origin.TheVariants.{Role as ofRole, Capability as ofCapability}
use Rattle.model.specs.declared.Role.{Role}
use Rattle.model.specs.declared.Capability.{Capability}
use Rattle.masks.specs.Tests.{map_from, rising}
use Rattle.model.specs.State.{capability_terms, terms, claims, authority, role_at, capability_at, origin_at, blank_capability}
use Rattle.model.specs.Lineage.{in_lineage, Descends, here, up}
use Rattle.model.specs.Setters.{with_revoked}
use Rattle.model.specs.Revocation.{marked}
use Rattle.model.specs.Sweeps.{origin_revoked, mark_one}
use Rattle.masks.proofs.Truth.{or_l, or_r, or_cases, T→false, same_test, eq→eqb}
use Rattle.masks.proofs.Bounded.{map_at_lem, length-map_from}
use Rattle.model.specs.Invariant.{Below}
use Rattle.model.proofs.Kept.{CapabilitiesKept}
use Rattle.model.proofs.Tree.{blank_alone, inLineage→, inLineage←, in_lineage_up, falls}
use Rattle.masks.proofs.Rising.{rising_unique}
use Rattle.model.proofs.Frames.{Frame, framed, frames_beyond, role_frame, own_framed, Claims, reworked_capabilities}

module _ (enrolled : ℕ) (roles : List Role) (count : ℕ) (cs : List Capability) (kept : CapabilitiesKept enrolled roles count cs) (n : ℕ) (exists : n < count) where
  abbrev pub revoked_after : List Capability
  revoked_after = map_from (marked cs n) 0 cs

  pub revoke_length : length revoked_after ≡ 256
  revoke_length = length-map_from (marked cs n) 0 cs ∙ kept.amount

  pub revoke_at : (i : ℕ) → i < 256 → capability_at revoked_after i ≡ with_revoked (capability_at cs i) ((capability_at cs i).revoked || in_lineage cs n i)
  unfolding marked
  revoke_at i l = map_at_lem (marked cs n) cs blank_capability i (omega (arith, kept.amount))

  pub revoke_frames : (i : ℕ) → Frame (capability_at cs i) (capability_at revoked_after i)
  revoke_frames = frames_beyond cs revoked_after kept.amount revoke_length (λ i l. framed (capability_at cs i) (revoke_at i l))

  -- by cases of the origin: a role is never revoked; a pass is revoked or below n, and then so is what is cut from it
  revoke_claims : (i : ℕ) → i < count → (o : Origin) → origin_at cs i ≡ o → Below (claims (capability_at cs i)) (terms roles cs o)
      → Claims (with_revoked (capability_at cs i) ((capability_at cs i).revoked || in_lineage cs n i)) (terms roles revoked_after o)
  unfolding terms authority
  revoke_claims i l (ofRole k) e h =
      record { grants = h.grants; lendable = h.lendable; use_limit = h.use_limit; revoked = λ t. absurd t }
  revoke_claims i l (ofCapability k) e h =
      subst
      (λ (x : Capability). Claims (with_revoked (capability_at cs i) ((capability_at cs i).revoked || in_lineage cs n i)) (capability_terms roles x))
      (sym (revoke_at k (omega (arith, falls enrolled roles count cs kept i k l e, kept.enough))))
      (record {
        grants = h.grants;
        lendable = h.lendable;
        use_limit = h.use_limit;
        revoked = λ t. rev (or_cases (capability_at cs k).revoked (in_lineage cs n k) t);
      })
    where
      rev : T (capability_at cs k).revoked ⊎ T (in_lineage cs n k) → T ((capability_at cs i).revoked || in_lineage cs n i)
      rev (inl t) = or_l (capability_at cs i).revoked (in_lineage cs n i) (h.revoked t)
      rev (inr t) = or_r (capability_at cs i).revoked (in_lineage cs n i) (in_lineage_up enrolled roles count cs kept n i k l e t)

  revoke_blank : (i : ℕ) → count ≤ i → i < 256 → capability_at revoked_after i ≡ blank_capability
  revoke_blank i g l =
      revoke_at i l
      ∙ ap₂ (λ (c : Capability) (b : Bool). with_revoked c (c.revoked || b)) (kept.blank i g l)
      (T→false _ (not_T (in_lineage cs n i) (λ t. blank_alone cs n i (omega arith) (kept.blank i g l) (inLineage→ enrolled roles count cs kept n i t))))

  pub revoke_capabilities : CapabilitiesKept enrolled roles count revoked_after
  revoke_capabilities =
      reworked_capabilities roles roles count cs revoked_after (λ k. role_frame (role_at roles k)) revoke_frames enrolled kept revoke_length
      (λ i l. own_framed (capability_at cs i) (revoke_at i (omega (arith, kept.enough))) (kept.capability i l).own)
      (λ i l.
      subst
      (λ (c : Capability). Claims c (terms roles revoked_after (origin_at cs i)))
      (sym (revoke_at i (omega (arith, kept.enough))))
      (revoke_claims i l (origin_at cs i) refl (kept.capability i l).fits))
      revoke_blank

  -- ---- for a loop over the passes in rising number: a pass is revoked after it if it was, or is n, or its origin is revoked by then

  pub revoke_rising : (i : ℕ) → i < count → ((capability_at cs i).revoked || in_lineage cs n i) ≡ ((capability_at cs i).revoked || (eqb i n || origin_revoked revoked_after (origin_at cs i)))
  unfolding terms
  revoke_rising i l =
      same_test _ _ (λ t. forth (or_cases (capability_at cs i).revoked (in_lineage cs n i) t))
      (λ t. back (or_cases (capability_at cs i).revoked (eqb i n || origin_revoked revoked_after (origin_at cs i)) t))
    where
      k_small : (k : ℕ) → origin_at cs i ≡ ofCapability k → k < i
      k_small k e = falls enrolled roles count cs kept i k l e

      at : (k : ℕ) → origin_at cs i ≡ ofCapability k → (capability_at revoked_after k).revoked ≡ ((capability_at cs k).revoked || in_lineage cs n k)
      at k e = ap (λ (c : Capability). c.revoked) (revoke_at k (omega (arith, k_small k e, kept.enough)))

      descended : {m : ℕ} (o : Origin) → origin_at cs i ≡ o → m ≡ n → Descends (origin_at cs) i m → T (eqb i n || origin_revoked revoked_after o)
      descended o e q here = or_l (eqb i n) (origin_revoked revoked_after o) (eq→eqb i n q)
      descended o e q (up {k = k} f c) =
          or_r (eqb i n) (origin_revoked revoked_after o)
          (subst (λ (x : Origin). T (origin_revoked revoked_after x)) (sym f ∙ e)
          (subst T (sym (at k f)) (or_r (capability_at cs k).revoked (in_lineage cs n k)
          (inLineage← enrolled roles count cs kept n k (omega (arith, k_small k f)) (subst (λ (x : ℕ). Descends (origin_at cs) k x) q c)))))

      forth : T (capability_at cs i).revoked ⊎ T (in_lineage cs n i) → T ((capability_at cs i).revoked || (eqb i n || origin_revoked revoked_after (origin_at cs i)))
      forth (inl h) = or_l (capability_at cs i).revoked (eqb i n || origin_revoked revoked_after (origin_at cs i)) h
      forth (inr h) =
          or_r (capability_at cs i).revoked (eqb i n || origin_revoked revoked_after (origin_at cs i)) (descended (origin_at cs i) refl refl (inLineage→ enrolled roles count cs kept n i h))

      origin_terms_lem : (o : Origin) → T (origin_revoked revoked_after o) → T (terms roles revoked_after o).revoked
      origin_terms_lem (ofRole k) h = h
      origin_terms_lem (ofCapability k) h = h

      back : T (capability_at cs i).revoked ⊎ T (eqb i n || origin_revoked revoked_after (origin_at cs i)) → T ((capability_at cs i).revoked || in_lineage cs n i)
      back (inl h) = or_l (capability_at cs i).revoked (in_lineage cs n i) h
      back (inr h) = back' (or_cases (eqb i n) (origin_revoked revoked_after (origin_at cs i)) h)
        where
          back' : T (eqb i n) ⊎ T (origin_revoked revoked_after (origin_at cs i)) → T ((capability_at cs i).revoked || in_lineage cs n i)
          back' (inl q) =
              or_r (capability_at cs i).revoked (in_lineage cs n i) (inLineage← enrolled roles count cs kept n i l (subst (λ (x : ℕ). Descends (origin_at cs) i x) (eqb→eq i n q) here))
          back' (inr q) =
              subst T (ap (λ (c : Capability). c.revoked) (revoke_at i (omega (arith, kept.enough))))
              ((revoke_capabilities.capability i l).fits.revoked
              (origin_terms_lem (origin_at revoked_after i) (subst (λ (o : Origin). T (origin_revoked revoked_after o)) (sym (revoke_frames i).origin) q)))

  -- the rising sweep of the program comes to the same
  pub sweep_marks : rising blank_capability (mark_one n) 256 cs ≡ revoked_after
  sweep_marks = rising_unique blank_capability (mark_one n) cs 256 revoked_after kept.amount revoke_length (λ i l ih. one i l ih (dec_lt i count))
    where
      above : (i : ℕ) → i < count → (o : Origin) → origin_at cs i ≡ o → ((k : ℕ) → k < i → capability_at (rising blank_capability (mark_one n) i cs) k ≡ capability_at revoked_after k)
          → origin_revoked (rising blank_capability (mark_one n) i cs) o ≡ origin_revoked revoked_after o
      above i l (ofRole k) e ih = refl
      above i l (ofCapability k) e ih = ap (λ (c : Capability). c.revoked) (ih k (falls enrolled roles count cs kept i k l e))

      one : (i : ℕ) → i < 256 → ((k : ℕ) → k < i → capability_at (rising blank_capability (mark_one n) i cs) k ≡ capability_at revoked_after k) → Dec (i < count)
          → mark_one n i (rising blank_capability (mark_one n) i cs) (capability_at cs i) ≡ capability_at revoked_after i
      one i l ih (yes h) =
          ap (λ (b : Bool). with_revoked (capability_at cs i) ((capability_at cs i).revoked || (eqb i n || b))) (above i h (origin_at cs i) refl ih)
          ∙ ap (with_revoked (capability_at cs i)) (sym (revoke_rising i h))
          ∙ sym (revoke_at i l)
      one i l ih (no h) =
          ap₂ (λ (c : Capability) (b : Bool). with_revoked c (c.revoked || (b || origin_revoked (rising blank_capability (mark_one n) i cs) c.origin))) (kept.blank i (omega arith) l)
          (T→false (eqb i n) (not_T (eqb i n) (λ t. omega (arith, eqb→eq i n t))))
          ∙ sym (revoke_blank i (omega arith) l)
