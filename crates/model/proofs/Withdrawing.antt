-- Withdraw keeps the rules of the passes: one rising sweep.
use mathlib.Core.Path.{◌≡◌, refl, sym, ap, ◌∙◌, subst}
use mathlib.Core.List.{List}
use Prim.Native.Nat.{ℕ, ◌^◌, ◌≤◌, ◌<◌}
use native.Mathlib.Omega.{arith}
use lib.Dec.{T}
use lib.ListN.{length}
use lib.Bits.{bit_and}
use Rattle.model.specs.declared.Origin.{Origin}
use Rattle.model.specs.declared.Origin.TheVariants.{Role as ofRole, Capability as ofCapability}
use Rattle.model.specs.declared.Role.{Role}
use Rattle.model.specs.declared.Capability.{Capability}
use Rattle.masks.specs.Masks.{within}
use Rattle.model.specs.State.{terms, claims, authority, role_authority, may_lend, role_at, capability_at, origin_at, blank_capability}
use Rattle.model.specs.Setters.{with_permissions}
use Rattle.masks.specs.Tests.{rising}
use Rattle.model.specs.Administration.{cut_permissions}
use Rattle.masks.proofs.MaskLaws.{within_and_r}
use Rattle.model.proofs.Authority.{lend_same}
use Rattle.model.specs.Invariant.{Below}
use Rattle.model.proofs.Kept.{CapabilitiesKept}
use Rattle.model.proofs.Tree.{falls}
use Rattle.masks.proofs.Rising.{length-rising, rising_done, rising-settled}
use Rattle.model.proofs.Frames.{Frame, RoleFrame, framed, frames_beyond, own_framed, Claims, reworked_capabilities}

-- ---- withdraw

module _
    (enrolled : ℕ) (roles roles' : List Role) (count : ℕ) (cs : List Capability) (kept : CapabilitiesKept enrolled roles count cs)
    (role-frames : (k : ℕ) → RoleFrame (role_at roles k) (role_at roles' k)) where
  abbrev pub cut_after : List Capability
  cut_after = rising blank_capability (cut_permissions roles') 256 cs

  pub cut_length : length cut_after ≡ 256
  cut_length = length-rising blank_capability (cut_permissions roles') cs 256 ∙ kept.amount

  -- as the sweep finds it
  cut_at : (i : ℕ) → i < 256 → capability_at cut_after i ≡ with_permissions (capability_at cs i) (bit_and (capability_at cs i).permissions (terms roles' (rising blank_capability (cut_permissions roles') i cs) (origin_at cs i)).grants)
  unfolding cut_permissions
  cut_at i l = rising_done blank_capability (cut_permissions roles') cs 256 i l (omega (arith, kept.amount))

  -- as it is at the end: own permissions cut to the authority that the origin has at the end
  settled_grants : (i : ℕ) → i < count → (o : Origin) → origin_at cs i ≡ o → (terms roles' (rising blank_capability (cut_permissions roles') i cs) o).grants ≡ (terms roles' cut_after o).grants
  unfolding terms
  settled_grants i l (ofRole k) e = refl
  settled_grants i l (ofCapability k) e =
      ap (authority roles')
      (rising-settled blank_capability (cut_permissions roles') cs 256 i k (falls enrolled roles count cs kept i k l e) (omega (arith, kept.enough)) (omega (arith, kept.amount)))

  pub cut_is : (i : ℕ) → i < count → capability_at cut_after i ≡ with_permissions (capability_at cs i) (bit_and (capability_at cs i).permissions (terms roles' cut_after (origin_at cs i)).grants)
  cut_is i l =
      cut_at i (omega (arith, kept.enough))
      ∙ ap (λ (x : ℕ). with_permissions (capability_at cs i) (bit_and (capability_at cs i).permissions x)) (settled_grants i l (origin_at cs i) refl)

  pub cut_frames : (i : ℕ) → Frame (capability_at cs i) (capability_at cut_after i)
  cut_frames = frames_beyond cs cut_after kept.amount cut_length (λ i l. framed (capability_at cs i) (cut_at i l))

  -- what may be lent is as it was
  lends_still : (i m m' : ℕ) → m' ≡ m → T (within (capability_at cs i).lent (may_lend roles m)) → T (within (capability_at cs i).lent (may_lend roles' m'))
  lends_still i m m' e = subst (λ (x : ℕ). T (within (capability_at cs i).lent x)) (lend_same roles roles' m ∙ ap (may_lend roles') (sym e))

  cut_claims : (i : ℕ) → i < count → (o : Origin) → origin_at cs i ≡ o → Below (claims (capability_at cs i)) (terms roles cs o)
      → Claims (with_permissions (capability_at cs i) (bit_and (capability_at cs i).permissions (terms roles' cut_after o).grants)) (terms roles' cut_after o)
  unfolding terms
  cut_claims i l (ofRole k) e h =
      record { grants = within_and_r (capability_at cs i).permissions (role_authority roles' k); lendable = lends_still i (2 ^ k) (2 ^ k) refl h.lendable; use_limit = h.use_limit; revoked = λ t. absurd t }
  cut_claims i l (ofCapability k) e h =
      let at : capability_at cut_after k ≡ with_permissions (capability_at cs k) (bit_and (capability_at cs k).permissions (terms roles' (rising blank_capability (cut_permissions roles') k cs) (origin_at cs k)).grants) =
      cut_at k (omega (arith, falls enrolled roles count cs kept i k l e, kept.enough)) in
      record {
        grants = within_and_r (capability_at cs i).permissions (authority roles' (capability_at cut_after k));
        lendable = lends_still i _ _ (ap (λ (c : Capability). c.lent) at) h.lendable;
        use_limit = omega (arith, h.use_limit, ap (λ (c : Capability). c.use_limit) at);
        revoked = λ t. h.revoked (subst T (ap (λ (c : Capability). c.revoked) at) t);
      }

  cut_blank : (i : ℕ) → count ≤ i → i < 256 → capability_at cut_after i ≡ blank_capability
  cut_blank i g l =
      cut_at i l
      ∙ ap (λ (c : Capability). with_permissions c (bit_and c.permissions (terms roles' (rising blank_capability (cut_permissions roles') i cs) c.origin).grants)) (kept.blank i g l)

  pub cut_capabilities : CapabilitiesKept enrolled roles' count cut_after
  cut_capabilities =
      reworked_capabilities roles roles' count cs cut_after role-frames cut_frames enrolled kept cut_length
      (λ i l. own_framed (capability_at cs i) (cut_is i l) (kept.capability i l).own)
      (λ i l.
      subst
      (λ (c : Capability). Claims c (terms roles' cut_after (origin_at cs i)))
      (sym (cut_is i l))
      (cut_claims i l (origin_at cs i) refl (kept.capability i l).fits))
      cut_blank
