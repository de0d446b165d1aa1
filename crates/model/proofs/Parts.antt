-- How each part of the shelf rules goes through a change of another part.
use mathlib.Core.Path.{◌≡◌, refl, sym, subst}
use mathlib.Core.List.{List}
use Prim.Native.Nat.{ℕ, ◌^◌}
use native.Mathlib.Nat.{le_refl}
use lib.Dec.{T}
use Rattle.masks.specs.Masks.{within}
use Rattle.masks.proofs.MaskLaws.{within_refl, within_trans, within_has, within_or_mono}
use Rattle.masks.proofs.JoinLaws.{joined_mono}
use Rattle.model.proofs.Authority.{lend_same}
use Rattle.model.specs.declared.Origin.{Origin}
use Rattle.model.specs.declared.Origin.TheVariants.{Role as ofRole, Capability as ofCapability}
use Rattle.model.specs.declared.Role.{Role}
use Rattle.model.specs.declared.Capability.{Capability}
use Rattle.model.specs.declared.Session.{Session}
use Rattle.model.specs.State.{Terms, terms, claims, authority, lent_authority, role_authority, may_lend, role_at, capability_at, origin_at, exists, admitted}
use Rattle.model.specs.Invariant.{Below}
use Rattle.model.proofs.Kept.{CapabilityKept, CapabilitiesKept, SessionsKept}
use Rattle.model.proofs.Places.{moved_sessions}
use Rattle.model.proofs.Frames.{RoleFrame, framed, Grows, claims_grow, below-claims, reworked_capabilities, reworked_sessions}

-- ---- more users enrolled

module _ (enrolled enrolled' : ℕ) (more : T (within enrolled enrolled')) where
  pub more_capabilities : (roles : List Role) (count : ℕ) (cs : List Capability) → CapabilitiesKept enrolled roles count cs → CapabilitiesKept enrolled' roles count cs
  more_capabilities roles count cs k =
      record {
        amount = k.amount;
        enough = k.enough;
        capability = λ n l.
            let c : CapabilityKept enrolled roles count cs n (capability_at cs n) = k.capability n l in
            record {
              placed = c.placed;
              origin_there = c.origin_there;
              fits = c.fits;
              creations_counted = c.creations_counted;
              creation_limit = c.creation_limit;
              own =
                  record {
                    creator = within_has enrolled enrolled' more _ c.own.creator;
                    life = c.own.life;
                    holders = within_trans _ enrolled _ c.own.holders more;
                    hops = c.own.hops;
                    hop_limit = c.own.hop_limit;
                    uses = c.own.uses;
                  };
            };
        blank = k.blank;
      }

  pub more_sessions : (roles : List Role) (count : ℕ) (cs : List Capability) (ss : List Session) → SessionsKept enrolled roles count cs ss → SessionsKept enrolled' roles count cs ss
  more_sessions roles count cs = moved_sessions enrolled enrolled' roles roles count count cs cs (within_has enrolled enrolled' more) (λ o h. h) (λ o g at h. h)

-- ---- roles whose authority grows, else framed

module _
    (roles roles' : List Role) (role-frames : (k : ℕ) → RoleFrame (role_at roles k) (role_at roles' k))
    (more : (k : ℕ) → T (within (role_authority roles k) (role_authority roles' k))) where
  lent_grows : (m : ℕ) → T (within (lent_authority roles m) (lent_authority roles' m))
  unfolding lent_authority
  lent_grows m = joined_mono (role_authority roles) (role_authority roles') m m 32 more (λ k h. h)

  lends : (m : ℕ) → T (within (may_lend roles m) (may_lend roles' m))
  lends m = subst (λ (x : ℕ). T (within (may_lend roles m) x)) (lend_same roles roles' m) (within_refl (may_lend roles m))

  roles_grow : (cs : List Capability) (o : Origin) → Grows (terms roles cs o) (terms roles' cs o)
  unfolding terms authority
  roles_grow cs (ofRole k) = record { grants = more k; lendable = lends (2 ^ k); use_limit = le_refl _; revoked = λ h. h }
  roles_grow cs (ofCapability n) =
      record {
        grants = within_or_mono (capability_at cs n).permissions _ (capability_at cs n).permissions _ (within_refl (capability_at cs n).permissions) (lent_grows (capability_at cs n).lent);
        lendable = lends (capability_at cs n).lent;
        use_limit = le_refl _;
        revoked = λ h. h;
      }

  pub roles_capabilities : (enrolled count : ℕ) (cs : List Capability) → CapabilitiesKept enrolled roles count cs → CapabilitiesKept enrolled roles' count cs
  roles_capabilities enrolled count cs k =
      reworked_capabilities roles roles' count cs cs role-frames (λ i. framed (capability_at cs i) refl) enrolled k k.amount
      (λ i l. (k.capability i l).own)
      (λ i l. claims_grow _ _ _ (roles_grow cs (origin_at cs i)) (below-claims _ _ (k.capability i l).fits))
      k.blank

  pub roles_sessions : (enrolled count : ℕ) (cs : List Capability) (ss : List Session) → SessionsKept enrolled roles count cs ss → SessionsKept enrolled roles' count cs ss
  roles_sessions enrolled count cs ss k = reworked_sessions roles roles' count cs cs role-frames (λ i. framed (capability_at cs i) refl) enrolled ss k

-- ---- what was there is there still, on the same terms

module _
    (roles roles' : List Role) (count count' : ℕ) (cs cs' : List Capability)
    (still : (o : Origin) → T (exists roles count o) → T (exists roles' count' o))
    (same : (o : Origin) → T (exists roles count o) → terms roles' cs' o ≡ terms roles cs o) where
  pub same_sessions : (enrolled : ℕ) (ss : List Session) → SessionsKept enrolled roles count cs ss → SessionsKept enrolled roles' count' cs' ss
  same_sessions enrolled =
      moved_sessions enrolled enrolled roles roles' count count' cs cs' (λ u h. h) still
      (λ o g at h. subst (λ (x : Terms). T (admitted x at)) (sym (same o g)) h)

  pub moved_capabilities : (enrolled : ℕ) → count' ≡ count → cs' ≡ cs → CapabilitiesKept enrolled roles count cs → CapabilitiesKept enrolled roles' count cs
  moved_capabilities enrolled p q k =
      record {
        amount = k.amount;
        enough = k.enough;
        capability = λ n l.
            let c : CapabilityKept enrolled roles count cs n (capability_at cs n) = k.capability n l in
            record {
              placed = c.placed;
              origin_there = subst (λ (x : ℕ). T (exists roles' x (origin_at cs n))) p (still (origin_at cs n) c.origin_there);
              fits =
                  subst (λ (x : List Capability). Below (claims (capability_at cs n)) (terms roles' x (origin_at cs n))) q
                  (subst (λ (t : Terms). Below (claims (capability_at cs n)) t) (sym (same (origin_at cs n) c.origin_there)) c.fits);
              creations_counted = c.creations_counted;
              creation_limit = c.creation_limit;
              own = c.own;
            };
        blank = k.blank;
      }
