-- What the other rules imply of a capability: every number is in its range, and its lent roles are founded.
use mathlib.Core.Path.{◌≡◌, subst}
use mathlib.Core.List.{List}
use Prim.Native.Nat.{ℕ, suc, ◌^◌, ◌≤◌, ◌<◌}
use native.Mathlib.Nat.{le_refl}
use native.Mathlib.Decide.{dec_lt}
use native.Mathlib.Omega.{arith}
use lib.Dec.{T, ltb→lt}
use lib.ListN.{length, get_or-eq_default}
use Rattle.masks.specs.Masks.{has, within}
use Rattle.masks.proofs.MaskLaws.{within_le, within_trans, within_has, within_or_l, has_lt}
use Rattle.model.specs.declared.Origin.{Origin}
use Rattle.model.specs.declared.Origin.TheVariants.{Role as ofRole, Capability as ofCapability}
use Rattle.model.specs.declared.Role.{Role}
use Rattle.model.specs.declared.Capability.{Capability}
use Rattle.model.specs.declared.Register.{Register}
use Rattle.model.specs.State.{terms, authority, role_authority, role_lends, may_lend, role_at, blank_role, exists}
use Rattle.model.specs.Rulings.{role, capability, terms_of}
use Rattle.model.specs.Invariant.{OriginInRange, Below, RoleRules, CapabilityRanges}
use Rattle.model.proofs.Authority.{authority_small, lend_one, lend_small, lend_own, lends_founded}
use Rattle.model.proofs.Kept.{OwnKept, Kept}
use Rattle.model.proofs.Places.{role→}
use Rattle.model.proofs.Tree.{rooted}

-- a founded role's number
pub founded_lt : (roles : List Role) (k : ℕ) → length roles ≡ 32 → T (role_at roles k).founded → k < 32
founded_lt roles k a f = cases (dec_lt k 32)
  where
    cases : Dec (k < 32) → k < 32
    cases (yes g) = g
    cases (no g) = absurd (subst (λ (x : Role). T x.founded) (get_or-eq_default roles blank_role (omega arith)) f)

origin_in_range : (roles : List Role) (count : ℕ) (o : Origin) → length roles ≡ 32 → count ≤ 256 → T (exists roles count o) → OriginInRange o
unfolding exists
origin_in_range roles count (ofRole k) a l h = founded_lt roles k a h
origin_in_range roles count (ofCapability n) a l h = omega (arith, ltb→lt n count h)

module _ (r : Register) (n : ℕ) (k : Kept r) (l : n < r.count) where
  -- the role where the lineage ends
  end : ℕ
  end = (rooted r.enrolled r.roles r.count r.capabilities k.capabilities (suc n) n (le_refl (suc n)) l).0

  end_founded : T (role r end).founded
  unfolding end
  end_founded = (rooted r.enrolled r.roles r.count r.capabilities k.capabilities (suc n) n (le_refl (suc n)) l).2

  end_above : Below (terms_of r (ofCapability n)) (terms_of r (ofRole end))
  unfolding end
  end_above = (rooted r.enrolled r.roles r.count r.capabilities k.capabilities (suc n) n (le_refl (suc n)) l).3

  end_lt : end < 32
  end_lt = founded_lt r.roles end k.roles.amount end_founded

  end_rules : RoleRules r.enrolled r.domains (role r end)
  end_rules =
      role→ r.enrolled r.domains end (role r end) end_founded
      (k.roles.role end end_lt)

  -- what may be lent are roles
  lent_lt : (capability r n).lent < 2 ^ 32
  unfolding terms
  lent_lt = omega (arith, within_le (capability r n).lent _ (k.capabilities.capability n l).fits.lendable, small (capability r n).origin)
    where
      small : (o : Origin) → (terms_of r o).lendable < 2 ^ 32
      small (ofRole j) = lend_small r.roles (2 ^ j)
      small (ofCapability m) = lend_small r.roles (capability r m).lent

  pub in_range_lem : CapabilityRanges (capability r n)
  unfolding terms authority
  in_range_lem =
      let c : Capability = capability r n in
      let w : Below (terms_of r (ofCapability n)) (terms_of r (ofRole end)) = end_above in
      let o : OwnKept r.enrolled (capability r n) = (k.capabilities.capability n l).own in
      let few : (capability r n).creations ≤ (capability r n).creation_limit = (k.capabilities.capability n l).creation_limit in
      record {
        origin = origin_in_range r.roles r.count c.origin k.roles.amount k.capabilities.enough (k.capabilities.capability n l).origin_there;
        creator = has_lt 64 r.enrolled (capability r n).creator k.users.small o.creator;
        permissions =
            omega (
              arith,
              within_le (capability r n).permissions (role_authority r.roles end)
                  (within_trans (capability r n).permissions (authority r.roles (capability r n)) (role_authority r.roles end) (within_or_l (capability r n).permissions _) w.grants),
              authority_small r.roles end end_rules.permissions,
            );
        lent = lent_lt;
        holders = omega (arith, within_le (capability r n).holders r.enrolled o.holders, k.users.small);
        first = omega (arith, o.life, w.last);
        last = omega (arith, w.last);
        use_limit = omega (arith, w.use_limit);
        uses = o.uses;
        creation_limit = omega (arith, w.creation_limit);
        creations = omega (arith, few, w.creation_limit);
        hop_limit = omega (arith, w.hop_limit);
        hops = omega (arith, o.hop_limit, w.hop_limit);
        hours = omega (arith, within_le (capability r n).hours (role r end).hours w.hours, end_rules.hours);
        places = omega (arith, within_le (capability r n).places (role r end).places w.places, end_rules.places);
        devices = omega (arith, within_le (capability r n).devices (role r end).devices w.devices, end_rules.devices);
      }

  -- only what the role where the lineage ends may lend is lent
  pub lent_founded : (j : ℕ) → T (has (capability r n).lent j) → T (role r j).founded
  unfolding terms
  lent_founded j h =
      let m : ℕ = (capability r n).lent in
      let w : T (within m (role_lends r.roles end)) =
      rw (lend_one r.roles end end_lt) at (within_trans m (may_lend r.roles m) (may_lend r.roles (2 ^ end)) (lend_own r.roles m lent_lt) end_above.lendable) in
      lends_founded r.roles end j (within_has m _ w j h) end_founded
