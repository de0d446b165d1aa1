-- What the theory knows of a role's authority (it follows the permissions, has their range, and there is none past the roles) and of
-- what a role may lend (itself; nothing that carries more than it; the same whatever the other roles are).
use mathlib.Core.Path.{◌≡◌, refl, sym, ap, subst}
use mathlib.Core.List.{List}
use Prim.Native.Nat.{ℕ, ◌^◌, ◌≤◌, ◌<◌}
use native.Mathlib.Omega.{arith}
use lib.Dec.{T, eqb→eq, eqb_refl}
use lib.ListN.{set, length, get_or-eq_default}
use lib.Pow.{pow-lt}
use Rattle.masks.specs.Masks.{has, within}
use Rattle.masks.proofs.Bounded.{set-each}
use Rattle.masks.proofs.MaskLaws.{single_within, within_le, has_single, has_lt, has_within, within_refl, within_has}
use Rattle.masks.proofs.JoinLaws.{joined_least, joined-has, joined_one, joined_small, joined_mono, joined_ext, joined_through}
use Rattle.model.specs.declared.Role.{Role}
use Rattle.model.specs.State.{role_authority, lent_authority, role_lends, may_lend, role_at, blank_role}

pub authority_small : (roles : List Role) (k : ℕ) → (role_at roles k).permissions < 2 ^ 32 → role_authority roles k < 2 ^ 32
unfolding role_authority
authority_small roles k h = h

pub authority_past : (roles : List Role) (k : ℕ) → length roles ≤ k → 0 ≡ role_authority roles k
unfolding role_authority
authority_past roles k l = sym (ap (λ (x : Role). x.permissions) (get_or-eq_default roles blank_role {n = k} l))

-- a role put anew, with as many permissions or with the same
module _ (roles : List Role) (j : ℕ) (x : Role) (l : j < length roles) where
  pub authority_grows : T (within (role_at roles j).permissions x.permissions) → (i : ℕ) → T (within (role_authority roles i) (role_authority (set roles j x) i))
  unfolding role_authority
  authority_grows h i = set-each (λ a b. T (within a.permissions b.permissions)) roles j x blank_role (λ a. within_refl a.permissions) h i l

  pub authority_same : x.permissions ≡ (role_at roles j).permissions → (i : ℕ) → role_authority (set roles j x) i ≡ role_authority roles i
  unfolding role_authority
  authority_same h i = set-each (λ a b. b.permissions ≡ a.permissions) roles j x blank_role (λ a. refl) h i l

-- ---- what a role may lend

pub lends_self : (roles : List Role) (k : ℕ) → T (has (role_lends roles k) k)
unfolding role_lends
lends_self roles k = subst T (sym (has_single k k)) (eqb_refl k)

pub lends_carried : (roles : List Role) (k j : ℕ) → T (has (role_lends roles k) j) → T (within (role_authority roles j) (role_authority roles k))
unfolding role_lends
lends_carried roles k j h =
    subst (λ (i : ℕ). T (within (role_authority roles j) (role_authority roles i))) (eqb→eq j k (subst T (has_single k j) h)) (within_refl (role_authority roles j))

pub lends_on : (roles : List Role) (k j : ℕ) → T (has (role_lends roles k) j) → T (within (role_lends roles j) (role_lends roles k))
unfolding role_lends
lends_on roles k j h =
    subst (λ (i : ℕ). T (within (2 ^ j) (2 ^ i))) (eqb→eq j k (subst T (has_single k j) h)) (within_refl (2 ^ j))

pub lends_small : (roles : List Role) (k : ℕ) → k < 32 → role_lends roles k < 2 ^ 32
unfolding role_lends
lends_small roles k l = pow-lt l

pub lends_founded : (roles : List Role) (k j : ℕ) → T (has (role_lends roles k) j) → T (role_at roles k).founded → T (role_at roles j).founded
unfolding role_lends
lends_founded roles k j h t =
    subst (λ (i : ℕ). T (role_at roles i).founded) (sym (eqb→eq j k (subst T (has_single k j) h))) t

pub lends_same : (roles roles' : List Role) (k : ℕ) → role_lends roles k ≡ role_lends roles' k
unfolding role_lends
lends_same roles roles' k = refl

-- ---- what a mask of roles may lend, and carries

module _ (roles : List Role) where
  pub lend_one : (k : ℕ) → k < 32 → may_lend roles (2 ^ k) ≡ role_lends roles k
  unfolding may_lend
  lend_one k l = joined_one (role_lends roles) k 32 l

  pub lend_small : (m : ℕ) → may_lend roles m < 2 ^ 32
  unfolding may_lend
  lend_small m = joined_small 32 (role_lends roles) m 32 (lends_small roles)

  -- the roles of a mask may themselves be lent
  pub lend_own : (m : ℕ) → m < 2 ^ 32 → T (within m (may_lend roles m))
  unfolding may_lend
  lend_own m l = has_within _ _ (λ k t. within_has _ _ (joined-has (role_lends roles) m 32 k (has_lt 32 m k l t) t) k (lends_self roles k))

  -- while a role may lend just itself, a mask of roles may lend just these
  pub lend_exact : (m : ℕ) → m < 2 ^ 32 → may_lend roles m ≡ m
  unfolding may_lend role_lends
  lend_exact m l =
      omega (
        arith,
        within_le (may_lend roles m) m (joined_least (role_lends roles) m 32 m (λ k h t. single_within k m t)),
        within_le m (may_lend roles m) (lend_own m l),
      )

  pub lend_mono : (m m' : ℕ) → T (within m m') → T (within (may_lend roles m) (may_lend roles m'))
  unfolding may_lend
  lend_mono m m' w = joined_mono (role_lends roles) (role_lends roles) m m' 32 (λ k. within_refl (role_lends roles k)) (within_has m m' w)

  pub lent_mono : (m m' : ℕ) → T (within m m') → T (within (lent_authority roles m) (lent_authority roles m'))
  unfolding lent_authority
  lent_mono m m' w = joined_mono (role_authority roles) (role_authority roles) m m' 32 (λ k. within_refl (role_authority roles k)) (within_has m m' w)

  -- one role's mask carries no more than the role, wherever it stands
  pub lent_one : (k : ℕ) → T (within (lent_authority roles (2 ^ k)) (role_authority roles k))
  unfolding lent_authority
  lent_one k =
      joined_least (role_authority roles) (2 ^ k) 32 (role_authority roles k) (λ j l t.
      subst (λ (i : ℕ). T (within (role_authority roles j) (role_authority roles i))) (eqb→eq j k (subst T (has_single k j) t)) (within_refl (role_authority roles j)))

  -- what may be lent may be lent on to no more, and carries no more than the roles that it comes from
  pub lend_closed : (m : ℕ) → T (within (may_lend roles (may_lend roles m)) (may_lend roles m))
  unfolding may_lend
  lend_closed m = joined_through (role_lends roles) (role_lends roles) m 32 (lends_on roles)

  pub lent_closed : (m : ℕ) → T (within (lent_authority roles (may_lend roles m)) (lent_authority roles m))
  unfolding may_lend lent_authority
  lent_closed m = joined_through (role_authority roles) (role_lends roles) m 32 (lends_carried roles)

pub lend_same : (roles roles' : List Role) (m : ℕ) → may_lend roles m ≡ may_lend roles' m
unfolding may_lend
lend_same roles roles' m = joined_ext (role_lends roles) (role_lends roles') m 32 (lends_same roles roles')
