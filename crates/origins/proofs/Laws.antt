-- What is read from elements, and from the columns of the roles, is the register's.
use mathlib.Core.Path.{◌≡◌, refl, sym, ap, ◌∙◌, subst}
use mathlib.Core.List.{List}
use Prim.Native.Nat.{ℕ, ◌%◌, ◌^◌, ◌<◌}
use native.Mathlib.Nat.{mod-eq_of_lt}
use borrow.Author.Tests.{lt-ltb}
use lib.Bits.{bit_or, or_zero_r}
use lib.Dec.{T, ltb, ltb→lt}
use Rattle.masks.proofs.JoinLaws.{joined_same, joined_none}
use Rattle.model.proofs.Authority.{lend_one}
use Rattle.model.specs.declared.Origin.{Origin}
use Rattle.model.specs.declared.Origin.TheVariants.{Role as ofRole, Capability as ofCapability}
use Rattle.model.specs.declared.Named.{Named}
use Rattle.model.specs.declared.Named.TheVariants.{Role as nameRole, Capability as nameCapability}
use Rattle.model.specs.declared.Role.{Role}
use Rattle.model.specs.declared.Capability.{Capability}
use Rattle.model.specs.declared.Context.{Context}
use Rattle.model.specs.State.{party, terms, authority, lent_authority, role_authority, role_lends, may_lend, admitted, role_at, capability_at}
use Rattle.model.specs.Rules.{is_origin}
use Rattle.model.specs.Requests.{named_origin}
use Rattle.model.specs.Sweeps.{origin_revoked, origin_limit}
use Rattle.origins.specs.declared.authority.RoleColumns.{RoleColumns}
use Rattle.origins.specs.Authority.{item, Columns, role_item, joined_items, authority_in}
use Rattle.origins.specs.Numbers.{role_held, capability_held, Placed, named_in}
use Rattle.origins.specs.Terms.{party_in, slot_terms, column_terms, bare_in}

-- ---- a number in its range

pub in_range_lem : (n k : ℕ) → T (ltb n k) → n % k ≡ n
in_range_lem n k h = mod-eq_of_lt (ltb→lt n k h)

pub named_exact : (o : Named) → T (is_origin (named_origin o)) → named_in o ≡ named_origin o
named_exact (nameRole k) h = ap ofRole (in_range_lem k 32 h)
named_exact (nameCapability n) h = ap ofCapability (in_range_lem n 256 h)

-- the places that an origin's own numbers give
pub held_placed : (o : Origin) (i j : ℕ) → i ≡ role_held o → j ≡ capability_held o → j < 256 → Placed o (i % 32) j
held_placed (ofRole k) i j e f l = ap (λ (n : ℕ). n % 32) e
held_placed (ofCapability n) i j e f l = f ∙ sym (mod-eq_of_lt (subst (λ (m : ℕ). m < 256) f l))

-- ---- the columns

-- the authority of a capability without lent roles
pub authority_own : (columns : RoleColumns) (c : Capability) → c.lent ≡ 0 → c.permissions ≡ authority_in columns c
unfolding authority_in joined_items
authority_own columns c e = rw (e, joined_none, or_zero_r)

module _ (columns : RoleColumns) (roles : List Role) (kept : Columns columns roles) where
  pub role_granted : (k : ℕ) → k < 32 → role_item columns.grants k ≡ role_authority roles k
  unfolding role_item
  role_granted k l = rw (lt-ltb k 32 l) (kept.grants k l)

  role_lends_lem : (k : ℕ) → k < 32 → role_item columns.lends k ≡ may_lend roles (2 ^ k)
  unfolding role_item
  role_lends_lem k l = rw (lt-ltb k 32 l) (kept.lends k l ∙ sym (lend_one roles k l))

  lends_read : (m : ℕ) → joined_items columns.lends m ≡ may_lend roles m
  unfolding joined_items may_lend
  lends_read m = joined_same (item columns.lends) (role_lends roles) m 32 kept.lends

  pub authority_read : (c : Capability) → authority_in columns c ≡ authority roles c
  unfolding authority_in joined_items authority lent_authority
  authority_read c = ap (bit_or c.permissions) (joined_same (item columns.grants) (role_authority roles) c.lent 32 kept.grants)

  -- the terms read from the places of an origin are its terms
  pub placed_terms : (cs : List Capability) (o : Origin) (i j : ℕ) → T (is_origin o) → Placed o i j
      → column_terms columns o (role_at roles i) (capability_at cs j) ≡ terms roles cs o
  unfolding slot_terms terms
  placed_terms cs (ofRole k) i j l e = rw (e, in_range_lem k 32 l, role_granted k (ltb→lt k 32 l), role_lends_lem k (ltb→lt k 32 l))
  placed_terms cs (ofCapability n) i j l e = rw (e, in_range_lem n 256 l, authority_read (capability_at cs n), lends_read (capability_at cs n).lent)

-- ---- what needs no column

pub placed_party : (roles : List Role) (cs : List Capability) (o : Origin) (i j : ℕ) → T (is_origin o) → Placed o i j
    → party_in o (role_at roles i) (capability_at cs j) ≡ party roles cs o
placed_party roles cs (ofRole k) i j l e = rw (e, in_range_lem k 32 l)
placed_party roles cs (ofCapability n) i j l e = rw (e, in_range_lem n 256 l)

pub placed_admits : (roles : List Role) (cs : List Capability) (o : Origin) (i j grants lendable : ℕ) (at : Context) → T (is_origin o) → Placed o i j
    → admitted (slot_terms o (role_at roles i) (capability_at cs j) grants lendable) at ≡ admitted (terms roles cs o) at
unfolding admitted slot_terms terms
placed_admits roles cs (ofRole k) i j grants lendable at l e = rw (e, in_range_lem k 32 l)
placed_admits roles cs (ofCapability n) i j grants lendable at l e = rw (e, in_range_lem n 256 l)

-- the limit and the mark of an origin, read from its place
pub bare_read : (cs : List Capability) (o : Origin) (j : ℕ) → j ≡ capability_held o
    → ((bare_in o (capability_at cs j)).revoked ≡ origin_revoked cs o) × ((bare_in o (capability_at cs j)).use_limit ≡ origin_limit cs o)
unfolding slot_terms
bare_read cs (ofRole k) j e = (refl, refl)
bare_read cs (ofCapability n) j e = (rw e, rw e)
