-- Intermediate: the code's own terms, proved to come to the definitions of `model`.
-- What origins grant and may lend, by the columns of the roles.
use Rattle.std.specs.Prelude.{◌≡◌, cond, List, ℕ, ◌<◌, ltb, get_or}
use Rattle.std.specs.Int.Bits.{bit_or}
use Rattle.masks.specs.Masks.{joined}
use Rattle.model.specs.declared.Origin.{Origin}
use Rattle.model.specs.declared.Origin.TheVariants.{Role as ofRole, Capability as ofCapability}
use Rattle.model.specs.declared.Role.{Role}
use Rattle.model.specs.declared.Capability.{Capability}
use Rattle.model.specs.State.{role_authority, role_lends}
use Rattle.origins.specs.declared.authority.RoleColumns.{RoleColumns}

-- item k of a column
abbrev pub item : List ℕ → ℕ → ℕ
item column k = get_or column k 0

-- the columns are those of the roles: the authority of each role, and what it may lend
pub record Columns (columns : RoleColumns) (roles : List Role) : Type 0 where
  pub grants : (k : ℕ) → k < 32 → item columns.grants k ≡ role_authority roles k
  pub lends : (k : ℕ) → k < 32 → item columns.lends k ≡ role_lends roles k

-- role k's item; there is none past 31
unfoldable pub role_item : List ℕ → ℕ → ℕ
role_item column k = cond (ltb k 32) (item column k) 0

-- the items of the roles of a mask, joined
unfoldable pub joined_items : List ℕ → (mask : ℕ) → ℕ
joined_items column m = joined (item column) m 32

-- the authority of a capability
unfoldable pub authority_in : RoleColumns → Capability → ℕ
authority_in columns c = bit_or c.permissions (joined_items columns.grants c.lent)

-- the authority of the origin o, which is the capability c where it is one, and the roles that it may lend
abbrev pub granted_by : RoleColumns → Origin → Capability → ℕ
granted_by columns (ofRole k) c = role_item columns.grants k
granted_by columns (ofCapability n) c = authority_in columns c

abbrev pub lendable_by : RoleColumns → Origin → Capability → ℕ
lendable_by columns (ofRole k) c = role_item columns.lends k
lendable_by columns (ofCapability n) c = joined_items columns.lends c.lent
