-- Intermediate: the code's own terms, proved to come to the definitions of `model`.
-- The rising sweep over single capabilities, and what it comes to.
use Rattle.std.specs.Prelude.{Bool, cond, not, ◌&&◌, ◌||◌, List, ℕ, ◌%◌, min, eqb, set}
use Rattle.std.specs.Int.Bits.{bit_and}
use Rattle.masks.specs.Tests.{count_below, rising}
use Rattle.model.specs.declared.Role.{Role}
use Rattle.model.specs.declared.Capability.{Capability}
use Rattle.model.specs.declared.Register.{Register}
use Rattle.model.specs.State.{blank_capability, role_at, capability_at}
use Rattle.model.specs.Setters.{with_revoked, with_use_limit, with_permissions, with_role_permissions, with_roles, with_capabilities}
use Rattle.model.specs.Sweeps.{mark_one, limit_one}
use Rattle.model.specs.Administration.{cut_permissions}
use Rattle.model.specs.Rulings.{value, Effect}
use Rattle.origins.specs.declared.authority.RoleColumns.{RoleColumns}
use Rattle.origins.specs.Authority.{granted_by}
use Rattle.origins.specs.Terms.{bare_in}
use Rattle.sweeps.specs.declared.Sweep.{Sweep}
use Rattle.sweeps.specs.declared.Sweep.TheVariants.{Mark, Limit, Cut}

-- 1 where the test passes
unfoldable pub one_if : Bool → ℕ
one_if t = cond t 1 0

-- ---- one sweep

-- capability c, which has number i, once the sweep has reached it; its parent is as it is by then
abbrev pub swept_one : Sweep → ℕ → Capability → Capability → RoleColumns → Capability
swept_one (Mark n) i c parent column = with_revoked c (c.revoked || (eqb i n || (bare_in c.origin parent).revoked))
swept_one (Limit n limit) i c parent column =
    with_use_limit c (cond (eqb i n) limit (min c.use_limit (bare_in c.origin parent).use_limit))
swept_one (Cut k p) i c parent column = with_permissions c (bit_and c.permissions (granted_by column c.origin parent))

-- the same as the model says it, over all capabilities as they are by then
abbrev pub sweep_one : List Role → Sweep → ℕ → List Capability → Capability → Capability
sweep_one roles (Mark n) = mark_one n
sweep_one roles (Limit n limit) = limit_one n limit
sweep_one roles (Cut k p) = cut_permissions roles

-- the roles that the sweep goes by
abbrev pub roles_after : List Role → Sweep → List Role
roles_after roles (Mark n) = roles
roles_after roles (Limit n limit) = roles
roles_after roles (Cut k p) = set roles (k % 32) (with_role_permissions (role_at roles (k % 32)) p)

-- the value of the call: the new marks, the limit, or 0
abbrev pub sweep_value : Sweep → ℕ → ℕ
sweep_value (Mark n) marks = marks
sweep_value (Limit n limit) marks = limit
sweep_value (Cut k p) marks = 0

-- capability i is newly marked when a sweep by f reaches it
abbrev pub newly_by : (ℕ → List Capability → Capability → Capability) → List Capability → ℕ → Bool
newly_by f cs i =
    (f i (rising blank_capability f i cs) (capability_at (rising blank_capability f i cs) i)).revoked && not (capability_at (rising blank_capability f i cs) i).revoked

-- what a sweep comes to
abbrev pub swept_by : Register → Sweep → Effect Register
swept_by r s =
    record {
      answer = value (sweep_value s (count_below 256 (newly_by (sweep_one (roles_after r.roles s) s) r.capabilities)));
      after = with_capabilities (with_roles r (roles_after r.roles s)) (rising blank_capability (sweep_one (roles_after r.roles s) s) 256 r.capabilities);
    }
