-- Intermediate: the code's own terms, proved to come to the definitions of `model`.
-- hand, allow and lend over the elements that they name: the model's rulings on a capability, for the one that is read.
use Rattle.std.specs.Prelude.{ℕ}
use Rattle.model.specs.declared.Capability.{Capability}
use Rattle.model.specs.Rulings.{Effect}
use Rattle.model.specs.Delegation.{giving, allowing, lending, handing}
use Rattle.slots.specs.declared.Slots.{Slots}
use Rattle.slots.specs.Slots.{on_capability}
use Rattle.origins.specs.declared.authority.RoleColumns.{RoleColumns}
use Rattle.origins.specs.Authority.{authority_in}
use Rattle.slots.specs.Terms.{origin_terms}

-- allow and lend, once what the origin may give is known: `d` is the capability with the mask added
abbrev pub give_decision : Slots → RoleColumns → (given had user n mask : ℕ) → Capability → Effect Slots
give_decision v column given had user n mask d =
    on_capability v (giving v.enrolled v.count v.capability given had user n mask (authority_in column) d)

unfoldable pub allow_decision : Slots → RoleColumns → (user n mask : ℕ) → Effect Slots
allow_decision v column user n mask =
    on_capability v (allowing v.enrolled v.count v.capability (origin_terms v column v.capability.origin) (authority_in column) user n mask)

unfoldable pub lend_decision : Slots → RoleColumns → (user n mask : ℕ) → Effect Slots
lend_decision v column user n mask =
    on_capability v (lending v.enrolled v.count v.capability (origin_terms v column v.capability.origin) (authority_in column) user n mask)

unfoldable pub hand_decision : Slots → (user receiver n : ℕ) → Effect Slots
hand_decision v user receiver n = on_capability v (handing v.enrolled v.count v.capability user receiver n)
