-- A test that code leaves out because it always passes, and a decision with the terms that its origin is read to have.
use mathlib.Core.Path.{◌≡◌, refl, ap, ◌∙◌}
use mathlib.Core.Bool.{Bool, true, false, ◌&&◌}
use Prim.Native.Nat.{ℕ}
use lib.Dec.{T}
use Rattle.model.specs.declared.Capability.{Capability}
use Rattle.model.specs.State.{Terms}
use Rattle.model.specs.Rulings.{Effect}
use Rattle.slots.specs.declared.Slots.{Slots}
use Rattle.slots.specs.Terms.{origin_terms}
use Rattle.giving.specs.Giving.{give_decision}
use Rattle.origins.specs.declared.authority.RoleColumns.{RoleColumns}

pub and_sure : (a b : Bool) → T b → a ≡ (a && b)
and_sure true true h = refl
and_sure false true h = refl
and_sure a false h = absurd h

pub give_agrees : (v : Slots) (column : RoleColumns) (given : Terms → ℕ) (had user n mask : ℕ) (d : Capability) {q : Effect Slots} {t : Terms} → t ≡ origin_terms v column v.capability.origin
    → q ≡ give_decision v column (given t) had user n mask d
    → q ≡ give_decision v column (given (origin_terms v column v.capability.origin)) had user n mask d
give_agrees v column given had user n mask d p e = e ∙ ap (λ (x : Terms). give_decision v column (given x) had user n mask d) p
