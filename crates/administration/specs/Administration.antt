-- Intermediate: the code's own terms, proved to come to the definitions of `model`.
-- The calls of administration over the elements that they name: the model's rulings, on the elements that are read.
use Rattle.std.specs.Prelude.{ℕ}
use Rattle.model.specs.Rulings.{Effect, into, ruled}
use Rattle.model.specs.Administration.{enrolling, founding, granting, appointing, dismissing, ticking}
use Rattle.slots.specs.declared.Slots.{Slots}
use Rattle.slots.specs.Slots.{with_clock_slot, with_user_slot, on_role}

unfoldable pub enrol_decision : Slots → ℕ → ℕ → Effect Slots
enrol_decision v user domain = ruled v (into (λ u. with_user_slot v u.0 u.1) (enrolling v.enrolled user domain))

unfoldable pub found_decision : Slots → (k domain hours places devices : ℕ) → Effect Slots
found_decision v k domain hours places devices = on_role v (founding v.role k domain hours places devices)

unfoldable pub grant_decision : Slots → ℕ → ℕ → Effect Slots
grant_decision v k p = on_role v (granting v.role k p)

unfoldable pub appoint_decision : Slots → ℕ → ℕ → Effect Slots
appoint_decision v user k = on_role v (appointing v.enrolled v.domain v.role user k)

unfoldable pub dismiss_decision : Slots → ℕ → ℕ → Effect Slots
dismiss_decision v user k = on_role v (dismissing v.enrolled v.role user k)

unfoldable pub clock_decision : Slots → ℕ → Effect Slots
clock_decision v tick = ruled v (into (with_clock_slot v) (ticking v.clock tick))
