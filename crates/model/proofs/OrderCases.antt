-- The worked cases of the order of refusals, computed.
use mathlib.Core.Path.{refl}
use Rattle.model.specs.OrderCases.{OrderCases}
use Rattle.model.proofs.Edges.{calls_compute, quick, computed}

pub order_cases : OrderCases
unfolding calls_compute quick
order_cases =
    record {
      range_first = computed refl;
      missing_next = computed refl;
      create_order = computed refl;
      create_last = computed refl;
      open_order = computed refl;
      revoked_order = computed refl;
    }
