-- The worked cases of checks that name a context, computed.
use mathlib.Core.Path.{refl}
use Rattle.model.specs.ContextCases.{ContextCases}
use Rattle.model.proofs.Edges.{calls_compute, quick, computed}

pub context_cases : ContextCases
unfolding calls_compute quick
context_cases =
    record {
      on_capability = computed refl;
      on_role = computed refl;
      ranges = computed refl;
      nothing_else = computed refl;
    }
