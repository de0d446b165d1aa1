use mathlib.Core.Path.{◌≡◌}
use lib.ListN.{replicate}
use Rattle.model.specs.Rulings.{refused}
use Rattle.batch.specs.Batch.{outcomes_of}
use Rattle.batch.proofs.Laws.{padded}
use Rattle.batch.proofs.refusals.Given as goal

abbrev pub invariant-loop-i : goal.invariant-loop-i
invariant-loop-i l = outcomes_of l.answers ≡ padded (replicate l.i (refused 15)) l.i
