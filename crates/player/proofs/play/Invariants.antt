use mathlib.Core.Path.{◌≡◌}
use Prim.Native.Nat.{◌≤◌}
use lib.ListN.{length}
use Rattle.masks.specs.Bytes.{split}
use Rattle.model.specs.Rules.{well_formed}
use Rattle.model.specs.Journal.{transcript}
use Rattle.origins.specs.Authority.{Columns}
use Rattle.player.proofs.Laws.{Playing}
use Rattle.player.proofs.play.Given as goal

abbrev pub invariant-loop-rest : goal.invariant-loop-rest
invariant-loop-rest l =
    Playing (transcript l.initial.r (split 10 l.input)) l.initial.out l.r l.out l.rest l.to × (l.formed ≡ well_formed l.r) × Columns l.columns l.r.roles × (length l.rest ≤ length l.input)

abbrev pub decreases-loop-rest : goal.decreases-loop-rest
decreases-loop-rest l = length l.rest
