use lib.ListN.{length}
use Rattle.decoding.proofs.Reading.{ChosenTo}
use Rattle.decoding.proofs.read_chosen.Given as goal

abbrev pub invariant-loop-row : goal.invariant-loop-row
invariant-loop-row g l = ChosenTo g.T.Decode.blank g.T.Decode.meaning g.T.Decode.WIDTH (length l.fn.rows) l.s l.from l.mask l.rows l.at l.left l.row-index
