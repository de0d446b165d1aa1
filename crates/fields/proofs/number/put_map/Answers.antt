use mathlib.Core.Path.{◌∙◌}
use native.Mathlib.Omega.{arith}
use Rattle.fields.proofs.Parts.{map_turn}
use Rattle.fields.proofs.number.put_map.Goals as goal

pub loop-i-preserved : goal.loop-i-preserved
loop-i-preserved c =
    let l = c.loop-i in
    map_turn l.i c.args.k l.x l.s (omega arith) (omega arith) ∙ l.invariant
