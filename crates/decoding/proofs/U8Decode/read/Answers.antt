use native.Mathlib.Omega.{arith}
use lib.ListN.{drop}
use Rattle.fields.proofs.Reading.{bytes_drop, number_small}
use Rattle.decoding.proofs.U8Decode.read.Goals as goal

pub overflow_cast-result : goal.overflow_cast-result
overflow_cast-result c =
    let a = c.args in
    omega (arith, number_small 1 (drop a.at a.s.now) (bytes_drop a.at a.s.now (λ i. omega (arith, c.type_inv.s i))), c.get_at.ensures)
