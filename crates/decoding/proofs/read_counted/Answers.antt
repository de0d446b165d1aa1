use native.Mathlib.Omega.{arith}
use lib.ListN.{drop}
use Rattle.fields.proofs.Reading.{bytes_drop, number_small}
use Rattle.decoding.proofs.read_counted.Goals as goal

pub overflow_cast-count : goal.overflow_cast-count
overflow_cast-count c =
    let a = c.args in
    omega (arith, number_small 2 (drop a.from a.s.now) (bytes_drop a.from a.s.now (λ i. omega (arith, c.type_inv.s i))), c.get_at-count.ensures)
