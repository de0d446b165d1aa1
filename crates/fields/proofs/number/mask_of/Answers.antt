use mathlib.Core.Path.{◌≡◌}
use Prim.Native.Nat.{◌+◌, ◌-◌, ◌<◌}
use native.Mathlib.Omega.{arith}
use lib.ListN.{length}
use Rattle.fields.proofs.Parts.{byte_step, byte_fits, mask_turn}
use Rattle.fields.proofs.number.mask_of.Goals as goal

pub overflow_mul-x : goal.overflow_mul-x
overflow_mul-x c = omega (arith, byte_fits (length c.args.s.now - c.loop-i.i) c.loop-i.x 0 (omega arith) c.loop-i.invariant.0 (omega arith))

pub overflow_add-x : goal.overflow_add-x
overflow_add-x c =
    let l = c.loop-i in
    record { fits = byte_fits (length c.args.s.now - l.i) l.x _ (omega arith) l.invariant.0 (omega (arith, c.type_inv.s (l.i - 1))) }

pub loop-i-preserved : goal.loop-i-preserved
loop-i-preserved c =
    let l = c.loop-i in
    let n = length c.args.s.now in
    let e : n - l.i + 1 ≡ n - (l.i - 1) = omega arith in
    let b : c.from.result < 256 = omega (arith, c.type_inv.s (l.i - 1)) in
    (rw e at (byte_step (n - l.i) l.x c.from.result l.invariant.0 b), omega (arith, mask_turn c.args.s.now l.i (omega arith) (omega arith)))
