use mathlib.Core.Path.{◌≡◌}
use Prim.Native.Nat.{◌*◌, ◌%◌}
use native.Mathlib.Omega.{arith}
use lib.ListN.{get_or, length-set}
use Rattle.model.specs.Fields.{width}
use Rattle.fields.specs.Codes.{coding_of}
use Rattle.fields.specs.declared.coding.Coding.TheVariants.{Number}
use Rattle.fields.proofs.Codes.{narrow_at, read_turn, length_turn}
use Rattle.fields.proofs.layout.Layout.read.Goals as goal

pub loop-i-preserved : goal.loop-i-preserved
loop-i-preserved g c =
    let a = c.args in
    let t = a.self.now in
    let l = c.loop-i in
    let n : c.if_set-at.result ≡ l.bits % 2 * width (coding_of (get_or t.codings l.i (Number 0))) = cc in (
      read_turn t.codings l.i (Number 0) (omega arith) l.values a.s.now l.bits l.at _ _ _ (omega arith) c.read_if.ensures n l.invariant.0,
      omega (arith, narrow_at t.codings l.i (Number 0) t.narrow (omega arith)),
      simp length-set l.invariant.2,
      omega (arith, n, length_turn t.codings l.i (Number 0) (omega arith) l.bits),
    )
