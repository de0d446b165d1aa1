use mathlib.Core.Path.{◌≡◌}
use Prim.Native.Nat.{◌*◌, ◌%◌}
use native.Mathlib.Omega.{arith}
use lib.ListN.{get_or}
use Rattle.model.specs.Fields.{width}
use Rattle.fields.specs.Codes.{coding_of}
use Rattle.fields.specs.declared.coding.Coding.TheVariants.{Number}
use Rattle.fields.proofs.Codes.{narrow_at, length_turn}
use Rattle.fields.proofs.layout.Layout.length.Goals as goal

pub loop-coding-preserved : goal.loop-coding-preserved
loop-coding-preserved g c =
    let t = c.args.self.now in
    let l = c.loop-coding in
    let i = l.coding-index in
    let n : c.if_set-n.result ≡ l.bits % 2 * width (coding_of (get_or t.codings i (Number 0))) = cc in
    (omega (arith, length_turn t.codings i (Number 0) (omega arith) l.bits), omega (arith, narrow_at t.codings i (Number 0) t.narrow (omega arith)))
