use mathlib.Core.Path.{refl}
use native.Mathlib.Omega.{arith}
use Rattle.batch.proofs.Laws.{playing_start, playing_formed, playing_more, playing_done}
use Rattle.batch.proofs.apply_formed.Goals as goal

pub loop-i-init : goal.loop-i-init
loop-i-init c = playing_start c.args.start.register c.args.requests.now _ refl

pub invariant_of-apply_trusted : goal.invariant_of-apply_trusted
invariant_of-apply_trusted c =
    let l = c.loop-i in
    record { kept = playing_formed c.args.start.register c.args.requests.now l.register l.answers l.i l.invariant c.args.start.kept }

pub loop-i-preserved : goal.loop-i-preserved
loop-i-preserved c =
    let l = c.loop-i in
    playing_more c.args.start.register c.args.requests.now l.register l.answers l.i l.invariant c.args.start.kept _ _ _ (omega arith) (omega arith)
    c.apply_trusted-reply.ensures refl

pub returns : goal.returns
returns c =
    let l = c.loop-i in
    playing_done c.args.start.register c.args.requests.now l.register l.answers l.i l.invariant (omega arith) c.requires
