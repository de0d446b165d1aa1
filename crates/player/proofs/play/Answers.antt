use mathlib.Core.Path.{ap, ◌∙◌}
use Prim.Native.Nat.{◌+◌}
use native.Mathlib.Omega.{arith}
use lib.ListN.{length}
use Rattle.buffers.proofs.Parts.{length_tail}
use Rattle.masks.specs.Bytes.{split}
use Rattle.model.specs.Rulings.{refused}
use Rattle.model.specs.Journal.{transcript}
use Rattle.player.proofs.Transcripts.{transcript_last}
use Rattle.player.proofs.Laws.{answer_last, answer_size, played_fits, played, unended_room}
use Rattle.player.proofs.play.Goals as goal

-- a last line without its line feed

pub overflow_add-result : goal.overflow_add-result
overflow_add-result c =
    let a = c.args in
    let l = c.loop-rest in
    let room = unended_room (transcript a.r (split 10 a.input.now)) a.out.now l.r l.out l.rest.now l.to l.invariant.0 c.count_before-n.result (search) c.if-n-rest.true (omega arith) in
    omega (arith, room, answer_size l.to (refused 1) l.out room c.print.ensures.0)

pub returns-then-n-rest : goal.returns-then-n-rest
returns-then-n-rest c =
    let a = c.args in
    let l = c.loop-rest in
    let e = transcript_last l.r l.rest.now c.count_before-n.result (search) c.if-n-rest.true (omega arith) in
    let room = unended_room (transcript a.r (split 10 a.input.now)) a.out.now l.r l.out l.rest.now l.to l.invariant.0 c.count_before-n.result (search) c.if-n-rest.true (omega arith) in
    let count = answer_size l.to (refused 1) l.out room c.print.ensures.0 in (
      omega (arith, ap length e, count, l.invariant.0.size),
      answer_last l.to (refused 1) l.out room _ c.print.ensures.1 ∙ (rw e at l.invariant.0.text),
      omega (arith, count, room, l.invariant.0.kept),
    )

-- any other line

pub overflow_add-to : goal.overflow_add-to
overflow_add-to c =
    let a = c.args in
    let l = c.loop-rest in
    omega (arith, played_fits (transcript a.r (split 10 a.input.now)) a.out.now l.r l.out l.rest.now l.to l.invariant.0 c.count_before-n.result (search) (omega arith) _ _ c.play_line-answer.ensures.effect _ _ c.print-to.ensures)

pub loop-rest-preserved : goal.loop-rest-preserved
loop-rest-preserved c =
    let a = c.args in
    let l = c.loop-rest in
    let w = played (transcript a.r (split 10 a.input.now)) a.out.now l.r l.out l.rest.now l.to l.invariant.0 c.count_before-n.result (search) (omega arith) _ _ c.play_line-answer.ensures.effect _ _ c.print-to.ensures l.invariant.1 (search) in
    (w.0, w.1, c.play_line-answer.ensures.columns, omega (arith, length_tail (c.count_before-n.result + 1) l.rest.now, l.invariant.3))
