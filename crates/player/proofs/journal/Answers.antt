use mathlib.Core.Path.{◌∙◌}
use Prim.Native.Nat.{zero-le}
use native.Mathlib.Omega.{arith}
use Rattle.masks.specs.Bytes.{split}
use Rattle.model.specs.Rulings.{refused}
use Rattle.model.specs.Lines.{printed}
use Rattle.model.specs.Journal.{transcript}
use Rattle.answers.proofs.AnswerLaws.{printed_room, printed_most}
use Rattle.player.proofs.Laws.{journal_long, journal_short, no_room, with_room}
use Rattle.player.proofs.journal.Goals as goal

pub returns-then-out-lt163840 : goal.returns-then-out-lt163840
returns-then-out-lt163840 c =
    let a = c.args in
    let h = no_room a.start a.input.now a.out.now c.if-out-lt163840.true in
    (h.0, h.1, zero-le)

pub returns-then-input-gt32768 : goal.returns-then-input-gt32768
returns-then-input-gt32768 c =
    let a = c.args in
    let p = c.print.ensures in
    let h = printed_room (refused 1) a.out.now (omega arith) in
    let e = with_room a.start a.input.now a.out.now (search) (printed (refused 1)) (journal_long a.start a.input.now (search)) in
    (p.0 ∙ h.1 ∙ e.0, p.1 ∙ h.0 ∙ e.1, omega (arith, p.0 ∙ h.1, printed_most (refused 1)))

pub returns : goal.returns
returns c =
    let a = c.args in
    let p = c.play.ensures in
    let e = with_room a.start a.input.now a.out.now (search) (transcript a.start (split 10 a.input.now)) (journal_short a.start a.input.now (search)) in
    (p.0 ∙ e.0, p.1 ∙ e.1, p.2)
