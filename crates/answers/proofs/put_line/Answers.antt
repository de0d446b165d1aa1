use Rattle.std.proofs.Common.{rules}
use Rattle.answers.proofs.AnswerLaws.{line_filled, line_printed}
use Rattle.answers.proofs.put_line.Goals as goal

pub returns : goal.returns
returns c =
    let w = c.args.word.now in
    let s = c.args.s.now in (
      line_filled w s c.args.n c.digit_count-end.result (search rules) c.digit_count-end.ensures c.if-s-end.false,
      line_printed w s c.args.n c.digit_count-end.result (search rules) c.digit_count-end.ensures c.if-s-end.false _ c.put_digits.ensures,
    )
