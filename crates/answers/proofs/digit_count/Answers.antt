use Rattle.answers.proofs.AnswerLaws.{count_power, count_done}
use Rattle.std.proofs.Common.{arith}
use mathlib.Core.Path.{sym}
use Rattle.answers.proofs.digit_count.Goals as goal

pub returns-then-n-lt10 : goal.returns-then-n-lt10
returns-then-n-lt10 c = sym (count_done 9 c.args.n c.if-n-lt10.true)

pub returns : goal.returns
returns c = sym (count_power 9 c.args.n c.ilog10.result (omega (arith, c.ilog10.ensures.bound)) c.ilog10.ensures.power_le c.ilog10.ensures.next_power_gt)
