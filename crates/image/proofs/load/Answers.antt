use Rattle.std.proofs.Common.{sym, ◌∙◌}
use Rattle.image.proofs.Calls.{load_refused, load_accepted}
use Rattle.image.proofs.load.Goals as goal

pub returns-then-read : goal.returns-then-read
returns-then-read c = load_accepted c.args.s.now _ c.read_checked-read.ensures.1 c.args.r (sym c.read_checked-read.ensures.0 ∙ c.if-read.true)

pub returns-else-read : goal.returns-else-read
returns-else-read c = load_refused c.args.s.now c.args.r (sym c.read_checked-read.ensures.0 ∙ c.if-read.false)
