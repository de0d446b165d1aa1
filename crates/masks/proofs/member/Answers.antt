use borrow.Author.Rules.{rules}
use Rattle.masks.proofs.MaskLaws.{no_bit}
use Rattle.masks.proofs.member.Goals as goal

pub returns-else-k-lt64 : goal.returns-else-k-lt64
returns-else-k-lt64 c = search (rules, no_bit 64)
