use Rattle.model.proofs.Rules.{kept→}
use Rattle.player.proofs.perform_tree.Goals as goal

pub sweep-requires : goal.sweep-requires
sweep-requires c = (kept→ c.args.r.now c.requires.formed).roles.amount
