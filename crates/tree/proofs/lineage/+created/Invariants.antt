use Rattle.tree.proofs.lineage.+created.Given as goal

abbrev pub decreases-created : goal.decreases-created
decreases-created l = l.n
