use Rattle.tree.proofs.lineage.+root_of.Given as goal

abbrev pub decreases-root_of : goal.decreases-root_of
decreases-root_of l = l.n
