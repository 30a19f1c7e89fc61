use Rattle.ps_versions.proofs.tests.+leaf_sizes.Given as goal

abbrev pub decreases-leaf_sizes : goal.decreases-leaf_sizes
decreases-leaf_sizes l = l.node
