use Rattle.seg_tree.specs.Table.{IsRoot}
use Rattle.seg_tree.proofs.tests.splices_a_long_list_a_thousand_times.Given as goal

abbrev pub invariant-loop-step : goal.invariant-loop-step
invariant-loop-step g l = IsRoot l.nodes l.root
