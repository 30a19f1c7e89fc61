use Rattle.std.proofs.Common.{◌∙◌}
use Rattle.ps_reach.specs.Runs.{run_of}
use Rattle.ps_normal.proofs.Pairs.{joined_sum}
use Rattle.ps_normal.proofs.children.joined_record.Goals as goal

pub record-requires-clause-right : goal.record-requires-clause-right
record-requires-clause-right c = joined_sum c.args.n (run_of c.args.items.value) c.args.moves.items c.args.part c.in-Sum.sum c.in_ok-new-in-Sum.field-0.value c.in-Sum.is (c.in_ok-new-in-Sum.ensures.ok ∙ c.in_ok-settled-in-Sum.ensures) c.requires.right
