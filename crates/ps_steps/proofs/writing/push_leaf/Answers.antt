use Rattle.std.proofs.lemmas.Result.{on_ok_weaker}
use Rattle.std.specs.String.{string_bytes}
use Rattle.ps_steps.proofs.Written.{leaf_a_written, leaf_b_written}
use Rattle.ps_steps.proofs.writing.push_leaf.Goals as goal

pub returns-then-b : goal.returns-then-b
returns-then-b c = on_ok_weaker c.write.result (leaf_b_written c.args.b c.args.prim (string_bytes c.args.text.now) (string_bytes c.write.new.self) c.if-b.true) c.write.ensures.bytes

pub returns-else-b : goal.returns-else-b
returns-else-b c = on_ok_weaker c.write-else-b.result (leaf_a_written c.args.b c.args.prim (string_bytes c.args.text.now) (string_bytes c.write-else-b.new.self) c.if-b.false) c.write-else-b.ensures.bytes
