use Rattle.std.proofs.lemmas.Result.{on_ok_weaker}
use Rattle.std.specs.String.{string_bytes}
use Rattle.ps_sum.proofs.Texting.{input_text, path_text}
use Rattle.ps_sum.proofs.texts.push_variable.Goals as goal

pub returns-then-name-n : goal.returns-then-name-n
returns-then-name-n c = on_ok_weaker c.write.result (input_text c.args.n c.args.v (string_bytes c.args.text.now) (string_bytes c.write.new.self) c.if-name-n.true) c.write.ensures.bytes

pub returns-else-name-n : goal.returns-else-name-n
returns-else-name-n c = on_ok_weaker c.write-else-name-n.result (path_text c.args.n c.args.v (string_bytes c.args.text.now) (string_bytes c.write-else-name-n.new.self) c.if-name-n.false) c.write-else-name-n.ensures.bytes
