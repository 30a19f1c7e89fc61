use Rattle.std.proofs.Common.{◌∙◌, sym, arith}
use Rattle.std.proofs.lemmas.Result.{on_ok_weaker}
use Rattle.std.specs.String.{string_bytes}
use Rattle.ps_sum.proofs.Texting.{no_factor, some_factor}
use Rattle.ps_sum.proofs.texts.push_factor.Goals as goal

pub returns-then-degree-eq0 : goal.returns-then-degree-eq0
returns-then-degree-eq0 c = no_factor c.args.n c.args.mono.now (string_bytes c.args.text.now) (sym c.degree.ensures ∙ c.if-degree-eq0.true)

pub returns : goal.returns
returns c = on_ok_weaker c.push_mono.result (some_factor c.args.n c.args.mono.now (string_bytes c.args.text.now) (string_bytes c.push_str.new.self) (string_bytes c.push_mono.new.text) (omega arith) c.in_ok-push_str.ensures.bytes) c.push_mono.ensures
