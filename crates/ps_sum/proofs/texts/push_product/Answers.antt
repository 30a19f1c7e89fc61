use Rattle.std.proofs.Common.{◌∙◌, sym, arith}
use Rattle.std.proofs.lemmas.Result.{on_ok_weaker}
use Rattle.std.specs.String.{string_bytes}
use Rattle.ps_sum.proofs.Texting.{no_product, some_product, pushed}
use Rattle.ps_sum.proofs.texts.push_product.Goals as goal

pub returns-then-degree-eq0 : goal.returns-then-degree-eq0
returns-then-degree-eq0 c = on_ok_weaker c.push_str.result (no_product c.args.n c.args.mono.now (string_bytes c.args.text.now) (string_bytes c.push_str.new.self) (sym c.degree.ensures ∙ c.if-degree-eq0.true)) (pushed c.push_str.result _ _ _ c.push_str.ensures.bytes)

pub returns : goal.returns
returns c = on_ok_weaker c.push_mono.result (some_product c.args.n c.args.mono.now (string_bytes c.args.text.now) (string_bytes c.push_mono.new.text) (omega arith)) c.push_mono.ensures
