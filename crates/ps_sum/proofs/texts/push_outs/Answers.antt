use Rattle.std.proofs.Common.{codes, ap, ◌∙◌, ◌++◌}
use Rattle.std.proofs.lemmas.Result.{on_ok_weaker}
use Rattle.std.specs.String.{string_bytes}
use Rattle.ps_sum.specs.Texts.{output_text}
use Rattle.ps_sum.proofs.Texting.{joined_start, joined_next, joined_end, some_outs, no_outs, pushed, empty, not_empty}
use Rattle.ps_sum.proofs.texts.push_outs.Goals as goal

pub returns-then-is_empty : goal.returns-then-is_empty
returns-then-is_empty c = on_ok_weaker c.push_str.result (no_outs c.args.n c.args.polys.now (string_bytes c.args.text.now) (string_bytes c.push_str.new.self) (empty _ c.is_empty.ensures c.if-is_empty.true)) (pushed c.push_str.result _ _ _ c.push_str.ensures.bytes)

pub loop-place-init : goal.loop-place-init
loop-place-init c = joined_start (codes ",") (output_text c.args.n) c.args.polys.now (string_bytes c.args.text.now)

pub loop-place-preserved : goal.loop-place-preserved
loop-place-preserved c = joined_next (codes ",") (output_text c.args.n) c.args.polys.now (string_bytes c.args.text.now) (string_bytes c.loop-place.text) (string_bytes c.push_mark.new.text) (string_bytes c.push_output.new.text) c.loop-place.place c.index-polys-place.result c.loop-place-test.true
    c.index-polys-place.is c.in_ok-push_mark.ensures (c.in_ok-push_output.ensures ∙ ap (λ f. string_bytes c.push_mark.new.text ++ output_text c.args.n f) c.monos.ensures.items) c.loop-place.invariant

pub returns : goal.returns
returns c = some_outs c.args.n c.args.polys.now (string_bytes c.args.text.now) (string_bytes c.loop-place.text) (not_empty _ c.is_empty.ensures c.if-is_empty.false) (joined_end (codes ",") (output_text c.args.n) c.args.polys.now (string_bytes c.args.text.now) (string_bytes c.loop-place.text) c.loop-place.place c.loop-place-test.false c.loop-place.invariant)
