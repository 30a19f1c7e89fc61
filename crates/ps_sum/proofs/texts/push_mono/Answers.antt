use Rattle.std.proofs.Common.{codes, arith}
use Rattle.std.specs.String.{string_bytes}
use Rattle.ps_sum.specs.Texts.{variable_text}
use Rattle.ps_sum.proofs.Texting.{joined_start, joined_next, joined_end, at_place}
use Rattle.ps_sum.proofs.texts.push_mono.Goals as goal

pub loop-place-init : goal.loop-place-init
loop-place-init c = joined_start (codes ".") (variable_text c.args.n) c.args.mono.now (string_bytes c.args.text.now)

pub loop-place-preserved : goal.loop-place-preserved
loop-place-preserved c = joined_next (codes ".") (variable_text c.args.n) c.args.mono.now (string_bytes c.args.text.now) (string_bytes c.loop-place.text) (string_bytes c.push_mark.new.text) (string_bytes c.push_variable.new.text) c.loop-place.place c.var_at.result (omega arith)
    (at_place c.args.mono.now c.loop-place.place c.var_at.result (omega arith) c.var_at.ensures.value) c.in_ok-push_mark.ensures c.in_ok-push_variable.ensures c.loop-place.invariant

pub returns : goal.returns
returns c = joined_end (codes ".") (variable_text c.args.n) c.args.mono.now (string_bytes c.args.text.now) (string_bytes c.loop-place.text) c.loop-place.place (omega arith) c.loop-place.invariant
