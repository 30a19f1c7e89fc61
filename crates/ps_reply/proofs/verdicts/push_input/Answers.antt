use Rattle.std.proofs.Common.{◌≡◌, ap, sym, ◌∙◌, arith, rules}
use Rattle.ps_reply.specs.Verdicts.{bit_code}
use Rattle.ps_reply.proofs.Inputs.{input_start, input_next}
use Rattle.ps_reply.proofs.verdicts.push_input.Goals as goal
use Rattle.ps_reply.proofs.verdicts.push_input.Goals.{then-get, else-get}

pub loop-v-init : goal.loop-v-init
loop-v-init c = input_start c.args.at.now c.args.text.now.items

pub loop-v-preserved : goal.loop-v-preserved
loop-v-preserved c =
    input_next c.args.at.now c.args.text.now.items c.loop-v.text.items c.push.new.self.items c.loop-v.v _ c.loop-v.invariant
    (elim c.if-get.branch [ then-get w ↦ w.push-is ∙ ap bit_code (sym w.if-get.true) ∙ ap bit_code c.get.ensures | else-get w ↦ w.push-is ∙ ap bit_code (sym w.if-get.false) ∙ ap bit_code c.get.ensures ])
    c.in_ok-push.ensures.items
