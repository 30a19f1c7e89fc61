use Rattle.std.proofs.Common.{◌≡◌, ap, sym, ◌∙◌, arith}
use Rattle.pathsum.specs.Inputs.{bit_code}
use Rattle.pathsum.proofs.InputLemmas.{digits_start, digits_next, digits_to}
use Rattle.pathsum.proofs.answer.push_digits.Goals as goal
use Rattle.pathsum.proofs.answer.push_digits.Goals.{then-get, else-get}

pub loop-v-init : goal.loop-v-init
loop-v-init c = digits_start _ _

pub loop-v-preserved : goal.loop-v-preserved
loop-v-preserved c = digits_next _ _ _ _ _ _ c.loop-v.invariant (elim c.if-get.branch [ then-get w ↦ w.push-is ∙ ap bit_code (sym w.if-get.true) ∙ ap bit_code c.get.ensures | else-get w ↦ w.push-is ∙ ap bit_code (sym w.if-get.false) ∙ ap bit_code c.get.ensures ]) c.in_ok-push.ensures.items

pub returns : goal.returns
returns c =
    let e : c.loop-v.v ≡ c.args.input.now.qubits = omega arith in
    c.loop-v.invariant ∙ ap (digits_to c.args.line.now.items c.args.input.now.at) e
