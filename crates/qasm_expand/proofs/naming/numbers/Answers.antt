use Rattle.std.proofs.Common.{◌∙◌, ap, sym}
use Rattle.qasm_expand.specs.declared.fault.FaultName.TheVariants.{NoParameter}
use Rattle.qasm_expand.specs.Names.{put_before}
use Rattle.qasm_expand.proofs.Stepping.{each, place_at, numbers_each, each_start}
use Rattle.qasm_expand.proofs.naming.numbers.Goals as goal

pub loop-i-init : goal.loop-i-init
loop-i-init c =
    let f = place_at c.args.bytes.now c.args.formals.now NoParameter in
    numbers_each c.args.bytes.now c.args.formals.now c.args.ids.now ∙ each_start f c.args.ids.now ∙ ap (λ l. put_before l (each f c.args.ids.now)) (sym c.new-list.ensures.items)
