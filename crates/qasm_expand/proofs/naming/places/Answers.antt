use Rattle.std.proofs.Common.{◌∙◌, ap, sym}
use Rattle.qasm_expand.specs.Names.{put_before}
use Rattle.qasm_expand.proofs.Stepping.{each, arg_at, args_each, each_start}
use Rattle.qasm_expand.proofs.naming.places.Goals as goal

pub loop-i-init : goal.loop-i-init
loop-i-init c =
    let f = arg_at c.args.bytes.now c.args.formals.now in
    args_each c.args.bytes.now c.args.formals.now c.args.args.now ∙ each_start f c.args.args.now ∙ ap (λ l. put_before l (each f c.args.args.now)) (sym c.new-list.ensures.items)
