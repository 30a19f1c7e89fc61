use Rattle.std.proofs.Common.{◌∙◌, sym, drop, None}
use Rattle.qasm_expand.specs.declared.target.Target.TheVariants.{Single}
use Rattle.qasm_expand.specs.Gates.{arg_names}
use Rattle.qasm_expand.proofs.Aiming.{uneven_here, uneven_behind, uneven_end}
use Rattle.qasm_expand.proofs.targets.first_uneven.Goals as goal

pub returns-then-not-agrees : goal.returns-then-not-agrees
returns-then-not-agrees c =
    uneven_here c.loop-k.size c.args.targets.now c.args.args.now c.loop-k.k (Single 0) _ _ c.agrees.result c.loop-k-test.true c.requires c.loop-k.invariant c.agrees.ensures c.if-not-agrees.true

pub loop-k-preserved : goal.loop-k-preserved
loop-k-preserved c =
    uneven_behind c.loop-k.size c.args.targets.now c.args.args.now c.loop-k.k (Single 0) (record { name = record { from = 0; to = 0 }; index = None }) _ c.agrees.result c.loop-k-test.true c.requires c.loop-k.invariant c.agrees.ensures c.if-not-agrees.false
    c.size_with-size.result c.size_with-size.ensures

pub returns : goal.returns
returns c = sym (c.loop-k.invariant ∙ uneven_end c.loop-k.size c.args.targets.now (arg_names (drop c.loop-k.k c.args.args.now)) c.loop-k.k c.loop-k-test.false)
