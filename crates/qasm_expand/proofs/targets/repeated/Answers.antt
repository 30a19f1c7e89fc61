use Rattle.std.proofs.Common.{refl, None}
use Rattle.qasm_expand.specs.declared.target.Target.TheVariants.{Single}
use Rattle.qasm_expand.proofs.Aiming.{passed_none, repeated_here, passed_more, passed_all}
use Rattle.qasm_expand.proofs.targets.repeated.Goals as goal

pub loop-k-init : goal.loop-k-init
loop-k-init c = passed_none c.args.targets.now c.args.args.now c.args.index

pub returns-then-seen-qubit : goal.returns-then-seen-qubit
returns-then-seen-qubit c =
    repeated_here c.loop-k.seen c.args.targets.now c.args.args.now c.args.index c.loop-k.k (Single 0) _ c.qubit-qubit.result _ c.loop-k-test.true c.requires.same
    c.loop-k.invariant c.qubit-qubit.ensures.value c.qubit-qubit.ensures.within refl c.if-seen-qubit.true

pub loop-k-preserved : goal.loop-k-preserved
loop-k-preserved c =
    passed_more c.loop-k.seen c.args.targets.now c.args.args.now c.args.index c.loop-k.k (Single 0) (record { name = record { from = 0; to = 0 }; index = None }) c.qubit-qubit.result _ c.loop-k-test.true c.requires.same
    c.loop-k.invariant c.qubit-qubit.ensures.value c.qubit-qubit.ensures.within refl c.if-seen-qubit.false

pub returns : goal.returns
returns c = passed_all c.loop-k.seen c.args.targets.now c.args.args.now c.args.index c.loop-k.k c.loop-k-test.false c.loop-k.invariant
