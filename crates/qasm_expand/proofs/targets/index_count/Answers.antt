use Rattle.std.proofs.Common.{◌∙◌, ◌+◌, sym, drop}
use Rattle.qasm_expand.specs.declared.target.Target.TheVariants.{Single}
use Rattle.qasm_expand.proofs.Aiming.{indices_at, indices_whole, indices_single, indices_end}
use Rattle.qasm_expand.proofs.targets.index_count.Goals as goal

pub returns-in-Whole : goal.returns-in-Whole
returns-in-Whole c =
    let ts = c.args.targets.now in let k = c.loop-target.target-index in
    sym (c.loop-target.invariant ∙ indices_at ts k (Single 0) c.loop-target-test.true ∙ indices_whole _ (drop (k + 1) ts) c.in-Whole.field-0 c.in-Whole.size c.in-Whole.is)

pub loop-target-preserved : goal.loop-target-preserved
loop-target-preserved c =
    let ts = c.args.targets.now in let k = c.loop-target.target-index in
    c.loop-target.invariant ∙ indices_at ts k (Single 0) c.loop-target-test.true ∙ indices_single _ (drop (k + 1) ts) (λ q n e. c.in_default.not-Whole q n e)

pub returns : goal.returns
returns c = sym (c.loop-target.invariant ∙ indices_end c.args.targets.now c.loop-target.target-index c.loop-target-test.false)
