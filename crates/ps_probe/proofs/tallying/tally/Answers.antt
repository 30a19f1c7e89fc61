use Rattle.std.proofs.Common.{inl, inr}
use Rattle.std.proofs.lemmas.Result.{IfOk-weaker}
use Rattle.ps_sum.specs.Sums.{path_values}
use Rattle.ps_overlap.specs.Overlapping.{point}
use Rattle.ps_probe.proofs.Scales.{never_one, tally_tells, scale_low, scale_high, scale_inside}
use Rattle.ps_probe.proofs.tallying.tally.Goals as goal
use Rattle.ps_probe.proofs.tallying.tally.Goals.{then-sum-lt0-via-then-sum-lt0, then-sum-lt0-via-else-sum-lt0+then-sum-gt-MOST}

pub returns-then-sum-lt0 : goal.returns-then-sum-lt0
returns-then-sum-lt0 c = elim c.then-sum-lt0.branch [
  | then-sum-lt0-via-then-sum-lt0 w ↦ never_one (path_values c.args.sum.now) (point c.args.sum.now.n c.args.at.now) c.requires.few (inl (scale_low c.args.sum.now w.if-sum-lt0.true))
  | then-sum-lt0-via-else-sum-lt0+then-sum-gt-MOST w ↦ never_one (path_values c.args.sum.now) (point c.args.sum.now.n c.args.at.now) c.requires.few (inr (scale_high c.args.sum.now w.if-sum-gt-MOST.true))
]

pub returns : goal.returns
returns c = IfOk-weaker c.balances.result _ _ (λ b t. tally_tells (path_values c.args.sum.now) (point c.args.sum.now.n c.args.at.now) _ c.in_ok-phases.phases.items c.deref.result.now b (scale_inside c.args.sum.now c.if-sum-lt0.false) c.deref.ensures.value c.in_ok-phases.ensures t) c.balances.ensures
