use Rattle.std.proofs.Common.{◌∙◌, sym, subst, arith, ◌+◌}
use Rattle.ps_probe.proofs.Restricted.{Fixing, fixing_start, fixing_one, fixing_none, fixed_zero, fixing_end}
use Rattle.ps_probe.proofs.restricting.fixed_mono.Goals as goal
use Rattle.ps_probe.proofs.restricting.fixed_mono.Goals.{then-has_fixed+else-not-is_one, else-has_fixed}

pub loop-i-init : goal.loop-i-init
loop-i-init c = fixing_start c.args.pattern.now c.args.mono.now

pub returns-then-not-is_one : goal.returns-then-not-is_one
returns-then-not-is_one c = fixed_zero c.args.pattern.now c.args.mono.now c.loop-i.i (sym c.has_fixed.ensures ∙ c.if-has_fixed.true) (sym c.is_one.ensures ∙ c.if-not-is_one.true)

pub loop-i-preserved : goal.loop-i-preserved
loop-i-preserved c = elim c.if-has_fixed.branch [
  | then-has_fixed+else-not-is_one w ↦ subst (Fixing c.args.pattern.now c.args.mono.now (c.loop-i.i + 1)) (sym w.out-is) (fixing_one c.args.pattern.now c.args.mono.now c.loop-i.out w.removed-out.result c.loop-i.i (sym c.has_fixed.ensures ∙ w.if-has_fixed.true) (sym w.is_one.ensures ∙ w.if-not-is_one.false) w.removed-out.ensures.members c.loop-i.invariant)
  | else-has_fixed w ↦ subst (Fixing c.args.pattern.now c.args.mono.now (c.loop-i.i + 1)) (sym w.out-is) (fixing_none c.args.pattern.now c.args.mono.now c.loop-i.out c.loop-i.i (sym c.has_fixed.ensures ∙ w.if-has_fixed.false) c.loop-i.invariant)
]

pub returns : goal.returns
returns c = fixing_end c.args.pattern.now c.args.mono.now c.loop-i.out c.loop-i.i (omega (arith, c.loop-i-test.false, c.loop-i.auto.i-end)) c.loop-i.invariant
