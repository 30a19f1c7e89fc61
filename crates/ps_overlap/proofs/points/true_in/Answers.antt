use Rattle.std.proofs.Common.{arith, sym, subst}
use Rattle.ps_mono.specs.Sets.{IsVarSet}
use Rattle.ps_phase.proofs.Adding.{set_empty}
use Rattle.ps_overlap.proofs.FirstTerms.{true_start, true_more, true_end}
use Rattle.ps_overlap.proofs.points.true_in.Goals as goal

pub loop-place-init : goal.loop-place-init
loop-place-init c = true_start c.args.mono.now c.zero-bits.result c.zero-bits.ensures (subst IsVarSet (sym c.zero-bits.ensures) set_empty)

pub loop-place-preserved : goal.loop-place-preserved
loop-place-preserved c = true_more c.args.mono.now c.loop-place.bits _ c.loop-place.place c.var_at.result (omega arith) c.var_at.ensures.value c.set.ensures.values c.set.ensures.form c.loop-place.invariant

pub returns : goal.returns
returns c = true_end c.args.mono.now c.loop-place.bits c.loop-place.place c.degree-place-end.result c.degree-place-end.ensures c.loop-place-test.false c.known.ensures c.loop-place.invariant
