use Rattle.std.proofs.Common.{refl, sym}
use Rattle.ps_sum.proofs.Withins.{outs_begin, outs_next, outs_all, outs_out, polys_next, polys_all, never, is_true}
use Rattle.ps_sum.proofs.making.outs_within.Goals as goal

pub loop-poly-init : goal.loop-poly-init
loop-poly-init c = record { within = outs_begin c.args.names.now; form = tt }

pub loop-poly-preserved : goal.loop-poly-preserved
loop-poly-preserved c = record {
  within = outs_next c.args.names.now c.polys-poly-items.result.now c.loop-poly.poly-index c.poly-item.result c.loop-poly-test.true c.poly-item.is (c.bool_within.ensures.exactly.0 (is_true c.if-not-bool_within.false)) c.loop-poly.invariant.within;
  form = polys_next c.polys-poly-items.result.now c.loop-poly.poly-index c.poly-item.result c.loop-poly-test.true c.poly-item.is c.bool_within.ensures.form c.loop-poly.invariant.form;
}

pub returns-then-not-bool_within-clause-exactly : goal.returns-then-not-bool_within-clause-exactly
returns-then-not-bool_within-clause-exactly c =
    (λ e. absurd (never e), λ g. absurd (outs_out c.args.names.now c.args.outs.now c.polys-poly-items.result.now c.loop-poly.poly-index c.poly-item.result c.polys-poly-items.ensures c.loop-poly-test.true c.poly-item.is (λ h. never (rw (sym c.if-not-bool_within.true) (c.bool_within.ensures.exactly.1 h))) g))

pub returns-clause-form : goal.returns-clause-form
returns-clause-form c = λ t. polys_all c.args.outs.now c.polys-poly-items.result.now c.loop-poly.poly-index c.polys-poly-items.ensures c.loop-poly-test.false c.loop-poly.invariant.form

pub returns-clause-exactly : goal.returns-clause-exactly
returns-clause-exactly c = (λ t. outs_all c.args.names.now c.args.outs.now c.polys-poly-items.result.now c.loop-poly.poly-index c.polys-poly-items.ensures c.loop-poly-test.false c.loop-poly.invariant.within, λ h. refl)
