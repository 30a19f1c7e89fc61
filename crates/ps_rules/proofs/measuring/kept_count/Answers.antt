use Rattle.std.proofs.Common.{inl, inr, arith}
use Rattle.ps_rules.proofs.Limits.{kept_start, kept_more, kept_end}
use Rattle.ps_rules.proofs.measuring.kept_count.Goals as goal
use Rattle.ps_rules.proofs.measuring.kept_count.Goals.{then-not-contains, else-not-contains}

pub loop-term-init : goal.loop-term-init
loop-term-init c = record { is = kept_start c.args.v c.args.terms.now; most = omega arith }

pub loop-term-preserved : goal.loop-term-preserved
loop-term-preserved c = record {
  is = kept_more c.args.v c.args.terms.now c.loop-term.term-index c.loop-term.count c.if-not-contains.count c.term-item.result c.contains.result c.loop-term-test.true c.term-item.is c.contains.ensures
      (elim c.if-not-contains.branch [ then-not-contains w ↦ inl (w.if-not-contains.true, w.count-is) | else-not-contains w ↦ inr (w.if-not-contains.false, w.count-is) ]) c.loop-term.invariant.is;
  most = elim c.if-not-contains.branch [ then-not-contains w ↦ omega arith | else-not-contains w ↦ omega arith ];
}

pub returns : goal.returns
returns c = kept_end c.args.v c.args.terms.now c.loop-term.term-index c.loop-term.count c.loop-term-test.false c.loop-term.invariant.is
