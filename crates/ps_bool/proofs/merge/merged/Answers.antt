use Rattle.std.proofs.Common.{arith, inl, inr}
use Rattle.ps_bool.proofs.Merges.{keep_less, keep_greater, keep_equal, add_rests}
use Rattle.ps_bool.proofs.merge.merged.Goals as goal
use Rattle.ps_bool.proofs.merge.merged.Goals.{then-loop-i-test+else-j-ys, else-loop-i-test}

pub loop-i-preserved-in-Less : goal.loop-i-preserved-in-Less
loop-i-preserved-in-Less c = record {
  i_in = omega arith;
  j_in = omega arith;
  whole = rw c.in_ok-push-in-Less.ensures.items
      (keep_less _ _ _ _ c.loop-i.i c.loop-i.j c.index-xs-i.result c.index-ys-j.result c.loop-i-test.true c.if-j-ys.true c.index-xs-i.is c.index-ys-j.is c.in-Less.ensures c.loop-i.invariant.whole);
}

pub loop-i-preserved-in-Greater : goal.loop-i-preserved-in-Greater
loop-i-preserved-in-Greater c = record {
  i_in = omega arith;
  j_in = omega arith;
  whole = rw c.in_ok-push-in-Greater.ensures.items
      (keep_greater _ _ _ _ c.loop-i.i c.loop-i.j c.index-xs-i.result c.index-ys-j.result c.loop-i-test.true c.if-j-ys.true c.index-xs-i.is c.index-ys-j.is c.in-Greater.ensures c.loop-i.invariant.whole);
}

pub loop-i-preserved : goal.loop-i-preserved
loop-i-preserved c = record {
  i_in = omega arith;
  j_in = omega arith;
  whole = keep_equal _ _ _ _ c.loop-i.i c.loop-i.j c.index-xs-i.result c.index-ys-j.result c.loop-i-test.true c.if-j-ys.true c.index-xs-i.is c.index-ys-j.is c.in-Equal.ensures c.loop-i.invariant.whole;
}

pub returns : goal.returns
returns c = add_rests _ _ c.loop-i.out.items _ _ _ c.loop-i.i c.loop-i.j (elim c.loop-i-test.branch [ then-loop-i-test+else-j-ys w ↦ inr w.if-j-ys.false | else-loop-i-test w ↦ inl w.loop-i-test.false ]) c.loop-i.invariant.whole c.in_ok-extend_from_slice.ensures.items c.in_ok-extend_from_slice-2.ensures.items
