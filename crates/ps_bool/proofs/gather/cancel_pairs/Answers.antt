use Rattle.std.proofs.Common.{arith, inl, inr, ◌<◌, ◌+◌, length, rules, sym, ◌∙◌, ◌≤◌}
use Rattle.ps_bool.proofs.Cancelling.{pair_dropped, one_kept, all_kept, sets_kept}
use Rattle.ps_bool.proofs.gather.cancel_pairs.Goals as goal
use Rattle.ps_bool.proofs.gather.cancel_pairs.Goals.{else-i-len-via-then-i-len+else-eq, else-i-len-via-else-i-len}

pub loop-i-preserved-then-eq : goal.loop-i-preserved-then-eq
loop-i-preserved-then-eq c =
    let inside : c.loop-i.i + 1 < length c.loop-i.monos.items = search rules in
    record {
      behind = omega arith;
      whole = pair_dropped _ _ _ c.loop-i.i c.index.result.now c.index-then-i-len.result.now inside c.index.ensures c.index-then-i-len.ensures (sym c.eq.ensures ∙ c.if-eq.true) c.loop-i.invariant.whole;
      sets = c.loop-i.invariant.sets;
    }

pub loop-i-preserved : goal.loop-i-preserved
loop-i-preserved c =
    let inside : c.loop-i.i < length c.loop-i.monos.items = search rules in
    record {
      behind = omega arith;
      whole = one_kept _ _ c.loop-i.kept c.loop-i.i c.index.result.now c.loop-i.invariant.behind inside c.index.ensures
          (elim c.else-i-len.branch [ else-i-len-via-then-i-len+else-eq w ↦ inr (w.index-then-i-len.result.now, w.index-then-i-len.ensures, sym w.eq.ensures ∙ w.if-eq.false) | else-i-len-via-else-i-len w ↦ inl (omega arith) ]) c.loop-i.invariant.whole;
      sets = sets_kept _ c.loop-i.kept c.loop-i.i c.index.result.now c.loop-i.invariant.behind inside c.known.ensures c.loop-i.invariant.sets;
    }

pub returns-clause-items : goal.returns-clause-items
returns-clause-items c =
    let past : length c.loop-i.monos.items ≤ c.loop-i.i = search rules in
    c.truncate.ensures.items ∙ all_kept _ _ c.loop-i.kept c.loop-i.i past c.loop-i.invariant.whole
