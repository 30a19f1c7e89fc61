use Rattle.std.proofs.Common.{refl, ap, vec_items}
use Rattle.ps_phase.proofs.Seated.{summing_start, summing_same, summing_other, summing_end, summing_move, run_put}
use Rattle.ps_phase.proofs.seating.combined.Goals as goal
use Rattle.ps_phase.proofs.seating.combined.Goals.{then-seat-run, else-seat-run+in_ok-push_term}

pub loop-i-init : goal.loop-i-init
loop-i-init c = summing_start c.args.terms.now c.args.seats.now _ c.index-seats-0.result _ c.requires.all c.requires.some c.index-seats-0.is c.in_ok-out.ensures.items refl

pub loop-i-preserved : goal.loop-i-preserved
loop-i-preserved c = elim c.if-seat-run.branch [
  | then-seat-run w ↦ summing_move c.args.terms.now c.args.seats.now _ _ _ _ _ _ (ap vec_items w.out-is) w.run-is
      (summing_same c.args.terms.now c.args.seats.now c.loop-i.out.items c.loop-i.run c.index-seats-i.result w.add-run.result c.loop-i.i _ c.requires.all c.loop-i.invariant c.loop-i-test.true c.index-seats-i.is w.if-seat-run.true w.add-run.ensures)
  | else-seat-run+in_ok-push_term w ↦ summing_move c.args.terms.now c.args.seats.now _ _ _ _ _ _ (ap vec_items w.out-is) w.run-is
      (summing_other c.args.terms.now c.args.seats.now c.loop-i.out.items _ c.loop-i.run c.index-seats-i.result c.loop-i.i _ c.requires.all c.loop-i.invariant c.loop-i-test.true c.index-seats-i.is w.if-seat-run.false
      (run_put c.args.terms.now c.loop-i.run w.index-terms-run.result c.loop-i.out.items _ c.loop-i.invariant.inside w.in_ok-push_term.ensures.items))
]

pub returns : goal.returns
returns c = summing_end c.args.terms.now c.args.seats.now c.loop-i.out.items _ c.loop-i.run c.loop-i.i _ c.loop-i.invariant c.loop-i-test.false
    (run_put c.args.terms.now c.loop-i.run c.index-terms-run-2.result c.loop-i.out.items _ c.loop-i.invariant.inside c.in_ok-push_term-2.ensures.items)
