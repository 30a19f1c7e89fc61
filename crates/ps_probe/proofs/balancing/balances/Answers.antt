use Rattle.std.proofs.Common.{ap, refl}
use Rattle.ps_probe.specs.declared.balancing.Sides.{Sides}
use Rattle.ps_probe.proofs.Counting.{both_even, both_odd}
use Rattle.ps_probe.proofs.balancing.balances.Goals as goal
use Rattle.ps_probe.proofs.balancing.balances.Goals.{then-k-eq0+in_ok-push_times, else-k-eq0+in_ok-push_times-2+in_ok-push_times-3}

pub returns : goal.returns
returns c = elim c.if-k-eq0.branch [
  | then-k-eq0+in_ok-push_times w ↦ both_even c.args.phases.now c.in_ok-sides.sides c.if-k-eq0.sides _ c.args.k _ _ c.requires w.if-k-eq0.true (ap (λ (s : Sides). s.front.items) w.sides-is) (ap (λ (s : Sides). s.back.items) w.sides-is) refl c.in_ok-sides.ensures.count w.in_ok-push_times.ensures.count c.are_same.ensures
  | else-k-eq0+in_ok-push_times-2+in_ok-push_times-3 w ↦ both_odd c.args.phases.now c.in_ok-sides.sides c.if-k-eq0.sides _ _ c.args.k _ _ c.requires w.if-k-eq0.false (ap (λ (s : Sides). s.front.items) w.sides-is) (ap (λ (s : Sides). s.back.items) w.sides-is) refl c.in_ok-sides.ensures.count w.in_ok-push_times-2.ensures.count w.in_ok-push_times-3.ensures.count c.are_same.ensures
]
