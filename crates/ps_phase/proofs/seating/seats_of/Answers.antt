use Rattle.std.proofs.Common.{refl, arith, ◌∙◌}
use Rattle.ps_phase.proofs.Seated.{seating_more, low_at}
use Rattle.ps_phase.proofs.seating.seats_of.Goals as goal

pub loop-place-preserved : goal.loop-place-preserved
loop-place-preserved c = seating_more c.args.terms.now c.loop-place.seats.items _ c.loop-place.place _ c.index-terms-place.result c.loop-place-test.true c.index-terms-place.is c.known.ensures (low_at c.args.terms.now c.loop-place.place c.index-terms-place.result c.requires c.loop-place-test.true c.index-terms-place.is) c.low_key.ensures.value (c.of.ensures ∙ c.units.ensures) (omega arith) refl c.in_ok-push.ensures.items c.loop-place.invariant
