use Rattle.ps_phase.proofs.Seated.{seated_form, seated_value, seated_free, seats_some, seats_all, seats_sum}
use Rattle.ps_phase.proofs.seating.seated_sum.Goals as goal

pub combined-requires-clause-some : goal.combined-requires-clause-some
combined-requires-clause-some c = seats_some c.args.terms.now c.in_ok-seats.seats.items _ _ c.deref.ensures.value c.in_ok-seats.ensures.terms c.sort_seats.ensures.permutation c.requires.some

pub combined-requires-clause-all : goal.combined-requires-clause-all
combined-requires-clause-all c = seats_all c.args.terms.now c.in_ok-seats.seats.items _ _ c.deref.ensures.value c.in_ok-seats.ensures.all c.sort_seats.ensures.permutation

pub returns-clause-value : goal.returns-clause-value
returns-clause-value c = seated_value c.args.terms.now c.in_ok-seats.seats.items _ _ c.in_ok-seats.ensures.terms c.sort_seats.ensures.permutation (seats_sum c.args.terms.now _ _ _ c.deref.ensures.value c.in_ok-sum.ensures)

pub returns-clause-variables : goal.returns-clause-variables
returns-clause-variables c = seated_free c.args.terms.now c.in_ok-seats.seats.items _ _ c.in_ok-seats.ensures.terms c.sort_seats.ensures.permutation (seats_sum c.args.terms.now _ _ _ c.deref.ensures.value c.in_ok-sum.ensures)

pub returns-clause-form : goal.returns-clause-form
returns-clause-form c = seated_form c.args.terms.now c.in_ok-seats.seats.items _ _ c.in_ok-seats.ensures.all c.sort_seats.ensures.permutation c.sort_seats.ensures.sorted (seats_sum c.args.terms.now _ _ _ c.deref.ensures.value c.in_ok-sum.ensures)
