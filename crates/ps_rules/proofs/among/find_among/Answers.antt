use Rattle.std.proofs.Common.{ℕ, ◌<◌, ◌≤◌, refl, subst}
use Rattle.ps_rules.proofs.Suspects.{NoStep, each_start, each_more, among_first, among_none}
use Rattle.ps_rules.proofs.among.find_among.Goals as goal

pub loop-place-init : goal.loop-place-init
loop-place-init c = each_start (NoStep c.args.sum.now) c.args.among.now

pub returns-in-Some-clause-first : goal.returns-in-Some-clause-first
returns-in-Some-clause-first c = among_first c.args.sum.now c.args.among.now c.loop-place.place c.var_at.result c.in-Some.step c.known.ensures
    (subst (λ (n : ℕ). c.loop-place.place < n) c.degree-place-end.ensures c.loop-place-test.true) c.var_at.ensures.value c.requires c.loop-place.invariant c.in-Some.ensures.0 c.in-Some.ensures.1

pub loop-place-preserved : goal.loop-place-preserved
loop-place-preserved c = each_more (NoStep c.args.sum.now) c.args.among.now c.loop-place.place c.var_at.result
    (subst (λ (n : ℕ). c.loop-place.place < n) c.degree-place-end.ensures c.loop-place-test.true) c.var_at.ensures.value c.in-None.ensures c.loop-place.invariant

pub returns-clause-none : goal.returns-clause-none
returns-clause-none c =
    (λ e. among_none c.args.sum.now c.args.among.now c.loop-place.place (subst (λ (n : ℕ). n ≤ c.loop-place.place) c.degree-place-end.ensures c.loop-place-test.false) c.requires c.loop-place.invariant, λ i. refl)
