use Rattle.std.proofs.Common.{◌≡◌, ℕ, ◌+◌, ◌≤◌, false, refl}
use Rattle.std.proofs.lemmas.Result.{IfOk-weaker}
use Rattle.ps_phase.specs.Phases.{phase_occurs}
use Rattle.ps_overlap.proofs.PhaseOf.{PhaseIs, phase_is, phase_free}
use Rattle.ps_overlap.proofs.overlaps.overlap_phase.Goals as goal

pub returns-clause-value : goal.returns-clause-value
returns-clause-value c = IfOk-weaker c.gather.result _ (λ p. PhaseIs c.args.first.now c.args.second.now p) (λ p e. phase_is c.args.first.now c.args.second.now _ c.new-terms.result.items c.push_moved.new.out.items c.push_negated.new.out.items c.push_pairings.new.out.items p c.terms-2.result.now c.terms.result.now c.polys.result.now c.polys-2.result.now refl c.new-terms.ensures.items c.terms-2.ensures.value c.terms.ensures.value c.polys.ensures c.polys-2.ensures c.requires.first_open
    c.in_ok-push_moved.ensures.value c.in_ok-push_negated.ensures.value c.in_ok-push_pairings.ensures.value e) c.gather.ensures.value

pub returns-clause-variables : goal.returns-clause-variables
returns-clause-variables c = IfOk-weaker c.gather.result _ (λ p. (v : ℕ) → c.args.first.now.n + (c.args.first.now.m + c.args.second.now.m + c.args.first.now.n) ≤ v → phase_occurs v p ≡ false) (λ p e. phase_free c.args.first.now c.args.second.now _ c.new-terms.result.items c.push_moved.new.out.items c.push_negated.new.out.items c.push_pairings.new.out.items p c.terms-2.result.now c.terms.result.now c.polys.result.now c.polys-2.result.now c.requires.qubits refl c.new-terms.ensures.items c.terms-2.ensures.value c.terms.ensures.value c.polys.ensures c.polys-2.ensures c.requires.first_open
    c.in_ok-push_moved.ensures.variables c.in_ok-push_negated.ensures.variables c.in_ok-push_pairings.ensures.variables e) c.gather.ensures.variables
