-- A sum with more terms in its phase.
use Rattle.std.specs.Prelude.{ℕ, ◌≡◌, ◌+◌, ◌≤◌, false, List}
use Rattle.ps_phase.specs.declared.terms.Term.{Term}
use Rattle.ps_phase.specs.Phases.{phase_occurs, IsPhasePoly}
use Rattle.ps_phase.specs.Adding.{add_terms}
use Rattle.ps_phase.proofs.Adding.{add_form, add_free}
use Rattle.ps_sum.specs.declared.sums.PathSum.{PathSum}

-- the terms name no variable that S has not
abbrev pub IsNamed : PathSum → List Term → Type 0
IsNamed S more = (v : ℕ) → S.n + S.m ≤ v → phase_occurs v more ≡ false

-- S with these terms more in its phase
abbrev pub with_more : (S : PathSum) (more : List Term) → IsPhasePoly more → IsNamed S more → PathSum
with_more S more form named = record {
  n = S.n;
  m = S.m;
  k = S.k;
  phase = add_terms S.phase more;
  outs = S.outs;
  qubits = S.qubits;
  named = S.named;
  scaled = S.scaled;
  phase_below = λ v l. add_free v S.phase more (S.phase_below v l) (named v l);
  outs_below = S.outs_below;
  width = S.width;
  formed = (add_form S.phase more S.formed.0 form, S.formed.1);
}
