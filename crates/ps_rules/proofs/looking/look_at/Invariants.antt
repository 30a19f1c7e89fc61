use Rattle.std.proofs.Common.{ℕ, List, ◌∷◌, [], ◌++◌, take}
use Rattle.ps_phase.specs.declared.terms.Term.{Term}
use Rattle.ps_phase.specs.Phases.{IsPhasePoly}
use Rattle.ps_rules.specs.Sights.{Seen, EachSight}
use Rattle.ps_rules.proofs.Windows.{so_far}
use Rattle.ps_rules.proofs.looking.look_at.Given as goal

abbrev pub invariant-loop-place : goal.invariant-loop-place
invariant-loop-place l = (outs : List (List (List ℕ))) (ts : List Term) → IsPhasePoly (ts ++ l.term ∷ []) → EachSight (λ v s. Seen v outs ts s) l.base l.fn.sights → EachSight (λ v s. Seen v outs (so_far ts l.term (take l.place l.term.mono) v) s) l.base l.sights
