-- Terms whose monomials have a key of their own.
use Rattle.std.specs.Prelude.{◌≤◌, List, length, All}
use Rattle.ps_phase.specs.declared.terms.Term.{Term}
use Rattle.ps_mono.specs.Sets.{IsVarSet}

-- each monomial is a set of at most six variables
abbrev pub AllShort : List Term → Type 0
AllShort ts = All (λ (t : Term). IsVarSet t.mono × (length t.mono ≤ 6)) ts
