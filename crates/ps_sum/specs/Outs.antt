-- The outputs of a path sum as lists of Boolean polynomials.
use Rattle.std.specs.Prelude.{ℕ, ◌+◌, Bool, false, ◌||◌, List, [], ◌∷◌, length}
use Rattle.ps_ring.specs.Truths.{Truths}
use Rattle.ps_bool.specs.Polys.{bool_value, occurs}
use Rattle.ps_phase.specs.declared.terms.Term.{Term}

-- the values of the outputs at an assignment
unfoldable pub values : List (List (List ℕ)) → (ℕ → Bool) → Truths
values [] a = []
values (f ∷ fs) a = bool_value f a ∷ values fs a

-- v stands in an output
unfoldable pub outs_occur : ℕ → List (List (List ℕ)) → Bool
outs_occur v [] = false
outs_occur v (f ∷ fs) = occurs v f || outs_occur v fs

-- how many monomials the outputs have
unfoldable pub monomials : List (List (List ℕ)) → ℕ
monomials [] = 0
monomials (f ∷ fs) = length f + monomials fs

-- how many terms and monomials a sum has
abbrev pub size_of : List Term → List (List (List ℕ)) → ℕ
size_of phase outs = length phase + monomials outs
