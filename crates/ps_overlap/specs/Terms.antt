-- What one pass over the terms of a phase tells of a path variable.
use Rattle.std.specs.Prelude.{ℕ, ◌≡◌, ◌≢◌, Bool, true, false, List}
use Rattle.std.specs.declared.cmp.Ordering.TheVariants.{Less}
use Rattle.ps_mono.specs.Sets.{mono_cmp, Below}
use Rattle.ps_phase.specs.declared.terms.Term.{Term}
use Rattle.ps_phase.specs.Phases.{phase_occurs}
use Rattle.ps_phase.specs.Adding.{terms_with}
use Rattle.ps_overlap.specs.Overlapping.{EachTerm, SomeTerm, divided}

-- the term is half a turn, and beside variable v it has variables below n alone
pub record IsHalfAtInputs (n v : ℕ) (t : Term) : Type 0 where
  pub half : t.phase ≡ 2147483648
  pub at_inputs : Below n (divided v t.mono)

-- v stands in one of the terms that are such, and in one that is not
pub record Looked (n v : ℕ) (ts : List Term) (half other : Bool) : Type 0 where
  pub all : other ≡ false → EachTerm (IsHalfAtInputs n v) (terms_with v ts)
  pub some_other : other ≡ true → EachTerm (IsHalfAtInputs n v) (terms_with v ts) → ⊥
  pub some_half : half ≡ true → phase_occurs v ts ≡ true
  pub neither : half ≡ false → other ≡ false → phase_occurs v ts ≡ false

-- the bits are the variables of the least of the terms' monomials, divided by v
pub record LeastQuotient (v : ℕ) (ts : List Term) (bits : List ℕ) : Type 0 where
  pub one_of : SomeTerm (λ t. divided v t.mono ≡ bits) ts
  pub least : EachTerm (λ t. mono_cmp (divided v t.mono) bits ≢ Less) ts
