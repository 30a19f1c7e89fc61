-- The overlap of two path sums, and at which inputs a closed sum shows that it is not 1, or no phase.
use Rattle.std.specs.Prelude.{ℕ, ◌≡◌, ◌≢◌, ◌<◌, ◌+◌, true, not, nat_eq, List, [], ◌∷◌, filter, ◌⊎◌, pos}
use Rattle.std.specs.declared.cmp.Ordering.TheVariants.{Less}
use Rattle.ps_ring.specs.Truths.{Truths}
use Rattle.ps_ring.specs.Joins.{OverlapSum}
use Rattle.ps_ring.specs.Readings.{taken}
use Rattle.ps_mono.specs.Sets.{mono_cmp, stands, Below}
use Rattle.ps_phase.specs.declared.terms.Term.{Term}
use Rattle.ps_phase.specs.Phases.{phase_occurs, coefficient}
use Rattle.ps_phase.specs.Adding.{terms_with}
use Rattle.ps_sum.specs.declared.sums.PathSum.{PathSum}
use Rattle.ps_sum.specs.declared.faults.Passed.{Passed}
use Rattle.ps_sum.specs.declared.faults.What.TheVariants.{Variables}
use Rattle.ps_sum.specs.Sums.{path_values}

-- ---- the overlap
-- S is the overlap of S1 and S2, a closed sum on the same qubits
pub record IsOverlapOf (S1 S2 S : PathSum) : Type 0 where
  pub qubits_are : S.n ≡ S1.n
  pub no_outs : S.outs ≡ []
  pub overlaps : OverlapSum S1.n (path_values S1) (path_values S2) (path_values S)

-- the inputs, the path variables of both and a variable for each output are too many, and so many
pub record OverlapPasses (S1 S2 : PathSum) (passed : Passed) : Type 0 where
  pub what_is : passed.what ≡ Variables
  pub count_is : passed.count ≡ S1.n + S1.n + S1.m + S2.m
  pub above : 512 < S1.n + S1.n + S1.m + S2.m

-- ---- path variables that vanish
abbrev pub EachTerm : (Term → Type 0) → List Term → Type 0
EachTerm P [] = Unit {0}
EachTerm P (t ∷ ts) = P t × EachTerm P ts

abbrev pub SomeTerm : (Term → Type 0) → List Term → Type 0
SomeTerm P [] = ⊥
SomeTerm P (t ∷ ts) = P t ⊎ SomeTerm P ts

-- the monomial divided by variable v
unfoldable pub divided : ℕ → List ℕ → List ℕ
divided v m = filter (λ u. not (nat_eq u v)) m

-- the terms with path variable y
abbrev pub path_terms : PathSum → ℕ → List Term
path_terms S y = terms_with (S.n + y) S.phase

-- path variable y has a term, and each of its terms is half a turn and has inputs alone beside it
pub record Vanishes (S : PathSum) (y : ℕ) : Type 0 where
  pub inside : y < S.m
  pub some : phase_occurs (S.n + y) S.phase ≡ true
  pub halves : EachTerm (λ t. t.phase ≡ 2147483648) (path_terms S y)
  pub at_inputs : EachTerm (λ t. Below S.n (divided (S.n + y) t.mono)) (path_terms S y)

-- y is the least that vanishes
pub record LeastVanishing (S : PathSum) (y : ℕ) : Type 0 where
  pub vanishes : Vanishes S y
  pub first : (z : ℕ) → z < y → ¬ (Vanishes S z)

abbrev pub NoneVanishes : PathSum → Type 0
NoneVanishes S = (y : ℕ) → ¬ (Vanishes S y)

-- ---- points, as the sets of the variables that are true
-- the truth values of n inputs
abbrev pub point : ℕ → List ℕ → Truths
point n bits = taken 0 n (λ v. stands v bits)

-- the bits are the variables of the least of y's terms, divided by y
pub record IsLeastPoint (S : PathSum) (y : ℕ) (bits : List ℕ) : Type 0 where
  pub one_of : SomeTerm (λ t. divided (S.n + y) t.mono ≡ bits) (path_terms S y)
  pub least : EachTerm (λ t. mono_cmp (divided (S.n + y) t.mono) bits ≢ Less) (path_terms S y)

-- the bits are the variables of the phase's least monomial
pub record IsLeastMono (phase : List Term) (bits : List ℕ) : Type 0 where
  pub one_of : SomeTerm (λ t. t.mono ≡ bits) phase
  pub least : EachTerm (λ t. mono_cmp t.mono bits ≢ Less) phase

-- no bit where the scale is not 0, else the variables of the phase's least monomial
pub record IsFirstPoint (S : PathSum) (bits : List ℕ) : Type 0 where
  pub scaled : S.k ≢ pos 0 → bits ≡ []
  pub unscaled : S.k ≡ pos 0 → IsLeastMono S.phase bits

-- ---- a phase that is one at all inputs, and where it turns
-- no term has a variable, and p is the coefficient of the one without, or 0
pub record IsConstant (phase : List Term) (p : ℕ) : Type 0 where
  pub alone : EachTerm (λ t. t.mono ≡ []) phase
  pub value : p ≡ coefficient [] phase

-- some term has a variable
abbrev pub HasVariable : List Term → Type 0
HasVariable phase = SomeTerm (λ t. t.mono ≢ []) phase

-- the bits are the variables of the phase's least monomial that has one
pub record IsTurningPoint (phase : List Term) (bits : List ℕ) : Type 0 where
  pub some : bits ≢ []
  pub one_of : SomeTerm (λ t. t.mono ≡ bits) phase
  pub least : EachTerm (λ t. t.mono ≢ [] → mono_cmp t.mono bits ≢ Less) phase
