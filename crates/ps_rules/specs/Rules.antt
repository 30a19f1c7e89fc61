-- The three rewrite steps of path sums: when a step applies, which sum it gives, which step comes first, and how many
-- terms it makes. Path variable y of a sum on n qubits is variable n + y of its polynomials.
use Rattle.std.specs.Prelude.{ℕ, ◌≡◌, ◌≢◌, ◌+◌, ◌<◌, ◌≤◌, ◌%◌, ◌⊎◌, min, Bool, true, false, nat_eq, List, [], ◌∷◌, length, map, pos, ◌+ℤ◌}
use Rattle.ps_mono.specs.Sets.{stands}
use Rattle.ps_mono.specs.Truth.{times, differ, with_value}
use Rattle.ps_bool.specs.Polys.{bool_value, IsPoly}
use Rattle.ps_phase.specs.Phases.{phase_value, phase_occurs, coefficient}
use Rattle.ps_phase.specs.Adding.{terms_without}
use Rattle.ps_ring.specs.Truths.{Truths}
use Rattle.ps_ring.specs.Readings.{Assignment, closed_up}
use Rattle.ps_sum.specs.declared.sums.PathSum.{PathSum}
use Rattle.ps_sum.specs.declared.faults.Passed.{Passed}
use Rattle.ps_sum.specs.declared.faults.What.TheVariants.{Terms}
use Rattle.ps_sum.specs.Names.{closed}
use Rattle.ps_sum.specs.Outs.{values, outs_occur}
use Rattle.ps_sum.specs.Counts.{binomial, raw_phase, raw_bool}
use Rattle.ps_rules.specs.declared.steps.Step.{Step}
use Rattle.ps_rules.specs.declared.steps.Step.TheVariants.{Elim, Hh, Omega}
use Rattle.ps_rules.specs.Terms.{EachWith, IsHalf, both, others}

-- ---- when a step applies

-- y is a path variable of S that stands in no output
pub record IsInner (S : PathSum) (y : ℕ) : Type 0 where
  pub inside : y < S.m
  pub silent : outs_occur (S.n + y) S.outs ≡ false

-- y0 stands in no term either
pub record ElimApplies (S : PathSum) (y0 : ℕ) : Type 0 where
  pub inner : IsInner S y0
  pub absent : phase_occurs (S.n + y0) S.phase ≡ false

-- each term with y0 is half a turn, the product of y0 and y1 is one of them, and y1 is in no other of them
pub record HhApplies (S : PathSum) (y0 y1 : ℕ) : Type 0 where
  pub inner : IsInner S y0
  pub second : y1 < S.m
  pub apart : y1 ≢ y0
  pub halves : EachWith (S.n + y0) IsHalf S.phase
  pub product : coefficient (both (S.n + y0) (S.n + y1)) S.phase ≡ 2147483648
  pub lone : EachWith (S.n + y0) (λ t. stands (S.n + y1) t.mono ≡ true → t.mono ≡ both (S.n + y0) (S.n + y1)) S.phase

-- y0 alone turns by a quarter or by three, and each other term with y0 by half a turn
pub record OmegaApplies (S : PathSum) (y0 : ℕ) : Type 0 where
  pub inner : IsInner S y0
  pub quarter : (coefficient ((S.n + y0) ∷ []) S.phase ≡ 1073741824) ⊎ (coefficient ((S.n + y0) ∷ []) S.phase ≡ 3221225472)
  pub halves : EachWith (S.n + y0) (λ t. t.mono ≢ (S.n + y0) ∷ [] → IsHalf t) S.phase

abbrev pub Applies : PathSum → Step → Type 0
Applies S (Elim y0) = ElimApplies S y0
Applies S (Hh y0 y1) = HhApplies S y0 y1
Applies S (Omega y0) = OmegaApplies S y0

-- ---- what a step gives

-- the value of the step's polynomial: the other terms with y0, divided by y0; each of them has y0, so that is with
-- y0 = 1; and 1 more for three quarters of a turn
abbrev pub rest_value : PathSum → Step → Assignment → Bool
rest_value S (Elim y0) a = false
rest_value S (Hh y0 y1) a = bool_value (others (S.n + y0) (both (S.n + y0) (S.n + y1)) S.phase) (with_value a (S.n + y0) true)
rest_value S (Omega y0) a = differ (nat_eq (coefficient ((S.n + y0) ∷ []) S.phase) 3221225472) (bool_value (others (S.n + y0) ((S.n + y0) ∷ []) S.phase) (with_value a (S.n + y0) true))

-- T has S's qubits, m path variables less, and a scale that is k less
pub record Lowered (S T : PathSum) (m k : ℕ) : Type 0 where
  pub n_is : T.n ≡ S.n
  pub m_is : T.m + m ≡ S.m
  pub k_is : T.k +ℤ pos k ≡ S.k

-- at an assignment of the old variables, T has the phase P and the outputs O once the names are closed up
pub record Becomes (T : PathSum) (names : Assignment → Assignment) (P : Assignment → ℕ) (O : Assignment → Truths) : Type 0 where
  pub phase_is : (a : Assignment) → phase_value T.phase (names a) % 4294967296 ≡ P a % 4294967296
  pub outs_is : (a : Assignment) → values T.outs (names a) ≡ O a

-- the phase with y0 = 0
abbrev pub ElimApplied : PathSum → ℕ → PathSum → Type 0
ElimApplied S y0 T =
    Lowered S T 1 2
    × Becomes T (closed_up (S.n + y0)) (λ a. phase_value S.phase (with_value a (S.n + y0) false)) (λ a. values S.outs a)

-- the phase with y0 = 0 and the step's polynomial Q in place of y1, and the outputs with Q in place of y1
abbrev pub HhApplied : PathSum → ℕ → ℕ → PathSum → Type 0
HhApplied S y0 y1 T =
    Lowered S T 2 2
    × Becomes T (λ a. closed_up (closed (S.n + y0) (S.n + y1)) (closed_up (S.n + y0) a))
    (λ a. phase_value S.phase (with_value (with_value a (S.n + y1) (rest_value S (Hh y0 y1) a)) (S.n + y0) false))
    (λ a. values S.outs (with_value a (S.n + y1) (rest_value S (Hh y0 y1) a)))

-- the phase with y0 = 0 and an eighth of a turn more, less a quarter where the step's polynomial is 1, which is three
-- quarters more
abbrev pub OmegaApplied : PathSum → ℕ → PathSum → Type 0
OmegaApplied S y0 T =
    Lowered S T 1 1
    × Becomes T (closed_up (S.n + y0))
    (λ a. phase_value S.phase (with_value a (S.n + y0) false) + 536870912 + times (rest_value S (Omega y0) a) 3221225472)
    (λ a. values S.outs a)

-- T is S after the step
abbrev pub Applied : PathSum → Step → PathSum → Type 0
Applied S (Elim y0) T = ElimApplied S y0 T
Applied S (Hh y0 y1) T = HhApplied S y0 y1 T
Applied S (Omega y0) T = OmegaApplied S y0 T

-- ---- which step comes first

-- the path variable that goes
abbrev pub first_of : Step → ℕ
first_of (Elim y0) = y0
first_of (Hh y0 y1) = y0
first_of (Omega y0) = y0

-- the second one, where there is one
abbrev pub second_of : Step → ℕ
second_of (Elim y0) = 0
second_of (Hh y0 y1) = y1
second_of (Omega y0) = 0

-- the step applies, none with a lesser first variable does, and no Hh with this first variable and a lesser second
pub record FirstStep (S : PathSum) (s : Step) : Type 0 where
  pub applies : Applies S s
  pub least : (t : Step) → first_of t < first_of s → Applies S t → ⊥
  pub second_least : (y1 : ℕ) → y1 < second_of s → Applies S (Hh (first_of s) y1) → ⊥

abbrev pub IsIrreducible : PathSum → Type 0
IsIrreducible S = (s : Step) → Applies S s → ⊥

-- ---- how many terms a step makes

-- q is the step's polynomial in its one form
pub record IsStepPoly (S : PathSum) (s : Step) (q : List (List ℕ)) : Type 0 where
  pub form : IsPoly q
  pub value : (a : Assignment) → bool_value q a ≡ rest_value S s a

-- the raw counts of the step in the order in which they are looked at, where its polynomial has t monomials
abbrev pub step_counts : PathSum → Step → ℕ → List ℕ
step_counts S (Elim y0) t = []
step_counts S (Hh y0 y1) t = raw_phase (S.n + y1) t (terms_without (S.n + y0) S.phase) ∷ map (λ f. raw_bool (S.n + y1) t f) S.outs
step_counts S (Omega y0) t = (length (terms_without (S.n + y0) S.phase) + 1 + t + binomial t 2) ∷ []

-- c is the first of the counts above the limit
abbrev pub FirstAbove : List ℕ → ℕ → Type 0
FirstAbove [] c = ⊥
FirstAbove (x ∷ xs) c = ((65536 < x) × (c ≡ x)) ⊎ ((x ≤ 65536) × FirstAbove xs c)

-- none of the counts is above the limit
abbrev pub NoneAbove : List ℕ → Type 0
NoneAbove [] = Unit {0}
NoneAbove (x ∷ xs) = (x ≤ 65536) × NoneAbove xs

-- the step passes the limit, and p tells the first count above it, as 10^12 where it is above that
pub record PassesAt (S : PathSum) (s : Step) (p : Passed) (q : List (List ℕ)) (c : ℕ) : Type 0 where
  pub poly : IsStepPoly S s q
  pub first : FirstAbove (step_counts S s (length q)) c
  pub told : p ≡ record { what = Terms; count = min c 1000000000000 }

abbrev pub StepPasses : PathSum → Step → Passed → Type 0
StepPasses S s p = (q : List (List ℕ)) × (c : ℕ) × PassesAt S s p q c

-- the step is within the limit
pub record FitsAt (S : PathSum) (s : Step) (q : List (List ℕ)) : Type 0 where
  pub poly : IsStepPoly S s q
  pub within : NoneAbove (step_counts S s (length q))

abbrev pub StepFits : PathSum → Step → Type 0
StepFits S s = (q : List (List ℕ)) × FitsAt S s q
