-- What the phase and the outputs of the second sum come to in a join.
use Rattle.std.specs.Prelude.{ℕ, ◌≡◌, ◌+◌, ◌%◌, ◌<◌, ◌≤◌, false, List, [], ◌∷◌, Option, Some, None, get_or, length}
use Rattle.ps_ring.specs.Readings.{Assignment, second_name}
use Rattle.ps_bool.specs.Polys.{bool_value, occurs, IsPoly}
use Rattle.ps_phase.specs.declared.terms.Term.{Term}
use Rattle.ps_phase.specs.Phases.{phase_value, phase_occurs, IsPhasePoly}
use Rattle.ps_sum.specs.declared.sums.PathSum.{PathSum}
use Rattle.ps_join.specs.Naming.{Agrees}

-- q is the phase p of the second with the first's outputs fs for its inputs
pub record PhasePart (n m1 m2 : ℕ) (fs : List (List (List ℕ))) (p q : List Term) : Type 0 where
  pub form : IsPhasePoly q
  pub value : (a : Assignment) → Agrees n m1 m2 fs a → phase_value q a % 4294967296 ≡ phase_value p (λ v. a (second_name n m1 m2 v)) % 4294967296
  pub below : (v : ℕ) → n + (m1 + m2) ≤ v → phase_occurs v q ≡ false

-- the same of an output
pub record BoolPart (n m1 m2 : ℕ) (fs : List (List (List ℕ))) (p q : List (List ℕ)) : Type 0 where
  pub form : IsPoly q
  pub value : (a : Assignment) → Agrees n m1 m2 fs a → bool_value q a ≡ bool_value p (λ v. a (second_name n m1 m2 v))
  pub below : (v : ℕ) → n + (m1 + m2) ≤ v → occurs v q ≡ false

-- output i of the second, g, comes to q; None: it is its input, so that the first's output stays
abbrev pub OutputPart : ℕ → ℕ → ℕ → List (List (List ℕ)) → ℕ → List (List ℕ) → Option (List (List ℕ)) → Type 0
OutputPart n m1 m2 fs i g None = g ≡ (i ∷ []) ∷ []
OutputPart n m1 m2 fs i g (Some q) = BoolPart n m1 m2 fs g q

-- so do all outputs gs of the second
pub record OutputParts (n m1 m2 : ℕ) (fs gs : List (List (List ℕ))) (qs : List (Option (List (List ℕ)))) : Type 0 where
  pub wide : length qs ≡ length gs
  pub each : (i : ℕ) → i < length gs → OutputPart n m1 m2 fs i (get_or gs i []) (get_or qs i None)

-- the output that a part gives, or the first's own
abbrev pub chosen : Option (List (List ℕ)) → List (List ℕ) → List (List ℕ)
chosen None f = f
chosen (Some q) f = q

-- in gs the parts qs stand in their places among the outputs fs
pub record Placed (fs : List (List (List ℕ))) (qs : List (Option (List (List ℕ)))) (gs : List (List (List ℕ))) : Type 0 where
  pub wide : length gs ≡ length fs
  pub each : (i : ℕ) → i < length fs → get_or gs i [] ≡ chosen (get_or qs i None) (get_or fs i [])

-- what the second's phase and outputs come to behind the first
pub record IsParts (S1 S2 : PathSum) (phase : List Term) (outs : List (Option (List (List ℕ)))) : Type 0 where
  pub phase_part : PhasePart S1.n S1.m S2.m S1.outs S2.phase phase
  pub outs_part : OutputParts S1.n S1.m S2.m S1.outs S2.outs outs

-- g is the sum of two inputs below n, the lesser first
abbrev pub IsPair : ℕ → List (List ℕ) → ℕ → ℕ → Type 0
IsPair n g i j = (g ≡ (i ∷ []) ∷ (j ∷ []) ∷ []) × ((i < j) × (j < n))
