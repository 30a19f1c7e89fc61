-- The path sums of one prim, of no prim and of two sums in a row, and when a join passes a limit.
use Rattle.std.specs.Prelude.{ℕ, suc, ◌≡◌, ◌+◌, ◌*◌, ◌%◌, ◌<◌, ◌≤◌, ◌⊎◌, min, List, [], ◌∷◌, Option, Some, None, length}
use Rattle.ps_ring.specs.Readings.{Assignment, second_name}
use Rattle.ps_ring.specs.Joins.{IdentitySum, JoinedSum}
use Rattle.ps_prim.specs.declared.prims.Primitive.{Primitive as Prim}
use Rattle.ps_prim.specs.Sums.{LeafSum}
use Rattle.ps_mono.specs.Truth.{with_value}
use Rattle.ps_bool.specs.Polys.{bool_value, IsPoly}
use Rattle.ps_phase.specs.declared.terms.Term.{Term}
use Rattle.ps_phase.specs.Phases.{phase_value, IsPhasePoly}
use Rattle.ps_sum.specs.Counts.{raw_phase, raw_bool}
use Rattle.ps_sum.specs.Sums.{path_values}
use Rattle.ps_sum.specs.declared.sums.PathSum.{PathSum}
use Rattle.ps_sum.specs.declared.faults.Passed.{Passed}
use Rattle.ps_sum.specs.declared.faults.What.TheVariants.{Terms, Variables}

-- S is the sum of the prim g on n qubits
pub record IsLeafOf (n : ℕ) (g : Prim) (S : PathSum) : Type 0 where
  pub n_is : S.n ≡ n
  pub values_are : LeafSum n g (path_values S)

-- S is the sum of no prim on n qubits
pub record IsIdentityOf (n : ℕ) (S : PathSum) : Type 0 where
  pub n_is : S.n ≡ n
  pub values_are : IdentitySum n (path_values S)

-- S is S1 followed by S2, on the same qubits
pub record IsJoinOf (S1 S2 S : PathSum) : Type 0 where
  pub n_is : S.n ≡ S1.n
  pub second_n_is : S2.n ≡ S1.n
  pub values_are : JoinedSum S1.n (path_values S1) (path_values S2) (path_values S)

-- ---- the limits
-- q is the phase polynomial p with f in place of variable v
pub record PhaseAfter (v : ℕ) (f : List (List ℕ)) (p q : List Term) : Type 0 where
  pub form : IsPhasePoly q
  pub value : (a : Assignment) → phase_value q a % 4294967296 ≡ phase_value p (with_value a v (bool_value f a)) % 4294967296

-- the same of Boolean polynomials
pub record BoolAfter (v : ℕ) (f : List (List ℕ)) (p q : List (List ℕ)) : Type 0 where
  pub form : IsPoly q
  pub value : (a : Assignment) → bool_value q a ≡ bool_value p (with_value a v (bool_value f a))

-- a count of terms, told as 10^12 where it is above that
abbrev pub told : ℕ → ℕ
told count = min count 1000000000000

-- The polynomials fs replace in p, one after the other, the variables from v on. Where `end` is None, each makes at most
-- 65,536 terms; where it is a count, the first that makes more makes so many. `raw` says how many terms a replacement
-- makes, before any are added, and `After` what comes of it.
abbrev pub Chain : (X : Type 0) → (ℕ → ℕ → X → ℕ) → (ℕ → List (List ℕ) → X → X → Type 0) → ℕ → List (List (List ℕ)) → X → Option ℕ → Type 0
Chain X raw After v [] p end = end ≡ None
Chain X raw After v (f ∷ fs) p end =
    ((65536 < raw v (length f) p) × (end ≡ Some (told (raw v (length f) p))))
    ⊎ ((raw v (length f) p ≤ 65536) × ((q : X) × (After v f p q × Chain X raw After (suc v) fs q end)))

-- q is p with the names that the second sum's variables have in a join
pub record PhaseNamed (n m1 m2 : ℕ) (p q : List Term) : Type 0 where
  pub form : IsPhasePoly q
  pub value : (a : Assignment) → phase_value q a % 4294967296 ≡ phase_value p (λ v. a (second_name n m1 m2 v)) % 4294967296

pub record BoolNamed (n m1 m2 : ℕ) (p q : List (List ℕ)) : Type 0 where
  pub form : IsPoly q
  pub value : (a : Assignment) → bool_value q a ≡ bool_value p (λ v. a (second_name n m1 m2 v))

-- the outputs fs of the first sum replace all inputs in the second's phase p, in order
abbrev pub PhaseChain : ℕ → ℕ → ℕ → List (List (List ℕ)) → List Term → Option ℕ → Type 0
PhaseChain n m1 m2 fs p end = (q : List Term) × (PhaseNamed n m1 m2 p q × Chain (List Term) raw_phase PhaseAfter (n + (m1 + m2)) fs q end)

-- and in one output g of the second
abbrev pub OutputChain : ℕ → ℕ → ℕ → List (List (List ℕ)) → List (List ℕ) → Option ℕ → Type 0
OutputChain n m1 m2 fs g end = (q : List (List ℕ)) × (BoolNamed n m1 m2 g q × Chain (List (List ℕ)) raw_bool BoolAfter (n + (m1 + m2)) fs q end)

-- the first ends at a count, or else at None, and the next ends so
abbrev pub Then : (Option ℕ → Type 0) → (Option ℕ → Type 0) → Option ℕ → Type 0
Then First Next end = ((count : ℕ) × (First (Some count) × (end ≡ Some count))) ⊎ (First None × Next end)

-- in the outputs gs of the second, one after the other
abbrev pub OutputChains : ℕ → ℕ → ℕ → List (List (List ℕ)) → List (List (List ℕ)) → Option ℕ → Type 0
OutputChains n m1 m2 fs [] end = end ≡ None
OutputChains n m1 m2 fs (g ∷ gs) end = Then (OutputChain n m1 m2 fs g) (OutputChains n m1 m2 fs gs) end

-- in the second's phase, and then in each of its outputs, the first of them first
abbrev pub JoinChain : PathSum → PathSum → Option ℕ → Type 0
JoinChain S1 S2 end = Then (PhaseChain S1.n S1.m S2.m S1.outs S2.phase) (OutputChains S1.n S1.m S2.m S1.outs S2.outs) end

-- how many variables a join names: the inputs of both, and all path variables
abbrev pub named_count : PathSum → PathSum → ℕ
named_count S1 S2 = 2 * S1.n + S1.m + S2.m

-- the join of the two passes no limit
pub record JoinFits (S1 S2 : PathSum) : Type 0 where
  pub variables : named_count S1 S2 ≤ 512
  pub terms : JoinChain S1 S2 None

-- the join of the two passes this limit: more than 512 variables, or else a replacement that makes too many terms
abbrev pub JoinPasses : PathSum → PathSum → Passed → Type 0
JoinPasses S1 S2 passed =
    ((512 < named_count S1 S2) × (passed ≡ record { what = Variables; count = named_count S1 S2 }))
    ⊎ ((named_count S1 S2 ≤ 512) × ((c : ℕ) × (JoinChain S1 S2 (Some c) × (passed ≡ record { what = Terms; count = c }))))
