-- What is kept of gates without parameters.
use Rattle.std.proofs.Common.{◌≡◌, ℕ, Bool, true, nat_eq, List, [], ◌∷◌, Result, Ok, Err, refl, arith, length}
use Rattle.std.proofs.lemmas.Bool.Decides.{nat_tests}
use Rattle.std.specs.Prelude.{OnOk}
use Rattle.qasm_parse.specs.declared.program.Formula.{Formula}
use Rattle.qasm_expand.specs.Targets.{exprs_of}

-- what holds anyhow holds where the answer is Ok
pub kept_anyhow : {X E : Type 0} (r : Result X E) (P : Type 0) → P → OnOk r P
kept_anyhow (Ok x) P h = h
kept_anyhow (Err e) P h = tt

no_length : (n : ℕ) (b : Bool) → b ≡ nat_eq n 0 → b ≡ true → n ≡ 0
no_length n b e h = grind (arith, nat_tests)

pub no_exprs : (fs : List Formula) (b : Bool) → b ≡ nat_eq (length fs) 0 → b ≡ true → exprs_of fs ≡ []
no_exprs [] b e h = refl
no_exprs (f ∷ fs) b e h = let z : length (f ∷ fs) ≡ 0 = no_length (length (f ∷ fs)) b e h in absurd (omega arith)
