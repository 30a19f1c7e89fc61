-- What a gate without path variables comes to behind a sum.
use Rattle.std.specs.Prelude.{ℕ, ◌≡◌, ◌+◌, ◌*◌, ◌%◌, ◌≤◌, Bool, true, List, length}
use Rattle.ps_ring.specs.Truths.{Truths}
use Rattle.ps_mono.specs.Truth.{times}
use Rattle.ps_bool.specs.Polys.{bool_value, occurs}
use Rattle.ps_phase.specs.declared.terms.Term.{Term}
use Rattle.ps_phase.specs.Phases.{phase_value, phase_occurs, IsPhasePoly}
use Rattle.ps_sum.specs.Counts.{raw_term}
use Rattle.ps_sum.specs.Outs.{values}
use Rattle.ps_sum.specs.declared.sums.PathSum.{PathSum}
use Rattle.ps_join.specs.Changing.{AllShort}

-- S is S1 with f of its outputs for outputs, and with P of them more in its phase
pub record IsBehind (S1 : PathSum) (f : Truths → Truths) (P : Truths → ℕ) (S : PathSum) : Type 0 where
  pub n_is : S.n ≡ S1.n
  pub m_is : S.m ≡ S1.m
  pub k_is : S.k ≡ S1.k
  pub wide : length S.outs ≡ length S1.outs
  pub phase_is : (a : ℕ → Bool) → phase_value S.phase a % 4294967296 ≡ (phase_value S1.phase a + P (values S1.outs a)) % 4294967296
  pub outs_are : (a : ℕ → Bool) → values S.outs a ≡ f (values S1.outs a)

-- S is S1 with more in its phase
pub record IsAdded (S1 : PathSum) (more : List Term) (S : PathSum) : Type 0 where
  pub n_is : S.n ≡ S1.n
  pub m_is : S.m ≡ S1.m
  pub k_is : S.k ≡ S1.k
  pub outs_are : S.outs ≡ S1.outs
  pub phase_is : (a : ℕ → Bool) → phase_value S.phase a % 4294967296 ≡ (phase_value S1.phase a + phase_value more a) % 4294967296

-- p is the phase w where f is 1, and passes no limit on the way there
pub record IsLift (f : List (List ℕ)) (w : ℕ) (p : List Term) : Type 0 where
  pub form : IsPhasePoly p
  pub value : (a : ℕ → Bool) → phase_value p a % 4294967296 ≡ times (bool_value f a) w % 4294967296
  pub variables : (v : ℕ) → phase_occurs v p ≡ true → occurs v f ≡ true
  pub made : raw_term w (length f) ≤ 65536
  pub few : length p ≤ 65536

-- behind S few variables are named and no sum of two outputs is too long
pub record IsNear (S : PathSum) : Type 0 where
  pub named : 2 * S.n + S.m ≤ 512
  pub short : AllShort S.outs
