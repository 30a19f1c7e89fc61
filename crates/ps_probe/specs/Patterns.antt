-- Patterns of fixed inputs: as words, as sets of inputs, and in sums.
use Rattle.std.specs.Prelude.{ℕ, zero, suc, ◌≡◌, ◌≤◌, ◌<◌, ◌+◌, ◌%◌, ◌⊎◌, ◌&&◌, not, nat_eq, nat_lt, cond, Bool, true, false, List, [], length, get_or}
use Rattle.ps_ring.specs.Truths.{Truths, bit}
use Rattle.ps_mono.specs.Sets.{is_set, holds, stands, IsVarSet}
use Rattle.ps_phase.specs.Phases.{phase_value, phase_occurs}
use Rattle.ps_sum.specs.declared.sums.PathSum.{PathSum}
use Rattle.ps_probe.specs.declared.pattern.Pattern.{Pattern}

-- ---- the word of a pattern
-- `0`, `1` or `-`
abbrev pub IsMark : ℕ → Type 0
IsMark c = (c ≡ 48) ⊎ ((c ≡ 49) ⊎ (c ≡ 45))

-- 1 to 64 of these
pub record IsWord (w : List ℕ) : Type 0 where
  pub some : 1 ≤ length w
  pub few : length w ≤ 64
  pub marks : (i : ℕ) → i < length w → IsMark (get_or w i 45)

-- the pattern has the word's length; input i is fixed where character i is no `-`, and to 1 where it is `1`. All other bits are 0
pub record Spells (w : List ℕ) (p : Pattern) : Type 0 where
  pub word : IsWord w
  pub len_is : p.len ≡ length w
  pub fixed_is : (i : ℕ) → is_set p.fixed i ≡ not (nat_eq (get_or w i 45) 45)
  pub ones_is : (i : ℕ) → is_set p.ones i ≡ nat_eq (get_or w i 45) 49

-- ---- its inputs
-- input i is fixed
abbrev pub is_fixed : Pattern → ℕ → Bool
is_fixed p i = nat_lt i p.len && is_set p.fixed i

-- and to 1
abbrev pub is_one : Pattern → ℕ → Bool
is_one p i = is_set p.ones i

-- of n inputs i alone is fixed, to this
pub record IsFixing (n i : ℕ) (b : Bool) (p : Pattern) : Type 0 where
  pub len_is : p.len ≡ n
  pub fixed_is : (v : ℕ) → is_set p.fixed v ≡ nat_eq v i
  pub one_is : is_one p i ≡ b

-- how many of the first n inputs are free
unfoldable pub free_count : Pattern → ℕ → ℕ
free_count p zero = 0
free_count p (suc n) = free_count p n + cond (is_fixed p n) 0 1

-- each fixed input is as the pattern says
abbrev pub Matches : Pattern → Truths → Type 0
Matches p x = (i : ℕ) → is_fixed p i ≡ true → bit x i ≡ is_one p i

-- the assignment with the fixed inputs put in
abbrev pub set_by : Pattern → (ℕ → Bool) → ℕ → Bool
set_by p a v = cond (is_fixed p v) (is_one p v) (a v)

-- the second set is the first one with the fixed inputs put in
pub record IsFilled (p : Pattern) (bits at : List ℕ) : Type 0 where
  pub values : (v : ℕ) → stands v at ≡ set_by p (λ u. stands u bits) v
  pub form : IsVarSet at

-- ---- in sums
-- the second monomial is the first one without the fixed inputs, all of which are 1
pub record IsMonoFixed (p : Pattern) (m k : List ℕ) : Type 0 where
  pub value : (a : ℕ → Bool) → holds k a ≡ holds m (set_by p a)
  pub members : (v : ℕ) → stands v k ≡ (stands v m && not (is_fixed p v))

-- R is the closed sum S with the fixed inputs put in, which don't stand in its phase any more
pub record IsRestricted (p : Pattern) (S R : PathSum) : Type 0 where
  pub n_is : R.n ≡ S.n
  pub m_is : R.m ≡ S.m
  pub k_is : R.k ≡ S.k
  pub no_outs : R.outs ≡ []
  pub phase_is : (a : ℕ → Bool) → phase_value R.phase a % 4294967296 ≡ phase_value S.phase (set_by p a) % 4294967296
  pub gone : (v : ℕ) → is_fixed p v ≡ true → phase_occurs v R.phase ≡ false
