-- The first input at which a closed sum is not 1.
use Rattle.std.specs.Prelude.{ℕ, ◌≡◌, ◌≤◌, ◌<◌, ◌↔◌, Bool, true, false, Option, Some, None, List, [], length}
use Rattle.ps_ring.specs.Truths.{Truths, bit}
use Rattle.ps_mono.specs.Sets.{stands, IsVarSet}
use Rattle.ps_prim.specs.Overlaps.{IsOne}
use Rattle.ps_sum.specs.declared.sums.PathSum.{PathSum}
use Rattle.ps_sum.specs.Sums.{path_values}
use Rattle.ps_overlap.specs.Overlapping.{point}
use Rattle.ps_probe.specs.declared.pattern.Pattern.{Pattern}
use Rattle.ps_probe.specs.Patterns.{is_fixed, is_one, Matches}

-- x comes before z, input 0 being the highest digit
pub record Before (x z : Truths) : Type 0 where
  pub place : ℕ
  pub lower : bit x place ≡ false
  pub higher : bit z place ≡ true
  pub equal : (i : ℕ) → i < place → bit x i ≡ bit z i

-- before input `from` x is as the set
abbrev pub Extends : List ℕ → ℕ → Truths → Type 0
Extends at from x = (i : ℕ) → i < from → bit x i ≡ stands i at

-- the sum is 1 at each input that matches the pattern and is such
abbrev pub AllOne : Pattern → PathSum → (Truths → Type 0) → Type 0
AllOne p S Such = (x : Truths) → length x ≡ S.n → Matches p x → Such x → IsOne (path_values S) x

-- of these inputs, that of the set is the first at which the sum is not 1
pub record IsFirstOther (p : Pattern) (S : PathSum) (Such : Truths → Type 0) (at : List ℕ) : Type 0 where
  pub matches : Matches p (point S.n at)
  pub such : Such (point S.n at)
  pub other : ¬ (IsOne (path_values S) (point S.n at))
  pub first : AllOne p S (λ x. Such x × Before x (point S.n at))
  pub below : (v : ℕ) → S.n ≤ v → stands v at ≡ false
  pub form : IsVarSet at

-- at each input of which input i is so, the closed sum R is 1 where S is
pub record IsHalf (S : PathSum) (i : ℕ) (b : Bool) (R : PathSum) : Type 0 where
  pub n_is : R.n ≡ S.n
  pub m_is : R.m ≡ S.m
  pub no_outs : R.outs ≡ []
  pub one : (x : Truths) → length x ≡ S.n → bit x i ≡ b → IsOne (path_values R) x ↔ IsOne (path_values S) x

-- no input from the sum's number of them on is in the set, and before input `from` the fixed ones are as the pattern says
pub record IsBegun (p : Pattern) (S : PathSum) (at : List ℕ) (from : ℕ) : Type 0 where
  pub below : (v : ℕ) → S.n ≤ v → stands v at ≡ false
  pub fixed : (i : ℕ) → i < from → is_fixed p i ≡ true → stands i at ≡ is_one p i

-- what is found among the inputs that are as such a set before input `from`
abbrev pub Searched : Pattern → PathSum → List ℕ → ℕ → Option (List ℕ) → Type 0
Searched p S at from None = AllOne p S (Extends at from)
Searched p S at from (Some found) = IsFirstOther p S (Extends at from) found
