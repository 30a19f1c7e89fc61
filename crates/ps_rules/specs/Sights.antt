-- What is remembered of one variable while the terms of a phase polynomial are read, and what that decides.
use Rattle.std.specs.Prelude.{ℕ, ◌≡◌, ◌≢◌, ◌<◌, ◌≤◌, ◌+◌, ◌⊎◌, Bool, true, false, not, ◌&&◌, ◌||◌, nat_eq, List, [], ◌∷◌, length, get_or}
use Rattle.ps_mono.specs.Sets.{stands}
use Rattle.ps_phase.specs.declared.terms.Term.{Term}
use Rattle.ps_phase.specs.Phases.{phase_occurs, coefficient}
use Rattle.ps_sum.specs.declared.sums.PathSum.{PathSum}
use Rattle.ps_sum.specs.Outs.{outs_occur}
use Rattle.ps_rules.specs.declared.steps.Step.{Step}
use Rattle.ps_rules.specs.declared.steps.Step.TheVariants.{Hh}
use Rattle.ps_rules.specs.declared.sights.Kind.{Kind}
use Rattle.ps_rules.specs.declared.sights.Kind.TheVariants.{Free, Halves, Quarter, Other}
use Rattle.ps_rules.specs.declared.sights.Sight.{Sight}
use Rattle.ps_rules.specs.Terms.{EachWith, IsHalf}
use Rattle.ps_rules.specs.Rules.{Applies, first_of, second_of}

-- a quarter of a turn, or three
abbrev pub IsQuarter : ℕ → Type 0
IsQuarter c = (c ≡ 1073741824) ⊎ (c ≡ 3221225472)

-- a term with v that some step at v allows
abbrev pub IsFine : ℕ → Term → Type 0
IsFine v t = IsHalf t ⊎ ((t.mono ≡ v ∷ []) × IsQuarter t.phase)

-- u stands in a term with v that has two variables
unfoldable pub in_pair : ℕ → ℕ → List Term → Bool
in_pair v u [] = false
in_pair v u (t ∷ ts) = ((stands v t.mono && nat_eq (length t.mono) 2) && stands u t.mono) || in_pair v u ts

-- u stands in a term with v that has another number of variables
unfoldable pub in_wide : ℕ → ℕ → List Term → Bool
in_wide v u [] = false
in_wide v u (t ∷ ts) = ((stands v t.mono && not (nat_eq (length t.mono) 2)) && stands u t.mono) || in_wide v u ts

pub record Partners (v : ℕ) (ts : List Term) (pairs wide : List ℕ) : Type 0 where
  pub pairs_are : (u : ℕ) → stands u pairs ≡ in_pair v u ts
  pub wide_are : (u : ℕ) → stands u wide ≡ in_wide v u ts

-- v stands in no output, and in no term
pub record IsFree (v : ℕ) (outs : List (List (List ℕ))) (ts : List Term) (pairs wide : List ℕ) : Type 0 where
  pub silent : outs_occur v outs ≡ false
  pub absent : phase_occurs v ts ≡ false
  pub partners : Partners v ts pairs wide

-- v stands in no output, and its terms are half a turn each
pub record IsHalves (v : ℕ) (outs : List (List (List ℕ))) (ts : List Term) (pairs wide : List ℕ) : Type 0 where
  pub silent : outs_occur v outs ≡ false
  pub present : phase_occurs v ts ≡ true
  pub halves : EachWith v IsHalf ts
  pub partners : Partners v ts pairs wide

-- v stands in no output, it alone turns by a quarter or three, and its other terms are half a turn each
pub record IsQuartered (v : ℕ) (outs : List (List (List ℕ))) (ts : List Term) : Type 0 where
  pub silent : outs_occur v outs ≡ false
  pub quarter : IsQuarter (coefficient (v ∷ []) ts)
  pub halves : EachWith v (λ t. t.mono ≢ v ∷ [] → IsHalf t) ts

-- v stands in no output, and each of its terms is half a turn
pub record AllHalves (v : ℕ) (outs : List (List (List ℕ))) (ts : List Term) (pairs wide : List ℕ) : Type 0 where
  pub silent : outs_occur v outs ≡ false
  pub halves : EachWith v IsHalf ts
  pub partners : Partners v ts pairs wide

-- no step goes at v, whatever comes later
abbrev pub IsSpoilt : ℕ → List (List (List ℕ)) → List Term → Type 0
IsSpoilt v outs ts = outs_occur v outs ≡ false → EachWith v (λ t. IsFine v t) ts → ⊥

abbrev pub SeenAs : Kind → ℕ → List (List (List ℕ)) → List Term → List ℕ → List ℕ → Type 0
SeenAs Free v outs ts pairs wide = IsFree v outs ts pairs wide
SeenAs Halves v outs ts pairs wide = IsHalves v outs ts pairs wide
SeenAs Quarter v outs ts pairs wide = IsQuartered v outs ts
SeenAs Other v outs ts pairs wide = IsSpoilt v outs ts

-- s is what is to be remembered of v after these terms
abbrev pub Seen : ℕ → List (List (List ℕ)) → List Term → Sight → Type 0
Seen v outs ts s = SeenAs s.kind v outs ts s.pairs s.wide

-- s is what is to be remembered before any term, of a variable that stands in an output where b is true
abbrev pub IsFresh : Bool → Sight → Type 0
IsFresh b s = (v : ℕ) (outs : List (List (List ℕ))) → b ≡ outs_occur v outs → Seen v outs [] s

-- each of the variables from base on is remembered so that R
abbrev pub EachSight : (ℕ → Sight → Type 0) → ℕ → List Sight → Type 0
EachSight R base sights = (k : ℕ) (d : Sight) → k < length sights → R (base + k) (get_or sights k d)

-- no step takes path variable y away
abbrev pub NoneAt : PathSum → ℕ → Type 0
NoneAt S y = (t : Step) → first_of t ≡ y → Applies S t → ⊥

-- s takes path variable y away, and no Hh with a lesser second variable does
pub record FirstAt (S : PathSum) (y : ℕ) (s : Step) : Type 0 where
  pub place : first_of s ≡ y
  pub applies : Applies S s
  pub second_least : (y1 : ℕ) → y1 < second_of s → Applies S (Hh y y1) → ⊥

-- u is a path variable other than y, and stands in none of the terms that have not two variables
pub record IsPartner (n y : ℕ) (wide : List ℕ) (u : ℕ) : Type 0 where
  pub path : n ≤ u
  pub apart : u ≢ n + y
  pub lone : stands u wide ≡ false

-- no step takes one of the path variables from low up to high away
abbrev pub NoneFrom : PathSum → ℕ → ℕ → Type 0
NoneFrom S low high = (y : ℕ) → low ≤ y → y < high → NoneAt S y

-- s is the first step at a path variable from low on
pub record FirstFrom (S : PathSum) (low : ℕ) (s : Step) : Type 0 where
  pub above : low ≤ first_of s
  pub first : FirstAt S (first_of s) s
  pub none : NoneFrom S low (first_of s)
