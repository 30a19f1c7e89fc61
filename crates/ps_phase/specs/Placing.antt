-- Terms added to those that stand there.
use Rattle.std.specs.Prelude.{ℕ, ◌≡◌, ◌≢◌, ◌+◌, ◌-◌, ◌%◌, ◌<◌, Bool, List, [], ◌∷◌, ◌++◌, length, take, slice_index_or}
use Rattle.std.specs.declared.cmp.Ordering.TheVariants.{Less}
use Rattle.ps_phase.specs.declared.terms.Term.{Term}
use Rattle.ps_mono.specs.Sets.{mono_cmp, holds}
use Rattle.ps_mono.specs.Truth.{times}
use Rattle.ps_phase.specs.Phases.{phase_value, phase_occurs, coefficient, IsTerm, IsPhasePoly}
use Rattle.ps_phase.specs.Adding.{put_term}

-- the monomial m stands at place i
pub record IsPlace (m : List ℕ) (ts : List Term) (i : ℕ) : Type 0 where
  pub inside : i < length ts
  pub mono : (d : Term) → (slice_index_or ts i d).mono ≡ m

-- the monomial of y stands in ts, and its phase with that of y is no whole number of turns
abbrev pub FitsOne : List Term → Term → Type 0
FitsOne ts y = (coefficient y.mono ts ≢ 0) × ((coefficient y.mono ts + y.phase) % 4294967296 ≢ 0)

abbrev pub Fits : List Term → List Term → Type 0
Fits ts [] = Unit {0}
Fits ts (y ∷ ys) = FitsOne ts y × Fits ts ys

-- ts is xs with the phase of y added to that of its monomial
pub record Absorbed (xs : List Term) (y : Term) (ts : List Term) : Type 0 where
  pub form : IsPhasePoly ts
  pub value : (a : ℕ → Bool) → phase_value ts a % 4294967296 ≡ (phase_value xs a + times (holds y.mono a) y.phase) % 4294967296
  pub same : (v : ℕ) → phase_occurs v ts ≡ phase_occurs v xs
  pub others : (m : List ℕ) → m ≢ y.mono → coefficient m ts ≡ coefficient m xs

-- what stands at place i is a term, and its monomial comes after that of the one before it
pub record Follows (ts : List Term) (i : ℕ) : Type 0 where
  pub term : (d : Term) → IsTerm (slice_index_or ts i d)
  pub order : (d : Term) → 0 < i → mono_cmp (slice_index_or ts (i - 1) d).mono (slice_index_or ts i d).mono ≡ Less

-- ts has t behind the first k terms of xs, where its phase is not zero, and the terms from place k + 1 on as they were; r is the place behind t
pub record IsPut (xs : List Term) (k : ℕ) (t : Term) (ts : List Term) (r : ℕ) : Type 0 where
  pub size : length ts ≡ length xs
  pub front : take r ts ≡ take k xs ++ put_term t.mono t.phase []
  pub rest : (j : ℕ) (d : Term) → k < j → slice_index_or ts j d ≡ slice_index_or xs j d
  pub none : t.phase ≡ 0 → r ≡ k
  pub some : t.phase ≢ 0 → r ≡ k + 1
