-- The first step among some variables, of which the others have none.
use Rattle.std.proofs.Common.{◌≡◌, ℕ, ◌+◌, refl, ap, sym, ◌∙◌, subst, arith, ◌<◌, ◌≤◌, Bool, true, false, List, [], ◌∷◌, ◌++◌, length, take, get_or, ◌⊎◌, inl, inr}
use Rattle.std.proofs.lemmas.List.{take_more, take_all}
use Rattle.ps_mono.specs.Sets.{stands, IsVarSet}
use Rattle.ps_mono.proofs.Laws.{set_climbing}
use Rattle.ps_sum.specs.declared.sums.PathSum.{PathSum}
use Rattle.ps_sum.specs.Outs.{outs_occur}
use Rattle.ps_rules.specs.declared.steps.Step.{Step}
use Rattle.ps_rules.specs.declared.steps.Step.TheVariants.{Elim, Hh, Omega}
use Rattle.ps_rules.specs.Rules.{Applies, FirstStep, IsIrreducible, first_of}
use Rattle.ps_rules.specs.Sights.{NoneAt, FirstAt}
use Rattle.ps_rules.proofs.Deciding.{stands_push, lesser_before, place_stands}
use Rattle.ps_rules.proofs.Seeing.{off}

-- P holds of each of the first i variables
abbrev pub EachOf : (ℕ → Type 0) → List ℕ → ℕ → Type 0
EachOf P m i = (u : ℕ) → stands u (take i m) ≡ true → P u

-- no step takes the path variable away that u is
abbrev pub NoStep : PathSum → ℕ → Type 0
NoStep S u = (y : ℕ) → u ≡ S.n + y → NoneAt S y

pub each_start : (P : ℕ → Type 0) (m : List ℕ) → EachOf P m 0
unfolding stands
each_start P m u s = absurd (off s refl)

pub each_more : (P : ℕ → Type 0) (m : List ℕ) (i w : ℕ) → i < length m → w ≡ get_or m i 0 → P w → EachOf P m i → EachOf P m (i + 1)
each_more P m i w l e p h u s = by (stands_push u (take i m) w (ap (stands u) (sym (take_more m i 0 l ∙ ap (λ (x : ℕ). take i m ++ x ∷ []) (sym e))) ∙ s))
  where
    by : ((stands u (take i m) ≡ true) ⊎ (u ≡ w)) → P u
    by (inl t) = h u t
    by (inr t) = subst P (sym t) p

pub each_all : (P : ℕ → Type 0) (m : List ℕ) (i : ℕ) → length m ≤ i → EachOf P m i → (u : ℕ) → stands u m ≡ true → P u
each_all P m i l h u s = h u (ap (stands u) (take_all i m l) ∙ s)

-- none takes a path variable away that the sum does not have
pub outside_none : (S : PathSum) (y : ℕ) → S.m ≤ y → NoneAt S y
outside_none S y l (Elim z) e a = let b = a.inner.inside in absurd (omega arith)
outside_none S y l (Hh z u) e a = let b = a.inner.inside in absurd (omega arith)
outside_none S y l (Omega z) e a = let b = a.inner.inside in absurd (omega arith)

-- ---- all of them
pub among_none : (S : PathSum) (m : List ℕ) (i : ℕ) → length m ≤ i → ((y : ℕ) → stands (S.n + y) m ≡ false → NoneAt S y) → EachOf (NoStep S) m i → IsIrreducible S
among_none S m i l q h s a = by (stands (S.n + first_of s) m) refl
  where
    by : (b : Bool) → stands (S.n + first_of s) m ≡ b → ⊥
    by true t = each_all (NoStep S) m i l h (S.n + first_of s) t (first_of s) refl s refl a
    by false t = q (first_of s) t s refl a

pub among_first : (S : PathSum) (m : List ℕ) (i w : ℕ) (s : Step) → IsVarSet m → i < length m → w ≡ get_or m i 0 → ((y : ℕ) → stands (S.n + y) m ≡ false → NoneAt S y) → EachOf (NoStep S) m i → w ≡ S.n + first_of s → FirstAt S (first_of s) s → FirstStep S s
among_first S m i w s v l e q h f a = record { applies = a.applies; least = λ t k b. by t k b (stands (S.n + first_of t) m) refl; second_least = a.second_least }
  where
    by : (t : Step) → first_of t < first_of s → Applies S t → (b : Bool) → stands (S.n + first_of t) m ≡ b → ⊥
    by t k b true c =
        let d : S.n + first_of t < get_or m i 0 = omega arith in
        h (S.n + first_of t) (lesser_before m i (S.n + first_of t) (set_climbing m v) l d c) (first_of t) refl t refl b
    by t k b false c = q (first_of t) c t refl b

-- ---- which of them stand in an output
-- u is an input, or stands in an output
abbrev pub Spoken : List (List (List ℕ)) → ℕ → ℕ → Type 0
Spoken outs n u = n ≤ u → outs_occur u outs ≡ true

pub not_spoken : (outs : List (List (List ℕ))) (n i w : ℕ) (m : List ℕ) → i < length m → w ≡ get_or m i 0 → (Spoken outs n w → ⊥) → ((v : ℕ) → n ≤ v → stands v m ≡ true → outs_occur v outs ≡ true) → ⊥
not_spoken outs n i w m l e k h = k (λ o. h w o (place_stands m i w l e))

-- ---- for callers
-- a variable that stands in an output has no step
pub spoken_none : (S : PathSum) (y : ℕ) → outs_occur (S.n + y) S.outs ≡ true → NoneAt S y
spoken_none S y o (Elim z) e a = off o (subst (λ (x : ℕ). outs_occur (S.n + x) S.outs ≡ false) e a.inner.silent)
spoken_none S y o (Hh z u) e a = off o (subst (λ (x : ℕ). outs_occur (S.n + x) S.outs ≡ false) e a.inner.silent)
spoken_none S y o (Omega z) e a = off o (subst (λ (x : ℕ). outs_occur (S.n + x) S.outs ≡ false) e a.inner.silent)

-- no step applies where each variable that may have one stands in an output
pub spoken_irreducible : (S : PathSum) (m : List ℕ) → ((y : ℕ) → stands (S.n + y) m ≡ false → NoneAt S y) → ((v : ℕ) → S.n ≤ v → stands v m ≡ true → outs_occur v S.outs ≡ true) → IsIrreducible S
spoken_irreducible S m q h s a = by (stands (S.n + first_of s) m) refl
  where
    by : (b : Bool) → stands (S.n + first_of s) m ≡ b → ⊥
    by true t = spoken_none S (first_of s) (h (S.n + first_of s) (omega arith) t) s refl a
    by false t = q (first_of s) t s refl a
