-- Variables that no step takes away, gathered.
use Rattle.std.proofs.Common.{◌≡◌, ℕ, ◌+◌, refl, ap, sym, ◌∙◌, subst, ◌<◌, ◌≤◌, Bool, true, false, ◌||◌, List, [], ◌∷◌, ◌++◌, length, take, drop, get_or}
use Rattle.std.proofs.lemmas.List.{take_more, take_all, take-append-drop}
use Rattle.ps_mono.specs.Sets.{stands}
use Rattle.ps_bool.specs.Polys.{occurs}
use Rattle.ps_phase.specs.declared.terms.Term.{Term}
use Rattle.ps_sum.specs.Outs.{outs_occur}
use Rattle.ps_rules.specs.Sights.{IsFine, IsSpoilt}
use Rattle.ps_rules.proofs.Seeing.{off, each_last, spoilt_more, spoken_spoilt}
use Rattle.ps_rules.proofs.Windows.{occurs_push, outs_push, more_is}

or_move : (p q r : Bool) → ((p || q) || r) ≡ (p || (q || r))
or_move true q r = refl
or_move false q r = refl

or_none : (p : Bool) → (p || false) ≡ p
or_none true = refl
or_none false = refl

-- ---- a polynomial
abbrev pub Gathered : List ℕ → List (List ℕ) → List ℕ → Type 0
Gathered start f m = (v : ℕ) → stands v m ≡ (stands v start || occurs v f)

pub poly_start : (start : List ℕ) (f : List (List ℕ)) (m : List ℕ) → m ≡ start → Gathered start (take 0 f) m
unfolding occurs
poly_start start f m e v = ap (stands v) e ∙ sym (or_none (stands v start))

pub poly_more : (start : List ℕ) (f : List (List ℕ)) (i : ℕ) (k old new : List ℕ) → i < length f → k ≡ get_or f i k → ((v : ℕ) → stands v new ≡ (stands v old || stands v k)) → Gathered start (take i f) old → Gathered start (take (i + 1) f) new
poly_more start f i k old new l e u h v =
    let t : occurs v (take (i + 1) f) ≡ (occurs v (take i f) || stands v k) = ap (occurs v) (take_more f i k l ∙ ap (λ (r : List ℕ). take i f ++ r ∷ []) (sym e)) ∙ occurs_push v (take i f) k in
    u v ∙ ap (λ b. b || stands v k) (h v) ∙ or_move (stands v start) (occurs v (take i f)) (stands v k) ∙ ap (λ b. stands v start || b) (sym t)

pub poly_end : (start : List ℕ) (g f : List (List ℕ)) (i : ℕ) (m : List ℕ) → f ≡ g → length f ≤ i → Gathered start (take i f) m → Gathered start g m
poly_end start g f i m e l h = subst (λ (r : List (List ℕ)). Gathered start r m) (take_all i f l ∙ e) h

-- ---- the outputs
abbrev pub Spoken : List (List (List ℕ)) → List ℕ → Type 0
Spoken fs m = (v : ℕ) → stands v m ≡ outs_occur v fs

pub outs_start : (fs : List (List (List ℕ))) (m : List ℕ) → m ≡ [] → Spoken (take 0 fs) m
unfolding stands outs_occur
outs_start fs m e v = ap (stands v) e

pub outs_more : (fs : List (List (List ℕ))) (i : ℕ) (f : List (List ℕ)) (old new : List ℕ) → i < length fs → f ≡ get_or fs i f → Gathered old f new → Spoken (take i fs) old → Spoken (take (i + 1) fs) new
outs_more fs i f old new l e g h v =
    let t : outs_occur v (take (i + 1) fs) ≡ (outs_occur v (take i fs) || occurs v f) = ap (outs_occur v) (take_more fs i f l ∙ ap (λ (r : List (List ℕ)). take i fs ++ r ∷ []) (sym e)) ∙ outs_push v (take i fs) f in
    g v ∙ ap (λ b. b || occurs v f) (h v) ∙ sym t

pub outs_end : (fs : List (List (List ℕ))) (i : ℕ) (m : List ℕ) → length fs ≤ i → Spoken (take i fs) m → Spoken fs m
outs_end fs i m l h = subst (λ (r : List (List (List ℕ))). Spoken r m) (take_all i fs l) h

-- ---- the terms
pub record Spoilt (outs : List (List (List ℕ))) (ts : List Term) (m : List ℕ) : Type 0 where
  pub spoilt : (v : ℕ) → stands v m ≡ true → IsSpoilt v outs ts
  pub silent : (v : ℕ) → stands v m ≡ false → outs_occur v outs ≡ false

left_none : (p q : Bool) → (p || q) ≡ false → p ≡ false
left_none true q e = e
left_none false q e = refl

pub terms_start : (fs outs : List (List (List ℕ))) (ts : List Term) (m : List ℕ) → fs ≡ outs → Spoken fs m → Spoilt outs (take 0 ts) m
terms_start fs outs ts m e h = record {
  spoilt = λ v s. spoken_spoilt v outs (take 0 ts) (ap (outs_occur v) (sym e) ∙ sym (h v) ∙ s);
  silent = λ v s. ap (outs_occur v) (sym e) ∙ sym (h v) ∙ s;
}

pub terms_spoil : (outs : List (List (List ℕ))) (ts : List Term) (i : ℕ) (t : Term) (old new : List ℕ) → i < length ts → t ≡ get_or ts i t → ((v : ℕ) → stands v new ≡ (stands v old || stands v t.mono)) → ((v : ℕ) → IsFine v t → ⊥)
    → Spoilt outs (take i ts) old → Spoilt outs (take (i + 1) ts) new
terms_spoil outs ts i t old new l e u k h = record {
  spoilt = λ v s. subst (IsSpoilt v outs) (sym (more_is ts i t l e)) (by v s (stands v old) refl (stands v t.mono) refl);
  silent = λ v s. h.silent v (left_none (stands v old) (stands v t.mono) (sym (u v) ∙ s));
}
  where
    by : (v : ℕ) → stands v new ≡ true → (p : Bool) → stands v old ≡ p → (q : Bool) → stands v t.mono ≡ q → IsSpoilt v outs (take i ts ++ t ∷ [])
    by v s true a q b = spoilt_more v outs (take i ts) (t ∷ []) (h.spoilt v a)
    by v s false a true b = λ n f. k v (each_last v (λ t. IsFine v t) (take i ts) t f b)
    by v s false a false b = absurd (off (sym (u v) ∙ s) (ap (λ x. x || stands v t.mono) a ∙ b))

pub terms_keep : (outs : List (List (List ℕ))) (ts : List Term) (i : ℕ) (t : Term) (old new : List ℕ) → i < length ts → t ≡ get_or ts i t → new ≡ old → Spoilt outs (take i ts) old → Spoilt outs (take (i + 1) ts) new
terms_keep outs ts i t old new l e u h = record {
  spoilt = λ v s. subst (IsSpoilt v outs) (sym (more_is ts i t l e)) (spoilt_more v outs (take i ts) (t ∷ []) (h.spoilt v (ap (stands v) (sym u) ∙ s)));
  silent = λ v s. h.silent v (ap (stands v) (sym u) ∙ s);
}

pub terms_end : (outs : List (List (List ℕ))) (g ts : List Term) (i : ℕ) (m : List ℕ) → ts ≡ g → length ts ≤ i → Spoilt outs (take i ts) m → Spoilt outs g m
terms_end outs g ts i m e l h = subst (λ (r : List Term). Spoilt outs r m) (take_all i ts l ∙ e) h

-- what some of the terms tell of v, all of them do
pub spoilt_early : (v : ℕ) (outs : List (List (List ℕ))) (g ts : List Term) (i : ℕ) → ts ≡ g → IsSpoilt v outs (take i ts) → IsSpoilt v outs g
spoilt_early v outs g ts i e h = subst (IsSpoilt v outs) (take-append-drop i ts ∙ e) (spoilt_more v outs (take i ts) (drop i ts) h)
