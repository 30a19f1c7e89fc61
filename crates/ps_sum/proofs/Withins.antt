-- Which parts make a path sum.
use Rattle.std.proofs.Common.{◌≡◌, ℕ, ◌+◌, refl, ap, sym, ◌∙◌, arith, ◌<◌, ◌≤◌, Bool, true, false, cond, nat_eq, nat_lt, IsTrue, List, [], ◌∷◌, ◌++◌, length, take, get_or}
use Rattle.std.proofs.lemmas.Bool.Decides.{nat_tests}
use Rattle.std.proofs.lemmas.List.{take_more, take_all}
use Rattle.ps_mono.specs.Sets.{holds, stands}
use Rattle.ps_mono.proofs.Laws.{holds_at, fails}
use Rattle.ps_bool.specs.Polys.{occurs, IsPoly}
use Rattle.ps_phase.specs.declared.terms.Term.{Term}
use Rattle.ps_phase.specs.Phases.{phase_occurs}
use Rattle.ps_phase.proofs.Values.{free_push}
use Rattle.ps_sum.specs.Forms.{AllPolys}
use Rattle.ps_sum.specs.Outs.{outs_occur}
use Rattle.ps_sum.proofs.Lifts.{occurs_get, mono_free}
use Rattle.ps_sum.proofs.Closings.{occurs_push, outs_push, outs_get}

clash : {b : Bool} → b ≡ true → b ≡ false → ⊥
clash e f = cc

pub never : IsTrue false → ⊥
never e = cc

pub is_true : {b : Bool} → b ≡ true → IsTrue b
is_true e = e

-- ---- the first variables
pub first_none : (bits : List ℕ) → bits ≡ [] → (u : ℕ) → stands u bits ≡ nat_lt u 0
unfolding stands
first_none bits e u = ap (stands u) e ∙ grind (arith, nat_tests)

pub first_next : (bits bits' : List ℕ) (v : ℕ) → ((u : ℕ) → stands u bits' ≡ cond (nat_eq u v) true (stands u bits)) → ((u : ℕ) → stands u bits ≡ nat_lt u v) → (u : ℕ) → stands u bits' ≡ nat_lt u (v + 1)
first_next bits bits' v f g u = f u ∙ ap (λ b. cond (nat_eq u v) true b) (g u) ∙ more u v
  where
    more : (u v : ℕ) → cond (nat_eq u v) true (nat_lt u v) ≡ nat_lt u (v + 1)
    more u v = grind (arith, nat_tests)

-- ---- monomials of some names
inside : (m names : List ℕ) (r : Bool) (v : ℕ) → r ≡ holds m (λ u. stands u names) → r ≡ true → stands v names ≡ false → stands v m ≡ false
inside m names r v e t n = by (stands v m) refl
  where
    by : (b : Bool) → stands v m ≡ b → b ≡ false
    by true s = absurd (clash (holds_at m (λ u. stands u names) v (sym e ∙ t) s) n)
    by false s = refl

-- ---- terms
abbrev pub PhaseWithin : List ℕ → List Term → Type 0
PhaseWithin names ts = (v : ℕ) → stands v names ≡ false → phase_occurs v ts ≡ false

pub phase_start : (names : List ℕ) → PhaseWithin names []
unfolding phase_occurs
phase_start names v n = refl

pub phase_next : (names : List ℕ) (ts : List Term) (i : ℕ) (t : Term) (r : Bool) → i < length ts → t ≡ get_or ts i t → r ≡ holds t.mono (λ u. stands u names) → r ≡ true → PhaseWithin names (take i ts) → PhaseWithin names (take (i + 1) ts)
phase_next names ts i t r h et e q g v n =
    ap (phase_occurs v) (take_more ts i t h ∙ ap (λ (x : Term). take i ts ++ x ∷ []) (sym et))
    ∙ free_push v (take i ts) t (g v n) (inside t.mono names r v e q n)

pub phase_end : (names : List ℕ) (p ts : List Term) (i : ℕ) → ts ≡ p → length ts ≤ i → PhaseWithin names (take i ts) → IsTrue true → PhaseWithin names p
phase_end names p ts i ep h g q v n = ap (phase_occurs v) (sym ep ∙ sym (take_all i ts h)) ∙ g v n

pub phase_out : (names : List ℕ) (p ts : List Term) (i : ℕ) (t : Term) (r : Bool) → ts ≡ p → i < length ts → t ≡ get_or ts i t → r ≡ holds t.mono (λ u. stands u names) → r ≡ false → PhaseWithin names p → IsTrue false
phase_out names p ts i t r ep h et e q g =
    let x = fails t.mono (λ u. stands u names) (sym e ∙ q) in
    absurd (clash x.1 (occurs_get x.0 ts i t h et (ap (phase_occurs x.0) ep ∙ g x.0 x.2)))

-- ---- monomials
abbrev pub BoolWithin : List ℕ → List (List ℕ) → Type 0
BoolWithin names f = (v : ℕ) → stands v names ≡ false → occurs v f ≡ false

pub bool_start : (names : List ℕ) → BoolWithin names []
unfolding occurs
bool_start names v n = refl

pub bool_next : (names : List ℕ) (f : List (List ℕ)) (i : ℕ) (m : List ℕ) (r : Bool) → i < length f → m ≡ get_or f i m → r ≡ holds m (λ u. stands u names) → r ≡ true → BoolWithin names (take i f) → BoolWithin names (take (i + 1) f)
bool_next names f i m r h em e q g v n =
    ap (occurs v) (take_more f i m h ∙ ap (λ (x : List ℕ). take i f ++ x ∷ []) (sym em))
    ∙ occurs_push v (take i f) m (g v n) (inside m names r v e q n)

pub bool_end : (names : List ℕ) (p f : List (List ℕ)) (i : ℕ) → f ≡ p → length f ≤ i → BoolWithin names (take i f) → IsTrue true → BoolWithin names p
bool_end names p f i ep h g q v n = ap (occurs v) (sym ep ∙ sym (take_all i f h)) ∙ g v n

pub bool_out : (names : List ℕ) (p f : List (List ℕ)) (i : ℕ) (m : List ℕ) (r : Bool) → f ≡ p → i < length f → m ≡ get_or f i m → r ≡ holds m (λ u. stands u names) → r ≡ false → BoolWithin names p → IsTrue false
bool_out names p f i m r ep h em e q g =
    let x = fails m (λ u. stands u names) (sym e ∙ q) in
    absurd (clash x.1 (mono_free x.0 f i m h em (ap (occurs x.0) ep ∙ g x.0 x.2)))

-- ---- outputs
abbrev pub OutsWithin : List ℕ → List (List (List ℕ)) → Type 0
OutsWithin names fs = (v : ℕ) → stands v names ≡ false → outs_occur v fs ≡ false

pub outs_begin : (names : List ℕ) → OutsWithin names []
unfolding outs_occur
outs_begin names v n = refl

pub outs_next : (names : List ℕ) (fs : List (List (List ℕ))) (i : ℕ) (f : List (List ℕ)) → i < length fs → f ≡ get_or fs i f → BoolWithin names f → OutsWithin names (take i fs) → OutsWithin names (take (i + 1) fs)
outs_next names fs i f h ef q g v n =
    ap (outs_occur v) (take_more fs i f h ∙ ap (λ (x : List (List ℕ)). take i fs ++ x ∷ []) (sym ef))
    ∙ outs_push v (take i fs) f (g v n) (q v n)

pub outs_all : (names : List ℕ) (p fs : List (List (List ℕ))) (i : ℕ) → fs ≡ p → length fs ≤ i → OutsWithin names (take i fs) → OutsWithin names p
outs_all names p fs i ep h g v n = ap (outs_occur v) (sym ep ∙ sym (take_all i fs h)) ∙ g v n

pub outs_out : (names : List ℕ) (p fs : List (List (List ℕ))) (i : ℕ) (f : List (List ℕ)) → fs ≡ p → i < length fs → f ≡ get_or fs i f → (BoolWithin names f → ⊥) → OutsWithin names p → ⊥
outs_out names p fs i f ep h ef lacks g = lacks (λ v n. outs_get v fs i f h ef (ap (outs_occur v) ep ∙ g v n))

pub polys_next : (fs : List (List (List ℕ))) (i : ℕ) (f : List (List ℕ)) → i < length fs → f ≡ get_or fs i f → IsPoly f → AllPolys (take i fs) → AllPolys (take (i + 1) fs)
polys_next fs i f h ef q g = subst' (sym (take_more fs i f h ∙ ap (λ (x : List (List ℕ)). take i fs ++ x ∷ []) (sym ef))) (push (take i fs) f g q)
  where
    push : (gs : List (List (List ℕ))) (g : List (List ℕ)) → AllPolys gs → IsPoly g → AllPolys (gs ++ g ∷ [])
    push [] g a q = (q, tt)
    push (x ∷ gs) g a q = (a.0, push gs g a.1 q)

    subst' : {xs ys : List (List (List ℕ))} → xs ≡ ys → AllPolys xs → AllPolys ys
    subst' e a = rw (sym e) a

pub polys_all : (p fs : List (List (List ℕ))) (i : ℕ) → fs ≡ p → length fs ≤ i → AllPolys (take i fs) → AllPolys p
polys_all p fs i ep h g = rw (sym ep ∙ sym (take_all i fs h)) g
