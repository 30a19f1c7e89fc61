-- The loop that closes two names up at once.
use Rattle.std.proofs.Common.{◌≡◌, ◌≢◌, ℕ, suc, ◌+◌, refl, ap, ap₂, sym, ◌∙◌, subst, arith, ◌<◌, ◌≤◌, Bool, true, false, not, ◌&&◌, List, [], ◌∷◌, ◌++◌, length, map, take, set, get_or, ◌⊎◌, inl, inr}
use Rattle.std.proofs.lemmas.Bool.{cases_lt}
use Rattle.std.proofs.lemmas.Bool.Decides.{nat_tests}
use Rattle.std.proofs.lemmas.List.{take_more, take_all, get_or-set_other}
use Rattle.std.proofs.Math.ListN.{length-set}
use Rattle.std.proofs.Math.Seq.{take-suc-set}
use Rattle.ps_mono.specs.Sets.{stands, IsVarSet}
use Rattle.ps_bool.specs.Polys.{occurs, IsPoly}
use Rattle.ps_phase.specs.declared.terms.Term.{Term}
use Rattle.ps_phase.specs.Phases.{phase_occurs, IsPhasePoly}
use Rattle.ps_phase.specs.Adding.{terms_where, terms_without}
use Rattle.ps_phase.proofs.Scaling.{selected_form}
use Rattle.ps_sum.specs.Names.{opened}
use Rattle.ps_sum.specs.Outs.{outs_occur}
use Rattle.ps_rules.specs.Closing.{closed_mono, closed_term, closed_terms, settled_terms, closed_monos, closed_polys}
use Rattle.ps_rules.proofs.Moved.{Moved, moved, term_free}
use Rattle.ps_rules.proofs.Closes.{polys_stay, bool_occurs_closed, poly_closed, stands_closed, set_closed, without_push, without_skip, terms_push, form_closed, none_left}

-- neither stands there
pub apart_high : (p q : Bool) → (not p && not q) ≡ true → p ≡ false
apart_high false q e = refl
apart_high true q e = cc

pub apart_low : (p q : Bool) → (not p && not q) ≡ true → q ≡ false
apart_low false false e = refl
apart_low false true e = cc
apart_low true q e = cc

open_low : (low high : ℕ) → low < high → opened high low ≡ low
unfolding opened
open_low low high h = grind (arith, nat_tests)

pub low_stays : (low high : ℕ) (m : List ℕ) → low < high → stands high m ≡ false → stands low (closed_mono high m) ≡ stands low m
low_stays low high m h n = stands_closed high low m n ∙ ap (λ v. stands v m) (open_low low high h)

-- one monomial, closed up for both
pub stands_twice : (low high w : ℕ) (m : List ℕ) → low < high → stands low m ≡ false → stands high m ≡ false → stands w (closed_mono low (closed_mono high m)) ≡ stands (opened high (opened low w)) m
stands_twice low high w m h n k = stands_closed low w (closed_mono high m) (low_stays low high m h k ∙ n) ∙ stands_closed high (opened low w) m k

pub set_twice : (low high : ℕ) (m : List ℕ) → low < high → stands low m ≡ false → stands high m ≡ false → IsVarSet m → IsVarSet (closed_mono low (closed_mono high m))
set_twice low high m h n k s = set_closed low (closed_mono high m) (low_stays low high m h k ∙ n) (set_closed high m k s)

-- the same by equal names
pub name_is : (v u : ℕ) (m : List ℕ) → v ≡ u → stands u m ≡ false → stands v m ≡ false
name_is v u m e h = ap (λ x. stands x m) e ∙ h

pub pair_is : (l h low high : ℕ) (m n : List ℕ) → l ≡ low → h ≡ high → n ≡ closed_mono l (closed_mono h m) → n ≡ closed_mono low (closed_mono high m)
pair_is l h low high m n a b e = e ∙ ap₂ (λ x y. closed_mono x (closed_mono y m)) a b

abbrev pub twice : ℕ → ℕ → List Term → List Term
twice low high ts = settled_terms low (settled_terms high ts)

-- one term more
push_high : (high : ℕ) (ts : List Term) (t : Term) → stands high t.mono ≡ false → settled_terms high (ts ++ t ∷ []) ≡ settled_terms high ts ++ closed_term high t ∷ []
push_high high ts t n = ap (closed_terms high) (without_push high ts t n) ∙ terms_push high (terms_without high ts) t

skip_high : (high : ℕ) (ts : List Term) (t : Term) → stands high t.mono ≡ true → settled_terms high (ts ++ t ∷ []) ≡ settled_terms high ts
skip_high high ts t n = ap (closed_terms high) (without_skip high ts t n)

twice_push : (low high : ℕ) (ts : List Term) (t : Term) → low < high → stands high t.mono ≡ false → stands low t.mono ≡ false → twice low high (ts ++ t ∷ []) ≡ twice low high ts ++ closed_term low (closed_term high t) ∷ []
twice_push low high ts t h n m = ap (settled_terms low) (push_high high ts t n) ∙ push_high low (settled_terms high ts) (closed_term high t) (low_stays low high t.mono h n ∙ m)

twice_skip : (low high : ℕ) (ts : List Term) (t : Term) (p q : Bool) → low < high → stands high t.mono ≡ p → stands low t.mono ≡ q → (not p && not q) ≡ false → twice low high (ts ++ t ∷ []) ≡ twice low high ts
twice_skip low high ts t true q h n m e = ap (settled_terms low) (skip_high high ts t n)
twice_skip low high ts t false true h n m e = ap (settled_terms low) (push_high high ts t n) ∙ skip_high low (settled_terms high ts) (closed_term high t) (low_stays low high t.mono h n ∙ m)
twice_skip low high ts t false false h n m e = cc

-- of all the first i were looked at, and the first kept of xs are what is left of them
pub record Twice (low high : ℕ) (all : List Term) (i kept : ℕ) (xs : List Term) : Type 0 where
  pub size : length xs ≡ length all
  pub low_is : kept ≤ i
  pub front : take kept xs ≡ twice low high (take i all)
  pub rest : (k : ℕ) (d : Term) → i ≤ k → get_or xs k d ≡ get_or all k d

pub twice_start : (low high : ℕ) (all : List Term) → Twice low high all 0 0 all
unfolding terms_where
twice_start low high all = record { size = refl; low_is = omega arith; front = refl; rest = λ k d h. refl }

more_terms : (low high : ℕ) (all xs : List Term) (i kept : ℕ) (t : Term) → Twice low high all i kept xs → i < length xs → t ≡ get_or xs i t → take (i + 1) all ≡ take i all ++ t ∷ []
more_terms low high all xs i kept t s l e =
    let la : i < length all = omega (arith, s.size) in
    take_more all i t la ∙ ap (λ (r : Term). take i all ++ r ∷ []) (sym (e ∙ s.rest i t (omega arith)))

pub twice_keep : (low high : ℕ) (all xs ys : List Term) (i kept kept' : ℕ) (t : Term) (m : List ℕ) (b : Bool) → low < high → i < length xs → t ≡ get_or xs i t → b ≡ (not (stands high t.mono) && not (stands low t.mono)) → b ≡ true
    → m ≡ closed_mono low (closed_mono high t.mono) → kept' ≡ kept + 1 → ys ≡ set xs kept (record { mono = m; phase = t.phase }) → Twice low high all i kept xs → Twice low high all (i + 1) kept' ys
twice_keep low high all xs ys i kept kept' t m b h l e eb y em ek ey s =
    let z : Term = record { mono = m; phase = t.phase } in
    let lk : kept < length xs = omega (arith, s.low_is) in
    let one : kept + 1 ≡ suc kept = omega arith in
    let n : (not (stands high t.mono) && not (stands low t.mono)) ≡ true = sym eb ∙ y in
    record {
      size = ap (λ (r : List Term). length r) ey ∙ length-set xs kept z ∙ s.size;
      low_is = omega (arith, s.low_is);
      front =
          ap₂ (λ (k : ℕ) (r : List Term). take k r) (ek ∙ one) ey ∙ take-suc-set xs kept z lk
          ∙ ap₂ (λ (r : List Term) (k : List ℕ). r ++ record { mono = k; phase = t.phase } ∷ []) s.front em
          ∙ sym (ap (twice low high) (more_terms low high all xs i kept t s l e) ∙ twice_push low high (take i all) t h (apart_high _ _ n) (apart_low _ _ n));
      rest = λ k d g.
          let c : k ≢ kept = (let q = s.low_is in omega arith) in
          ap (λ (r : List Term). get_or r k d) ey ∙ rw get_or-set_other (s.rest k d (omega arith));
    }

pub twice_pass : (low high : ℕ) (all xs ys : List Term) (i kept kept' : ℕ) (t : Term) (b : Bool) → low < high → i < length xs → t ≡ get_or xs i t → b ≡ (not (stands high t.mono) && not (stands low t.mono)) → b ≡ false → kept' ≡ kept → ys ≡ xs
    → Twice low high all i kept xs → Twice low high all (i + 1) kept' ys
twice_pass low high all xs ys i kept kept' t b h l e eb y ek ey s = record {
  size = ap (λ (r : List Term). length r) ey ∙ s.size;
  low_is = (let q = s.low_is in omega arith);
  front =
      ap₂ (λ (k : ℕ) (r : List Term). take k r) ek ey ∙ s.front
      ∙ sym (ap (twice low high) (more_terms low high all xs i kept t s l e) ∙ twice_skip low high (take i all) t _ _ h refl refl (sym eb ∙ y));
  rest = λ k d g. ap (λ (r : List Term). get_or r k d) ey ∙ s.rest k d (omega arith);
}

pub twice_end : (low high : ℕ) (all xs : List Term) (i kept : ℕ) → length all ≤ i → Twice low high all i kept xs → take kept xs ≡ twice low high all
twice_end low high all xs i kept h s = s.front ∙ ap (twice low high) (take_all i all h)

settled_is : (v : ℕ) (ts : List Term) → IsPhasePoly ts → IsPhasePoly (settled_terms v ts)
settled_is v ts p = form_closed v (terms_without v ts) (none_left v ts) (selected_form false v ts p)

pub twice_form : (low high : ℕ) (ts xs : List Term) → xs ≡ twice low high ts → IsPhasePoly ts → IsPhasePoly xs
twice_form low high ts xs e p = subst IsPhasePoly (sym e) (settled_is low (settled_terms high ts) (settled_is high ts p))

-- the term is copied to its new place, and closed up there
pub twice_moved : (low high : ℕ) (all xs mid : List Term) (i kept : ℕ) (t z : Term) → i < length xs → t ≡ get_or xs i t → ((d : Term) → mid ≡ set xs kept (get_or xs i d)) → z ≡ get_or mid kept z → Twice low high all i kept xs → Moved i kept t z xs mid
twice_moved low high all xs mid i kept t z l e f ez s = moved i kept t z xs mid (omega (arith, s.low_is)) e f ez

pub twice_below : (low high w : ℕ) (all xs mid : List Term) (i kept : ℕ) (t z : Term) → i < length xs → t ≡ get_or xs i t → ((d : Term) → mid ≡ set xs kept (get_or xs i d)) → z ≡ get_or mid kept z → phase_occurs w all ≡ false → Twice low high all i kept xs → stands w z.mono ≡ false
twice_below low high w all xs mid i kept t z l e f ez o s =
    ap (λ (x : Term). stands w x.mono) (twice_moved low high all xs mid i kept t z l e f ez s).same ∙ term_free w all i t t (omega (arith, s.size)) (e ∙ s.rest i t (omega arith)) o

-- closed up one after the other in each
pub monos_twice : (low high : ℕ) (f : List (List ℕ)) → closed_monos low (closed_monos high f) ≡ map (λ m. closed_mono low (closed_mono high m)) f
monos_twice low high [] = refl
monos_twice low high (m ∷ f) = ap (λ (r : List (List ℕ)). closed_mono low (closed_mono high m) ∷ r) (monos_twice low high f)

pub polys_twice : (low high : ℕ) (fs : List (List (List ℕ))) → closed_polys low (closed_polys high fs) ≡ map (λ f. closed_monos low (closed_monos high f)) fs
polys_twice low high [] = refl
polys_twice low high (f ∷ fs) = ap (λ (r : List (List (List ℕ))). closed_monos low (closed_monos high f) ∷ r) (polys_twice low high fs)

pub occurs_low : (low high : ℕ) (f : List (List ℕ)) → low < high → occurs high f ≡ false → occurs low f ≡ false → occurs low (closed_monos high f) ≡ false
occurs_low low high f h n m = bool_occurs_closed high low f n ∙ ap (λ v. occurs v f) (open_low low high h) ∙ m

pub poly_twice : (low high : ℕ) (f g : List (List ℕ)) → low < high → g ≡ closed_monos low (closed_monos high f) → occurs high f ≡ false → occurs low f ≡ false → IsPoly f → IsPoly g
poly_twice low high f g h e n m p = subst IsPoly (sym e) (poly_closed low (closed_monos high f) (occurs_low low high f h n m) (poly_closed high f n p))

-- nothing stands above the low one but the high one, which is gone too
pub outs_stay : (low high names : ℕ) (fs : List (List (List ℕ))) → low < high → high < suc names → names ≡ suc low → outs_occur high fs ≡ false → ((u : ℕ) → suc names ≤ u → outs_occur u fs ≡ false) → fs ≡ closed_polys low (closed_polys high fs)
outs_stay low high names fs h k e n f =
    let o : suc low ≡ high = omega arith in
    let a : (u : ℕ) → high < u → outs_occur u fs ≡ false = (λ u l. f u (omega arith)) in
    sym (ap (closed_polys low) (polys_stay high fs a) ∙ polys_stay low fs (λ u l. by u l (cases_lt high u)))
  where
    by : (u : ℕ) → low < u → ((high < u) ⊎ (u ≤ high)) → outs_occur u fs ≡ false
    by u l (inl a) = f u (omega arith)
    by u l (inr a) = let d : u ≡ high = omega arith in ap (λ v. outs_occur v fs) d ∙ n
