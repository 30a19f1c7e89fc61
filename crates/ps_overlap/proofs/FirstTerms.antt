-- Points made of monomials, and the first of the terms with a variable.
use Rattle.std.proofs.Common.{◌≡◌, ℕ, zero, suc, ◌+◌, refl, ap, sym, ◌∙◌, subst, arith, ◌<◌, ◌≤◌, Bool, true, false, not, ◌&&◌, ◌||◌, cond, nat_eq, List, [], ◌∷◌, ◌++◌, length, take, drop, get_or}
use Rattle.std.proofs.lemmas.List.{take_more, take_all}
use Rattle.ps_mono.specs.Sets.{stands, IsVarSet}
use Rattle.ps_mono.specs.Lists.{same_set}
use Rattle.ps_mono.specs.Truth.{differ}
use Rattle.ps_phase.specs.declared.terms.Term.{Term}
use Rattle.ps_phase.specs.Phases.{phase_occurs, IsPhasePoly}
use Rattle.ps_phase.specs.Adding.{terms_where, terms_with}
use Rattle.ps_phase.proofs.Adding.{neither, cut}
use Rattle.ps_phase.proofs.Scaling.{selected_form}
use Rattle.ps_phase.proofs.Values.{free_end}
use Rattle.ps_overlap.specs.Overlapping.{divided}
use Rattle.ps_overlap.specs.Terms.{LeastQuotient}
use Rattle.ps_overlap.proofs.Dividing.{divided_is}
use Rattle.ps_overlap.proofs.Quotients.{AllHave, all_have}
use Rattle.ps_overlap.proofs.LeastPoints.{first_quotient_least}

clash : {b : Bool} → b ≡ true → b ≡ false → ⊥
clash e f = cc

-- ---- the point of a monomial
pub record TrueTo (m : List ℕ) (i : ℕ) (bits : List ℕ) : Type 0 where
  pub members : (u : ℕ) → stands u bits ≡ stands u (take i m)
  pub form : IsVarSet bits

pub true_start : (m bits : List ℕ) → bits ≡ [] → IsVarSet bits → TrueTo m 0 bits
unfolding stands
true_start m bits e s = record { members = λ u. ap (stands u) e; form = s }

stands_push : (w : ℕ) (m : List ℕ) (u : ℕ) → stands w (m ++ u ∷ []) ≡ cond (nat_eq w u) true (stands w m)
unfolding stands
stands_push w [] u = or_none (nat_eq w u)
  where
    or_none : (b : Bool) → (b || false) ≡ cond b true false
    or_none true = refl
    or_none false = refl
stands_push w (x ∷ m) u = ap (λ b. nat_eq w x || b) (stands_push w m u) ∙ or_move (nat_eq w x) (nat_eq w u) (stands w m)
  where
    or_move : (p q r : Bool) → (p || cond q true r) ≡ cond q true (p || r)
    or_move true true r = refl
    or_move true false r = refl
    or_move false true r = refl
    or_move false false r = refl

pub true_more : (m bits bits' : List ℕ) (i w : ℕ) → i < length m → w ≡ get_or m i 0 → ((u : ℕ) → stands u bits' ≡ cond (nat_eq u w) true (stands u bits)) → IsVarSet bits' → TrueTo m i bits → TrueTo m (i + 1) bits'
true_more m bits bits' i w h e f s t = record {
  members = λ u.
      let k : take (i + 1) m ≡ take i m ++ w ∷ [] = take_more m i 0 h ∙ ap (λ (x : ℕ). take i m ++ x ∷ []) (sym e) in
      f u ∙ ap (λ b. cond (nat_eq u w) true b) (t.members u) ∙ sym (ap (stands u) k ∙ stands_push u (take i m) w);
  form = s;
}

pub true_end : (m bits : List ℕ) (i d : ℕ) → d ≡ length m → d ≤ i → IsVarSet m → TrueTo m i bits → bits ≡ m
true_end m bits i d e h s t = same_set bits m t.form s (λ u. t.members u ∙ ap (stands u) (take_all i m (omega arith)))

-- ---- the first of the terms with v
term_set : (ts : List Term) (i : ℕ) (t : Term) → IsPhasePoly ts → i < length ts → t ≡ get_or ts i t → IsVarSet t.mono
term_set [] i t p h e = absurd (omega arith)
term_set (u ∷ ts) zero t p h e = subst (λ (x : Term). IsVarSet x.mono) (sym e) p.0.set
term_set (u ∷ ts) (suc i) t p h e = term_set ts i t p.2 (omega arith) e

first_left : (v : ℕ) (t : Term) (ts : List Term) → stands v t.mono ≡ false → terms_with v (t ∷ ts) ≡ terms_with v ts
unfolding terms_where differ
first_left v t ts s = ap (λ b. cond (differ true b) (terms_where true v ts) (t ∷ terms_where true v ts)) s

first_kept : (v : ℕ) (t : Term) (ts : List Term) → stands v t.mono ≡ true → terms_with v (t ∷ ts) ≡ t ∷ terms_with v ts
unfolding terms_where differ
first_kept v t ts s = ap (λ b. cond (differ true b) (terms_where true v ts) (t ∷ terms_where true v ts)) s

skipped : (v : ℕ) (ts : List Term) (i : ℕ) → phase_occurs v (take i ts) ≡ false → terms_with v ts ≡ terms_with v (drop i ts)
unfolding phase_occurs
skipped v ts zero h = refl
skipped v [] (suc i) h = refl
skipped v (t ∷ ts) (suc i) h =
    let n = neither (stands v t.mono) (phase_occurs v (take i ts)) h in
    first_left v t ts n.0 ∙ skipped v ts i n.1

first_there : (v : ℕ) (ts : List Term) (i : ℕ) (t : Term) → i < length ts → t ≡ get_or ts i t → stands v t.mono ≡ true → phase_occurs v (take i ts) ≡ false → terms_with v ts ≡ t ∷ terms_with v (drop (i + 1) ts)
first_there v ts i t h e s f = skipped v ts i f ∙ ap (terms_with v) (cut ts i t h e) ∙ first_kept v t (drop (i + 1) ts) s

pub quotient_found : (v : ℕ) (ts : List Term) (i : ℕ) (t : Term) (r : Bool) (left : List ℕ) → IsPhasePoly ts → i < length ts → t ≡ get_or ts i t → r ≡ stands v t.mono → r ≡ true → phase_occurs v (take i ts) ≡ false → ((u : ℕ) → stands u left ≡ (stands u t.mono && not (nat_eq u v))) → IsVarSet left
    → LeastQuotient v (terms_with v ts) left
quotient_found v ts i t r left p h e er rt f g s =
    let w = first_there v ts i t h e (sym er ∙ rt) f in
    let d : left ≡ divided v t.mono = divided_is v t.mono left (term_set ts i t p h e) s g in
    let q = first_quotient_least v t (terms_with v (drop (i + 1) ts)) (subst IsPhasePoly w (selected_form true v ts p)) (subst (AllHave v) w (all_have v ts)) in
    subst (λ (x : List Term). LeastQuotient v x left) (sym w) (subst (LeastQuotient v (t ∷ terms_with v (drop (i + 1) ts))) (sym d) q)

pub quotient_missing : (v : ℕ) (ts : List Term) (i : ℕ) → length ts ≤ i → phase_occurs v (take i ts) ≡ false → phase_occurs v ts ≡ true → ⊥
quotient_missing v ts i h f o = clash o (free_end v ts i h f)

pub free_start : (v : ℕ) (ts : List Term) → phase_occurs v (take 0 ts) ≡ false
unfolding phase_occurs
free_start v ts = refl
