-- The search for the first input at which a sum is not 1.
use Rattle.std.proofs.Common.{◌≡◌, ◌≢◌, ℕ, zero, suc, ◌+◌, ◌-◌, ◌<◌, refl, ap, ap₂, sym, ◌∙◌, subst, arith, Bool, true, false, ◌&&◌, cond, nat_eq, Option, Some, None, List, [], ◌∷◌, length}
use Rattle.std.specs.Prelude.{nat_lt}
use Rattle.std.proofs.lemmas.Bool.Decides.{nat_tests}
use Rattle.ps_ring.specs.Truths.{Truths, bit}
use Rattle.ps_ring.specs.Readings.{taken}
use Rattle.ps_mono.specs.Sets.{stands, is_set, IsVarSet}
use Rattle.ps_mono.specs.Lists.{nat_eq_true, nat_eq_same, nat_eq_other}
use Rattle.ps_prim.specs.Overlaps.{IsOne}
use Rattle.ps_sum.specs.declared.sums.PathSum.{PathSum}
use Rattle.ps_sum.specs.Sums.{path_values}
use Rattle.ps_overlap.specs.Overlapping.{point}
use Rattle.ps_probe.specs.declared.pattern.Pattern.{Pattern}
use Rattle.ps_probe.specs.Patterns.{is_fixed, is_one, Matches}
use Rattle.ps_probe.specs.Searching.{Before, Extends, AllOne, IsFirstOther, IsBegun, Searched}

clash : {b : Bool} → b ≡ true → b ≡ false → ⊥
clash e f = cc

-- ---- points
pub bit_taken : (n lo i : ℕ) (a : ℕ → Bool) → i < n → bit (taken lo n a) i ≡ a (lo + i)
unfolding taken
bit_taken zero lo i a h = absurd (omega (arith, h))
bit_taken (suc n) lo zero a h = ap a (omega arith)
bit_taken (suc n) lo (suc i) a h = bit_taken n (suc lo) i a (omega (arith, h)) ∙ ap a (omega arith)

pub bit_point : (n i : ℕ) (at : List ℕ) → i < n → bit (point n at) i ≡ stands i at
bit_point n i at h = bit_taken n 0 i (λ v. stands v at) h ∙ ap (λ v. stands v at) (omega arith)

is_taken : (x : Truths) (lo : ℕ) (a : ℕ → Bool) → ((i : ℕ) → i < length x → bit x i ≡ a (lo + i)) → x ≡ taken lo (length x) a
unfolding taken
is_taken [] lo a h = refl
is_taken (b ∷ x) lo a h = ap₂ (λ (c : Bool) (y : Truths). c ∷ y) (h 0 (omega arith) ∙ ap a (omega arith)) (is_taken x (suc lo) a (λ i l. h (suc i) (omega (arith, l)) ∙ ap a (omega arith)))

extends_all : (n : ℕ) (at : List ℕ) (x : Truths) → length x ≡ n → Extends at n x → x ≡ point n at
extends_all n at x l e = is_taken x 0 (λ v. stands v at) (λ i h. e i (omega (arith, h, l)) ∙ ap (λ v. stands v at) (omega arith)) ∙ ap (λ k. taken 0 k (λ v. stands v at)) l

-- ---- at the end
pub all_there : (p : Pattern) (S : PathSum) (at : List ℕ) (from : ℕ) → from ≡ S.n → IsOne (path_values S) (point S.n at) → AllOne p S (Extends at from)
all_there p S at from e o x l m s = subst (IsOne (path_values S)) (sym (extends_all S.n at x l (λ i h. s i (omega (arith, h, e))))) o

len_below : (p : Pattern) (i : ℕ) → is_fixed p i ≡ true → i < p.len
len_below p i e = by (nat_lt i p.len) refl e
  where
    by : (b : Bool) → nat_lt i p.len ≡ b → (b && is_set p.fixed i) ≡ true → i < p.len
    by true l k = grind (arith, nat_tests, l)
    by false l k = absurd (clash k refl)

pub other_there : (p : Pattern) (S : PathSum) (at m : List ℕ) (from : ℕ) → p.len ≡ S.n → from ≡ S.n → m ≡ at → IsVarSet m → ¬ (IsOne (path_values S) (point S.n at)) → IsBegun p S at from → IsFirstOther p S (Extends at from) at
other_there p S at m from pl e em form o b = record {
  matches = λ i f. let h = len_below p i f in bit_point S.n i at (omega (arith, h, pl)) ∙ b.fixed i (omega (arith, h, pl, e)) f;
  such = λ i h. bit_point S.n i at (omega (arith, h, e));
  other = o;
  first = λ x l m s. absurd (clash (ap (λ (y : Truths). bit y s.1.place) (extends_all S.n at x l (λ i h. s.0 i (omega (arith, h, e)))) ∙ s.1.higher) s.1.lower);
  below = b.below;
  form = subst IsVarSet em form;
}

-- ---- one input more
-- next is at with input `from` put in
Puts : List ℕ → List ℕ → ℕ → Bool → Type 0
Puts next at from b = (u : ℕ) → stands u next ≡ cond (nat_eq u from) b (stands u at)

put_at : (next at : List ℕ) (from : ℕ) (b : Bool) → ((u : ℕ) → stands u next ≡ cond (nat_eq u from) b (stands u at)) → stands from next ≡ b
put_at next at from b s = s from ∙ ap (λ t. cond t b (stands from at)) (nat_eq_same from)

put_beside : (next at : List ℕ) (from u : ℕ) (b : Bool) → ((v : ℕ) → stands v next ≡ cond (nat_eq v from) b (stands v at)) → u ≢ from → stands u next ≡ stands u at
put_beside next at from u b s d = s u ∙ ap (λ t. cond t b (stands u at)) (nat_eq_other u from d)

ext_in : (next at : List ℕ) (from : ℕ) (b : Bool) (x : Truths) → ((v : ℕ) → stands v next ≡ cond (nat_eq v from) b (stands v at)) → Extends at from x → bit x from ≡ b → Extends next (from + 1) x
ext_in next at from b x s e f i h = by (nat_eq i from) refl
  where
    by : (t : Bool) → nat_eq i from ≡ t → bit x i ≡ stands i next
    by true q = let w = nat_eq_true i from q in ap (bit x) w ∙ f ∙ sym (ap (λ u. stands u next) w ∙ put_at next at from b s)
    by false q = e i (grind (arith, nat_tests, q, h)) ∙ sym (put_beside next at from i b s (λ d. clash (ap (λ k. nat_eq k from) d ∙ nat_eq_same from) q))

ext_out : (next at : List ℕ) (from : ℕ) (b : Bool) (x : Truths) → ((v : ℕ) → stands v next ≡ cond (nat_eq v from) b (stands v at)) → Extends next (from + 1) x → Extends at from x
ext_out next at from b x s e i h = e i (omega (arith, h)) ∙ put_beside next at from i b s (λ d. omega (arith, d, h))

ext_bit : (next at : List ℕ) (from : ℕ) (b : Bool) (x : Truths) → ((v : ℕ) → stands v next ≡ cond (nat_eq v from) b (stands v at)) → Extends next (from + 1) x → bit x from ≡ b
ext_bit next at from b x s e = e from (omega arith) ∙ put_at next at from b s

pub begun_next : (p : Pattern) (S : PathSum) (next at : List ℕ) (from : ℕ) (b : Bool) → from < S.n → ((v : ℕ) → stands v next ≡ cond (nat_eq v from) b (stands v at)) → (is_fixed p from ≡ true → b ≡ is_one p from) → IsBegun p S at from → IsBegun p S next (from + 1)
begun_next p S next at from b h s f g = record {
  below = λ v l. put_beside next at from v b s (λ d. omega (arith, d, l, h)) ∙ g.below v l;
  fixed = λ i l x. at_input i l x (nat_eq i from) refl;
}
  where
    at_input : (i : ℕ) → i < from + 1 → is_fixed p i ≡ true → (t : Bool) → nat_eq i from ≡ t → stands i next ≡ is_one p i
    at_input i l x true q = let w = nat_eq_true i from q in ap (λ u. stands u next) w ∙ put_at next at from b s ∙ f (ap (is_fixed p) (sym w) ∙ x) ∙ ap (is_one p) (sym w)
    at_input i l x false q = put_beside next at from i b s (λ d. clash (ap (λ k. nat_eq k from) d ∙ nat_eq_same from) q) ∙ g.fixed i (grind (arith, nat_tests, q, l)) x

-- a fixed input
pub fixed_none : (p : Pattern) (S : PathSum) (next at : List ℕ) (from : ℕ) (b : Bool) → ((v : ℕ) → stands v next ≡ cond (nat_eq v from) b (stands v at)) → is_fixed p from ≡ true → b ≡ is_one p from → AllOne p S (Extends next (from + 1)) → AllOne p S (Extends at from)
fixed_none p S next at from b s f e a x l m t = a x l m (ext_in next at from b x s t (m from f ∙ sym e))

pub fixed_some : (p : Pattern) (S : PathSum) (next at found : List ℕ) (from : ℕ) (b : Bool) → ((v : ℕ) → stands v next ≡ cond (nat_eq v from) b (stands v at)) → is_fixed p from ≡ true → b ≡ is_one p from → IsFirstOther p S (Extends next (from + 1)) found → IsFirstOther p S (Extends at from) found
fixed_some p S next at found from b s f e a = record {
  matches = a.matches;
  such = ext_out next at from b (point S.n found) s a.such;
  other = a.other;
  first = λ x l m t. a.first x l m (ext_in next at from b x s t.0 (m from f ∙ sym e), t.1);
  below = a.below;
  form = a.form;
}

pub fixed_searched : (p : Pattern) (S : PathSum) (next at : List ℕ) (from : ℕ) (b : Bool) (o : Option (List ℕ)) → ((v : ℕ) → stands v next ≡ cond (nat_eq v from) b (stands v at)) → is_fixed p from ≡ true → b ≡ is_one p from → Searched p S next (from + 1) o → Searched p S at from o
fixed_searched p S next at from b None s f e a = fixed_none p S next at from b s f e a
fixed_searched p S next at from b (Some found) s f e a = fixed_some p S next at found from b s f e a

-- a free input, which is first 0 and then 1
pub low_some : (p : Pattern) (S : PathSum) (next at found : List ℕ) (from : ℕ) → ((v : ℕ) → stands v next ≡ cond (nat_eq v from) false (stands v at)) → IsFirstOther p S (Extends next (from + 1)) found → IsFirstOther p S (Extends at from) found
low_some p S next at found from s a = record {
  matches = a.matches;
  such = ext_out next at from false (point S.n found) s a.such;
  other = a.other;
  first = λ x l m t. by x l m t (bit x from) refl;
  below = a.below;
  form = a.form;
}
  where
    ends : bit (point S.n found) from ≡ false
    ends = ext_bit next at from false (point S.n found) s a.such

    before : (x : Truths) → Extends at from x → (w : Before x (point S.n found)) → bit x from ≡ true → (d : ℕ) → from - w.place ≡ d → (e : ℕ) → w.place - from ≡ e → ⊥
    before x t w k (suc d) u e v =
        let h : w.place < from = omega (arith, u) in
        clash (t w.place h ∙ sym (ext_out next at from false (point S.n found) s a.such w.place h) ∙ w.higher) w.lower
    before x t w k zero u zero v = let q : from ≡ w.place = omega (arith, u, v) in clash (sym (ap (bit x) q) ∙ k) w.lower
    before x t w k zero u (suc e) v = clash (sym (w.equal from (omega (arith, v))) ∙ k) ends

    by : (x : Truths) → length x ≡ S.n → Matches p x → Extends at from x × Before x (point S.n found) → (t : Bool) → bit x from ≡ t → IsOne (path_values S) x
    by x l m t false e = a.first x l m (ext_in next at from false x s t.0 e, t.1)
    by x l m t true e = absurd (before x t.0 t.1 e (from - t.1.place) refl (t.1.place - from) refl)

set_twice : (low high at : List ℕ) (from : ℕ) → ((v : ℕ) → stands v low ≡ cond (nat_eq v from) false (stands v at)) → ((v : ℕ) → stands v high ≡ cond (nat_eq v from) true (stands v low)) → (v : ℕ) → stands v high ≡ cond (nat_eq v from) true (stands v at)
set_twice low high at from s t v = t v ∙ by (nat_eq v from) (s v)
  where
    by : (b : Bool) → stands v low ≡ cond b false (stands v at) → cond b true (stands v low) ≡ cond b true (stands v at)
    by true e = refl
    by false e = e

both_none : (p : Pattern) (S : PathSum) (low high at : List ℕ) (from : ℕ) (Such : Truths → Type 0) → ((v : ℕ) → stands v low ≡ cond (nat_eq v from) false (stands v at)) → ((v : ℕ) → stands v high ≡ cond (nat_eq v from) true (stands v at)) → AllOne p S (Extends low (from + 1)) → AllOne p S (λ x. Extends high (from + 1) x × Such x)
    → AllOne p S (λ x. Extends at from x × Such x)
both_none p S low high at from Such s t a b x l m e = by (bit x from) refl
  where
    by : (k : Bool) → bit x from ≡ k → IsOne (path_values S) x
    by false q = a x l m (ext_in low at from false x s e.0 q)
    by true q = b x l m (ext_in high at from true x t e.0 q, e.1)

pub free_searched : (p : Pattern) (S : PathSum) (low high at : List ℕ) (from : ℕ) (o : Option (List ℕ)) → ((v : ℕ) → stands v low ≡ cond (nat_eq v from) false (stands v at)) → ((v : ℕ) → stands v high ≡ cond (nat_eq v from) true (stands v low)) → AllOne p S (Extends low (from + 1)) → Searched p S high (from + 1) o → Searched p S at from o
free_searched p S low high at from None s t a b = λ x l m e. both_none p S low high at from (λ y. Unit {0}) s (set_twice low high at from s t) a (λ y k n w. b y k n w.0) x l m (e, tt)
free_searched p S low high at from (Some found) s t a b = record {
  matches = b.matches;
  such = ext_out high at from true (point S.n found) (set_twice low high at from s t) b.such;
  other = b.other;
  first = both_none p S low high at from (λ x. Before x (point S.n found)) s (set_twice low high at from s t) a b.first;
  below = b.below;
  form = b.form;
}

pub begun_start : (p : Pattern) (S : PathSum) (at : List ℕ) → at ≡ [] → IsBegun p S at 0
unfolding stands
begun_start p S at e = record { below = λ v l. ap (stands v) e; fixed = λ i h. absurd (omega (arith, h)) }
