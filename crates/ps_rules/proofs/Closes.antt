-- Names close up in place, and order stays.
use Rattle.std.proofs.Common.{◌≡◌, ◌≢◌, ℕ, zero, suc, ◌+◌, ◌-◌, refl, ap, ap₂, sym, ◌∙◌, subst, arith, ◌<◌, ◌≤◌, Bool, true, false, cond, nat_eq, nat_lt, ◌&&◌, ◌||◌, List, [], ◌∷◌, ◌++◌, length, take, set, get_or, nat_cmp, ◌⊎◌, inl, inr}
use Rattle.std.proofs.lemmas.Bool.{cases_lt}
use Rattle.std.proofs.lemmas.Bool.Decides.{nat_tests}
use Rattle.std.proofs.lemmas.List.{take_more, take_all, get_or-set_other}
use Rattle.std.proofs.Math.ListN.{length-set}
use Rattle.std.proofs.Math.Seq.{take-suc-set}
use Rattle.std.specs.Cmp.Lexicographic.{slice_cmp}
use Rattle.std.specs.Ordering.{ordering_then}
use Rattle.ps_mono.specs.Sets.{holds, stands, mono_cmp, IsVarSet, Climbing, Above, Below}
use Rattle.ps_mono.specs.Lists.{nat_eq_same, same_set}
use Rattle.ps_mono.specs.Truth.{times, differ}
use Rattle.ps_mono.proofs.Laws.{set_climbing, set_all_below, climbing_set}
use Rattle.ps_bool.specs.Polys.{bool_value, occurs, Before, Ascending, AllSets, IsPoly}
use Rattle.ps_phase.specs.declared.terms.Term.{Term}
use Rattle.ps_phase.specs.Phases.{phase_value, phase_occurs, TermBefore, IsPhasePoly}
use Rattle.ps_phase.specs.Adding.{terms_where, terms_without}
use Rattle.ps_phase.proofs.Adding.{neither}
use Rattle.ps_phase.proofs.Scaling.{selected_form}
use Rattle.ps_sum.specs.Forms.{AllPolys}
use Rattle.ps_sum.specs.Names.{closed, opened}
use Rattle.ps_sum.specs.Outs.{values, outs_occur}
use Rattle.ps_rules.specs.Closing.{closed_mono, closed_term, closed_terms, closed_monos, closed_polys}
use Rattle.ps_rules.proofs.Moved.{Moved, moved, term_free}

pub off : {b : Bool} → b ≡ true → b ≡ false → ⊥
off e f = cc

-- ---- one name
closed_less : (v a b : ℕ) → a ≢ v → b ≢ v → a < b → closed v a < closed v b
unfolding closed
closed_less v a b n m h = grind (arith, nat_tests)

pub closed_small : (v a n : ℕ) → a < n → closed v a < n
unfolding closed
closed_small v a n h = grind (arith, nat_tests)

closed_under : (v a : ℕ) → a < v → closed v a ≡ a
unfolding closed
closed_under v a h = grind (arith, nat_tests)

closed_cmp : (v a b : ℕ) → a ≢ v → b ≢ v → nat_cmp (closed v a) (closed v b) ≡ nat_cmp a b
unfolding closed
closed_cmp v a b n m = grind (arith, nat_tests)

same_name : (v w u : ℕ) → u ≢ v → nat_eq w (closed v u) ≡ nat_eq (opened v w) u
unfolding opened closed
same_name v w u d = grind (arith, nat_tests)

-- v is none of m
first_not : (v u : ℕ) (m : List ℕ) → stands v (u ∷ m) ≡ false → u ≢ v
unfolding stands
first_not v u m n e = off (ap (nat_eq v) e ∙ nat_eq_same v) (neither (nat_eq v u) (stands v m) n).0

rest_not : (v u : ℕ) (m : List ℕ) → stands v (u ∷ m) ≡ false → stands v m ≡ false
unfolding stands
rest_not v u m n = (neither (nat_eq v u) (stands v m) n).1

-- ---- one monomial
pub stands_closed : (v w : ℕ) (m : List ℕ) → stands v m ≡ false → stands w (closed_mono v m) ≡ stands (opened v w) m
unfolding stands
stands_closed v w [] n = refl
stands_closed v w (u ∷ m) n = ap₂ (λ (x y : Bool). x || y) (same_name v w u (first_not v u m n)) (stands_closed v w m (rest_not v u m n))

above_closed : (v u : ℕ) (m : List ℕ) → u ≢ v → stands v m ≡ false → Above u m → Above (closed v u) (closed_mono v m)
above_closed v u [] d n a = tt
above_closed v u (w ∷ m) d n a = (closed_less v u w d (first_not v w m n) a.0, above_closed v u m d (rest_not v w m n) a.1)

climbing_closed : (v : ℕ) (m : List ℕ) → stands v m ≡ false → Climbing m → Climbing (closed_mono v m)
climbing_closed v [] n c = tt
climbing_closed v (u ∷ m) n c = (above_closed v u m (first_not v u m n) (rest_not v u m n) c.0, climbing_closed v m (rest_not v u m n) c.1)

below_closed : (v n : ℕ) (m : List ℕ) → Below n m → Below n (closed_mono v m)
below_closed v n [] b = tt
below_closed v n (u ∷ m) b = (closed_small v u n b.0, below_closed v n m b.1)

pub set_closed : (v : ℕ) (m : List ℕ) → stands v m ≡ false → IsVarSet m → IsVarSet (closed_mono v m)
set_closed v m n s = climbing_set (closed_mono v m) (climbing_closed v m n (set_climbing m s)) (below_closed v 512 m (set_all_below m s))

length_closed : (v : ℕ) (m : List ℕ) → length (closed_mono v m) ≡ length m
length_closed v [] = refl
length_closed v (u ∷ m) = ap suc (length_closed v m)

list_closed : (v : ℕ) (m k : List ℕ) → stands v m ≡ false → stands v k ≡ false → slice_cmp nat_cmp (closed_mono v m) (closed_mono v k) ≡ slice_cmp nat_cmp m k
list_closed v [] [] n o = refl
list_closed v [] (y ∷ k) n o = refl
list_closed v (x ∷ m) [] n o = refl
list_closed v (x ∷ m) (y ∷ k) n o = ap₂ ordering_then (closed_cmp v x y (first_not v x m n) (first_not v y k o)) (list_closed v m k (rest_not v x m n) (rest_not v y k o))

pub cmp_closed : (v : ℕ) (m k : List ℕ) → stands v m ≡ false → stands v k ≡ false → mono_cmp (closed_mono v m) (closed_mono v k) ≡ mono_cmp m k
cmp_closed v m k n o = ap₂ ordering_then (ap₂ nat_cmp (length_closed v m) (length_closed v k)) (list_closed v m k n o)

pub holds_closed : (v : ℕ) (m : List ℕ) (a : ℕ → Bool) → holds (closed_mono v m) a ≡ holds m (λ u. a (closed v u))
unfolding holds
holds_closed v [] a = refl
holds_closed v (u ∷ m) a = ap (λ b. a (closed v u) && b) (holds_closed v m a)

-- nothing above v
pub closed_same : (v i : ℕ) (m : List ℕ) → Climbing m → length m ≡ suc i → get_or m i 0 < v → closed_mono v m ≡ m
closed_same v i [] c l h = absurd (omega arith)
closed_same v zero (u ∷ []) c l h = ap (λ (x : ℕ). x ∷ []) (closed_under v u h)
closed_same v zero (u ∷ w ∷ m) c l h = absurd (omega arith)
closed_same v (suc i) (u ∷ m) c l h =
    let a : u < get_or m i 0 = get_above u m i c.0 (omega arith) in
    ap₂ (λ (x : ℕ) (r : List ℕ). x ∷ r) (closed_under v u (omega arith)) (closed_same v i m c.1 (omega arith) h)
  where
    get_above : (x : ℕ) (m : List ℕ) (i : ℕ) → Above x m → i < length m → x < get_or m i 0
    get_above x [] i a h = absurd (omega arith)
    get_above x (w ∷ m) zero a h = a.0
    get_above x (w ∷ m) (suc i) a h = get_above x m i a.1 (omega arith)

pub closed_none : (v : ℕ) (m : List ℕ) → length m ≡ 0 → closed_mono v m ≡ m
closed_none v [] l = refl
closed_none v (u ∷ m) l = absurd (omega arith)

-- ---- the loop of `closed_mono`
stands_push : (w : ℕ) (m : List ℕ) (u : ℕ) → stands w (m ++ u ∷ []) ≡ (stands w m || nat_eq w u)
unfolding stands
stands_push w [] u = or_none (nat_eq w u)
  where
    or_none : (b : Bool) → (b || false) ≡ b
    or_none true = refl
    or_none false = refl
stands_push w (x ∷ m) u = ap (λ b. nat_eq w x || b) (stands_push w m u) ∙ or_move (nat_eq w x) (stands w m) (nat_eq w u)
  where
    or_move : (p q r : Bool) → (p || (q || r)) ≡ ((p || q) || r)
    or_move true q r = refl
    or_move false q r = refl

map_push : (v : ℕ) (m : List ℕ) (u : ℕ) → closed_mono v (m ++ u ∷ []) ≡ closed_mono v m ++ closed v u ∷ []
map_push v [] u = refl
map_push v (x ∷ m) u = ap (λ (r : List ℕ). closed v x ∷ r) (map_push v m u)

pub closing_start : (v : ℕ) (m k : List ℕ) → k ≡ [] → (w : ℕ) → stands w k ≡ stands w (closed_mono v (take 0 m))
closing_start v m k e w = ap (stands w) e

pub name_is : (v u c : ℕ) → ((v < u) × (c ≡ u - 1)) ⊎ ((u ≤ v) × (c ≡ u)) → c ≡ closed v u
unfolding closed
name_is v u c (inl p) = let e : nat_lt v u ≡ true = grind (arith, nat_tests, p.0) in p.1 ∙ sym (ap (λ b. cond b (u - 1) u) e)
name_is v u c (inr p) = let e : nat_lt v u ≡ false = grind (arith, nat_tests, p.0) in p.1 ∙ sym (ap (λ b. cond b (u - 1) u) e)

stands_one : (w u : ℕ) → stands w (u ∷ []) ≡ nat_eq w u
unfolding stands
stands_one w u = or_none (nat_eq w u)
  where
    or_none : (b : Bool) → (b || false) ≡ b
    or_none true = refl
    or_none false = refl

-- c is the new name of the variable at place i
pub closing_more : (v i u c : ℕ) (m k k' one : List ℕ) → i < length m → u ≡ get_or m i 0 → c ≡ closed v u → one ≡ c ∷ [] → ((w : ℕ) → stands w k' ≡ (stands w k || stands w one))
    → ((w : ℕ) → stands w k ≡ stands w (closed_mono v (take i m))) → (w : ℕ) → stands w k' ≡ stands w (closed_mono v (take (i + 1) m))
closing_more v i u c m k k' one l eu ec eo f g w =
    f w ∙ ap₂ (λ (x y : Bool). x || y) (g w) (ap (stands w) (eo ∙ ap (λ (x : ℕ). x ∷ []) ec) ∙ stands_one w (closed v u))
    ∙ sym (ap (λ (r : List ℕ). stands w (closed_mono v r)) (take_more m i 0 l ∙ ap (λ (x : ℕ). take i m ++ x ∷ []) (sym eu)) ∙ ap (stands w) (map_push v (take i m) u) ∙ stands_push w (closed_mono v (take i m)) (closed v u))

pub closing_end : (v i : ℕ) (m k : List ℕ) → stands v m ≡ false → IsVarSet m → IsVarSet k → length m ≤ i → ((w : ℕ) → stands w k ≡ stands w (closed_mono v (take i m))) → k ≡ closed_mono v m
closing_end v i m k n s t l g = same_set k (closed_mono v m) t (set_closed v m n s) (λ w. g w ∙ ap (λ (r : List ℕ). stands w (closed_mono v r)) (take_all i m l))

-- ---- terms
before_closed : (v : ℕ) (m : List ℕ) (ts : List Term) → stands v m ≡ false → phase_occurs v ts ≡ false → TermBefore m ts → TermBefore (closed_mono v m) (closed_terms v ts)
unfolding phase_occurs
before_closed v m [] n o b = tt
before_closed v m (t ∷ ts) n o b = let k = neither (stands v t.mono) (phase_occurs v ts) o in (cmp_closed v m t.mono n k.0 ∙ b.0, before_closed v m ts n k.1 b.1)

pub form_closed : (v : ℕ) (ts : List Term) → phase_occurs v ts ≡ false → IsPhasePoly ts → IsPhasePoly (closed_terms v ts)
unfolding phase_occurs
form_closed v [] o p = tt
form_closed v (t ∷ ts) o p =
    let k = neither (stands v t.mono) (phase_occurs v ts) o in
    (record { set = set_closed v t.mono k.0 p.0.set; turns = p.0.turns; small = p.0.small }, before_closed v t.mono ts k.0 k.1 p.1, form_closed v ts k.1 p.2)

pub value_closed : (v : ℕ) (ts : List Term) (a : ℕ → Bool) → phase_value (closed_terms v ts) a ≡ phase_value ts (λ u. a (closed v u))
unfolding phase_value
value_closed v [] a = refl
value_closed v (t ∷ ts) a = ap₂ (λ (b : Bool) (n : ℕ). times b t.phase + n) (holds_closed v t.mono a) (value_closed v ts a)

pub occurs_closed : (v w : ℕ) (ts : List Term) → phase_occurs v ts ≡ false → phase_occurs w (closed_terms v ts) ≡ phase_occurs (opened v w) ts
unfolding phase_occurs
occurs_closed v w [] o = refl
occurs_closed v w (t ∷ ts) o =
    let k = neither (stands v t.mono) (phase_occurs v ts) o in
    ap₂ (λ (x y : Bool). x || y) (stands_closed v w t.mono k.0) (occurs_closed v w ts k.1)

-- ---- polynomials
monos_before : (v : ℕ) (m : List ℕ) (f : List (List ℕ)) → stands v m ≡ false → occurs v f ≡ false → Before m f → Before (closed_mono v m) (closed_monos v f)
unfolding occurs
monos_before v m [] n o b = tt
monos_before v m (k ∷ f) n o b = let d = neither (stands v k) (occurs v f) o in (cmp_closed v m k n d.0 ∙ b.0, monos_before v m f n d.1 b.1)

monos_ascending : (v : ℕ) (f : List (List ℕ)) → occurs v f ≡ false → Ascending f → Ascending (closed_monos v f)
unfolding occurs
monos_ascending v [] o a = tt
monos_ascending v (m ∷ f) o a = let d = neither (stands v m) (occurs v f) o in (monos_before v m f d.0 d.1 a.0, monos_ascending v f d.1 a.1)

monos_sets : (v : ℕ) (f : List (List ℕ)) → occurs v f ≡ false → AllSets f → AllSets (closed_monos v f)
unfolding occurs
monos_sets v [] o s = tt
monos_sets v (m ∷ f) o s = let d = neither (stands v m) (occurs v f) o in (set_closed v m d.0 s.0, monos_sets v f d.1 s.1)

pub poly_closed : (v : ℕ) (f : List (List ℕ)) → occurs v f ≡ false → IsPoly f → IsPoly (closed_monos v f)
poly_closed v f o p = record { in_order = monos_ascending v f o p.in_order; sets = monos_sets v f o p.sets }

pub bool_closed : (v : ℕ) (f : List (List ℕ)) (a : ℕ → Bool) → bool_value (closed_monos v f) a ≡ bool_value f (λ u. a (closed v u))
unfolding bool_value
bool_closed v [] a = refl
bool_closed v (m ∷ f) a = ap₂ differ (holds_closed v m a) (bool_closed v f a)

pub bool_occurs_closed : (v w : ℕ) (f : List (List ℕ)) → occurs v f ≡ false → occurs w (closed_monos v f) ≡ occurs (opened v w) f
unfolding occurs
bool_occurs_closed v w [] o = refl
bool_occurs_closed v w (m ∷ f) o =
    let d = neither (stands v m) (occurs v f) o in
    ap₂ (λ (x y : Bool). x || y) (stands_closed v w m d.0) (bool_occurs_closed v w f d.1)

-- ---- outputs
pub polys_closed : (v : ℕ) (fs : List (List (List ℕ))) → outs_occur v fs ≡ false → AllPolys fs → AllPolys (closed_polys v fs)
unfolding outs_occur
polys_closed v [] o p = tt
polys_closed v (f ∷ fs) o p = let d = neither (occurs v f) (outs_occur v fs) o in (poly_closed v f d.0 p.0, polys_closed v fs d.1 p.1)

pub values_closed : (v : ℕ) (fs : List (List (List ℕ))) (a : ℕ → Bool) → values (closed_polys v fs) a ≡ values fs (λ u. a (closed v u))
unfolding values
values_closed v [] a = refl
values_closed v (f ∷ fs) a = ap₂ (λ (b : Bool) (r : List Bool). b ∷ r) (bool_closed v f a) (values_closed v fs a)

pub outs_closed : (v w : ℕ) (fs : List (List (List ℕ))) → outs_occur v fs ≡ false → outs_occur w (closed_polys v fs) ≡ outs_occur (opened v w) fs
unfolding outs_occur
outs_closed v w [] o = refl
outs_closed v w (f ∷ fs) o =
    let d = neither (occurs v f) (outs_occur v fs) o in
    ap₂ (λ (x y : Bool). x || y) (bool_occurs_closed v w f d.0) (outs_closed v w fs d.1)

pub length_polys : (v : ℕ) (fs : List (List (List ℕ))) → length (closed_polys v fs) ≡ length fs
length_polys v [] = refl
length_polys v (f ∷ fs) = ap suc (length_polys v fs)

-- ---- the loop of `close_terms`
pub without_push : (v : ℕ) (ts : List Term) (t : Term) → stands v t.mono ≡ false → terms_where false v (ts ++ t ∷ []) ≡ terms_where false v ts ++ t ∷ []
unfolding terms_where differ
without_push v [] t s = ap (λ q. cond (differ false q) [] (t ∷ [])) s
without_push v (x ∷ ts) t s = by (differ false (stands v x.mono)) (without_push v ts t s)
  where
    by : (q : Bool) → terms_where false v (ts ++ t ∷ []) ≡ terms_where false v ts ++ t ∷ [] → cond q (terms_where false v (ts ++ t ∷ [])) (x ∷ terms_where false v (ts ++ t ∷ [])) ≡ cond q (terms_where false v ts) (x ∷ terms_where false v ts) ++ t ∷ []
    by true e = e
    by false e = ap (λ (r : List Term). x ∷ r) e

pub without_skip : (v : ℕ) (ts : List Term) (t : Term) → stands v t.mono ≡ true → terms_where false v (ts ++ t ∷ []) ≡ terms_where false v ts
unfolding terms_where differ
without_skip v [] t s = ap (λ q. cond (differ false q) [] (t ∷ [])) s
without_skip v (x ∷ ts) t s = by (differ false (stands v x.mono)) (without_skip v ts t s)
  where
    by : (q : Bool) → terms_where false v (ts ++ t ∷ []) ≡ terms_where false v ts → cond q (terms_where false v (ts ++ t ∷ [])) (x ∷ terms_where false v (ts ++ t ∷ [])) ≡ cond q (terms_where false v ts) (x ∷ terms_where false v ts)
    by true e = e
    by false e = ap (λ (r : List Term). x ∷ r) e

pub terms_push : (v : ℕ) (ts : List Term) (t : Term) → closed_terms v (ts ++ t ∷ []) ≡ closed_terms v ts ++ closed_term v t ∷ []
terms_push v [] t = refl
terms_push v (x ∷ ts) t = ap (λ (r : List Term). closed_term v x ∷ r) (terms_push v ts t)

-- of all the first i were looked at, and the first kept of xs are what is left of them
pub record Settling (v : ℕ) (all : List Term) (i kept : ℕ) (xs : List Term) : Type 0 where
  pub size : length xs ≡ length all
  pub low : kept ≤ i
  pub front : take kept xs ≡ closed_terms v (terms_without v (take i all))
  pub rest : (k : ℕ) (d : Term) → i ≤ k → get_or xs k d ≡ get_or all k d

pub settling_start : (v : ℕ) (all : List Term) → Settling v all 0 0 all
unfolding terms_where
settling_start v all = record { size = refl; low = omega arith; front = refl; rest = λ k d h. refl }

pub more_terms : (v : ℕ) (all xs : List Term) (i kept : ℕ) (t : Term) → Settling v all i kept xs → i < length xs → t ≡ get_or xs i t → take (i + 1) all ≡ take i all ++ t ∷ []
more_terms v all xs i kept t s l e =
    let la : i < length all = omega (arith, s.size) in
    take_more all i t la ∙ ap (λ (r : Term). take i all ++ r ∷ []) (sym (e ∙ s.rest i t (omega arith)))

pub settling_keep : (v : ℕ) (all xs ys : List Term) (i kept kept' : ℕ) (t : Term) (m : List ℕ) → i < length xs → t ≡ get_or xs i t → stands v t.mono ≡ false → m ≡ closed_mono v t.mono → kept' ≡ kept + 1 → ys ≡ set xs kept (record { mono = m; phase = t.phase })
    → Settling v all i kept xs → Settling v all (i + 1) kept' ys
settling_keep v all xs ys i kept kept' t m l e n em ek ey s =
    let y : Term = record { mono = m; phase = t.phase } in
    let lk : kept < length xs = omega (arith, s.low) in
    let one : kept + 1 ≡ suc kept = omega arith in
    record {
      size = ap (λ (r : List Term). length r) ey ∙ length-set xs kept y ∙ s.size;
      low = omega (arith, s.low);
      front =
          ap₂ (λ (k : ℕ) (r : List Term). take k r) (ek ∙ one) ey ∙ take-suc-set xs kept y lk
          ∙ ap₂ (λ (r : List Term) (k : List ℕ). r ++ record { mono = k; phase = t.phase } ∷ []) s.front em
          ∙ sym (ap (λ (r : List Term). closed_terms v (terms_without v r)) (more_terms v all xs i kept t s l e) ∙ ap (closed_terms v) (without_push v (take i all) t n) ∙ terms_push v (terms_without v (take i all)) t);
      rest = λ k d h.
          let c : k ≢ kept = (let q = s.low in omega arith) in
          ap (λ (r : List Term). get_or r k d) ey ∙ rw get_or-set_other (s.rest k d (omega arith));
    }

pub settling_skip : (v : ℕ) (all xs ys : List Term) (i kept kept' : ℕ) (t : Term) → i < length xs → t ≡ get_or xs i t → stands v t.mono ≡ true → kept' ≡ kept → ys ≡ xs → Settling v all i kept xs → Settling v all (i + 1) kept' ys
settling_skip v all xs ys i kept kept' t l e n ek ey s = record {
  size = ap (λ (r : List Term). length r) ey ∙ s.size;
  low = (let q = s.low in omega arith);
  front =
      ap₂ (λ (k : ℕ) (r : List Term). take k r) ek ey ∙ s.front
      ∙ sym (ap (λ (r : List Term). closed_terms v (terms_without v r)) (more_terms v all xs i kept t s l e) ∙ ap (closed_terms v) (without_skip v (take i all) t n));
  rest = λ k d h. ap (λ (r : List Term). get_or r k d) ey ∙ s.rest k d (omega arith);
}

pub settling_end : (v : ℕ) (all xs : List Term) (i kept : ℕ) → length all ≤ i → Settling v all i kept xs → take kept xs ≡ closed_terms v (terms_without v all)
settling_end v all xs i kept h s = s.front ∙ ap (λ (r : List Term). closed_terms v (terms_without v r)) (take_all i all h)

pub none_left : (v : ℕ) (ts : List Term) → phase_occurs v (terms_where false v ts) ≡ false
unfolding terms_where phase_occurs differ
none_left v [] = refl
none_left v (t ∷ ts) = by (stands v t.mono) refl (none_left v ts)
  where
    by : (q : Bool) → stands v t.mono ≡ q → phase_occurs v (terms_where false v ts) ≡ false → phase_occurs v (cond (differ false q) (terms_where false v ts) (t ∷ terms_where false v ts)) ≡ false
    by true e r = r
    by false e r = ap₂ (λ (x y : Bool). x || y) e r

pub settled_form : (v : ℕ) (p ts xs : List Term) → ts ≡ p → xs ≡ closed_terms v (terms_without v ts) → IsPhasePoly ts → IsPhasePoly xs
settled_form v p ts xs e f s = subst IsPhasePoly (sym f) (form_closed v (terms_without v ts) (none_left v ts) (selected_form false v ts s))

-- the term is copied to its new place, and closed up there
pub settling_moved : (v : ℕ) (all xs mid : List Term) (i kept : ℕ) (t z : Term) → i < length xs → t ≡ get_or xs i t → ((d : Term) → mid ≡ set xs kept (get_or xs i d)) → z ≡ get_or mid kept z → Settling v all i kept xs → Moved i kept t z xs mid
settling_moved v all xs mid i kept t z l e f ez s = moved i kept t z xs mid (omega (arith, s.low)) e f ez

pub settling_below : (v w : ℕ) (all xs mid : List Term) (i kept : ℕ) (t z : Term) → i < length xs → t ≡ get_or xs i t → ((d : Term) → mid ≡ set xs kept (get_or xs i d)) → z ≡ get_or mid kept z → phase_occurs w all ≡ false → Settling v all i kept xs → stands w z.mono ≡ false
settling_below v w all xs mid i kept t z l e f ez o s =
    ap (λ (x : Term). stands w x.mono) (settling_moved v all xs mid i kept t z l e f ez s).same ∙ term_free w all i t t (omega (arith, s.size)) (e ∙ s.rest i t (omega arith)) o

-- ---- nothing stands above the variable
name_stays : (v u : ℕ) → u ≤ v → closed v u ≡ u
unfolding closed
name_stays v u h = grind (arith, nat_tests)

mono_stays : (v : ℕ) (m : List ℕ) → ((u : ℕ) → v < u → stands u m ≡ false) → closed_mono v m ≡ m
unfolding stands
mono_stays v [] f = refl
mono_stays v (u ∷ m) f = ap₂ (λ (x : ℕ) (r : List ℕ). x ∷ r) (name_stays v u (by (cases_lt v u))) (mono_stays v m (λ w l. (neither (nat_eq w u) (stands w m) (f w l)).1))
  where
    by : ((v < u) ⊎ (u ≤ v)) → u ≤ v
    by (inl l) = absurd (off (nat_eq_same u) (neither (nat_eq u u) (stands u m) (f u l)).0)
    by (inr l) = l

poly_stays : (v : ℕ) (f : List (List ℕ)) → ((u : ℕ) → v < u → occurs u f ≡ false) → closed_monos v f ≡ f
unfolding occurs
poly_stays v [] n = refl
poly_stays v (m ∷ f) n =
    ap₂ (λ (x : List ℕ) (r : List (List ℕ)). x ∷ r) (mono_stays v m (λ u l. (neither (stands u m) (occurs u f) (n u l)).0)) (poly_stays v f (λ u l. (neither (stands u m) (occurs u f) (n u l)).1))

pub polys_stay : (v : ℕ) (fs : List (List (List ℕ))) → ((u : ℕ) → v < u → outs_occur u fs ≡ false) → closed_polys v fs ≡ fs
unfolding outs_occur
polys_stay v [] n = refl
polys_stay v (f ∷ fs) n =
    ap₂ (λ (x : List (List ℕ)) (r : List (List (List ℕ))). x ∷ r) (poly_stays v f (λ u l. (neither (occurs u f) (outs_occur u fs) (n u l)).0)) (polys_stay v fs (λ u l. (neither (occurs u f) (outs_occur u fs) (n u l)).1))

pub last_name : (v names : ℕ) → nat_eq (v + 1) names ≡ true → names ≡ v + 1
last_name v names e = grind (arith, nat_tests)
