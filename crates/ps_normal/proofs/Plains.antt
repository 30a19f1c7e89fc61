-- Behind an irreducible sum a gate without path variables leaves nothing to reduce: the terms with a variable that stands in no output stay as they are.
use Rattle.std.proofs.Common.{◌≡◌, ℕ, ◌+◌, ◌*◌, ◌%◌, ◌≤◌, ◌<◌, refl, ap, ap₂, sym, ◌∙◌, subst, arith, Bool, true, false, cond, nat_eq, ◌||◌, List, [], ◌∷◌, ◌++◌, length, append-nil, ◌⊎◌, inl, inr}
use Rattle.std.proofs.lemmas.Bool.{cases_lt}
use Rattle.std.specs.Cmp.Lexicographic.{pointwise}
use Rattle.ps_ring.specs.Truths.{Truths, bit}
use Rattle.ps_ring.specs.Readings.{Assignment, taken}
use Rattle.ps_ring.specs.Joins.{PlainSum}
use Rattle.ps_prim.specs.declared.prims.Primitive.{Primitive as Prim}
use Rattle.ps_prim.specs.declared.prims.Primitive.TheVariants.{U, Cx}
use Rattle.ps_prim.specs.Amplitudes.{exchanged}
use Rattle.ps_prim.specs.Maps.{IsWithin}
use Rattle.ps_prim.proofs.Bits.{exchanged_twice}
use Rattle.ps_mono.specs.Sets.{holds, stands}
use Rattle.ps_mono.specs.Lists.{nat_eq_same}
use Rattle.ps_mono.specs.Truth.{times, differ, with_value}
use Rattle.ps_mono.proofs.Truths.{holds_not}
use Rattle.ps_bool.specs.Polys.{bool_value, occurs, Each, Before, Ascending, IsPoly}
use Rattle.ps_bool.proofs.Unique.{one_form}
use Rattle.ps_bool.proofs.Replacing.{holds_apart}
use Rattle.ps_bool.proofs.Laws.{bool_value-with_value}
use Rattle.ps_phase.specs.declared.terms.Term.{Term}
use Rattle.ps_phase.specs.Phases.{phase_value, phase_occurs, coefficient, IsPhasePoly}
use Rattle.ps_phase.specs.Adding.{terms_where, terms_with}
use Rattle.ps_phase.proofs.Unique.{same_terms}
use Rattle.ps_phase.proofs.Values.{skipped}
use Rattle.ps_phase.proofs.Adding.{neither}
use Rattle.ps_phase.proofs.Scaling.{selected_form, split_value}
use Rattle.ps_sum.specs.declared.sums.PathSum.{PathSum}
use Rattle.ps_sum.specs.Forms.{AllPolys}
use Rattle.ps_sum.specs.Outs.{values, outs_occur}
use Rattle.ps_sum.specs.Sums.{path_values}
use Rattle.ps_sum.proofs.Closings.{length_values}
use Rattle.ps_sum.proofs.Uniqueness.{taken_length, phase_read, bool_read}
use Rattle.ps_rules.specs.declared.steps.Step.{Step}
use Rattle.ps_rules.specs.declared.steps.Step.TheVariants.{Elim, Hh, Omega}
use Rattle.ps_rules.specs.Terms.{EachWith, IsHalf, both}
use Rattle.ps_rules.specs.Rules.{IsInner, Applies, IsIrreducible, first_of}
use Rattle.ps_rules.specs.Sights.{NoneAt}
use Rattle.ps_rules.proofs.Splits.{holds_without}
use Rattle.ps_rules.proofs.Seeing.{each_none}
use Rattle.ps_rules.proofs.Firsts.{both_first, both_second, alone_stands, occurs_coefficient}
use Rattle.ps_join.specs.Joining.{IsLeafOf, IsJoinOf}
use Rattle.ps_normal.specs.Keeping.{IsPlainPrim}

pub off : {b : Bool} → b ≡ true → b ≡ false → ⊥
off e f = cc

-- ---- what the terms with a variable are worth
zero_there : (a : Assignment) (v : ℕ) → with_value a v false v ≡ false
zero_there a v = ap (λ (t : Bool). cond t false (a v)) (nat_eq_same v)

with_off : (v : ℕ) (ts : List Term) (a : Assignment) → a v ≡ false → phase_value (terms_where true v ts) a ≡ 0
unfolding phase_value terms_where differ times
with_off v [] a e = refl
with_off v (t ∷ ts) a e = by (stands v t.mono) refl (with_off v ts a e)
  where
    by : (q : Bool) → stands v t.mono ≡ q → phase_value (terms_where true v ts) a ≡ 0 → phase_value (cond (differ true q) (terms_where true v ts) (t ∷ terms_where true v ts)) a ≡ 0
    by true s r =
        let h : times (holds t.mono a) t.phase ≡ 0 = ap (λ (b : Bool). times b t.phase) (holds_not t.mono a v s e) in
        omega (arith, h, r)
    by false s r = r

without_same : (v : ℕ) (ts : List Term) (a : Assignment) (b : Bool) → phase_value (terms_where false v ts) (with_value a v b) ≡ phase_value (terms_where false v ts) a
unfolding phase_value terms_where differ
without_same v [] a b = refl
without_same v (t ∷ ts) a b = by (stands v t.mono) refl (without_same v ts a b)
  where
    by : (q : Bool) → stands v t.mono ≡ q → phase_value (terms_where false v ts) (with_value a v b) ≡ phase_value (terms_where false v ts) a
        → phase_value (cond (differ false q) (terms_where false v ts) (t ∷ terms_where false v ts)) (with_value a v b) ≡ phase_value (cond (differ false q) (terms_where false v ts) (t ∷ terms_where false v ts)) a
    by true s r = r
    by false s r = ap₂ (λ (h : Bool) (n : ℕ). times h t.phase + n) (holds_apart t.mono v a b s) r

with_gives : (v : ℕ) (ts : List Term) (a : Assignment) → phase_value ts a ≡ phase_value ts (with_value a v false) + phase_value (terms_with v ts) a
with_gives v ts a = omega (arith, split_value v ts a, split_value v ts (with_value a v false), with_off v ts (with_value a v false) (zero_there a v), without_same v ts a false)

-- two polynomials that v changes by as much have the same terms with v
same_change : (x y x0 y0 p q : ℕ) → x ≡ x0 + p → y ≡ y0 + q → (x + y0) % 4294967296 ≡ (y + x0) % 4294967296 → p % 4294967296 ≡ q % 4294967296
same_change x y x0 y0 p q e f h = omega (arith, e, f, h)

pub same_with : (v : ℕ) (f g : List Term) → IsPhasePoly f → IsPhasePoly g → ((a : Assignment) → (phase_value f a + phase_value g (with_value a v false)) % 4294967296 ≡ (phase_value g a + phase_value f (with_value a v false)) % 4294967296)
    → terms_with v f ≡ terms_with v g
same_with v f g ff fg h = same_terms (terms_with v f) (terms_with v g) (selected_form true v f ff) (selected_form true v g fg)
    (λ a. same_change (phase_value f a) (phase_value g a) (phase_value f (with_value a v false)) (phase_value g (with_value a v false)) _ _ (with_gives v f a) (with_gives v g a) (h a))

-- ---- what is said of the terms with a variable
each_to : (v : ℕ) (R : Term → Type 0) (ts : List Term) → EachWith v R ts → EachWith v R (terms_with v ts)
unfolding terms_where differ
each_to v R [] h = tt
each_to v R (t ∷ ts) h = by (stands v t.mono) (each_to v R ts h.1)
  where
    by : (q : Bool) → EachWith v R (terms_where true v ts) → EachWith v R (cond (differ true q) (terms_where true v ts) (t ∷ terms_where true v ts))
    by true r = (h.0, r)
    by false r = r

each_of : (v : ℕ) (R : Term → Type 0) (ts : List Term) → EachWith v R (terms_with v ts) → EachWith v R ts
unfolding terms_where differ
each_of v R [] h = tt
each_of v R (t ∷ ts) h = by (stands v t.mono) refl (each_of v R ts) h
  where
    by : (q : Bool) → stands v t.mono ≡ q → (EachWith v R (terms_where true v ts) → EachWith v R ts) → EachWith v R (cond (differ true q) (terms_where true v ts) (t ∷ terms_where true v ts)) → (stands v t.mono ≡ true → R t) × EachWith v R ts
    by true s r w = (w.0, r w.1)
    by false s r w = (λ k. absurd (off k s), r w)

each_same : (v : ℕ) (R : Term → Type 0) (f g : List Term) → terms_with v f ≡ terms_with v g → EachWith v R f → EachWith v R g
each_same v R f g e h = each_of v R g (subst (EachWith v R) e (each_to v R f h))

none_occurs : (v : ℕ) (ts : List Term) → EachWith v (λ t. ⊥) ts → phase_occurs v ts ≡ false
unfolding phase_occurs
none_occurs v [] h = refl
none_occurs v (t ∷ ts) h = by (stands v t.mono) refl (none_occurs v ts h.1)
  where
    by : (q : Bool) → stands v t.mono ≡ q → phase_occurs v ts ≡ false → (q || phase_occurs v ts) ≡ false
    by true s r = absurd (h.0 s)
    by false s r = r

coefficient_with : (v : ℕ) (m : List ℕ) (ts : List Term) → stands v m ≡ true → coefficient m (terms_with v ts) ≡ coefficient m ts
unfolding terms_where differ coefficient
coefficient_with v m [] s = refl
coefficient_with v m (t ∷ ts) s = by (stands v t.mono) refl (coefficient_with v m ts s)
  where
    by : (q : Bool) → stands v t.mono ≡ q → coefficient m (terms_where true v ts) ≡ coefficient m ts → coefficient m (cond (differ true q) (terms_where true v ts) (t ∷ terms_where true v ts)) ≡ cond (pointwise nat_eq m t.mono) t.phase (coefficient m ts)
    by true k r = ap (λ (c : ℕ). cond (pointwise nat_eq m t.mono) t.phase c) r
    by false k r = r ∙ sym (skipped m t ts (λ e. off (sym (ap (stands v) e) ∙ s) k))

coefficient_same : (v : ℕ) (m : List ℕ) (f g : List Term) → stands v m ≡ true → terms_with v f ≡ terms_with v g → coefficient m f ≡ coefficient m g
coefficient_same v m f g s e = sym (coefficient_with v m f s) ∙ ap (coefficient m) e ∙ coefficient_with v m g s

-- ---- a step that applies behind applies before
record Quiet (S T : PathSum) : Type 0 where
  n_is : T.n ≡ S.n
  m_is : T.m ≡ S.m
  outs_free : (v : ℕ) → outs_occur v T.outs ≡ false → outs_occur v S.outs ≡ false
  terms_same : (v : ℕ) → outs_occur v S.outs ≡ false → terms_with v T.phase ≡ terms_with v S.phase

pub inner_of : (T : PathSum) (s : Step) → Applies T s → IsInner T (first_of s)
inner_of T (Elim y0) a = a.inner
inner_of T (Hh y0 y1) a = a.inner
inner_of T (Omega y0) a = a.inner

-- path variable y of T stands in no output of S, and in the same terms of both
pub record QuietAt (S T : PathSum) (y : ℕ) : Type 0 where
  pub n_is : T.n ≡ S.n
  pub inside : y < S.m
  pub silent : outs_occur (S.n + y) S.outs ≡ false
  pub terms_same : terms_with (S.n + y) T.phase ≡ terms_with (S.n + y) S.phase

-- what stands in the phase is a variable of the sum
second_inside : (S : PathSum) (v y1 : ℕ) → coefficient (both v (S.n + y1)) S.phase ≡ 2147483648 → y1 < S.m
second_inside S v y1 e = by (cases_lt y1 S.m)
  where
    stands_there : phase_occurs (S.n + y1) S.phase ≡ true
    stands_there = occurs_coefficient (S.n + y1) (both v (S.n + y1)) S.phase (both_second v (S.n + y1)) (λ k. omega (arith, e, k))

    by : ((y1 < S.m) ⊎ (S.m ≤ y1)) → y1 < S.m
    by (inl l) = l
    by (inr l) = absurd (off stands_there (S.phase_below (S.n + y1) (omega (arith, l))))

inner_at : (S T : PathSum) (y : ℕ) → QuietAt S T y → IsInner S y
inner_at S T y q = record { inside = q.inside; silent = q.silent }

applies_at : (S T : PathSum) (s : Step) → QuietAt S T (first_of s) → Applies T s → Applies S s
applies_at S T (Elim y0) q a = record {
  inner = inner_at S T y0 q;
  absent = none_occurs (S.n + y0) S.phase (each_same (S.n + y0) (λ t. ⊥) T.phase S.phase q.terms_same (each_none (S.n + y0) (λ t. ⊥) T.phase (subst (λ k. phase_occurs (k + y0) T.phase ≡ false) q.n_is a.absent)));
}
applies_at S T (Hh y0 y1) q a =
    let product : coefficient (both (S.n + y0) (S.n + y1)) S.phase ≡ 2147483648 =
    sym (coefficient_same (S.n + y0) (both (S.n + y0) (S.n + y1)) T.phase S.phase (both_first (S.n + y0) (S.n + y1)) q.terms_same)
    ∙ subst (λ k. coefficient (both (k + y0) (k + y1)) T.phase ≡ 2147483648) q.n_is a.product
    in
    record {
      inner = inner_at S T y0 q;
      second = second_inside S (S.n + y0) y1 product;
      apart = a.apart;
      halves = each_same (S.n + y0) IsHalf T.phase S.phase q.terms_same (subst (λ k. EachWith (k + y0) IsHalf T.phase) q.n_is a.halves);
      product = product;
      lone = each_same (S.n + y0) (λ t. stands (S.n + y1) t.mono ≡ true → t.mono ≡ both (S.n + y0) (S.n + y1)) T.phase S.phase q.terms_same
          (subst (λ k. EachWith (k + y0) (λ t. stands (k + y1) t.mono ≡ true → t.mono ≡ both (k + y0) (k + y1)) T.phase) q.n_is a.lone);
    }
applies_at S T (Omega y0) q a = record {
  inner = inner_at S T y0 q;
  quarter = subst (λ c. (c ≡ 1073741824) ⊎ (c ≡ 3221225472)) (coefficient_same (S.n + y0) ((S.n + y0) ∷ []) T.phase S.phase (alone_stands (S.n + y0)) q.terms_same)
      (subst (λ k. (coefficient ((k + y0) ∷ []) T.phase ≡ 1073741824) ⊎ (coefficient ((k + y0) ∷ []) T.phase ≡ 3221225472)) q.n_is a.quarter);
  halves = each_same (S.n + y0) (λ t. (t.mono ≡ (S.n + y0) ∷ [] → ⊥) → IsHalf t) T.phase S.phase q.terms_same (subst (λ k. EachWith (k + y0) (λ t. (t.mono ≡ (k + y0) ∷ [] → ⊥) → IsHalf t) T.phase) q.n_is a.halves);
}

pub quiet_none : (S T : PathSum) (y : ℕ) → IsIrreducible S → QuietAt S T y → NoneAt T y
quiet_none S T y i q t e a = i t (applies_at S T t (subst (QuietAt S T) (sym e) q) a)

applies_before : (S T : PathSum) (s : Step) → Quiet S T → Applies T s → Applies S s
applies_before S T s q a =
    let inner : IsInner T (first_of s) = inner_of T s a in
    let silent : outs_occur (S.n + first_of s) S.outs ≡ false = q.outs_free (S.n + first_of s) (subst (λ k. outs_occur (k + first_of s) T.outs ≡ false) q.n_is inner.silent) in
    applies_at S T s (record { n_is = q.n_is; inside = subst (λ k. first_of s < k) q.m_is inner.inside; silent = silent; terms_same = q.terms_same (S.n + first_of s) silent }) a

quiet_irreducible : (S T : PathSum) → Quiet S T → IsIrreducible S → IsIrreducible T
quiet_irreducible S T q i s a = i s (applies_before S T s q a)

-- ---- a polynomial whose value does not turn on a variable does not have it
monos_without : ℕ → List (List ℕ) → List (List ℕ)
monos_without v [] = []
monos_without v (m ∷ f) = cond (stands v m) (monos_without v f) (m ∷ monos_without v f)

without_each : (P : List ℕ → Type 0) (v : ℕ) (f : List (List ℕ)) → Each P f → Each P (monos_without v f)
unfolding monos_without
without_each P v [] h = tt
without_each P v (m ∷ f) h = by (stands v m) (without_each P v f h.1)
  where
    by : (q : Bool) → Each P (monos_without v f) → Each P (cond q (monos_without v f) (m ∷ monos_without v f))
    by true r = r
    by false r = (h.0, r)

without_ascending : (v : ℕ) (f : List (List ℕ)) → Ascending f → Ascending (monos_without v f)
unfolding monos_without
without_ascending v [] h = tt
without_ascending v (m ∷ f) h = by (stands v m) (without_each _ v f h.0) (without_ascending v f h.1)
  where
    by : (q : Bool) → Before m (monos_without v f) → Ascending (monos_without v f) → Ascending (cond q (monos_without v f) (m ∷ monos_without v f))
    by true r s = s
    by false r s = (r, s)

without_free : (v : ℕ) (f : List (List ℕ)) → occurs v (monos_without v f) ≡ false
unfolding monos_without occurs
without_free v [] = refl
without_free v (m ∷ f) = by (stands v m) refl (without_free v f)
  where
    by : (q : Bool) → stands v m ≡ q → occurs v (monos_without v f) ≡ false → occurs v (cond q (monos_without v f) (m ∷ monos_without v f)) ≡ false
    by true s r = r
    by false s r = ap₂ (λ (x y : Bool). x || y) s r

differ_off : (x : Bool) → differ false x ≡ x
unfolding differ
differ_off true = refl
differ_off false = refl

without_value : (v : ℕ) (f : List (List ℕ)) (a : Assignment) → bool_value f (with_value a v false) ≡ bool_value (monos_without v f) a
unfolding monos_without bool_value
without_value v [] a = refl
without_value v (m ∷ f) a = by (stands v m) refl (without_value v f a)
  where
    by : (q : Bool) → stands v m ≡ q → bool_value f (with_value a v false) ≡ bool_value (monos_without v f) a → differ (holds m (with_value a v false)) (bool_value f (with_value a v false)) ≡ bool_value (cond q (monos_without v f) (m ∷ monos_without v f)) a
    by true s r = ap (λ (b : Bool). differ b (bool_value f (with_value a v false))) (holds_without m v a s) ∙ differ_off _ ∙ r
    by false s r = ap₂ (λ (x y : Bool). differ x y) (holds_apart m v a false s) r

pub unread : (v : ℕ) (f : List (List ℕ)) → IsPoly f → ((a : Assignment) → bool_value f (with_value a v false) ≡ bool_value f a) → occurs v f ≡ false
unread v f p h =
    let e : f ≡ monos_without v f = one_form f (monos_without v f) p (record { in_order = without_ascending v f p.in_order; sets = without_each _ v f p.sets }) (λ a. sym (h a) ∙ without_value v f a) in
    ap (occurs v) e ∙ without_free v f

outs_unread : (v : ℕ) (fs : List (List (List ℕ))) → AllPolys fs → ((a : Assignment) → values fs (with_value a v false) ≡ values fs a) → outs_occur v fs ≡ false
unfolding values outs_occur
outs_unread v [] p h = refl
outs_unread v (f ∷ fs) p h = ap₂ (λ (x y : Bool). x || y) (unread v f p.0 (λ a. heads (h a))) (outs_unread v fs p.1 (λ a. tails (h a)))
  where
    heads : {a b : Bool} {xs ys : List Bool} → a ∷ xs ≡ b ∷ ys → a ≡ b
    heads k = cc

    tails : {a b : Bool} {xs ys : List Bool} → a ∷ xs ≡ b ∷ ys → xs ≡ ys
    tails k = cc

pub outs_same : (v : ℕ) (fs : List (List (List ℕ))) (a : Assignment) (b : Bool) → outs_occur v fs ≡ false → values fs (with_value a v b) ≡ values fs a
unfolding values outs_occur
outs_same v [] a b h = refl
outs_same v (f ∷ fs) a b h =
    let k = neither (occurs v f) (outs_occur v fs) h in
    ap₂ (λ (x : Bool) (xs : Truths). x ∷ xs) (bool_value-with_value f v a b k.0) (outs_same v fs a b k.1)

pub outs_read : (n m : ℕ) (fs : List (List (List ℕ))) → ((v : ℕ) → n + m ≤ v → outs_occur v fs ≡ false) → (a : Assignment) → values fs a ≡ values fs (bit (taken 0 n a ++ taken n m a))
unfolding values outs_occur
outs_read n m [] h a = refl
outs_read n m (f ∷ fs) h a = ap₂ (λ (x : Bool) (xs : Truths). x ∷ xs) (bool_read n m f (λ v l. (neither _ _ (h v l)).0) a) (outs_read n m fs (λ v l. (neither _ _ (h v l)).1) a)

-- ---- behind a sum, a sum without path variables
record Behind (S T : PathSum) (f : Truths → Truths) (P : Truths → ℕ) : Type 0 where
  n_is : T.n ≡ S.n
  m_is : T.m ≡ S.m
  phase_is : (a : Assignment) → phase_value T.phase a % 4294967296 ≡ (phase_value S.phase a + P (values S.outs a)) % 4294967296
  outs_is : (a : Assignment) → values T.outs a ≡ f (values S.outs a)

sum_mod : (x y z : ℕ) → y % 4294967296 ≡ z % 4294967296 → (x + y) % 4294967296 ≡ (x + z) % 4294967296
sum_mod x y z e = omega (arith, e)

plain_behind : (n : ℕ) (f : Truths → Truths) (P : Truths → ℕ) (S L T : PathSum) → S.n ≡ n → length S.outs ≡ n → PlainSum n f P (path_values L) → IsJoinOf S L T → Behind S T f P
plain_behind n f P S L T en w p j = record {
  n_is = j.n_is;
  m_is = m_is;
  phase_is = λ a.
      ap (λ x. x % 4294967296) (phase_read S.n S.m T.phase (λ v l. T.phase_below v (below v l)) a ∙ ap (λ y. phase_value T.phase (bit (taken 0 S.n a ++ y))) (sym (append-nil (taken S.n S.m a))))
      ∙ j.values_are.phase_is (taken 0 S.n a) (taken S.n S.m a) [] (taken_length 0 S.n a) (taken_length S.n S.m a) (sym p.m_is)
      ∙ sum_mod _ _ _ (p.phase_is (values S.outs (bit (taken 0 S.n a ++ taken S.n S.m a))) (length_values S.outs _ ∙ w))
      ∙ ap₂ (λ (x : ℕ) (z : Truths). (x + P z) % 4294967296) (sym (phase_read S.n S.m S.phase S.phase_below a)) (sym (outs_read S.n S.m S.outs S.outs_below a));
  outs_is = λ a.
      outs_read S.n S.m T.outs (λ v l. T.outs_below v (below v l)) a ∙ ap (λ y. values T.outs (bit (taken 0 S.n a ++ y))) (sym (append-nil (taken S.n S.m a)))
      ∙ j.values_are.outs_is (taken 0 S.n a) (taken S.n S.m a) [] (taken_length 0 S.n a) (taken_length S.n S.m a) (sym p.m_is)
      ∙ p.outs_is (values S.outs (bit (taken 0 S.n a ++ taken S.n S.m a))) (length_values S.outs _ ∙ w)
      ∙ ap f (sym (outs_read S.n S.m S.outs S.outs_below a));
}
  where
    m_is : T.m ≡ S.m
    m_is = omega (arith, j.values_are.m_is, p.m_is)

    below : (v : ℕ) → S.n + S.m ≤ v → T.n + T.m ≤ v
    below v l = omega (arith, l, m_is, j.n_is)

pub moved_phase : (x y x0 y0 p p0 : ℕ) → x % 4294967296 ≡ (y + p) % 4294967296 → x0 % 4294967296 ≡ (y0 + p0) % 4294967296 → p0 ≡ p → (x + y0) % 4294967296 ≡ (y + x0) % 4294967296
moved_phase x y x0 y0 p p0 e f h = omega (arith, e, f, h)

behind_quiet : (S T : PathSum) (f back : Truths → Truths) (P : Truths → ℕ) → ((z : Truths) → length z ≡ length S.outs → back (f z) ≡ z) → Behind S T f P → Quiet S T
behind_quiet S T f back P h b = record {
  n_is = b.n_is;
  m_is = b.m_is;
  outs_free = λ v o. outs_unread v S.outs S.formed.1 (λ a. before (with_value a v false) ∙ ap back (outs_same v T.outs a false o) ∙ sym (before a));
  terms_same = λ v o. same_with v T.phase S.phase T.formed.0 S.formed.0
      (λ a. moved_phase (phase_value T.phase a) (phase_value S.phase a) (phase_value T.phase (with_value a v false)) (phase_value S.phase (with_value a v false)) (P (values S.outs a)) (P (values S.outs (with_value a v false)))
      (b.phase_is a) (b.phase_is (with_value a v false)) (ap P (outs_same v S.outs a false o)));
}
  where
    before : (a : Assignment) → values S.outs a ≡ back (values T.outs a)
    before a = sym (ap back (b.outs_is a) ∙ h (values S.outs a) (length_values S.outs a))

-- ---- a gate without path variables
plain_m : (n : ℕ) (g : Prim) (L : PathSum) → IsPlainPrim g → IsLeafOf n g L → L.m ≡ 0
plain_m n (U theta phi lambda q) L p l =
    let w : IsLeafOf n (U 0 phi lambda q) L = subst (λ x. IsLeafOf n (U x phi lambda q) L) p l in
    w.values_are.m_is
plain_m n (Cx c t) L p l = l.values_are.m_is

no_variable : (S : PathSum) (s : Step) → S.m ≡ 0 → Applies S s → ⊥
no_variable S (Elim y0) e a = let h = a.inner.inside in omega (arith, h, e)
no_variable S (Hh y0 y1) e a = let h = a.inner.inside in omega (arith, h, e)
no_variable S (Omega y0) e a = let h = a.inner.inside in omega (arith, h, e)

pub plain_irreducible : (n : ℕ) (g : Prim) (L : PathSum) → IsPlainPrim g → IsLeafOf n g L → IsIrreducible L
plain_irreducible n g L p l s a = no_variable L s (plain_m n g L p l) a

plain_quiet : (n : ℕ) (g : Prim) (S L T : PathSum) → IsPlainPrim g → IsWithin n g → S.n ≡ n → length S.outs ≡ n → IsLeafOf n g L → IsJoinOf S L T → Quiet S T
plain_quiet n (U theta phi lambda q) S L T p w en wide l j =
    let k : IsLeafOf n (U 0 phi lambda q) L = subst (λ x. IsLeafOf n (U x phi lambda q) L) p l in
    behind_quiet S T _ (λ z. z) _ (λ z h. refl) (plain_behind n (λ x. x) (λ x. cond (bit x q) (2 * phi + 2 * lambda) 0) S L T en wide k.values_are j)
plain_quiet n (Cx c t) S L T p w en wide l j =
    behind_quiet S T _ (exchanged c t) _ (λ z h. exchanged_twice c t z (omega (arith, w.1, h, wide)) w.2) (plain_behind n (exchanged c t) (λ x. 0) S L T en wide l.values_are j)

pub plain_still : (n : ℕ) (g : Prim) (S L T : PathSum) → IsPlainPrim g → IsWithin n g → S.n ≡ n → length S.outs ≡ n → IsLeafOf n g L → IsIrreducible S → IsJoinOf S L T → IsIrreducible T
plain_still n g S L T p w en wide l i j = quiet_irreducible S T (plain_quiet n g S L T p w en wide l j) i
