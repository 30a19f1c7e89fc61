-- An output that is the sum of two inputs.
use Rattle.std.proofs.Common.{◌≡◌, ◌≢◌, ℕ, zero, suc, ◌+◌, refl, ap, ap₂, sym, ◌∙◌, subst, arith, ◌<◌, ◌≤◌, Bool, true, false, cond, ◌||◌, List, [], ◌∷◌, length, get_or, Some, None, inr, Ordering, Less, Equal, Greater}
use Rattle.std.specs.Prelude.{slice_get}
use Rattle.ps_mono.specs.Sets.{holds, stands, mono_cmp}
use Rattle.ps_mono.specs.Lists.{nat_eq_same}
use Rattle.ps_mono.specs.Truth.{differ, with_value}
use Rattle.ps_ring.specs.Readings.{Assignment, second_name}
use Rattle.ps_bool.specs.Polys.{bool_value, occurs, IsPoly}
use Rattle.ps_bool.specs.Merging.{pick, weave, merge}
use Rattle.ps_bool.proofs.Merges.{merge_value, merge_poly}
use Rattle.ps_bool.proofs.Bools.{and_true}
use Rattle.ps_bool.proofs.Variables.{occurs-merge}
use Rattle.ps_bool.proofs.Laws.{bool_value-var, bool_value-with_value}
use Rattle.ps_phase.proofs.Adding.{neither, no_or}
use Rattle.ps_sum.specs.Counts.{raw_bool}
use Rattle.ps_sum.specs.Forms.{AllPolys}
use Rattle.ps_sum.specs.Outs.{outs_occur}
use Rattle.ps_join.specs.Joining.{Chain, BoolAfter, BoolNamed, OutputChain}
use Rattle.ps_join.specs.Naming.{Agrees}
use Rattle.ps_join.specs.Parts.{BoolPart, IsPair}
use Rattle.ps_join.proofs.Outputs.{get_value, get_free, var_poly, var_free}
use Rattle.ps_join.proofs.NamedParts.{name_front}
use Rattle.ps_join.proofs.Chains.{never, idle_bool, idle_bool_count, idle_chain, own_count}

-- ---- sizes of a merge
unfoldable weight : (List ℕ → ℕ) → List (List ℕ) → ℕ
weight c [] = 0
weight c (m ∷ f) = c m + weight c f

pick_weight : (c : List ℕ → ℕ) (o : Ordering) (u v w : List (List ℕ)) (most : ℕ) → weight c u ≤ most → weight c v ≤ most → weight c w ≤ most → weight c (pick o u v w) ≤ most
unfolding pick
pick_weight c Less u v w most h k l = h
pick_weight c Equal u v w most h k l = k
pick_weight c Greater u v w most h k l = l

weave_weight : (c : List ℕ → ℕ) (x : List ℕ) (rest : List (List ℕ) → List (List ℕ)) (r : ℕ) → ((zs : List (List ℕ)) → weight c (rest zs) ≤ r + weight c zs) → (ys : List (List ℕ)) → weight c (weave x rest ys) ≤ c x + r + weight c ys
unfolding weave weight
weave_weight c x rest r h [] = let k : weight c (rest []) ≤ r + 0 = h [] in omega arith
weave_weight c x rest r h (y ∷ ys) =
    pick_weight c (mono_cmp x y) (x ∷ rest (y ∷ ys)) (rest ys) (y ∷ weave x rest ys) (c x + r + (c y + weight c ys))
    (let k : weight c (rest (y ∷ ys)) ≤ r + (c y + weight c ys) = h (y ∷ ys) in omega arith)
    (let k : weight c (rest ys) ≤ r + weight c ys = h ys in omega arith)
    (let k : weight c (weave x rest ys) ≤ c x + r + weight c ys = weave_weight c x rest r h ys in omega arith)

merge_weight : (c : List ℕ → ℕ) (xs ys : List (List ℕ)) → weight c (merge xs ys) ≤ weight c xs + weight c ys
unfolding merge weight
merge_weight c [] ys = omega arith
merge_weight c (x ∷ xs) ys = weave_weight c x (λ zs. merge xs zs) (weight c xs) (λ zs. merge_weight c xs zs) ys

raw_weight : (v t : ℕ) (f : List (List ℕ)) → raw_bool v t f ≡ weight (λ m. cond (stands v m) t 1) f
unfolding raw_bool weight
raw_weight v t [] = refl
raw_weight v t (m ∷ f) = ap (λ n. cond (stands v m) t 1 + n) (raw_weight v t f)

length_weight : (f : List (List ℕ)) → length f ≡ weight (λ m. 1) f
unfolding weight
length_weight [] = refl
length_weight (m ∷ f) = let e : length f ≡ weight (λ m. 1) f = length_weight f in omega arith

merge_raw : (v t : ℕ) (xs ys : List (List ℕ)) → raw_bool v t (merge xs ys) ≤ raw_bool v t xs + raw_bool v t ys
merge_raw v t xs ys = omega (arith, raw_weight v t (merge xs ys), raw_weight v t xs, raw_weight v t ys, merge_weight (λ m. cond (stands v m) t 1) xs ys)

merge_length : (xs ys : List (List ℕ)) → length (merge xs ys) ≤ length xs + length ys
merge_length xs ys = omega (arith, length_weight (merge xs ys), length_weight xs, length_weight ys, merge_weight (λ m. 1) xs ys)

pub free_merge : (v : ℕ) (xs ys : List (List ℕ)) → occurs v xs ≡ false → occurs v ys ≡ false → occurs v (merge xs ys) ≡ false
free_merge v xs ys h k = never (occurs v (merge xs ys)) (occurs v xs || occurs v ys) (occurs-merge v xs ys) (no_or _ _ h k)

-- ---- one of the two replaced, and then the other
var_same : (w : ℕ) (a : Assignment) (b : Bool) → bool_value ((w ∷ []) ∷ []) (with_value a w b) ≡ b
var_same w a b = bool_value-var w (with_value a w b) ∙ ap (λ c. cond c b (a w)) (nat_eq_same w)

var_other : (u w : ℕ) (a : Assignment) (b : Bool) → u ≢ w → bool_value ((u ∷ []) ∷ []) (with_value a w b) ≡ bool_value ((u ∷ []) ∷ []) a
var_other u w a b d = bool_value-with_value ((u ∷ []) ∷ []) w a b (var_free u w (λ e. d (sym e)))

first_after : (w u : ℕ) (x : List (List ℕ)) → u ≢ w → u < 512 → IsPoly x → BoolAfter w x (merge ((w ∷ []) ∷ []) ((u ∷ []) ∷ [])) (merge x ((u ∷ []) ∷ []))
first_after w u x d l p = record {
  form = merge_poly x ((u ∷ []) ∷ []) p (var_poly u l);
  value = λ a. merge_value x ((u ∷ []) ∷ []) a ∙ sym (merge_value ((w ∷ []) ∷ []) ((u ∷ []) ∷ []) (with_value a w (bool_value x a)) ∙ ap₂ differ (var_same w a (bool_value x a)) (var_other u w a (bool_value x a) d));
}

second_after : (w : ℕ) (x y : List (List ℕ)) → occurs w x ≡ false → IsPoly x → IsPoly y → BoolAfter w y (merge x ((w ∷ []) ∷ [])) (merge x y)
second_after w x y n p q = record {
  form = merge_poly x y p q;
  value = λ a. merge_value x y a ∙ sym (merge_value x ((w ∷ []) ∷ []) (with_value a w (bool_value y a)) ∙ ap₂ differ (bool_value-with_value x w a (bool_value y a) n) (var_same w a (bool_value y a)));
}

-- the d-th of the polynomials in place of the other variable
pub half_chain : (fs : List (List (List ℕ))) (v w d : ℕ) (x y : List (List ℕ)) → d < length fs → w ≡ v + d → w < 512 → y ≡ get_or fs d y → AllPolys fs → ((u : ℕ) → v ≤ u → outs_occur u fs ≡ false)
    → IsPoly x → ((u : ℕ) → v ≤ u → occurs u x ≡ false) → length x < 32768 → length y < 32768 → Chain (List (List ℕ)) raw_bool BoolAfter v fs (merge x ((w ∷ []) ∷ [])) None
unfolding outs_occur
half_chain [] v w d x y h e z g p o q n l k = absurd (omega arith)
half_chain (f ∷ fs) v w zero x y h e z g p o q n l k =
    let same : v ≡ w = omega arith in
    let none : occurs w x ≡ false = n w (omega arith) in
    let made : raw_bool w (length f) (merge x ((w ∷ []) ∷ [])) ≤ length x + length f = omega (arith, merge_raw w (length f) x ((w ∷ []) ∷ []), idle_bool_count w (length f) x none, own_count w (length f)) in
    let short : length f < 32768 = omega (arith, ap length g) in
    subst (λ (i : ℕ). Chain (List (List ℕ)) raw_bool BoolAfter i (f ∷ fs) (merge x ((w ∷ []) ∷ [])) None) (sym same)
    (inr (
      omega arith,
      (
        merge x f,
        (
          second_after w x f none q p.0,
          idle_chain fs (suc w) (merge x f) (merge_poly x f q p.0)
              (λ u i. free_merge u x f (n u (omega arith)) (neither _ _ (o u (omega arith))).0) (omega (arith, merge_length x f)),
        ),
      ),
    ))
half_chain (f ∷ fs) v w (suc d) x y h e z g p o q n l k =
    let other : v ≢ w = omega arith in
    let none : occurs v (merge x ((w ∷ []) ∷ [])) ≡ false = free_merge v x ((w ∷ []) ∷ []) (n v (omega arith)) (var_free w v other) in
    inr (
      omega (arith, idle_bool_count v (length f) (merge x ((w ∷ []) ∷ [])) none, merge_length x ((w ∷ []) ∷ [])),
      (
        merge x ((w ∷ []) ∷ []),
        (
          idle_bool v f (merge x ((w ∷ []) ∷ [])) (merge_poly x ((w ∷ []) ∷ []) q (var_poly w z)) none,
          half_chain fs (suc v) w d x y (omega arith) (omega arith) z g p.1 (λ u i. (neither _ _ (o u (omega arith))).1) q (λ u i. n u (omega arith)) l k,
        ),
      ),
    )

-- the c-th and the d-th of the polynomials in place of two variables
pub pair_chain : (fs : List (List (List ℕ))) (v w u c d : ℕ) (x y : List (List ℕ)) → c < d → d < length fs → w ≡ v + c → u ≡ v + d → u < 512 → x ≡ get_or fs c x → y ≡ get_or fs d y → AllPolys fs → ((i : ℕ) → v ≤ i → outs_occur i fs ≡ false)
    → length x < 32768 → length y < 32768 → Chain (List (List ℕ)) raw_bool BoolAfter v fs (merge ((w ∷ []) ∷ []) ((u ∷ []) ∷ [])) None
unfolding outs_occur
pair_chain [] v w u c d x y b h e e' z g g' p o l k = absurd (omega arith)
pair_chain (f ∷ fs) v w u c zero x y b h e e' z g g' p o l k = absurd (omega arith)
pair_chain (f ∷ fs) v w u zero (suc d) x y b h e e' z g g' p o l k =
    let same : v ≡ w = omega arith in
    let apart : u ≢ w = omega arith in
    let made : raw_bool w (length f) (merge ((w ∷ []) ∷ []) ((u ∷ []) ∷ [])) ≤ length f + 1 = omega (arith, merge_raw w (length f) ((w ∷ []) ∷ []) ((u ∷ []) ∷ []), own_count w (length f), idle_bool_count w (length f) ((u ∷ []) ∷ []) (var_free u w (λ i. apart (sym i)))) in
    let short : length f < 32768 = omega (arith, ap length g) in
    subst (λ (i : ℕ). Chain (List (List ℕ)) raw_bool BoolAfter i (f ∷ fs) (merge ((w ∷ []) ∷ []) ((u ∷ []) ∷ [])) None) (sym same)
    (inr (
      omega arith,
      (
        merge f ((u ∷ []) ∷ []),
        (
          first_after w u f apart z p.0,
          half_chain fs (suc w) u d f y (omega arith) (omega arith) z g' p.1 (λ i j. (neither _ _ (o i (omega arith))).1) p.0 (λ i j. (neither _ _ (o i (omega arith))).0) short k,
        ),
      ),
    ))
pair_chain (f ∷ fs) v w u (suc c) (suc d) x y b h e e' z g g' p o l k =
    let one : v ≢ w = omega arith in
    let two : v ≢ u = omega arith in
    let small : w < 512 = omega arith in
    let none : occurs v (merge ((w ∷ []) ∷ []) ((u ∷ []) ∷ [])) ≡ false = free_merge v ((w ∷ []) ∷ []) ((u ∷ []) ∷ []) (var_free w v one) (var_free u v two) in
    inr (
      omega (arith, idle_bool_count v (length f) (merge ((w ∷ []) ∷ []) ((u ∷ []) ∷ [])) none, merge_length ((w ∷ []) ∷ []) ((u ∷ []) ∷ [])),
      (
        merge ((w ∷ []) ∷ []) ((u ∷ []) ∷ []),
        (
          idle_bool v f (merge ((w ∷ []) ∷ []) ((u ∷ []) ∷ [])) (merge_poly ((w ∷ []) ∷ []) ((u ∷ []) ∷ []) (var_poly w small) (var_poly u z)) none,
          pair_chain fs (suc v) w u c d x y (omega arith) (omega arith) (omega arith) (omega arith) z g g' p.1 (λ i j. (neither _ _ (o i (omega arith))).1) l k,
        ),
      ),
    )

-- ---- the output
holds_one : (u : ℕ) (a : Assignment) → holds (u ∷ []) a ≡ a u
unfolding holds
holds_one u a = and_true (a u)

pair_value : (u w : ℕ) (a : Assignment) → bool_value ((u ∷ []) ∷ (w ∷ []) ∷ []) a ≡ differ (a u) (a w)
unfolding bool_value
pair_value u w a = ap₂ differ (holds_one u a) (bool_value-var w a)

pair_named : (n m1 m2 i j : ℕ) → i < n → j < n → n + n + m1 + m2 ≤ 512 → BoolNamed n m1 m2 ((i ∷ []) ∷ (j ∷ []) ∷ []) (merge (((n + (m1 + m2) + i) ∷ []) ∷ []) (((n + (m1 + m2) + j) ∷ []) ∷ []))
pair_named n m1 m2 i j h k r = record {
  form = merge_poly (((n + (m1 + m2) + i) ∷ []) ∷ []) (((n + (m1 + m2) + j) ∷ []) ∷ []) (var_poly (n + (m1 + m2) + i) (omega arith)) (var_poly (n + (m1 + m2) + j) (omega arith));
  value = λ a. merge_value (((n + (m1 + m2) + i) ∷ []) ∷ []) (((n + (m1 + m2) + j) ∷ []) ∷ []) a
      ∙ ap₂ differ (bool_value-var (n + (m1 + m2) + i) a ∙ ap a (name_front n m1 m2 i (n + (m1 + m2) + i) h refl)) (bool_value-var (n + (m1 + m2) + j) a ∙ ap a (name_front n m1 m2 j (n + (m1 + m2) + j) k refl))
      ∙ sym (pair_value i j (λ v. a (second_name n m1 m2 v)));
}

pub pair_fits : (n m1 m2 i j : ℕ) (fs : List (List (List ℕ))) (x y g : List (List ℕ)) → IsPair n g i j → length fs ≡ n → n + n + m1 + m2 ≤ 512 → x ≡ get_or fs i x → y ≡ get_or fs j y → AllPolys fs → ((v : ℕ) → n + m1 ≤ v → outs_occur v fs ≡ false)
    → length x < 32768 → length y < 32768 → OutputChain n m1 m2 fs g None
pair_fits n m1 m2 i j fs x y g t w r e e' p o l k =
    subst (λ (z : List (List ℕ)). OutputChain n m1 m2 fs z None) (sym t.0) (
      merge (((n + (m1 + m2) + i) ∷ []) ∷ []) (((n + (m1 + m2) + j) ∷ []) ∷ []),
      (
        pair_named n m1 m2 i j (omega (arith, t.1.0, t.1.1)) t.1.1 r,
        pair_chain fs (n + (m1 + m2)) (n + (m1 + m2) + i) (n + (m1 + m2) + j) i j x y t.1.0 (omega (arith, w, t.1.1)) refl refl (omega (arith, t.1.1, r)) e e' p (λ u h. o u (omega arith)) l k,
      ),
    )

pub pair_part : (n m1 m2 i j : ℕ) (fs : List (List (List ℕ))) (x y g q : List (List ℕ)) → IsPair n g i j → length fs ≡ n → x ≡ get_or fs i x → y ≡ get_or fs j y → ((v : ℕ) → n + m1 ≤ v → outs_occur v fs ≡ false)
    → IsPoly q → ((a : Assignment) → bool_value q a ≡ differ (bool_value x a) (bool_value y a)) → ((v : ℕ) → occurs v q ≡ true → (occurs v x || occurs v y) ≡ true) → BoolPart n m1 m2 fs g q
pair_part n m1 m2 i j fs x y g q t w e e' o p s u =
    let first : i < length fs = omega (arith, w, t.1.0, t.1.1) in
    let second : j < length fs = omega (arith, w, t.1.1) in
    record {
      form = p;
      value = λ a h. s a ∙ ap₂ differ (read i x a first e h) (read j y a second e' h) ∙ sym (ap (λ (z : List (List ℕ)). bool_value z (λ v. a (second_name n m1 m2 v))) t.0 ∙ pair_value i j (λ v. a (second_name n m1 m2 v)));
      below = λ v l. never (occurs v q) (occurs v x || occurs v y) (u v) (no_or _ _ (ap (occurs v) e ∙ get_free fs i x v first (o v (omega arith))) (ap (occurs v) e' ∙ get_free fs j y v second (o v (omega arith))));
    }
  where
    read : (i : ℕ) (x : List (List ℕ)) (a : Assignment) → i < length fs → x ≡ get_or fs i x → Agrees n m1 m2 fs a → bool_value x a ≡ a (second_name n m1 m2 i)
    read i x a l e h = ap (λ (z : List (List ℕ)). bool_value z a) e ∙ get_value fs i x a l ∙ sym (h i (omega (arith, w))) ∙ ap a (name_front n m1 m2 i (n + (m1 + m2) + i) (omega (arith, w)) refl)

-- ---- which polynomials are such
pub one_variable : (m : List ℕ) (v : ℕ) → length m ≡ 1 → v ≡ get_or m 0 0 → m ≡ v ∷ []
one_variable [] v l e = absurd (omega arith)
one_variable (a ∷ []) v l e = ap (λ (x : ℕ). x ∷ []) (sym e)
one_variable (a ∷ b ∷ m) v l e = absurd (omega arith)

pub is_pair : (n : ℕ) (g : List (List ℕ)) (m k : List ℕ) (i j : ℕ) → length g ≡ 2 → slice_get g 0 ≡ Some m → slice_get g 1 ≡ Some k → length m ≡ 1 → length k ≡ 1 → i ≡ get_or m 0 0 → j ≡ get_or k 0 0 → i < j → j < n → IsPair n g i j
is_pair n [] m k i j l e f a b p q h t = absurd (omega arith)
is_pair n (x ∷ []) m k i j l e f a b p q h t = absurd (omega arith)
is_pair n (x ∷ y ∷ z ∷ g) m k i j l e f a b p q h t = absurd (omega arith)
is_pair n (x ∷ y ∷ []) m k i j l e f a b p q h t = (ap₂ (λ (u w : List ℕ). u ∷ w ∷ []) (first e ∙ one_variable m i a p) (second f ∙ one_variable k j b q), (h, t))
  where
    first : slice_get (x ∷ y ∷ []) 0 ≡ Some m → x ≡ m
    first g = cc

    second : slice_get (x ∷ y ∷ []) 1 ≡ Some k → y ≡ k
    second g = cc

pub moved_pair : (n : ℕ) (g : List (List ℕ)) (i j i' j' : ℕ) → i ≡ i' → j ≡ j' → IsPair n g i' j' → IsPair n g i j
moved_pair n g i j i' j' e f p = subst (λ (x : ℕ). IsPair n g x j) (sym e) (subst (λ (x : ℕ). IsPair n g i' x) (sym f) p)
