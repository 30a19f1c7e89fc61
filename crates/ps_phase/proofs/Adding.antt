-- Terms added.
use Rattle.std.proofs.Common.{◌≡◌, ◌≢◌, ℕ, ◌+◌, ◌%◌, refl, ap, ap₂, sym, ◌∙◌, subst, arith, ◌<◌, ◌≤◌, Bool, true, false, cond, nat_eq, List, [], ◌∷◌, ◌++◌, length, drop, take, get_or, drop-cons, add-one, drop_of_length-le, append-nil, append_assoc, length-drop, ◌-◌, ◌⊎◌, inl, inr, Ordering, Less, Equal, Greater, ◌||◌}
use Rattle.std.proofs.lemmas.Bool.Decides.{nat_tests}
use Rattle.std.proofs.lemmas.List.{take_all}
use Rattle.ps_phase.specs.declared.terms.Term.{Term}
use Rattle.ps_mono.specs.Sets.{mono_cmp, holds, stands, IsVarSet}
use Rattle.ps_mono.proofs.Laws.{climbing_set}
use Rattle.ps_mono.specs.Truth.{times}
use Rattle.ps_phase.specs.Phases.{phase_value, phase_occurs, TermBefore, IsTerm, IsPhasePoly}
use Rattle.ps_phase.specs.Adding.{choose, put_term, blend, add_terms}
use Rattle.ps_mono.proofs.Orders.{mono_total, mono_equal, mono_flip}

-- ---- values
abbrev pub M : ℕ
M = 4294967296

pub choose_value : (o : Ordering) (a : ℕ → Bool) (r : ℕ) (u v w : List Term) → (o ≡ Less → phase_value u a % M ≡ r) → (o ≡ Equal → phase_value v a % M ≡ r) → (o ≡ Greater → phase_value w a % M ≡ r) → phase_value (choose o u v w) a % M ≡ r
unfolding choose
choose_value Less a r u v w l e g = l refl
choose_value Equal a r u v w l e g = e refl
choose_value Greater a r u v w l e g = g refl

pub times_none : (b : Bool) → times b 0 ≡ 0
unfolding times
times_none true = refl
times_none false = refl

pub put_value : (m : List ℕ) (u : ℕ) (ts : List Term) (a : ℕ → Bool) → phase_value (put_term m u ts) a ≡ times (holds m a) u + phase_value ts a
unfolding put_term phase_value
put_value m u ts a = by (nat_eq u 0) refl
  where
    by : (t : Bool) → nat_eq u 0 ≡ t → phase_value (cond (nat_eq u 0) ts (record { mono = m; phase = u } ∷ ts)) a ≡ times (holds m a) u + phase_value ts a
    by true e =
        let z : u ≡ 0 = grind (arith, nat_tests) in
        let n = ap (times (holds m a)) z ∙ times_none (holds m a) in
        rw e (omega arith)
    by false e = rw e refl

-- the two terms of one monomial
pub both_value : (b : Bool) (u w p q r : ℕ) → r % M ≡ (p + q) % M → (times b ((u + w) % M) + r) % M ≡ (times b u + p + (times b w + q)) % M
unfolding times
both_value true u w p q r e = omega arith
both_value false u w p q r e = omega arith

blend_value : (x : Term) (rest : List Term → List Term) (a : ℕ → Bool) (p : ℕ) → ((zs : List Term) → phase_value (rest zs) a % M ≡ (p + phase_value zs a) % M) → (ys : List Term) → phase_value (blend x rest ys) a % M ≡ (times (holds x.mono a) x.phase + p + phase_value ys a) % M
unfolding blend phase_value
blend_value x rest a p h [] = let e = h [] in omega arith
blend_value x rest a p h (y ∷ ys) = choose_value (mono_cmp x.mono y.mono) a _ _ _ _
    (λ l. let e = h (y ∷ ys) in omega arith)
    (λ l. ap (λ r. r % M) (put_value x.mono ((x.phase + y.phase) % M) (rest ys) a) ∙ both_value (holds x.mono a) x.phase y.phase p (phase_value ys a) (phase_value (rest ys) a) (h ys)
    ∙ ap (λ m. (times (holds x.mono a) x.phase + p + (times (holds m a) y.phase + phase_value ys a)) % M) (mono_equal x.mono y.mono l))
    (λ l. let e = blend_value x rest a p h ys in omega arith)

pub add_value : (xs ys : List Term) (a : ℕ → Bool) → phase_value (add_terms xs ys) a % M ≡ (phase_value xs a + phase_value ys a) % M
unfolding add_terms phase_value
add_value [] ys a = omega arith
add_value (x ∷ xs) ys a = blend_value x (λ zs. add_terms xs zs) a (phase_value xs a) (λ zs. add_value xs zs a) ys

-- ---- order
pub before_less : (m k : List ℕ) (ts : List Term) → mono_cmp m k ≡ Less → TermBefore k ts → TermBefore m ts
before_less m k [] l b = tt
before_less m k (t ∷ ts) l b = (mono_total.trans m k t.mono l b.0, before_less m k ts l b.1)

pub choose_before : (m : List ℕ) (o : Ordering) (u v w : List Term) → (o ≡ Less → TermBefore m u) → (o ≡ Equal → TermBefore m v) → (o ≡ Greater → TermBefore m w) → TermBefore m (choose o u v w)
unfolding choose
choose_before m Less u v w l e g = l refl
choose_before m Equal u v w l e g = e refl
choose_before m Greater u v w l e g = g refl

pub put_before : (m k : List ℕ) (u : ℕ) (ts : List Term) → mono_cmp m k ≡ Less → TermBefore m ts → TermBefore m (put_term k u ts)
unfolding put_term
put_before m k u ts l b = by (nat_eq u 0) refl
  where
    by : (t : Bool) → nat_eq u 0 ≡ t → TermBefore m (cond (nat_eq u 0) ts (record { mono = k; phase = u } ∷ ts))
    by true e = rw e b
    by false e = rw e (l, b)

blend_before : (m : List ℕ) (x : Term) (rest : List Term → List Term) → mono_cmp m x.mono ≡ Less → ((zs : List Term) → TermBefore m zs → TermBefore m (rest zs)) → (ys : List Term) → TermBefore m ys → TermBefore m (blend x rest ys)
unfolding blend
blend_before m x rest l h [] b = (l, h [] tt)
blend_before m x rest l h (y ∷ ys) b = choose_before m (mono_cmp x.mono y.mono) _ _ _ (λ o. (l, h (y ∷ ys) b)) (λ o. put_before m x.mono _ _ l (h ys b.1)) (λ o. (b.0, blend_before m x rest l h ys b.1))

add_before : (m : List ℕ) (xs ys : List Term) → TermBefore m xs → TermBefore m ys → TermBefore m (add_terms xs ys)
unfolding add_terms
add_before m [] ys b c = c
add_before m (x ∷ xs) ys b c = blend_before m x (λ zs. add_terms xs zs) b.0 (λ zs d. add_before m xs zs b.1 d) ys c

pub choose_form : (o : Ordering) (u v w : List Term) → (o ≡ Less → IsPhasePoly u) → (o ≡ Equal → IsPhasePoly v) → (o ≡ Greater → IsPhasePoly w) → IsPhasePoly (choose o u v w)
unfolding choose
choose_form Less u v w l e g = l refl
choose_form Equal u v w l e g = e refl
choose_form Greater u v w l e g = g refl

pub put_form : (m : List ℕ) (u : ℕ) (ts : List Term) → IsVarSet m → u < M → TermBefore m ts → IsPhasePoly ts → IsPhasePoly (put_term m u ts)
unfolding put_term
put_form m u ts s l b c = by (nat_eq u 0) refl
  where
    by : (t : Bool) → nat_eq u 0 ≡ t → IsPhasePoly (cond (nat_eq u 0) ts (record { mono = m; phase = u } ∷ ts))
    by true e = rw e c
    by false e = rw e (record { set = s; turns = λ z. grind (arith, nat_tests); small = l }, b, c)

blend_form : (x : Term) (rest : List Term → List Term) → IsTerm x → ((m : List ℕ) (zs : List Term) → mono_cmp m x.mono ≡ Less → TermBefore m zs → TermBefore m (rest zs)) → ((zs : List Term) → TermBefore x.mono zs → TermBefore x.mono (rest zs)) → ((zs : List Term) → IsPhasePoly zs → IsPhasePoly (rest zs)) → (ys : List Term) → IsPhasePoly ys → IsPhasePoly (blend x rest ys)
unfolding blend
blend_form x rest n k b h [] s = (n, b [] tt, h [] tt)
blend_form x rest n k b h (y ∷ ys) s = choose_form (mono_cmp x.mono y.mono) _ _ _
    (λ l. (n, b (y ∷ ys) (l, before_less x.mono y.mono ys l s.1), h (y ∷ ys) s))
    (λ e. put_form x.mono _ _ n.set (omega arith) (b ys (subst (λ (m : List ℕ). TermBefore m ys) (sym (mono_equal x.mono y.mono e)) s.1)) (h ys s.2))
    (λ g. (s.0, blend_before y.mono x rest (mono_flip x.mono y.mono g) (λ zs c. k y.mono zs (mono_flip x.mono y.mono g) c) ys s.1, blend_form x rest n k b h ys s.2))

pub add_form : (xs ys : List Term) → IsPhasePoly xs → IsPhasePoly ys → IsPhasePoly (add_terms xs ys)
unfolding add_terms
add_form [] ys s t = t
add_form (x ∷ xs) ys s t = blend_form x (λ zs. add_terms xs zs) s.0 (λ m zs l c. add_before m xs zs (before_less m x.mono xs l s.1) c) (λ zs c. add_before x.mono xs zs s.1 c) (λ zs u. add_form xs zs s.2 u) ys t

-- ---- variables
-- neither of two tests
pub neither : (p q : Bool) → (p || q) ≡ false → (p ≡ false) × (q ≡ false)
neither true q e = absurd (no e)
  where
    no : true ≡ false → ⊥
    no e = cc
neither false q e = (refl, e)

pub no_or : (p q : Bool) → p ≡ false → q ≡ false → (p || q) ≡ false
no_or p q e f = ap₂ (λ (x y : Bool). x || y) e f

-- where r is false with p and q, one of them is true with r
pub from_two : (p q r : Bool) → (p ≡ false → q ≡ false → r ≡ false) → r ≡ true → (p || q) ≡ true
from_two true q r f h = refl
from_two false true r f h = refl
from_two false false r f h = sym (f refl refl) ∙ h

pub from_one : (p r : Bool) → (p ≡ false → r ≡ false) → r ≡ true → p ≡ true
from_one true r f h = refl
from_one false r f h = sym (f refl) ∙ h

pub choose_free : (v : ℕ) (o : Ordering) (u w z : List Term) → phase_occurs v u ≡ false → phase_occurs v w ≡ false → phase_occurs v z ≡ false → phase_occurs v (choose o u w z) ≡ false
unfolding choose
choose_free v Less u w z a b c = a
choose_free v Equal u w z a b c = b
choose_free v Greater u w z a b c = c

pub put_free : (v : ℕ) (m : List ℕ) (p : ℕ) (ts : List Term) → stands v m ≡ false → phase_occurs v ts ≡ false → phase_occurs v (put_term m p ts) ≡ false
unfolding put_term phase_occurs
put_free v m p ts a b = by (nat_eq p 0) refl
  where
    by : (t : Bool) → nat_eq p 0 ≡ t → phase_occurs v (cond (nat_eq p 0) ts (record { mono = m; phase = p } ∷ ts)) ≡ false
    by true e = rw e b
    by false e = rw e (no_or _ _ a b)

blend_free : (v : ℕ) (x : Term) (rest : List Term → List Term) → stands v x.mono ≡ false → ((zs : List Term) → phase_occurs v zs ≡ false → phase_occurs v (rest zs) ≡ false) → (ys : List Term) → phase_occurs v ys ≡ false → phase_occurs v (blend x rest ys) ≡ false
unfolding blend phase_occurs
blend_free v x rest a h [] b = no_or _ _ a (h [] b)
blend_free v x rest a h (y ∷ ys) b = let n = neither (stands v y.mono) (phase_occurs v ys) b in choose_free v (mono_cmp x.mono y.mono) _ _ _ (no_or _ _ a (h (y ∷ ys) b)) (put_free v x.mono _ _ a (h ys n.1)) (no_or _ _ n.0 (blend_free v x rest a h ys n.1))

pub add_free : (v : ℕ) (xs ys : List Term) → phase_occurs v xs ≡ false → phase_occurs v ys ≡ false → phase_occurs v (add_terms xs ys) ≡ false
unfolding add_terms phase_occurs
add_free v [] ys a b = b
add_free v (x ∷ xs) ys a b = let n = neither (stands v x.mono) (phase_occurs v xs) a in blend_free v x (λ zs. add_terms xs zs) n.0 (λ zs c. add_free v xs zs n.1 c) ys b

-- ---- the loops of `added`, by places
pub cut : (xs : List Term) (i : ℕ) (x : Term) → i < length xs → x ≡ get_or xs i x → drop i xs ≡ x ∷ drop (i + 1) xs
cut xs i x h e = drop-cons xs i x h ∙ ap₂ (λ (v : Term) (n : ℕ). v ∷ drop n xs) (sym e) (sym (add-one i))

pick_is : (o p : Ordering) (u v w : List Term) → p ≡ o → choose p u v w ≡ choose o u v w
pick_is o p u v w e = ap (λ r. choose r u v w) e

pub keep_less : (xs ys out all : List Term) (i j : ℕ) (x y : Term) → i < length xs → j < length ys → x ≡ get_or xs i x → y ≡ get_or ys j y → Less ≡ mono_cmp x.mono y.mono → out ++ add_terms (drop i xs) (drop j ys) ≡ all → (out ++ x ∷ []) ++ add_terms (drop (i + 1) xs) (drop j ys) ≡ all
unfolding add_terms blend choose
keep_less xs ys out all i j x y h k ex ey l e =
    let a = cut xs i x h ex in
    let b = cut ys j y k ey in
    append_assoc out (x ∷ []) _
    ∙ ap (λ (r : List Term). out ++ r) (ap (λ (r : List Term). x ∷ add_terms (drop (i + 1) xs) r) b ∙ sym (pick_is Less (mono_cmp x.mono y.mono) _ _ _ (sym l)) ∙ ap₂ add_terms (sym a) (sym b))
    ∙ e

pub keep_greater : (xs ys out all : List Term) (i j : ℕ) (x y : Term) → i < length xs → j < length ys → x ≡ get_or xs i x → y ≡ get_or ys j y → Greater ≡ mono_cmp x.mono y.mono → out ++ add_terms (drop i xs) (drop j ys) ≡ all → (out ++ y ∷ []) ++ add_terms (drop i xs) (drop (j + 1) ys) ≡ all
unfolding add_terms blend choose
keep_greater xs ys out all i j x y h k ex ey l e =
    let a = cut xs i x h ex in
    let b = cut ys j y k ey in
    append_assoc out (y ∷ []) _
    ∙ ap (λ (r : List Term). out ++ r) (ap (λ (r : List Term). y ∷ add_terms r (drop (j + 1) ys)) a ∙ sym (pick_is Greater (mono_cmp x.mono y.mono) _ _ _ (sym l)) ∙ ap₂ add_terms (sym a) (sym b))
    ∙ e

pub put_append : (m : List ℕ) (u : ℕ) (ts : List Term) → put_term m u [] ++ ts ≡ put_term m u ts
unfolding put_term
put_append m u ts = by (nat_eq u 0) refl
  where
    by : (t : Bool) → nat_eq u 0 ≡ t → cond {A = List Term} (nat_eq u 0) [] (record { mono = m; phase = u } ∷ []) ++ ts ≡ cond (nat_eq u 0) ts (record { mono = m; phase = u } ∷ ts)
    by true e = rw e refl
    by false e = rw e refl

pub keep_equal : (xs ys out out' all : List Term) (i j : ℕ) (x y : Term) → i < length xs → j < length ys → x ≡ get_or xs i x → y ≡ get_or ys j y → Equal ≡ mono_cmp x.mono y.mono
    → out' ≡ out ++ put_term x.mono ((x.phase + y.phase) % M) [] → out ++ add_terms (drop i xs) (drop j ys) ≡ all → out' ++ add_terms (drop (i + 1) xs) (drop (j + 1) ys) ≡ all
unfolding add_terms blend choose
keep_equal xs ys out out' all i j x y h k ex ey l eo e =
    let a = cut xs i x h ex in
    let b = cut ys j y k ey in
    ap (λ (r : List Term). r ++ add_terms (drop (i + 1) xs) (drop (j + 1) ys)) eo ∙ append_assoc out (put_term x.mono ((x.phase + y.phase) % M) []) _
    ∙ ap (λ (r : List Term). out ++ r) (put_append x.mono ((x.phase + y.phase) % M) _ ∙ sym (pick_is Equal (mono_cmp x.mono y.mono) _ _ _ (sym l)) ∙ ap₂ add_terms (sym a) (sym b))
    ∙ e

add_nil_right : (xs : List Term) → add_terms xs [] ≡ xs
unfolding add_terms blend
add_nil_right [] = refl
add_nil_right (x ∷ xs) = ap (λ (r : List Term). x ∷ r) (add_nil_right xs)

add_end : (xs ys : List Term) (i j : ℕ) → (length xs ≤ i) ⊎ (length ys ≤ j) → add_terms (drop i xs) (drop j ys) ≡ drop i xs ++ drop j ys
unfolding add_terms
add_end xs ys i j (inl h) = rw (drop_of_length-le xs h) refl
add_end xs ys i j (inr h) = rw (drop_of_length-le ys h) (add_nil_right (drop i xs) ∙ sym (append-nil (drop i xs)))

pub start_rest : (xs ys out all : List Term) (i j : ℕ) → (length xs ≤ i) ⊎ (length ys ≤ j) → out ++ add_terms (drop i xs) (drop j ys) ≡ all → out ++ (take (length xs - i) (drop i xs) ++ drop j ys) ≡ all
start_rest xs ys out all i j h e =
    let t : take (length xs - i) (drop i xs) ≡ drop i xs = take_all (length xs - i) (drop i xs) (omega (arith, length-drop i xs)) in
    ap (λ (r : List Term). out ++ (r ++ drop j ys)) t ∙ ap (λ (r : List Term). out ++ r) (sym (add_end xs ys i j h)) ∙ e

-- both rests appended, of which one is empty
pub add_rests : (xs ys out mid end all : List Term) (i j : ℕ) → (length xs ≤ i) ⊎ (length ys ≤ j) → out ++ add_terms (drop i xs) (drop j ys) ≡ all → mid ≡ out ++ take (length xs - i) (drop i xs) → end ≡ mid ++ take (length ys - j) (drop j ys) → end ≡ all
add_rests xs ys out mid end all i j h e first second =
    let t : take (length ys - j) (drop j ys) ≡ drop j ys = take_all (length ys - j) (drop j ys) (omega (arith, length-drop j ys)) in
    second ∙ ap (λ (r : List Term). r ++ take (length ys - j) (drop j ys)) first ∙ append_assoc out (take (length xs - i) (drop i xs)) (take (length ys - j) (drop j ys))
    ∙ ap (λ (r : List Term). out ++ (take (length xs - i) (drop i xs) ++ r)) t ∙ start_rest xs ys out all i j h e

pub pushed_copy : (m m' : List ℕ) (u : ℕ) (out out' : List Term) → m' ≡ m → out' ≡ out ++ record { mono = m'; phase = u } ∷ [] → out' ≡ out ++ record { mono = m; phase = u } ∷ []
pushed_copy m m' u out out' e h = h ∙ ap (λ (r : List ℕ). out ++ record { mono = r; phase = u } ∷ []) e

pub pushed_if : (m : List ℕ) (u q : ℕ) (out out' : List Term) → q ≡ u → ((q ≡ 0) × (out' ≡ out)) ⊎ ((q ≢ 0) × (out' ≡ out ++ record { mono = m; phase = u } ∷ [])) → out' ≡ out ++ put_term m u []
unfolding put_term
pushed_if m u q out out' f (inl h) = let z : u ≡ 0 = sym f ∙ h.0 in let e : nat_eq u 0 ≡ true = grind (arith, nat_tests) in rw e (h.1 ∙ sym (append-nil out))
pushed_if m u q out out' f (inr h) = let e : nat_eq u 0 ≡ false = grind (arith, nat_tests, h.0, f) in rw e h.1

-- ---- what `added` gives, by values; f and g are the two lists as they are passed, p and q as clauses see them
pub sum_form : (xs ys f g vs : List Term) → f ≡ xs → g ≡ ys → vs ≡ add_terms f g → IsPhasePoly xs → IsPhasePoly ys → IsPhasePoly vs
sum_form xs ys f g vs ef eg e s t = subst IsPhasePoly (sym (e ∙ ap₂ add_terms ef eg)) (add_form xs ys s t)

pub sum_value : (p q xs ys f g vs : List Term) → xs ≡ p → ys ≡ q → f ≡ xs → g ≡ ys → vs ≡ add_terms f g → (a : ℕ → Bool) → phase_value vs a % M ≡ (phase_value p a + phase_value q a) % M
sum_value p q xs ys f g vs ep eq ef eg e a = ap (λ (u : List Term). phase_value u a % M) (e ∙ ap₂ add_terms (ef ∙ ep) (eg ∙ eq)) ∙ add_value p q a

pub sum_free : (p q xs ys f g vs : List Term) → xs ≡ p → ys ≡ q → f ≡ xs → g ≡ ys → vs ≡ add_terms f g → (v : ℕ) → phase_occurs v vs ≡ true → (phase_occurs v p || phase_occurs v q) ≡ true
sum_free p q xs ys f g vs ep eq ef eg e v h = from_two _ _ _ (λ a b. add_free v p q a b) (ap (phase_occurs v) (sym (e ∙ ap₂ add_terms (ef ∙ ep) (eg ∙ eq))) ∙ h)

-- ---- one term
pub set_empty : IsVarSet []
set_empty = climbing_set [] tt tt

pub one_form : (m : List ℕ) (p : ℕ) (start out : List Term) → m ≡ [] → p < M → start ≡ [] → out ≡ start ++ put_term m p [] → IsPhasePoly out
one_form m p start out em l es e = subst IsPhasePoly (sym (e ∙ ap₂ (λ (x : List ℕ) (r : List Term). r ++ put_term x p []) em es)) (put_form [] p [] set_empty l tt tt)

pub constant_value : (m : List ℕ) (p : ℕ) (start out : List Term) → m ≡ [] → start ≡ [] → out ≡ start ++ put_term m p [] → (a : ℕ → Bool) → phase_value out a ≡ p
unfolding phase_value holds times
constant_value m p start out em es e a = ap (λ (r : List Term). phase_value r a) (e ∙ ap₂ (λ (x : List ℕ) (r : List Term). r ++ put_term x p []) em es) ∙ put_value [] p [] a ∙ omega arith

pub constant_free : (m : List ℕ) (p : ℕ) (start out : List Term) → m ≡ [] → start ≡ [] → out ≡ start ++ put_term m p [] → (v : ℕ) → phase_occurs v out ≡ false
unfolding phase_occurs stands
constant_free m p start out em es e v = ap (phase_occurs v) (e ∙ ap₂ (λ (x : List ℕ) (r : List Term). r ++ put_term x p []) em es) ∙ put_free v [] p [] refl refl
