-- Two ascending lists of monomials merged, where what stands in both goes.
use Rattle.std.proofs.Common.{◌≡◌, ℕ, ◌+◌, refl, ap, ap₂, sym, ◌∙◌, arith, ◌<◌, ◌≤◌, Bool, false, List, [], ◌∷◌, ◌++◌, length, drop, get_or, drop-cons, add-one, drop_of_length-le, append-nil, append_assoc, length-drop, take, ◌-◌, ◌⊎◌, inl, inr, Ordering, Less, Equal, Greater}
use Rattle.std.proofs.lemmas.List.{take_all}
use Rattle.ps_mono.specs.Sets.{mono_cmp, holds, IsVarSet}
use Rattle.ps_bool.specs.Polys.{bool_value, Before, Ascending, Each, IsPoly}
use Rattle.ps_bool.specs.Merging.{pick, weave, merge}
use Rattle.ps_mono.specs.Truth.{differ}
use Rattle.ps_bool.proofs.Bools.{differ_cross, differ_far, differ_twice, differ_none}
use Rattle.ps_mono.proofs.Orders.{mono_equal, mono_flip, mono_trans}

abbrev pub Mono : Type 0
Mono = List ℕ

-- ---- values
pick_value : (o : Ordering) (a : ℕ → Bool) (r : Bool) (u v w : List Mono) → (o ≡ Less → bool_value u a ≡ r) → (o ≡ Equal → bool_value v a ≡ r) → (o ≡ Greater → bool_value w a ≡ r) → bool_value (pick o u v w) a ≡ r
unfolding pick
pick_value Less a r u v w l e g = l refl
pick_value Equal a r u v w l e g = e refl
pick_value Greater a r u v w l e g = g refl

weave_value : (x : Mono) (rest : List Mono → List Mono) (a : ℕ → Bool) (p : Bool) → ((zs : List Mono) → bool_value (rest zs) a ≡ differ p (bool_value zs a)) → (ys : List Mono) → bool_value (weave x rest ys) a ≡ differ (differ (holds x a) p) (bool_value ys a)
unfolding weave bool_value
weave_value x rest a p h [] = ap (differ (holds x a)) (h []) ∙ differ_cross (holds x a) p false
weave_value x rest a p h (y ∷ ys) = pick_value (mono_cmp x y) a _ _ _ _
    (λ l. ap (differ (holds x a)) (h (y ∷ ys)) ∙ differ_cross (holds x a) p (differ (holds y a) (bool_value ys a)))
    (λ e. h ys ∙ differ_twice (holds y a) p (bool_value ys a) ∙ ap (λ (m : Mono). differ (differ (holds m a) p) (differ (holds y a) (bool_value ys a))) (sym (mono_equal x y e)))
    (λ g. ap (differ (holds y a)) (weave_value x rest a p h ys) ∙ differ_far (holds y a) (differ (holds x a) p) (bool_value ys a))

pub merge_value : (xs ys : List Mono) (a : ℕ → Bool) → bool_value (merge xs ys) a ≡ differ (bool_value xs a) (bool_value ys a)
unfolding merge bool_value
merge_value [] ys a = differ_none (bool_value ys a)
merge_value (x ∷ xs) ys a = weave_value x (λ zs. merge xs zs) a (bool_value xs a) (λ zs. merge_value xs zs a) ys

-- ---- order
pub before_before : (m k : Mono) (ks : List Mono) → mono_cmp m k ≡ Less → Before k ks → Before m ks
before_before m k [] l b = tt
before_before m k (n ∷ ks) l b = (mono_trans m k n l b.0, before_before m k ks l b.1)

pick_each : (P : Mono → Type 0) (o : Ordering) (u v w : List Mono) → (o ≡ Less → Each P u) → (o ≡ Equal → Each P v) → (o ≡ Greater → Each P w) → Each P (pick o u v w)
unfolding pick
pick_each P Less u v w l e g = l refl
pick_each P Equal u v w l e g = e refl
pick_each P Greater u v w l e g = g refl

weave_each : (P : Mono → Type 0) (x : Mono) (rest : List Mono → List Mono) → P x → ((zs : List Mono) → Each P zs → Each P (rest zs)) → (ys : List Mono) → Each P ys → Each P (weave x rest ys)
unfolding weave
weave_each P x rest l h [] b = (l, h [] tt)
weave_each P x rest l h (y ∷ ys) b = pick_each P (mono_cmp x y) _ _ _ (λ o. (l, h (y ∷ ys) b)) (λ o. h ys b.1) (λ o. (b.0, weave_each P x rest l h ys b.1))

-- what holds of each monomial of both holds of each that is left
pub merge_each : (P : Mono → Type 0) (xs ys : List Mono) → Each P xs → Each P ys → Each P (merge xs ys)
unfolding merge
merge_each P [] ys b c = c
merge_each P (x ∷ xs) ys b c = weave_each P x (λ zs. merge xs zs) b.0 (λ zs d. merge_each P xs zs b.1 d) ys c

pick_ascending : (o : Ordering) (u v w : List Mono) → (o ≡ Less → Ascending u) → (o ≡ Equal → Ascending v) → (o ≡ Greater → Ascending w) → Ascending (pick o u v w)
unfolding pick
pick_ascending Less u v w l e g = l refl
pick_ascending Equal u v w l e g = e refl
pick_ascending Greater u v w l e g = g refl

weave_ascending : (x : Mono) (rest : List Mono → List Mono) → ((m : Mono) (zs : List Mono) → mono_cmp m x ≡ Less → Before m zs → Before m (rest zs)) → ((zs : List Mono) → Before x zs → Before x (rest zs)) → ((zs : List Mono) → Ascending zs → Ascending (rest zs)) → (ys : List Mono) → Ascending ys → Ascending (weave x rest ys)
unfolding weave
weave_ascending x rest k b h [] s = (b [] tt, h [] tt)
weave_ascending x rest k b h (y ∷ ys) s = pick_ascending (mono_cmp x y) _ _ _
    (λ l. (b (y ∷ ys) (l, before_before x y ys l s.0), h (y ∷ ys) s))
    (λ e. h ys s.1)
    (λ g. (weave_each (λ z. mono_cmp y z ≡ Less) x rest (mono_flip x y g) (λ zs c. k y zs (mono_flip x y g) c) ys s.0, weave_ascending x rest k b h ys s.1))

pub merge_ascending : (xs ys : List Mono) → Ascending xs → Ascending ys → Ascending (merge xs ys)
unfolding merge
merge_ascending [] ys s t = t
merge_ascending (x ∷ xs) ys s t = weave_ascending x (λ zs. merge xs zs) (λ m zs l c. merge_each (λ z. mono_cmp m z ≡ Less) xs zs (before_before m x xs l s.0) c) (λ zs c. merge_each (λ z. mono_cmp x z ≡ Less) xs zs s.0 c) (λ zs u. merge_ascending xs zs s.1 u) ys t

pub merge_poly : (xs ys : List Mono) → IsPoly xs → IsPoly ys → IsPoly (merge xs ys)
merge_poly xs ys s t = record { in_order = merge_ascending xs ys s.in_order t.in_order; sets = merge_each IsVarSet xs ys s.sets t.sets }

-- ---- the loops of `merged`, by places
step_less : (x y : Mono) (xs ys : List Mono) → mono_cmp x y ≡ Less → merge (x ∷ xs) (y ∷ ys) ≡ x ∷ merge xs (y ∷ ys)
unfolding merge weave pick
step_less x y xs ys e = ap (λ o. pick o (x ∷ merge xs (y ∷ ys)) (merge xs ys) (y ∷ weave x (λ zs. merge xs zs) ys)) e

step_equal : (x y : Mono) (xs ys : List Mono) → mono_cmp x y ≡ Equal → merge (x ∷ xs) (y ∷ ys) ≡ merge xs ys
unfolding merge weave pick
step_equal x y xs ys e = ap (λ o. pick o (x ∷ merge xs (y ∷ ys)) (merge xs ys) (y ∷ weave x (λ zs. merge xs zs) ys)) e

step_greater : (x y : Mono) (xs ys : List Mono) → mono_cmp x y ≡ Greater → merge (x ∷ xs) (y ∷ ys) ≡ y ∷ merge (x ∷ xs) ys
unfolding merge weave pick
step_greater x y xs ys e = ap (λ o. pick o (x ∷ merge xs (y ∷ ys)) (merge xs ys) (y ∷ weave x (λ zs. merge xs zs) ys)) e

cut : (xs : List Mono) (i : ℕ) (x : Mono) → i < length xs → x ≡ get_or xs i x → drop i xs ≡ x ∷ drop (i + 1) xs
cut xs i x h e = drop-cons xs i x h ∙ ap₂ (λ (v : Mono) (n : ℕ). v ∷ drop n xs) (sym e) (sym (add-one i))

pub keep_less : (xs ys out all : List Mono) (i j : ℕ) (x y : Mono) → i < length xs → j < length ys → x ≡ get_or xs i x → y ≡ get_or ys j y → Less ≡ mono_cmp x y → out ++ merge (drop i xs) (drop j ys) ≡ all → (out ++ x ∷ []) ++ merge (drop (i + 1) xs) (drop j ys) ≡ all
keep_less xs ys out all i j x y h k ex ey l e =
    let a = cut xs i x h ex in
    let b = cut ys j y k ey in
    append_assoc out (x ∷ []) _
    ∙ ap (λ (r : List Mono). out ++ r) (ap (λ (r : List Mono). x ∷ merge (drop (i + 1) xs) r) b ∙ sym (step_less x y _ _ (sym l)) ∙ ap₂ merge (sym a) (sym b))
    ∙ e

pub keep_greater : (xs ys out all : List Mono) (i j : ℕ) (x y : Mono) → i < length xs → j < length ys → x ≡ get_or xs i x → y ≡ get_or ys j y → Greater ≡ mono_cmp x y → out ++ merge (drop i xs) (drop j ys) ≡ all → (out ++ y ∷ []) ++ merge (drop i xs) (drop (j + 1) ys) ≡ all
keep_greater xs ys out all i j x y h k ex ey l e =
    let a = cut xs i x h ex in
    let b = cut ys j y k ey in
    append_assoc out (y ∷ []) _
    ∙ ap (λ (r : List Mono). out ++ r) (ap (λ (r : List Mono). y ∷ merge r (drop (j + 1) ys)) a ∙ sym (step_greater x y _ _ (sym l)) ∙ ap₂ merge (sym a) (sym b))
    ∙ e

pub keep_equal : (xs ys out all : List Mono) (i j : ℕ) (x y : Mono) → i < length xs → j < length ys → x ≡ get_or xs i x → y ≡ get_or ys j y → Equal ≡ mono_cmp x y → out ++ merge (drop i xs) (drop j ys) ≡ all → out ++ merge (drop (i + 1) xs) (drop (j + 1) ys) ≡ all
keep_equal xs ys out all i j x y h k ex ey l e =
    let a = cut xs i x h ex in
    let b = cut ys j y k ey in
    ap (λ (r : List Mono). out ++ r) (sym (step_equal x y _ _ (sym l)) ∙ ap₂ merge (sym a) (sym b)) ∙ e

pub merge_nil_right : (xs : List Mono) → merge xs [] ≡ xs
unfolding merge weave
merge_nil_right [] = refl
merge_nil_right (x ∷ xs) = ap (λ (r : List Mono). x ∷ r) (merge_nil_right xs)

pub merge_nil_left : (ys : List Mono) → merge [] ys ≡ ys
unfolding merge
merge_nil_left ys = refl

-- one of the two is at its end
pub merge_end : (xs ys : List Mono) (i j : ℕ) → (length xs ≤ i) ⊎ (length ys ≤ j) → merge (drop i xs) (drop j ys) ≡ drop i xs ++ drop j ys
unfolding merge
merge_end xs ys i j (inl h) = rw (drop_of_length-le xs h) refl
merge_end xs ys i j (inr h) = rw (drop_of_length-le ys h) (merge_nil_right (drop i xs) ∙ sym (append-nil (drop i xs)))

-- what is left when one is at its end
pub start_rest : (xs ys out all : List Mono) (i j : ℕ) → (length xs ≤ i) ⊎ (length ys ≤ j) → out ++ merge (drop i xs) (drop j ys) ≡ all → out ++ (take (length xs - i) (drop i xs) ++ drop j ys) ≡ all
start_rest xs ys out all i j h e =
    let t : take (length xs - i) (drop i xs) ≡ drop i xs = take_all (length xs - i) (drop i xs) (omega (arith, length-drop i xs)) in
    ap (λ (r : List Mono). out ++ (r ++ drop j ys)) t ∙ ap (λ (r : List Mono). out ++ r) (sym (merge_end xs ys i j h)) ∙ e

-- both rests appended, of which one is empty
pub add_rests : (xs ys out mid end all : List Mono) (i j : ℕ) → (length xs ≤ i) ⊎ (length ys ≤ j) → out ++ merge (drop i xs) (drop j ys) ≡ all → mid ≡ out ++ take (length xs - i) (drop i xs) → end ≡ mid ++ take (length ys - j) (drop j ys) → end ≡ all
add_rests xs ys out mid end all i j h e first second =
    let t : take (length ys - j) (drop j ys) ≡ drop j ys = take_all (length ys - j) (drop j ys) (omega (arith, length-drop j ys)) in
    second ∙ ap (λ (r : List Mono). r ++ take (length ys - j) (drop j ys)) first ∙ append_assoc out (take (length xs - i) (drop i xs)) (take (length ys - j) (drop j ys))
    ∙ ap (λ (r : List Mono). out ++ (take (length xs - i) (drop i xs) ++ r)) t ∙ start_rest xs ys out all i j h e
