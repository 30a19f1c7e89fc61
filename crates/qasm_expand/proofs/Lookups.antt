-- Maps by names, as they are kept, find and keep what their lists do.
use Rattle.std.proofs.Common.{◌≡◌, ◌<◌, ◌≤◌, ◌+◌, ℕ, suc, Bool, true, false, cond, not, ◌||◌, if◌then◌else◌, Option, Some, None, option_map, List, [], ◌∷◌, ◌++◌, map, length, Vec, Global, vec_items, refl, sym, ap, ap₂, ◌∙◌, arith, bytes_eq, nat_lt, Decides, true≢false, position, lt-ltb, le-ltb, ltb-true, ltb-false}
use Rattle.std.proofs.lemmas.Slice.Eq.{bytes_eq-Decides}
use Rattle.std.specs.Map.{lookup}
use Rattle.std.specs.Option.{is_none}
use Rattle.std.specs.List.{position_or_len, list_any}
use Rattle.std.proofs.lemmas.List.{map-append}
use Rattle.indexmap.specs.IndexMap.{insert_entry}
use Rattle.indexmap.specs.IndexSet.{insert_key}
use Rattle.qasm_expand.specs.Tables.{meaning, rebound}
use Rattle.qasm_expand.specs.Maps.{bound_of}
use Rattle.qasm_expand.specs.Gates.{place_of}

-- ---- equality of names
pub bytes_eq_sym : (xs ys : List ℕ) → bytes_eq xs ys ≡ bytes_eq ys xs
bytes_eq_sym xs ys = by (bytes_eq xs ys) (bytes_eq ys xs) (bytes_eq-Decides xs ys) (bytes_eq-Decides ys xs)
  where
    by : (b c : Bool) → Decides b (xs ≡ ys) → Decides c (ys ≡ xs) → b ≡ c
    by true true d e = refl
    by false false d e = refl
    by true false d e = absurd (true≢false (sym (e.1 (sym (d.0 refl)))))
    by false true d e = absurd (true≢false (sym (d.1 (sym (e.0 refl)))))

-- ---- bound names
pub meaning_of_entries : (es : List ((Vec ℕ Global) × ℕ)) (name : List ℕ) → lookup (λ (k : Vec ℕ Global). bytes_eq name k.items) es ≡ meaning (map bound_of es) name
unfolding meaning
meaning_of_entries [] name = refl
meaning_of_entries (e ∷ es) name = ap₂ (λ b r. cond b (Some e.1) r) (bytes_eq_sym name e.0.items) (meaning_of_entries es name)

pub rebound_entries : (es : List ((Vec ℕ Global) × ℕ)) (k : Vec ℕ Global) (d : ℕ) → map bound_of (insert_entry (λ (x y : Vec ℕ Global). bytes_eq x.items y.items) es k d) ≡ rebound (map bound_of es) k.items d
unfolding rebound
rebound_entries [] k d = refl
rebound_entries (e ∷ es) k d = by (bytes_eq k.items e.0.items) (bytes_eq-Decides k.items e.0.items) (rebound_entries es k d) ∙ ap (λ b. if b then record { name = k.items; def = d } ∷ map bound_of es else bound_of e ∷ rebound (map bound_of es) k.items d) (bytes_eq_sym k.items e.0.items)
  where
    by : (b : Bool) → Decides b (k.items ≡ e.0.items) → map bound_of (insert_entry (λ (x y : Vec ℕ Global). bytes_eq x.items y.items) es k d) ≡ rebound (map bound_of es) k.items d
        → map bound_of (if b then (e.0, d) ∷ es else e ∷ insert_entry (λ (x y : Vec ℕ Global). bytes_eq x.items y.items) es k d) ≡ (if b then record { name = k.items; def = d } ∷ map bound_of es else bound_of e ∷ rebound (map bound_of es) k.items d)
    by true h ih = ap (λ n. record { name = n; def = d } ∷ map bound_of es) (sym (h.0 refl))
    by false h ih = ap (λ r. bound_of e ∷ r) ih

-- ---- lists of names
pub place_of_keys : (ks : List (Vec ℕ Global)) (name : List ℕ) → position (λ (k : Vec ℕ Global). bytes_eq name k.items) ks ≡ place_of (map vec_items ks) name
unfolding place_of
place_of_keys [] name = refl
place_of_keys (k ∷ ks) name = by (bytes_eq name k.items) (position_or_len (λ (x : Vec ℕ Global). bytes_eq name x.items) ks) ∙ ap₂ (λ b r. if b then Some 0 else option_map suc r) (bytes_eq_sym name k.items) (place_of_keys ks name)
  where
    after : (b : Bool) (n m : ℕ) → (b ≡ true → 1 + n < m + 1) → (b ≡ false → m + 1 ≤ 1 + n) → cond (nat_lt (1 + n) (m + 1)) (Some (1 + n)) None ≡ option_map suc (cond b (Some n) None)
    after true n m h g = ap (λ c. cond c (Some (1 + n)) None) (lt-ltb _ _ (h refl)) ∙ ap Some (let e : 1 + n ≡ suc n = omega arith in e)
    after false n m h g = ap (λ c. cond c (Some (1 + n)) None) (le-ltb _ _ (g refl))

    by : (b : Bool) (n : ℕ) → cond (nat_lt (cond (not b) (1 + n) 0) (length (k ∷ ks))) (Some (cond (not b) (1 + n) 0)) None ≡ (if b then Some 0 else option_map suc (cond (nat_lt n (length ks)) (Some n) None))
    by true n = ap (λ c. cond c (Some 0) None) (lt-ltb 0 (length (k ∷ ks)) (omega arith))
    by false n = ap (λ c. cond (nat_lt (1 + n) c) (Some (1 + n)) None) (let e : length (k ∷ ks) ≡ length ks + 1 = omega arith in e) ∙ after (nat_lt n (length ks)) n (length ks) (λ e. let h : n < length ks = ltb-true _ _ e in omega (arith, h)) (λ e. let h : length ks ≤ n = ltb-false _ _ e in omega (arith, h))

pub new_of_keys : (ks : List (Vec ℕ Global)) (name : List ℕ) → not (list_any (λ (k : Vec ℕ Global). bytes_eq name k.items) ks) ≡ is_none (place_of (map vec_items ks) name)
unfolding place_of
new_of_keys [] name = refl
new_of_keys (k ∷ ks) name = ap (λ b. not (b || list_any (λ (k : Vec ℕ Global). bytes_eq name k.items) ks)) (bytes_eq_sym name k.items) ∙ by (bytes_eq k.items name) (new_of_keys ks name)
  where
    none : (o : Option ℕ) → is_none o ≡ is_none (option_map suc o)
    none None = refl
    none (Some i) = refl

    by : (b : Bool) → not (list_any (λ (k : Vec ℕ Global). bytes_eq name k.items) ks) ≡ is_none (place_of (map vec_items ks) name) → not (b || list_any (λ (k : Vec ℕ Global). bytes_eq name k.items) ks) ≡ is_none (if b then Some 0 else option_map suc (place_of (map vec_items ks) name))
    by true ih = refl
    by false ih = ih ∙ none (place_of (map vec_items ks) name)

pub pushed_keys : (ks : List (Vec ℕ Global)) (k : Vec ℕ Global) (new : Bool) → new ≡ not (list_any (λ (x : Vec ℕ Global). bytes_eq k.items x.items) ks) → new ≡ true → map vec_items (insert_key (λ (x y : Vec ℕ Global). bytes_eq x.items y.items) ks k) ≡ map vec_items ks ++ k.items ∷ []
pushed_keys ks k new e t = by (list_any (λ (x : Vec ℕ Global). bytes_eq k.items x.items) ks) (sym e ∙ t)
  where
    by : (b : Bool) → not b ≡ true → map vec_items (if b then ks else ks ++ k ∷ []) ≡ map vec_items ks ++ k.items ∷ []
    by true h = absurd (true≢false (sym h))
    by false h = map-append vec_items ks (k ∷ [])
