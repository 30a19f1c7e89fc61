-- Texts joined one after another.
use Rattle.std.proofs.Common.{◌≡◌, ◌≢◌, ℕ, zero, suc, ◌+◌, ◌*◌, ◌-◌, ◌/◌, ◌%◌, ◌^◌, refl, ap, ap₂, sym, ◌∙◌, arith, ◌<◌, ◌≤◌, Bool, true, false, cond, nat_eq, nat_lt, List, [], ◌∷◌, ◌++◌, length, take, get_or, append_assoc, codes, decimal, Result, Ok, Err, is_ok, OnOk}
use Rattle.std.proofs.lemmas.Bool.Decides.{nat_tests}
use Rattle.std.proofs.lemmas.List.{take_more, take_all, length-take}
use Rattle.std.proofs.lemmas.Nat.{pow_below}
use Rattle.ps_phase.specs.declared.terms.Term.{Term}
use Rattle.ps_sum.specs.Counts.{twos}
use Rattle.ps_sum.specs.Texts.{joined, variable_text, mono_text, fraction_text, factor_text, term_text, phase_text, product_text, output_text, outs_text}
use Rattle.ps_sum.proofs.Counting.{twos_is, Power}

-- the mark that stands before what comes at place i
abbrev pub mark_at : List ℕ → ℕ → List ℕ
mark_at mark i = cond (nat_eq i 0) [] mark

pub append_none : (r : List ℕ) → r ++ [] ≡ r
append_none [] = refl
append_none (x ∷ r) = ap (λ (s : List ℕ). x ∷ s) (append_none r)

later_mark : (mark : List ℕ) (n : ℕ) → mark ≡ mark_at mark (suc n)
later_mark mark n = let e : nat_eq (suc n) 0 ≡ false = grind (arith, nat_tests) in sym (ap (λ b. cond b [] mark) e)

joined_push : {X : Type 0} (mark : List ℕ) (text : X → List ℕ) (xs : List X) (x : X) → joined mark text (xs ++ x ∷ []) ≡ joined mark text xs ++ (mark_at mark (length xs) ++ text x)
unfolding joined
joined_push mark text [] x = refl
joined_push mark text (y ∷ []) x = ap (λ (r : List ℕ). text y ++ (r ++ text x)) (later_mark mark 0)
joined_push mark text (y ∷ z ∷ xs) x =
    let n = length xs in
    ap (λ (r : List ℕ). text y ++ (mark ++ r)) (joined_push mark text (z ∷ xs) x)
    ∙ ap (λ (r : List ℕ). text y ++ (mark ++ (joined mark text (z ∷ xs) ++ (r ++ text x)))) (sym (later_mark mark n) ∙ later_mark mark (suc n))
    ∙ ap (λ (r : List ℕ). text y ++ r) (sym (append_assoc mark (joined mark text (z ∷ xs)) (mark_at mark (suc (suc n)) ++ text x)))
    ∙ sym (append_assoc (text y) (mark ++ joined mark text (z ∷ xs)) (mark_at mark (suc (suc n)) ++ text x))

pub joined_start : {X : Type 0} (mark : List ℕ) (text : X → List ℕ) (xs : List X) (base : List ℕ) → base ≡ base ++ joined mark text (take 0 xs)
unfolding joined
joined_start mark text xs base = sym (append_none base)

pub joined_next : {X : Type 0} (mark : List ℕ) (text : X → List ℕ) (xs : List X) (base out marked out' : List ℕ) (i : ℕ) (x : X) → i < length xs → x ≡ get_or xs i x → marked ≡ out ++ mark_at mark i → out' ≡ marked ++ text x
    → out ≡ base ++ joined mark text (take i xs) → out' ≡ base ++ joined mark text (take (i + 1) xs)
joined_next {X} mark text xs base out marked out' i x h ex em eo e =
    let t : take (i + 1) xs ≡ take i xs ++ x ∷ [] = take_more xs i x h ∙ ap (λ (y : X). take i xs ++ y ∷ []) (sym ex) in
    let l : length (take i xs) ≡ i = omega (arith, length-take i xs) in
    let j = joined mark text (take i xs) in
    eo ∙ ap (λ r. r ++ text x) (em ∙ ap (λ r. r ++ mark_at mark i) e)
    ∙ append_assoc (base ++ j) (mark_at mark i) (text x) ∙ append_assoc base j (mark_at mark i ++ text x)
    ∙ sym (ap (λ r. base ++ joined mark text r) t ∙ ap (λ r. base ++ r) (joined_push mark text (take i xs) x ∙ ap (λ n. j ++ (mark_at mark n ++ text x)) l))

pub joined_end : {X : Type 0} (mark : List ℕ) (text : X → List ℕ) (xs : List X) (base out : List ℕ) (i : ℕ) → length xs ≤ i → out ≡ base ++ joined mark text (take i xs) → out ≡ base ++ joined mark text xs
joined_end mark text xs base out i h e = e ∙ ap (λ r. base ++ joined mark text r) (take_all i xs h)

-- ---- variables and fractions
pub input_text : (n v : ℕ) (old new : List ℕ) → v < n → new ≡ old ++ (codes "x" ++ decimal v) → new ≡ old ++ variable_text n v
unfolding variable_text
input_text n v old new h e = let t : nat_lt v n ≡ true = grind (arith, nat_tests) in e ∙ sym (ap (λ b. old ++ cond b (codes "x" ++ decimal v) (codes "y" ++ decimal (v - n))) t)

pub path_text : (n v : ℕ) (old new : List ℕ) → n ≤ v → new ≡ old ++ (codes "y" ++ decimal (v - n)) → new ≡ old ++ variable_text n v
unfolding variable_text
path_text n v old new h e = let t : nat_lt v n ≡ false = grind (arith, nat_tests) in e ∙ sym (ap (λ b. old ++ cond b (codes "x" ++ decimal v) (codes "y" ++ decimal (v - n))) t)

pub fraction_is : (u r a b : ℕ) (old new : List ℕ) → Power u r → a ≡ u / 2 ^ r → b ≡ 2 ^ (32 - r) → new ≡ old ++ (decimal a ++ (codes "/" ++ decimal b)) → new ≡ old ++ fraction_text u
unfolding fraction_text
fraction_is u r a b old new p ea eb e =
    let t : twos u 32 ≡ r = twos_is u 32 r p.at_most p.divides p.greatest in
    e ∙ ap₂ (λ (x y : ℕ). old ++ (decimal x ++ (codes "/" ++ decimal y))) (ea ∙ ap (λ k. u / 2 ^ k) (sym t)) (eb ∙ ap (λ k. 2 ^ (32 - k)) (sym t))

-- ---- what has no variables, and what has
pub no_factor : (n : ℕ) (m old : List ℕ) → length m ≡ 0 → old ≡ old ++ factor_text n m
unfolding factor_text
no_factor n [] old e = sym (append_none old)
no_factor n (v ∷ m) old e = absurd (omega arith)

pub some_factor : (n : ℕ) (m old marked new : List ℕ) → length m ≢ 0 → marked ≡ old ++ codes "*" → new ≡ marked ++ mono_text n m → new ≡ old ++ factor_text n m
unfolding factor_text
some_factor n [] old marked new h em e = absurd (omega arith)
some_factor n (v ∷ m) old marked new h em e = e ∙ ap (λ r. r ++ mono_text n (v ∷ m)) em ∙ append_assoc old (codes "*") (mono_text n (v ∷ m))

pub no_product : (n : ℕ) (m old new : List ℕ) → length m ≡ 0 → new ≡ old ++ codes "1" → new ≡ old ++ product_text n m
unfolding product_text
no_product n [] old new h e = e
no_product n (v ∷ m) old new h e = absurd (omega arith)

pub some_product : (n : ℕ) (m old new : List ℕ) → length m ≢ 0 → new ≡ old ++ mono_text n m → new ≡ old ++ product_text n m
unfolding product_text
some_product n [] old new h e = absurd (omega arith)
some_product n (v ∷ m) old new h e = e

pub no_terms : (n : ℕ) (ts : List Term) (old new : List ℕ) → length ts ≡ 0 → new ≡ old ++ codes "0" → new ≡ old ++ phase_text n ts
unfolding phase_text
no_terms n [] old new h e = e
no_terms n (t ∷ ts) old new h e = absurd (omega arith)

pub some_terms : (n : ℕ) (ts : List Term) (old new : List ℕ) → length ts ≢ 0 → new ≡ old ++ joined (codes "+") (term_text n) ts → new ≡ old ++ phase_text n ts
unfolding phase_text
some_terms n [] old new h e = absurd (omega arith)
some_terms n (t ∷ ts) old new h e = e

pub no_monos : (n : ℕ) (f : List (List ℕ)) (old new : List ℕ) → length f ≡ 0 → new ≡ old ++ codes "0" → new ≡ old ++ output_text n f
unfolding output_text
no_monos n [] old new h e = e
no_monos n (m ∷ f) old new h e = absurd (omega arith)

pub some_monos : (n : ℕ) (f : List (List ℕ)) (old new : List ℕ) → length f ≢ 0 → new ≡ old ++ joined (codes "+") (product_text n) f → new ≡ old ++ output_text n f
unfolding output_text
some_monos n [] old new h e = absurd (omega arith)
some_monos n (m ∷ f) old new h e = e

pub no_outs : (n : ℕ) (fs : List (List (List ℕ))) (old new : List ℕ) → length fs ≡ 0 → new ≡ old ++ codes "-" → new ≡ old ++ outs_text n fs
unfolding outs_text
no_outs n [] old new h e = e
no_outs n (f ∷ fs) old new h e = absurd (omega arith)

pub some_outs : (n : ℕ) (fs : List (List (List ℕ))) (old new : List ℕ) → length fs ≢ 0 → new ≡ old ++ joined (codes ",") (output_text n) fs → new ≡ old ++ outs_text n fs
unfolding outs_text
some_outs n [] old new h e = absurd (omega arith)
some_outs n (f ∷ fs) old new h e = e

pub term_next : (n : ℕ) (ts : List Term) (base out marked middle out' : List ℕ) (i : ℕ) (t : Term) → i < length ts → t ≡ get_or ts i t → marked ≡ out ++ mark_at (codes "+") i → middle ≡ marked ++ fraction_text t.phase → out' ≡ middle ++ factor_text n t.mono
    → out ≡ base ++ joined (codes "+") (term_text n) (take i ts) → out' ≡ base ++ joined (codes "+") (term_text n) (take (i + 1) ts)
term_next n ts base out marked middle out' i t h et em ed eo e =
    joined_next (codes "+") (term_text n) ts base out marked out' i t h et em (eo ∙ ap (λ r. r ++ factor_text n t.mono) ed ∙ append_assoc marked (fraction_text t.phase) (factor_text n t.mono)) e

-- what a push says where it was done
pub pushed : {T E : Type 0} (r : Result T E) (new a b : List ℕ) → new ≡ cond (is_ok r) a b → OnOk r (new ≡ a)
pushed (Ok x) new a b e = e
pushed (Err x) new a b e = tt

pub below_is : (p : ℕ) → (1 * 2 ^ (32 - p)) % 18446744073709551616 ≡ 2 ^ (32 - p)
below_is p = let l = pow_below (32 - p) 64 (omega arith) in omega arith

pub at_place : (xs : List ℕ) (i x : ℕ) → i < length xs → x ≡ get_or xs i 0 → x ≡ get_or xs i x
at_place [] i x h e = absurd (omega arith)
at_place (y ∷ xs) zero x h e = e
at_place (y ∷ xs) (suc i) x h e = at_place xs i x (omega arith) e

pub empty : {b : Bool} (n : ℕ) → b ≡ nat_eq n 0 → b ≡ true → n ≡ 0
empty n e t = grind (arith, nat_tests)

pub not_empty : {b : Bool} (n : ℕ) → b ≡ nat_eq n 0 → b ≡ false → n ≢ 0
not_empty n e t z = grind (arith, nat_tests)
