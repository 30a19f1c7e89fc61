-- How many terms a substitution makes.
use Rattle.std.proofs.Common.{◌≡◌, ◌≢◌, ℕ, zero, suc, ◌+◌, ◌*◌, ◌-◌, ◌/◌, ◌%◌, ◌^◌, refl, ap, ap₂, sym, ◌∙◌, subst, arith, ◌<◌, ◌≤◌, Bool, true, false, cond, nat_eq, List, [], ◌∷◌, ◌++◌, length, take, get_or, min, ◌⊎◌, inl, inr}
use Rattle.std.proofs.lemmas.Bool.Decides.{nat_tests}
use Rattle.std.proofs.lemmas.Bool.{cases_lt}
use Rattle.std.proofs.lemmas.List.{take_more, take_all}
use Rattle.std.proofs.Math.Nat.{mul-div_cancel_left, mul-le-mul_right}
use Rattle.ps_phase.specs.declared.terms.Term.{Term}
use Rattle.ps_mono.specs.Sets.{stands}
use Rattle.ps_sum.specs.Outs.{monomials}
use Rattle.ps_sum.specs.Counts.{binomial, subsets, twos, raw_term, raw_phase, raw_bool}

abbrev CAP : ℕ
CAP = 1000000000000

-- ---- the power of 2 in a phase
pub twos_is : (u n r : ℕ) → r ≤ n → u % 2 ^ r ≡ 0 → ((v : ℕ) → v ≤ n → u % 2 ^ v ≡ 0 → v ≤ r) → twos u n ≡ r
unfolding twos
twos_is u zero r h d g = omega arith
twos_is u (suc n) r h d g = by (nat_eq (u % 2 ^ suc n) 0) refl (λ l k. twos_is u n r l d k)
  where
    by : (b : Bool) → nat_eq (u % 2 ^ suc n) 0 ≡ b → (r ≤ n → ((v : ℕ) → v ≤ n → u % 2 ^ v ≡ 0 → v ≤ r) → twos u n ≡ r) → cond (nat_eq (u % 2 ^ suc n) 0) (suc n) (twos u n) ≡ r
    by true e ih =
        let z : u % 2 ^ suc n ≡ 0 = grind (arith, nat_tests) in
        let l : suc n ≤ r = g (suc n) (omega arith) z in
        rw e (omega arith)
    by false e ih =
        let z : u % 2 ^ suc n ≢ 0 = (λ k. grind (arith, nat_tests)) in
        rw e (ih (below (cases_lt r (suc n)) z) (λ v l k. g v (omega arith) k))
      where
        below : ((r < suc n) ⊎ (suc n ≤ r)) → u % 2 ^ suc n ≢ 0 → r ≤ n
        below (inl l) z = omega arith
        below (inr l) z = let q : r ≡ suc n = omega arith in absurd (z (subst (λ (k : ℕ). u % 2 ^ k ≡ 0) q d))

-- ---- binomials
pascal : (s d x y z : ℕ) → suc (suc s) * y ≡ x * d → suc s * x ≡ z * (d + 1) → suc (suc s) * (x + y) ≡ (z + x) * (d + 1)
pascal s d x y z e f = omega arith

pub binomial_zero : (t : ℕ) → binomial t zero ≡ 1
unfolding binomial
binomial_zero zero = refl
binomial_zero (suc t) = refl

binomial_none : (t s : ℕ) → t < s → binomial t s ≡ 0
unfolding binomial
binomial_none t zero h = absurd (omega arith)
binomial_none zero (suc s) h = refl
binomial_none (suc t) (suc s) h = let a = binomial_none t s (omega arith) in let b = binomial_none t (suc s) (omega arith) in omega arith

-- each of s members leaves t - s to add, and each of s + 1 may have come last
pub binomial_step : (t s : ℕ) → suc s * binomial t (suc s) ≡ binomial t s * (t - s)
unfolding binomial
binomial_step zero s = let e : 0 - s ≡ 0 = omega arith in omega (arith, ap (λ r. binomial 0 s * r) e)
binomial_step (suc t) zero = let e = binomial_step t zero in let o = binomial_zero t in omega arith
binomial_step (suc t) (suc s) = by (cases_lt t (suc s)) (binomial_step t (suc s)) (binomial_step t s)
  where
    by : ((t < suc s) ⊎ (suc s ≤ t)) → suc (suc s) * binomial t (suc (suc s)) ≡ binomial t (suc s) * (t - suc s) → suc s * binomial t (suc s) ≡ binomial t s * (t - s)
        → suc (suc s) * (binomial t (suc s) + binomial t (suc (suc s))) ≡ (binomial t s + binomial t (suc s)) * (suc t - suc s)
    by (inl l) e f =
        let a = binomial_none t (suc s) l in
        let b = binomial_none t (suc (suc s)) (omega arith) in
        let d : suc t - suc s ≡ 0 = omega arith in
        ap₂ (λ (x y : ℕ). suc (suc s) * (x + y)) a b ∙ omega (arith, ap (λ r. (binomial t s + binomial t (suc s)) * r) d)
    by (inr l) e f =
        let d : t - s ≡ (t - suc s) + 1 = omega arith in
        let k : suc t - suc s ≡ (t - suc s) + 1 = omega arith in
        pascal s (t - suc s) (binomial t (suc s)) (binomial t (suc (suc s))) (binomial t s) e (f ∙ ap (λ r. binomial t s * r) d) ∙ ap (λ r. (binomial t s + binomial t (suc s)) * r) (sym k)

pub ways_step : (t s w : ℕ) → w ≡ binomial t s → w * (t - s) / (s + 1) ≡ binomial t (s + 1)
ways_step t s w e =
    let k : s + 1 ≡ suc s = omega arith in
    let p : w * (t - s) ≡ suc s * binomial t (suc s) = ap (λ r. r * (t - s)) e ∙ sym (binomial_step t s) in
    let z : zero < suc s = omega arith in
    ap₂ (λ (x y : ℕ). x / y) p k ∙ mul-div_cancel_left (binomial t (suc s)) z ∙ ap (binomial t) (sym k)

binomial_one : (t : ℕ) → binomial t 1 ≡ t
binomial_one t = let e = binomial_step t zero in let o = binomial_zero t in one_step t _ _ e o
  where
    one_step : (t x y : ℕ) → suc zero * x ≡ y * (t - zero) → y ≡ 1 → x ≡ t
    one_step t x y e o = let p = ap (λ r. r * (t - zero)) o in omega arith

-- ---- subsets
pub subsets_most : (t i n : ℕ) → i ≤ n → subsets t i ≤ subsets t n
unfolding subsets
subsets_most t i zero h = let e : i ≡ zero = omega arith in omega (arith, ap (subsets t) e)
subsets_most t i (suc n) h = by (cases_lt i (suc n)) (λ l. subsets_most t i n l)
  where
    by : ((i < suc n) ⊎ (suc n ≤ i)) → (i ≤ n → subsets t i ≤ subsets t n) → subsets t i ≤ subsets t n + binomial t (suc n)
    by (inl l) ih = omega (arith, ih (omega arith))
    by (inr l) ih = let e : i ≡ suc n = omega arith in omega (arith, ap (subsets t) e)

pub subsets_none : (t : ℕ) → subsets t 0 ≡ 0
unfolding subsets
subsets_none t = refl

pub subsets_next : (t s a w : ℕ) → a ≡ subsets t s → w ≡ binomial t (s + 1) → a + w ≡ subsets t (s + 1)
unfolding subsets
subsets_next t s a w e f = let k : s + 1 ≡ suc s = omega arith in ap₂ (λ (x y : ℕ). x + y) e (f ∙ ap (binomial t) k) ∙ ap (subsets t) (sym k)

subsets_one : (t : ℕ) → subsets t 1 ≡ t
unfolding subsets
subsets_one t = omega (arith, binomial_one t)

-- two of more than 2,000,000 can be chosen in more than 10^12 ways
pairs_many : (t : ℕ) → 2000000 < t → CAP ≤ binomial t 2
pairs_many t h =
    let e = binomial_step t 1 in
    let o = ap (λ r. r * (t - 1)) (binomial_one t) in
    let m : 2000000 * (t - 1) ≤ t * (t - 1) = mul-le-mul_right (t - 1) (omega arith) in
    omega arith

-- ---- the calls
most_is : (by t r m : ℕ) → twos by 32 ≡ r → m ≡ min (32 - r) t → raw_term by t ≡ subsets t m
unfolding raw_term
most_is by t r m e f = ap (λ k. subsets t (min (32 - k) t)) e ∙ ap (subsets t) (sym f)

-- what `power` says of the phase
pub record Power (by r : ℕ) : Type 0 where
  pub at_most : r ≤ 32
  pub divides : by % 2 ^ r ≡ 0
  pub greatest : (v : ℕ) → v ≤ 32 → by % 2 ^ v ≡ 0 → v ≤ r

pub raw_is : (by t r m : ℕ) → Power by r → m ≡ min (32 - r) t → raw_term by t ≡ subsets t m
raw_is by t r m p f = most_is by t r m (twos_is by 32 r p.at_most p.divides p.greatest) f

pub raw_none : (by t r m : ℕ) → Power by r → m ≡ min (32 - r) t → m ≡ 0 → 0 ≡ min (raw_term by t) CAP
unfolding subsets
raw_none by t r m p f z = let e : raw_term by t ≡ 0 = raw_is by t r m p f ∙ ap (subsets t) z in omega arith

pub raw_one : (by t r m n : ℕ) → Power by r → m ≡ min (32 - r) t → m ≡ 1 → n ≡ min t CAP → n ≡ min (raw_term by t) CAP
raw_one by t r m n p f z k = k ∙ ap (λ x. min x CAP) (sym (raw_is by t r m p f ∙ ap (subsets t) z ∙ subsets_one t))

pub raw_many : (by t r m : ℕ) → Power by r → m ≡ min (32 - r) t → m ≢ 0 → m ≢ 1 → 2000000 < t → CAP ≡ min (raw_term by t) CAP
unfolding subsets
raw_many by t r m p f a b h =
    let e = raw_is by t r m p f in
    let k = subsets_most t 2 m (omega arith) in
    let q = pairs_many t h in
    omega arith

pub raw_over : (by t r m s a w : ℕ) → Power by r → m ≡ min (32 - r) t → s < m → a ≡ subsets t s → w ≡ binomial t (s + 1) → CAP ≤ a + w → CAP ≡ min (raw_term by t) CAP
raw_over by t r m s a w p f h ea ew o =
    let e = raw_is by t r m p f in
    let k = subsets_most t (s + 1) m (omega arith) in
    let q = subsets_next t s a w ea ew in
    omega arith

pub raw_end : (by t r m s a : ℕ) → Power by r → m ≡ min (32 - r) t → s ≡ m → a ≡ subsets t s → a < CAP → a ≡ min (raw_term by t) CAP
raw_end by t r m s a p f es ea l =
    let e : raw_term by t ≡ a = raw_is by t r m p f ∙ ap (subsets t) (sym es) ∙ sym ea in
    omega arith

-- ---- one term more, one monomial more
phase_push : (v t : ℕ) (xs : List Term) (x : Term) → raw_phase v t (xs ++ x ∷ []) ≡ raw_phase v t xs + cond (stands v x.mono) (raw_term x.phase t) 1
unfolding raw_phase
phase_push v t [] x = omega arith
phase_push v t (y ∷ xs) x = omega (arith, phase_push v t xs x)

bool_push : (v t : ℕ) (f : List (List ℕ)) (m : List ℕ) → raw_bool v t (f ++ m ∷ []) ≡ raw_bool v t f + cond (stands v m) t 1
unfolding raw_bool
bool_push v t [] m = omega arith
bool_push v t (k ∷ f) m = omega (arith, bool_push v t f m)

pub start_phase : (v t : ℕ) (xs : List Term) → 0 ≡ min (raw_phase v t (take 0 xs)) CAP
unfolding raw_phase
start_phase v t xs = omega arith

pub start_bool : (v t : ℕ) (f : List (List ℕ)) → 0 ≡ min (raw_bool v t (take 0 f)) CAP
unfolding raw_bool
start_bool v t f = omega arith

capped : (a b n m k : ℕ) → n ≡ min a CAP → m ≡ min b CAP → k ≡ min (n + m) CAP → k ≡ min (a + b) CAP
capped a b n m k e f g = omega arith

-- m is what comes of the term at i, capped
pub phase_more : (v t i n m k : ℕ) (xs : List Term) (x : Term) (b : Bool) → i < length xs → x ≡ get_or xs i x → b ≡ stands v x.mono → ((b ≡ true) × (m ≡ min (raw_term x.phase t) CAP)) ⊎ ((b ≡ false) × (m ≡ 1))
    → k ≡ min (n + m) CAP → n ≡ min (raw_phase v t (take i xs)) CAP → k ≡ min (raw_phase v t (take (i + 1) xs)) CAP
phase_more v t i n m k xs x b h ex eb o g e =
    let q = ap (λ (r : List Term). raw_phase v t r) (take_more xs i x h ∙ ap (λ (r : Term). take i xs ++ r ∷ []) (sym ex)) ∙ phase_push v t (take i xs) x in
    capped (raw_phase v t (take i xs)) (cond (stands v x.mono) (raw_term x.phase t) 1) n m k e (each o) g ∙ ap (λ r. min r CAP) (sym q)
  where
    each : ((b ≡ true) × (m ≡ min (raw_term x.phase t) CAP)) ⊎ ((b ≡ false) × (m ≡ 1)) → m ≡ min (cond (stands v x.mono) (raw_term x.phase t) 1) CAP
    each (inl p) = p.1 ∙ ap (λ c. min (cond c (raw_term x.phase t) 1) CAP) (sym p.0 ∙ eb)
    each (inr p) = p.1 ∙ ap (λ c. min (cond c (raw_term x.phase t) 1) CAP) (sym p.0 ∙ eb)

pub bool_more : (v t i n m k : ℕ) (f : List (List ℕ)) (x : List ℕ) (b : Bool) → i < length f → x ≡ get_or f i x → b ≡ stands v x → ((b ≡ true) × (m ≡ min t CAP)) ⊎ ((b ≡ false) × (m ≡ 1))
    → k ≡ min (n + m) CAP → n ≡ min (raw_bool v t (take i f)) CAP → k ≡ min (raw_bool v t (take (i + 1) f)) CAP
bool_more v t i n m k f x b h ex eb o g e =
    let q = ap (λ (r : List (List ℕ)). raw_bool v t r) (take_more f i x h ∙ ap (λ (r : List ℕ). take i f ++ r ∷ []) (sym ex)) ∙ bool_push v t (take i f) x in
    capped (raw_bool v t (take i f)) (cond (stands v x) t 1) n m k e (each o) g ∙ ap (λ r. min r CAP) (sym q)
  where
    each : ((b ≡ true) × (m ≡ min t CAP)) ⊎ ((b ≡ false) × (m ≡ 1)) → m ≡ min (cond (stands v x) t 1) CAP
    each (inl p) = p.1 ∙ ap (λ c. min (cond c t 1) CAP) (sym p.0 ∙ eb)
    each (inr p) = p.1 ∙ ap (λ c. min (cond c t 1) CAP) (sym p.0 ∙ eb)

pub phase_end : (v t i n : ℕ) (p xs : List Term) → xs ≡ p → length xs ≤ i → n ≡ min (raw_phase v t (take i xs)) CAP → n ≡ min (raw_phase v t p) CAP
phase_end v t i n p xs ep h e = e ∙ ap (λ (r : List Term). min (raw_phase v t r) CAP) (take_all i xs h ∙ ep)

pub bool_end : (v t i n : ℕ) (p f : List (List ℕ)) → f ≡ p → length f ≤ i → n ≡ min (raw_bool v t (take i f)) CAP → n ≡ min (raw_bool v t p) CAP
bool_end v t i n p f ep h e = e ∙ ap (λ (r : List (List ℕ)). min (raw_bool v t r) CAP) (take_all i f h ∙ ep)

-- ---- sizes
pub size_start : (p n k : ℕ) (fs : List (List (List ℕ))) → n ≡ p → k ≡ min n CAP → k ≡ min (p + monomials (take 0 fs)) CAP
unfolding monomials
size_start p n k fs e f = omega arith

monomials_push : (fs : List (List (List ℕ))) (f : List (List ℕ)) → monomials (fs ++ f ∷ []) ≡ monomials fs + length f
unfolding monomials
monomials_push [] f = omega arith
monomials_push (g ∷ fs) f = omega (arith, monomials_push fs f)

-- n is the length of the polynomial at i, m is n capped, and k is the new total
pub size_more : (p : ℕ) (fs : List (List (List ℕ))) (i : ℕ) (f : List (List ℕ)) (t n m k : ℕ) → i < length fs → f ≡ get_or fs i f → n ≡ length f → m ≡ min n CAP → k ≡ min (t + m) CAP → t ≡ min (p + monomials (take i fs)) CAP → k ≡ min (p + monomials (take (i + 1) fs)) CAP
size_more p fs i f t n m k h ef en em ek e =
    let q = ap (λ (r : List (List (List ℕ))). monomials r) (take_more fs i f h ∙ ap (λ (r : List (List ℕ)). take i fs ++ r ∷ []) (sym ef)) ∙ monomials_push (take i fs) f in
    omega arith

pub size_end : (p : ℕ) (q fs : List (List (List ℕ))) (i t : ℕ) → fs ≡ q → length fs ≤ i → t ≡ min (p + monomials (take i fs)) CAP → t ≡ min (p + monomials q) CAP
size_end p q fs i t eq h e = e ∙ ap (λ (r : List (List (List ℕ))). min (p + monomials r) CAP) (take_all i fs h ∙ eq)
