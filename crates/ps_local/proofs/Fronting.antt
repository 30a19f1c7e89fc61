-- What the front of two lists of items, up to exchanges, leaves of both.
use Rattle.std.proofs.Common.{◌≡◌, ℕ, ◌+◌, ◌≤◌, refl, ap, sym, ◌∙◌, subst, arith, List, [], ◌∷◌, ◌++◌, length, append_assoc, append-nil}
use Rattle.ps_prim.specs.declared.prims.Primitive.{Primitive as Prim}
use Rattle.ps_prim.specs.Maps.{AllWithin, SameMap}
use Rattle.ps_reach.specs.Runs.{run_of}
use Rattle.ps_reach.proofs.Denoting.{within_first, within_second, within_both}
use Rattle.ps_cut.specs.Orders.{AreDisjoint}
use Rattle.ps_cut.proofs.Congruence.{map_reflexive, map_transitive, map_append}
use Rattle.ps_cut.proofs.Exchanging.{pulls_front, pulls_back}
use Rattle.ps_local.specs.Exchanges.{Pulls, here, past, Fronts, ended, goes, remains}
use Rattle.ps_local.proofs.Runs.{run_push, backwards, backwards_push, apart_run, apart_backwards}

-- ---- one item comes out
pulled_front : (n : ℕ) {g : List Prim} {K left : List (List Prim)} → Pulls g K left → SameMap n (run_of K) (g ++ run_of left)
unfolding run_of
pulled_front n {g} (here {h = h} {rest = R} e) = subst (λ (A : List Prim). SameMap n (h ++ run_of R) (A ++ run_of R)) e (map_reflexive n (h ++ run_of R))
pulled_front n {g} (past {h = h} {rest = R} {left = L} e d p) =
    map_transitive n (h ++ run_of R) (h ++ (g ++ run_of L)) (g ++ (h ++ run_of L)) (map_append n h h (run_of R) (g ++ run_of L) (map_reflexive n h) (pulled_front n p)) (pulls_front n h g (run_of L) d)

disjoint_back : (A B : List Prim) → AreDisjoint A B → AreDisjoint B A
disjoint_back A B d k b a = d k a b

pulled_back : (n : ℕ) {g : List Prim} {K left : List (List Prim)} → Pulls g K left → SameMap n (backwards K) (backwards left ++ g)
unfolding backwards
pulled_back n {g} (here {h = h} {rest = R} e) = subst (λ (A : List Prim). SameMap n (backwards R ++ h) (backwards R ++ A)) e (map_reflexive n (backwards R ++ h))
pulled_back n {g} (past {h = h} {rest = R} {left = L} e d p) =
    map_transitive n (backwards R ++ h) ((backwards L ++ g) ++ h) ((backwards L ++ h) ++ g) (map_append n (backwards R) (backwards L ++ g) h h (pulled_back n p) (map_reflexive n h))
    (subst (λ (A : List Prim). SameMap n A ((backwards L ++ h) ++ g)) (sym (append_assoc (backwards L) g h)) (pulls_back n (backwards L) g h (disjoint_back h g d)))

-- ---- from the front
pub fronts_first : (n : ℕ) {s I K F M N : List (List Prim)} → Fronts s I K F M N → SameMap n (run_of s ++ run_of I) (run_of F ++ (run_of s ++ run_of M))
unfolding run_of
fronts_first n (ended {stays = s}) = map_reflexive n (run_of s ++ [])
fronts_first n (goes {stays = s} {I = I} {F = F} {M = M} {g = g} x r) =
    subst (SameMap n (run_of s ++ (g ++ run_of I))) (sym (append_assoc g (run_of F) (run_of s ++ run_of M)))
    (map_transitive n (run_of s ++ (g ++ run_of I)) (g ++ (run_of s ++ run_of I)) (g ++ (run_of F ++ (run_of s ++ run_of M)))
    (pulls_front n (run_of s) g (run_of I) (apart_run s g x.apart)) (map_append n g g (run_of s ++ run_of I) (run_of F ++ (run_of s ++ run_of M)) (map_reflexive n g) (fronts_first n r)))
fronts_first n (remains {stays = s} {I = I} {F = F} {M = M} {g = g} x r) =
    let e : (X : List Prim) → run_of (s ++ g ∷ []) ++ X ≡ run_of s ++ (g ++ X) = λ X. ap (λ (A : List Prim). A ++ X) (run_push s g) ∙ append_assoc (run_of s) g X in
    subst (λ (A : List Prim). SameMap n A (run_of F ++ (run_of s ++ (g ++ run_of M)))) (e (run_of I))
    (subst (λ (B : List Prim). SameMap n (run_of (s ++ g ∷ []) ++ run_of I) (run_of F ++ B)) (e (run_of M)) (fronts_first n r))

pub fronts_second : (n : ℕ) {s I K F M N : List (List Prim)} → Fronts s I K F M N → SameMap n (run_of K) (run_of F ++ run_of N)
unfolding run_of
fronts_second n (ended {K = K}) = map_reflexive n (run_of K)
fronts_second n (goes {K = K} {K' = L} {F = F} {N = N} {g = g} x r) =
    subst (SameMap n (run_of K)) (sym (append_assoc g (run_of F) (run_of N)))
    (map_transitive n (run_of K) (g ++ run_of L) (g ++ (run_of F ++ run_of N)) (pulled_front n x.pulls) (map_append n g g (run_of L) (run_of F ++ run_of N) (map_reflexive n g) (fronts_second n r)))
fronts_second n (remains x r) = fronts_second n r

-- ---- from the back
pub backs_first : (n : ℕ) {s I K F M N : List (List Prim)} → Fronts s I K F M N → SameMap n (backwards I ++ backwards s) ((backwards M ++ backwards s) ++ backwards F)
unfolding backwards
backs_first n (ended {stays = s}) = subst (SameMap n (backwards s)) (sym (append-nil (backwards s))) (map_reflexive n (backwards s))
backs_first n (goes {stays = s} {I = I} {F = F} {M = M} {g = g} x r) =
    let A = backwards I in
    let S = backwards s in
    let T = backwards M ++ backwards s in
    subst (λ (B : List Prim). SameMap n B (T ++ (backwards F ++ g))) (sym (append_assoc A g S))
    (map_transitive n (A ++ (g ++ S)) ((A ++ S) ++ g) (T ++ (backwards F ++ g)) (pulls_back n A g S (apart_backwards s g x.apart))
    (subst (SameMap n ((A ++ S) ++ g)) (append_assoc T (backwards F) g) (map_append n (A ++ S) (T ++ backwards F) g g (backs_first n r) (map_reflexive n g))))
backs_first n (remains {stays = s} {I = I} {F = F} {M = M} {g = g} x r) =
    let e : (X : List Prim) → X ++ backwards (s ++ g ∷ []) ≡ (X ++ g) ++ backwards s = λ X. ap (λ (A : List Prim). X ++ A) (backwards_push s g) ∙ sym (append_assoc X g (backwards s)) in
    subst (λ (A : List Prim). SameMap n A (((backwards M ++ g) ++ backwards s) ++ backwards F)) (e (backwards I))
    (subst (λ (B : List Prim). SameMap n (backwards I ++ backwards (s ++ g ∷ [])) (B ++ backwards F)) (e (backwards M)) (backs_first n r))

pub backs_second : (n : ℕ) {s I K F M N : List (List Prim)} → Fronts s I K F M N → SameMap n (backwards K) (backwards N ++ backwards F)
unfolding backwards
backs_second n (ended {K = K}) = subst (SameMap n (backwards K)) (sym (append-nil (backwards K))) (map_reflexive n (backwards K))
backs_second n (goes {K = K} {K' = L} {F = F} {N = N} {g = g} x r) =
    subst (SameMap n (backwards K)) (append_assoc (backwards N) (backwards F) g)
    (map_transitive n (backwards K) (backwards L ++ g) ((backwards N ++ backwards F) ++ g) (pulled_back n x.pulls) (map_append n (backwards L) (backwards N ++ backwards F) g g (backs_second n r) (map_reflexive n g)))
backs_second n (remains x r) = backs_second n r

-- ---- qubits below n, and lengths
pulled_within : (n : ℕ) {g : List Prim} {K left : List (List Prim)} → Pulls g K left → AllWithin n (run_of K) → AllWithin n (run_of left)
unfolding run_of
pulled_within n {g} (here {h = i} {rest = R} e) h = within_second n i (run_of R) h
pulled_within n (past {h = i} {rest = R} {left = L} e d p) h = within_both n i (run_of L) (within_first n i (run_of R) h) (pulled_within n p (within_second n i (run_of R) h))

pub fronts_within : (n : ℕ) {s I K F M N : List (List Prim)} → Fronts s I K F M N → AllWithin n (run_of I) → AllWithin n (run_of F) × AllWithin n (run_of M)
unfolding run_of
fronts_within n ended h = (tt, tt)
fronts_within n (goes {I = I} {F = F} {g = g} x r) h = let w = fronts_within n r (within_second n g (run_of I) h) in (within_both n g (run_of F) (within_first n g (run_of I) h) w.0, w.1)
fronts_within n (remains {I = I} {M = M} {g = g} x r) h = let w = fronts_within n r (within_second n g (run_of I) h) in (w.0, within_both n g (run_of M) (within_first n g (run_of I) h) w.1)

pub left_within : (n : ℕ) {s I K F M N : List (List Prim)} → Fronts s I K F M N → AllWithin n (run_of K) → AllWithin n (run_of N)
left_within n ended h = h
left_within n (goes x r) h = left_within n r (pulled_within n x.pulls h)
left_within n (remains x r) h = left_within n r h

pulled_length : {g : List Prim} {K left : List (List Prim)} → Pulls g K left → length left ≤ length K
pulled_length (here e) = omega arith
pulled_length (past e d p) = let l = pulled_length p in omega arith

pub fronts_length : {s I K F M N : List (List Prim)} → Fronts s I K F M N → (length M ≤ length I) × (length N ≤ length K)
fronts_length ended = (omega arith, omega arith)
fronts_length (goes x r) = let l = fronts_length r in let p = pulled_length x.pulls in (omega arith, omega arith)
fronts_length (remains x r) = let l = fronts_length r in (omega arith, omega arith)

pub fronts_count : {s I K F M N : List (List Prim)} → Fronts s I K F M N → length F + length M ≡ length I
fronts_count ended = refl
fronts_count (goes x r) = let l = fronts_count r in omega arith
fronts_count (remains x r) = let l = fronts_count r in omega arith

-- ---- one front
equal_tails : {i : List Prim} {A B : List (List Prim)} → A ≡ B → i ∷ A ≡ i ∷ B
equal_tails {i} e = ap (λ (X : List (List Prim)). i ∷ X) e

pub pulls_once : {g : List Prim} {K A B : List (List Prim)} → Pulls g K A → Pulls g K B → A ≡ B
pulls_once (here e) (here e') = refl
pulls_once (here e) (past f d p) = absurd (f e)
pulls_once (past f d p) (here e) = absurd (f e)
pulls_once (past e d p) (past e' d' q) = equal_tails (pulls_once p q)

pub record Equal (F F' M M' N N' : List (List Prim)) : Type 0 where
  pub front : F ≡ F'
  pub first : M ≡ M'
  pub second : N ≡ N'

pub fronts_once : {s I K F M N F' M' N' : List (List Prim)} → Fronts s I K F M N → Fronts s I K F' M' N' → Equal F F' M M' N N'
fronts_once ended ended = record { front = refl; first = refl; second = refl }
fronts_once (goes {stays = s} {I = I} {F = F} {M = M} {N = N} x r) (goes y t) =
    let e = fronts_once (subst (λ L. Fronts s I L F M N) (pulls_once x.pulls y.pulls) r) t in record { front = equal_tails e.front; first = e.first; second = e.second }
fronts_once (goes {K' = L} x r) (remains y t) = absurd (y L x)
fronts_once (remains y t) (goes {K' = L} x r) = absurd (y L x)
fronts_once (remains x r) (remains y t) = let e = fronts_once r t in record { front = e.front; first = equal_tails e.first; second = e.second }
