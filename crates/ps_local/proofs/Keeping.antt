-- Which items come out of what is kept of a list.
use Rattle.std.proofs.Common.{◌≡◌, ◌≢◌, ℕ, zero, suc, ◌+◌, ◌<◌, ◌≤◌, refl, ap, sym, ◌∙◌, subst, arith, Bool, true, false, List, [], ◌∷◌, ◌++◌, length, get_or, set, drop, replicate, map, append_assoc, append-nil}
use Rattle.std.specs.declared.sync.Arc.{Arc}
use Rattle.std.specs.declared.alloc.Global.{Global}
use Rattle.ps_prim.specs.declared.items.Item.{Item}
use Rattle.ps_reach.specs.Runs.{prims_of}
use Rattle.ps_prim.specs.declared.prims.Primitive.{Primitive as Prim}
use Rattle.ps_cut.specs.Orders.{IsOnSome, AreDisjoint}
use Rattle.std.proofs.Math.ListN.{drop_of_length-le}
use Rattle.std.proofs.lemmas.List.{map-append}
use Rattle.ps_local.specs.Exchanges.{Pulls, here, past}
use Rattle.ps_local.specs.Wires.{kept}
use Rattle.ps_local.proofs.Masks.{some_qubit}

pub disjoint_other : (h g : List Prim) → AreDisjoint h g → g ≢ [] → h ≢ g
disjoint_other h g d s e = let q = some_qubit g s in d q.0 (subst (IsOnSome q.0) (sym e) q.1) q.1

-- before place k no item that is kept shares a qubit with g
abbrev pub ClearBefore : List Bool → List (List Prim) → List Prim → ℕ → Type 0
ClearBefore out K g k = (i : ℕ) → i < k → get_or out i true ≡ false → AreDisjoint (get_or K i []) g

clear_rest : (b : Bool) (out : List Bool) (x : List Prim) (K : List (List Prim)) (g : List Prim) (k : ℕ) → ClearBefore (b ∷ out) (x ∷ K) g (suc k) → ClearBefore out K g k
clear_rest b out x K g k c i h e = c (suc i) (omega arith) e

pub pulls_kept : (out : List Bool) (K : List (List Prim)) (g : List Prim) (k : ℕ) → length out ≡ length K → k < length K → get_or out k true ≡ false → get_or K k [] ≡ g → g ≢ [] → ClearBefore out K g k
    → Pulls g (kept out K) (kept (set out k true) K)
unfolding kept
pulls_kept [] [] g k l h o e s c = absurd (omega arith)
pulls_kept [] (x ∷ K) g k l h o e s c = absurd (omega arith)
pulls_kept (b ∷ out) [] g k l h o e s c = absurd (omega arith)
pulls_kept (true ∷ out) (x ∷ K) g zero l h o e s c = cc
pulls_kept (false ∷ out) (x ∷ K) g zero l h o e s c = here e
pulls_kept (true ∷ out) (x ∷ K) g (suc k) l h o e s c = pulls_kept out K g k (omega arith) (omega arith) o e s (clear_rest true out x K g k c)
pulls_kept (false ∷ out) (x ∷ K) g (suc k) l h o e s c =
    let d : AreDisjoint x g = c 0 (omega arith) refl in
    past (disjoint_other x g d s) d (pulls_kept out K g k (omega arith) (omega arith) o e s (clear_rest false out x K g k c))

nothing_pulled : {g : List Prim} {L left : List (List Prim)} → L ≡ [] → Pulls g L left → ⊥
nothing_pulled e (here x) = cc
nothing_pulled e (past x d p) = cc

none_here : {g x : List Prim} {rest left : List (List Prim)} → x ≢ g → ((L : List (List Prim)) → Pulls g rest L → ⊥) → Pulls g (x ∷ rest) left → ⊥
none_here n ih (here e) = n e
none_here n ih (past {left = L} e d q) = ih L q

other_here : {g x : List Prim} {rest left : List (List Prim)} → x ≢ g → ¬ (AreDisjoint x g) → Pulls g (x ∷ rest) left → ⊥
other_here n m (here e) = n e
other_here n m (past e d q) = m d

pub none_pulled : (out : List Bool) (K : List (List Prim)) (g : List Prim) → length out ≡ length K → g ≢ [] → ClearBefore out K g (length K) → (left : List (List Prim)) → Pulls g (kept out K) left → ⊥
unfolding kept
none_pulled [] K g l s c left p = nothing_pulled refl p
none_pulled (b ∷ out) [] g l s c left p = nothing_pulled refl p
none_pulled (true ∷ out) (x ∷ K) g l s c left p = none_pulled out K g (omega arith) s (clear_rest true out x K g (length K) c) left p
none_pulled (false ∷ out) (x ∷ K) g l s c left p =
    none_here (disjoint_other x g (c 0 (omega arith) refl) s) (none_pulled out K g (omega arith) s (clear_rest false out x K g (length K) c)) p

pub other_pulled : (out : List Bool) (K : List (List Prim)) (g : List Prim) (k : ℕ) → length out ≡ length K → k < length K → get_or out k true ≡ false → get_or K k [] ≢ g → ¬ (AreDisjoint (get_or K k []) g) → g ≢ []
    → ClearBefore out K g k → (left : List (List Prim)) → Pulls g (kept out K) left → ⊥
unfolding kept
other_pulled [] K g k l h o e m s c left p = nothing_pulled refl p
other_pulled (b ∷ out) [] g k l h o e m s c left p = nothing_pulled refl p
other_pulled (true ∷ out) (x ∷ K) g zero l h o e m s c left p = cc
other_pulled (true ∷ out) (x ∷ K) g (suc k) l h o e m s c left p = other_pulled out K g k (omega arith) (omega arith) o e m s (clear_rest true out x K g k c) left p
other_pulled (false ∷ out) (x ∷ K) g zero l h o e m s c left p = other_here e m p
other_pulled (false ∷ out) (x ∷ K) g (suc k) l h o e m s c left p =
    none_here (disjoint_other x g (c 0 (omega arith) refl) s) (other_pulled out K g k (omega arith) (omega arith) o e m s (clear_rest false out x K g k c)) p

-- ---- what is kept
pub kept_none : (K : List (List Prim)) (n : ℕ) → length K ≡ n → kept (replicate n false) K ≡ K
unfolding kept
kept_none [] zero e = refl
kept_none [] (suc n) e = absurd (omega arith)
kept_none (x ∷ K) zero e = absurd (omega arith)
kept_none (x ∷ K) (suc n) e = ap (λ (L : List (List Prim)). x ∷ L) (kept_none K n (omega arith))

kept_out : (out : List Bool) (L : List (Arc Item Global)) (i : ℕ) → i < length out → i < length L → get_or out i true ≡ true
    → kept (drop i out) (map prims_of (drop i L)) ≡ kept (drop (suc i) out) (map prims_of (drop (suc i) L))
unfolding kept
kept_out [] L i h k e = absurd (omega arith)
kept_out (b ∷ out) [] i h k e = absurd (omega arith)
kept_out (true ∷ out) (x ∷ L) zero h k e = refl
kept_out (false ∷ out) (x ∷ L) zero h k e = cc
kept_out (b ∷ out) (x ∷ L) (suc i) h k e = kept_out out L i (omega arith) (omega arith) e

kept_in : (out : List Bool) (L : List (Arc Item Global)) (i : ℕ) (a : Arc Item Global) → i < length out → i < length L → get_or out i true ≡ false → a ≡ get_or L i a
    → kept (drop i out) (map prims_of (drop i L)) ≡ prims_of a ∷ kept (drop (suc i) out) (map prims_of (drop (suc i) L))
unfolding kept
kept_in [] L i a h k e s = absurd (omega arith)
kept_in (b ∷ out) [] i a h k e s = absurd (omega arith)
kept_in (true ∷ out) (x ∷ L) zero a h k e s = cc
kept_in (false ∷ out) (x ∷ L) zero a h k e s = ap (λ (y : Arc Item Global). prims_of y ∷ kept out (map prims_of L)) (sym s)
kept_in (b ∷ out) (x ∷ L) (suc i) a h k e s = kept_in out L i a (omega arith) (omega arith) e s

one_on : (i : ℕ) → suc i ≡ i + 1
one_on i = omega arith

-- one item more is kept behind those that are kept already
pub rest_more : (out : List Bool) (L : List (Arc Item Global)) (i : ℕ) (a b : Arc Item Global) (list more : List (Arc Item Global)) (all : List (List Prim)) → i < length out → i < length L → get_or out i true ≡ false → a ≡ get_or L i a
    → prims_of b ≡ prims_of a → more ≡ list ++ b ∷ [] → map prims_of list ++ kept (drop i out) (map prims_of (drop i L)) ≡ all → map prims_of more ++ kept (drop (i + 1) out) (map prims_of (drop (i + 1) L)) ≡ all
rest_more out L i a b list more all h k e s p m w =
    let r = kept (drop (i + 1) out) (map prims_of (drop (i + 1) L)) in
    ap (λ (xs : List (Arc Item Global)). map prims_of xs ++ r) m ∙ ap (λ (xs : List (List Prim)). xs ++ r) (map-append prims_of list (b ∷ [])) ∙ append_assoc (map prims_of list) (prims_of b ∷ []) r
    ∙ ap (λ (x : List Prim). map prims_of list ++ x ∷ r) p ∙ ap (λ (xs : List (List Prim)). map prims_of list ++ xs) (sym (subst (λ j. kept (drop i out) (map prims_of (drop i L)) ≡ prims_of a ∷ kept (drop j out) (map prims_of (drop j L))) (one_on i) (kept_in out L i a h k e s))) ∙ w

pub rest_same : (out : List Bool) (L : List (Arc Item Global)) (i : ℕ) (list more : List (Arc Item Global)) (all : List (List Prim)) → i < length out → i < length L → get_or out i true ≡ true
    → more ≡ list → map prims_of list ++ kept (drop i out) (map prims_of (drop i L)) ≡ all → map prims_of more ++ kept (drop (i + 1) out) (map prims_of (drop (i + 1) L)) ≡ all
rest_same out L i list more all h k e m w =
    ap (λ (xs : List (Arc Item Global)). map prims_of xs ++ kept (drop (i + 1) out) (map prims_of (drop (i + 1) L))) m ∙ ap (λ (xs : List (List Prim)). map prims_of list ++ xs) (sym (subst (λ j. kept (drop i out) (map prims_of (drop i L)) ≡ kept (drop j out) (map prims_of (drop j L))) (one_on i) (kept_out out L i h k e))) ∙ w

pub rest_all : (out : List Bool) (L list : List (Arc Item Global)) (i : ℕ) (all : List (List Prim)) → length L ≤ i → map prims_of list ++ kept (drop i out) (map prims_of (drop i L)) ≡ all → map prims_of list ≡ all
unfolding kept
rest_all out L list i all h w = sym (append-nil (map prims_of list)) ∙ ap (λ (xs : List (List Prim)). map prims_of list ++ xs) (sym (nothing (drop i out) (drop i L) (drop_of_length-le L h))) ∙ w
  where
    nothing : (bs : List Bool) (xs : List (Arc Item Global)) → xs ≡ [] → kept bs (map prims_of xs) ≡ []
    nothing [] xs e = refl
    nothing (b ∷ bs) [] e = refl
    nothing (b ∷ bs) (x ∷ xs) e = cc
