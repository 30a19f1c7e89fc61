-- Prims without a common qubit act in either order.
use mathlib.Core.Path.{fun_ext}
use Rattle.std.proofs.Common.{◌≡◌, ◌≢◌, ℕ, ◌*◌, ◌^◌, refl, ap, ap₂, sym, ◌∙◌, arith, Bool, true, false, not, List, [], ◌∷◌, ◌++◌, set, add_comm, append_assoc, append-nil, subst, inl, inr}
use Rattle.std.proofs.Math.IntN.{ℤ, pos, ◌+ℤ◌, ◌-ℤ◌, ◌*ℤ◌}
use Rattle.std.proofs.lemmas.Int.{ints}
use Rattle.std.proofs.lemmas.List.{get_or-set_other, set_comm}
use Rattle.ps_ring.specs.Numbers.{Number}
use Rattle.ps_prim.specs.declared.prims.Primitive.{Primitive as Prim}
use Rattle.ps_prim.specs.declared.prims.Primitive.TheVariants.{U, Cx}
use Rattle.ps_prim.specs.Amplitudes.{Truths, Column, bit, first_phase, second_phase, entry, flipped, exchanged, act, run, start, amplitude, turns}
use Rattle.ps_prim.specs.Maps.{SameMap}
use Rattle.ps_prim.proofs.Appended.{turns-append}
use Rattle.ps_cut.specs.Orders.{IsOn, IsOnSome, AreApart, IsBeside}
use Rattle.ps_cut.specs.OrderLaws.{ApartSwap, SwapMoves, BesideSwaps, DisjointSwap, PullsFront, PullsBack}
use Rattle.ps_cut.proofs.Congruence.{map_reflexive, map_transitive, map_append}

-- ---- two U
entry_twice : (t f l t' f' l' : ℤ) (a b a' b' : Bool) (c : Number) (j : ℤ) → entry t f l a b (entry t' f' l' a' b' c) j ≡ entry t' f' l' a' b' (entry t f l a b c) j
unfolding entry
entry_twice t f l t' f' l' a b a' b' c j =
    let swap : (p r : ℤ) → c (j -ℤ p -ℤ r) ≡ c (j -ℤ r -ℤ p) = λ p r. ap c (omega (arith, ints)) in
    let e1 = swap (first_phase t f l a b) (first_phase t' f' l' a' b') in
    let e2 = swap (first_phase t f l a b) (second_phase t' f' l' a' b') in
    let e3 = swap (second_phase t f l a b) (first_phase t' f' l' a' b') in
    let e4 = swap (second_phase t f l a b) (second_phase t' f' l' a' b') in
    omega (arith, ints)

entry_add : (t f l : ℤ) (a b : Bool) (c d : Number) (j : ℤ) → entry t f l a b (λ i. c i +ℤ d i) j ≡ entry t f l a b c j +ℤ entry t f l a b d j
unfolding entry
entry_add t f l a b c d j = omega (arith, ints)

four_sums : (a b c d : ℤ) → (a +ℤ b) +ℤ (c +ℤ d) ≡ (a +ℤ c) +ℤ (b +ℤ d)
four_sums a b c d = omega (arith, ints)

-- both rows of the one over both rows of the other
rows_twice : (t f l t' f' l' : ℤ) (r r' : Bool) (v : Bool → Bool → Number) (j : ℤ)
    → entry t f l r false (λ i. entry t' f' l' r' false (v false false) i +ℤ entry t' f' l' r' true (v false true) i) j +ℤ entry t f l r true (λ i. entry t' f' l' r' false (v true false) i +ℤ entry t' f' l' r' true (v true true) i) j
    ≡ entry t' f' l' r' false (λ i. entry t f l r false (v false false) i +ℤ entry t f l r true (v true false) i) j +ℤ entry t' f' l' r' true (λ i. entry t f l r false (v false true) i +ℤ entry t f l r true (v true true) i) j
rows_twice t f l t' f' l' r r' v j =
    let E = entry t f l r in
    let E' = entry t' f' l' r' in
    let once : (a b : Bool) → entry t f l r a (entry t' f' l' r' b (v a b)) j ≡ entry t' f' l' r' b (entry t f l r a (v a b)) j = λ a b. entry_twice t f l t' f' l' r a r' b (v a b) j in
    ap₂ (λ x y. x +ℤ y)
    (entry_add t f l r false (entry t' f' l' r' false (v false false)) (entry t' f' l' r' true (v false true)) j ∙ ap₂ (λ x y. x +ℤ y) (once false false) (once false true))
    (entry_add t f l r true (entry t' f' l' r' false (v true false)) (entry t' f' l' r' true (v true true)) j ∙ ap₂ (λ x y. x +ℤ y) (once true false) (once true true))
    ∙ four_sums (E' false (E false (v false false)) j) (E' true (E false (v false true)) j) (E' false (E true (v true false)) j) (E' true (E true (v true true)) j)
    ∙ sym (ap₂ (λ x y. x +ℤ y)
    (entry_add t' f' l' r' false (entry t f l r false (v false false)) (entry t f l r true (v true false)) j)
    (entry_add t' f' l' r' true (entry t f l r false (v false true)) (entry t f l r true (v true true)) j))

-- U at a list with another bit set
act_beside : (theta phi lambda q r : ℕ) (v : Column) (z : Truths) (b : Bool) → q ≢ r → act (U theta phi lambda q) v (set z r b)
    ≡ (λ i. entry (pos theta) (pos (2 * phi)) (pos (2 * lambda)) (bit z q) false (v (set (set z r b) q false)) i +ℤ entry (pos theta) (pos (2 * phi)) (pos (2 * lambda)) (bit z q) true (v (set (set z r b) q true)) i)
unfolding act
act_beside theta phi lambda q r v z b d = ap {B = Number} (λ s i. entry (pos theta) (pos (2 * phi)) (pos (2 * lambda)) s false (v (set (set z r b) q false)) i +ℤ entry (pos theta) (pos (2 * phi)) (pos (2 * lambda)) s true (v (set (set z r b) q true)) i) (get_or-set_other z r q b false d)

u_swap : (theta phi lambda q theta' phi' lambda' r : ℕ) (v : Column) (z : Truths) → q ≢ r → (j : ℤ) → act (U theta' phi' lambda' r) (act (U theta phi lambda q) v) z j ≡ act (U theta phi lambda q) (act (U theta' phi' lambda' r) v) z j
unfolding act
u_swap theta phi lambda q theta' phi' lambda' r v z d j =
    let E : Bool → Bool → Number → Number = entry (pos theta) (pos (2 * phi)) (pos (2 * lambda)) in
    let E' : Bool → Bool → Number → Number = entry (pos theta') (pos (2 * phi')) (pos (2 * lambda')) in
    let back : r ≢ q = λ e. d (sym e) in
    let turn : (a b : Bool) → set (set z q a) r b ≡ set (set z r b) q a = λ a b. set_comm z q r a b d in
    ap₂ (λ (c e : Number). E' (bit z r) false c j +ℤ E' (bit z r) true e j) (act_beside theta phi lambda q r v z false d) (act_beside theta phi lambda q r v z true d)
    ∙ rows_twice (pos theta') (pos (2 * phi')) (pos (2 * lambda')) (pos theta) (pos (2 * phi)) (pos (2 * lambda)) (bit z r) (bit z q) (λ b a. v (set (set z r b) q a)) j
    ∙ ap₂ (λ (c e : Number). E (bit z q) false c j +ℤ E (bit z q) true e j)
    (sym (act_beside theta' phi' lambda' r q v z false back ∙ ap₂ {C = Number} (λ (x y : Truths) i. E' (bit z r) false (v x) i +ℤ E' (bit z r) true (v y) i) (turn false false) (turn false true)))
    (sym (act_beside theta' phi' lambda' r q v z true back ∙ ap₂ {C = Number} (λ (x y : Truths) i. E' (bit z r) false (v x) i +ℤ E' (bit z r) true (v y) i) (turn true false) (turn true true)))

-- ---- U and Cx
flipped_beside : (s : Bool) (t q : ℕ) (z : Truths) (b : Bool) → q ≢ t → flipped s t (set z q b) ≡ set (flipped s t z) q b
unfolding flipped
flipped_beside true t q z b d = ap (λ s. set (set z q b) t (not s)) (get_or-set_other z q t b false (λ e. d (sym e))) ∙ set_comm z q t b (not (bit z t)) d
flipped_beside false t q z b d = refl

bit_flipped : (s : Bool) (t q : ℕ) (z : Truths) → q ≢ t → bit (flipped s t z) q ≡ bit z q
unfolding flipped
bit_flipped true t q z d = get_or-set_other z t q (not (bit z t)) false d
bit_flipped false t q z d = refl

exchanged_beside : (c t q : ℕ) (z : Truths) (b : Bool) → q ≢ c → q ≢ t → exchanged c t (set z q b) ≡ set (exchanged c t z) q b
unfolding exchanged
exchanged_beside c t q z b d e = ap (λ s. flipped s t (set z q b)) (get_or-set_other z q c b false (λ r. d (sym r))) ∙ flipped_beside (bit z c) t q z b e

u_cx : (theta phi lambda q c t : ℕ) (v : Column) (z : Truths) → q ≢ c → q ≢ t → (j : ℤ) → act (Cx c t) (act (U theta phi lambda q) v) z j ≡ act (U theta phi lambda q) (act (Cx c t) v) z j
unfolding act exchanged
u_cx theta phi lambda q c t v z d e j =
    let E : Bool → Bool → Number → Number = entry (pos theta) (pos (2 * phi)) (pos (2 * lambda)) in
    let w : Truths = exchanged c t z in
    ap (λ s. E s false (v (set w q false)) j +ℤ E s true (v (set w q true)) j) (bit_flipped (bit z c) t q z e)
    ∙ ap₂ (λ (x y : Truths). E (bit z q) false (v x) j +ℤ E (bit z q) true (v y) j) (sym (exchanged_beside c t q z false d e)) (sym (exchanged_beside c t q z true d e))

-- ---- two Cx
flipped_apart : (s s' : Bool) (t u : ℕ) (z : Truths) → t ≢ u → flipped s t (flipped s' u z) ≡ flipped s' u (flipped s t z)
unfolding flipped
flipped_apart s true t u z d = flipped_beside s t u z (not (bit z u)) (λ e. d (sym e)) ∙ ap (λ r. set (flipped s t z) u (not r)) (sym (bit_flipped s t u z (λ e. d (sym e))))
flipped_apart s false t u z d = refl

exchanged_apart : (c t d u : ℕ) (z : Truths) → c ≢ u → t ≢ d → t ≢ u → exchanged c t (exchanged d u z) ≡ exchanged d u (exchanged c t z)
unfolding exchanged
exchanged_apart c t d u z e f h =
    ap (λ s. flipped s t (flipped (bit z d) u z)) (bit_flipped (bit z d) u c z e) ∙ flipped_apart (bit z c) (bit z d) t u z h
    ∙ ap (λ s. flipped s u (flipped (bit z c) t z)) (sym (bit_flipped (bit z c) t d z (λ r. f (sym r))))

-- ---- any two
act_swap : (g h : Prim) → AreApart g h → (v : Column) → act h (act g v) ≡ act g (act h v)
unfolding act
act_swap (U theta phi lambda q) (U theta' phi' lambda' r) d v = fun_ext (λ z. fun_ext (λ j. u_swap theta phi lambda q theta' phi' lambda' r v z d j))
act_swap (U theta phi lambda q) (Cx c t) d v = fun_ext (λ z. fun_ext (λ j. u_cx theta phi lambda q c t v z d.0 d.1 j))
act_swap (Cx c t) (U theta phi lambda q) d v = fun_ext (λ z. fun_ext (λ j. sym (u_cx theta phi lambda q c t v z d.0 d.1 j)))
act_swap (Cx c t) (Cx d u) e v = fun_ext (λ z. ap v (exchanged_apart c t d u z e.1 e.2 e.3))

-- equal columns and as many U are one map
pub equal_map : (n : ℕ) (A B : List Prim) → turns A ≡ turns B → ((x : Truths) → amplitude A x ≡ amplitude B x) → SameMap n A B
equal_map n A B e h x lx z lz j = ap₂ (λ k (v : Column). pos (2 ^ k) *ℤ v z j) (sym e) (h x)

pub apart_swap : ApartSwap
unfolding amplitude run
apart_swap n g h d = equal_map n _ _ (turns-append (g ∷ []) (h ∷ []) ∙ add_comm _ _ ∙ sym (turns-append (h ∷ []) (g ∷ []))) (λ x. act_swap g h d (start x))

pub swap_moves : SwapMoves
swap_moves n g [] d = map_reflexive n (g ∷ [])
swap_moves n g (h ∷ hs) d =
    map_transitive n (g ∷ h ∷ hs) (h ∷ g ∷ hs) (h ∷ (hs ++ (g ∷ [])))
    (map_append n (g ∷ h ∷ []) (h ∷ g ∷ []) hs hs d.0 (map_reflexive n hs))
    (map_append n (h ∷ []) (h ∷ []) (g ∷ hs) (hs ++ (g ∷ [])) (map_reflexive n (h ∷ [])) (swap_moves n g hs d.1))

pub beside_swaps : BesideSwaps
beside_swaps n g [] d = tt
beside_swaps n g (h ∷ hs) d = (apart_swap n g h d.0, beside_swaps n g hs d.1)

-- ---- lists without a common qubit
-- if no qubit is one of both prims
apart_by : (g h : Prim) → ((k : ℕ) → IsOn k g → IsOn k h → ⊥) → AreApart g h
apart_by (U theta phi lambda q) (U theta' phi' lambda' r) f = λ e. f q refl e
apart_by (U theta phi lambda q) (Cx c t) f = (λ e. f q refl (inl e), λ e. f q refl (inr e))
apart_by (Cx c t) (U theta phi lambda q) f = (λ e. f q (inl e) refl, λ e. f q (inr e) refl)
apart_by (Cx c t) (Cx d u) f = (λ e. f c (inl refl) (inl e), λ e. f c (inl refl) (inr e), λ e. f t (inr refl) (inl e), λ e. f t (inr refl) (inr e))

beside_by : (g : Prim) (B : List Prim) → ((k : ℕ) → IsOn k g → IsOnSome k B → ⊥) → IsBeside g B
beside_by g [] f = tt
beside_by g (h ∷ hs) f = (apart_by g h (λ k a b. f k a (inl b)), beside_by g hs (λ k a b. f k a (inr b)))

pub disjoint_swap : DisjointSwap
disjoint_swap n [] B d = subst (λ (A : List Prim). SameMap n B A) (sym (append-nil B)) (map_reflexive n B)
disjoint_swap n (g ∷ gs) B d =
    let inner : SameMap n (g ∷ (gs ++ B)) (g ∷ (B ++ gs)) = map_append n (g ∷ []) (g ∷ []) (gs ++ B) (B ++ gs) (map_reflexive n (g ∷ [])) (disjoint_swap n gs B (λ k a b. d k (inr a) b)) in
    let outer : SameMap n ((g ∷ B) ++ gs) ((B ++ (g ∷ [])) ++ gs) =
    map_append n (g ∷ B) (B ++ (g ∷ [])) gs gs (swap_moves n g B (beside_swaps n g B (beside_by g B (λ k a b. d k (inl a) b)))) (map_reflexive n gs) in
    subst (λ (A : List Prim). SameMap n (g ∷ (gs ++ B)) A) (append_assoc B (g ∷ []) gs) (map_transitive n (g ∷ (gs ++ B)) (g ∷ (B ++ gs)) ((B ++ (g ∷ [])) ++ gs) inner outer)

pub pulls_front : PullsFront
pulls_front n A G R d =
    subst (λ (B : List Prim). SameMap n B (G ++ (A ++ R))) (append_assoc A G R)
    (subst (λ (B : List Prim). SameMap n ((A ++ G) ++ R) B) (append_assoc G A R) (map_append n (A ++ G) (G ++ A) R R (disjoint_swap n A G d) (map_reflexive n R)))

pub pulls_back : PullsBack
pulls_back n A G R d = subst (SameMap n (A ++ (G ++ R))) (sym (append_assoc A R G)) (map_append n A A (G ++ R) (R ++ G) (map_reflexive n A) (disjoint_swap n G R d))
