-- Prims on the qubits of targets, and items for each index.
use Rattle.std.proofs.Common.{◌≡◌, ◌≢◌, ℕ, zero, suc, ◌+◌, ◌<◌, ◌≤◌, Bool, true, false, not, List, [], ◌∷◌, ◌++◌, refl, sym, ap, ◌∙◌, nat_eq, if◌then◌else◌, length, get_or, append_assoc, arith, true≢false}
use Rattle.std.specs.Prelude.{All}
use Rattle.std.proofs.lemmas.List.{length-map, get_or-map, append-nil}
use Rattle.std.proofs.lemmas.Bool.Decides.{nat_tests}
use Rattle.ps_prim.specs.declared.prims.Primitive.{Primitive as Prim}
use Rattle.ps_prim.specs.declared.prims.Primitive.TheVariants.{U, Cx}
use Rattle.ps_prim.specs.Maps.{IsWithin, AllWithin}
use Rattle.qasm_parse.specs.declared.program.Formula.{Formula}
use Rattle.qasm_expand.specs.declared.target.Target.{Target}
use Rattle.qasm_expand.specs.declared.target.Target.TheVariants.{Single, Whole}
use Rattle.qasm_expand.specs.Tables.{is_among, all_different}
use Rattle.qasm_expand.specs.Bodies.{on_qubits, all_on}
use Rattle.qasm_expand.specs.States.{ItemsWithin}
use Rattle.qasm_expand.specs.Targets.{qubit_at, qubits_at, items_from, expression_at}
use Rattle.qasm_expand.specs.Aims.{Within}
use Rattle.qasm_expand.proofs.Aiming.{both_left, both_right}

pub within_at : (n : ℕ) (gs : List Prim) (k : ℕ) (d : Prim) → k < length gs → AllWithin n gs → IsWithin n (get_or gs k d)
within_at n [] k d h w = absurd (omega arith)
within_at n (g ∷ gs) zero d h w = w.0
within_at n (g ∷ gs) (suc k) d h w = within_at n gs k d (omega arith) w.1

pub within_more : (n m : ℕ) (g : Prim) → n ≤ m → IsWithin n g → IsWithin m g
within_more n m (U theta phi lambda q) h w = omega arith
within_more n m (Cx c t) h w = (omega arith, omega arith, w.2)

pub all_within_more : (n m : ℕ) (gs : List Prim) → n ≤ m → AllWithin n gs → AllWithin m gs
all_within_more n m [] h w = tt
all_within_more n m (g ∷ gs) h w = (within_more n m g h w.0, all_within_more n m gs h w.1)

pub index_more : (n m i : ℕ) (t : Target) → n ≤ m → Within n i t → Within m i t
index_more n m i (Single q) h w = omega arith
index_more n m i (Whole q size) h w = (w.0, omega arith)

-- ---- qubits that differ
same_number : (q : ℕ) → nat_eq q q ≡ true
same_number q = grind (arith, nat_tests)

among_more : (b : Bool) (q : ℕ) (qs : List ℕ) → is_among q qs ≡ true → (if b then true else is_among q qs) ≡ true
among_more true q qs e = refl
among_more false q qs e = e

among_at : (qs : List ℕ) (k d : ℕ) → k < length qs → is_among (get_or qs k d) qs ≡ true
unfolding is_among
among_at [] k d h = absurd (omega arith)
among_at (q ∷ qs) zero d h = ap (λ b. if b then true else is_among q qs) (same_number q)
among_at (q ∷ qs) (suc k) d h = among_more (nat_eq (get_or qs k d) q) (get_or qs k d) qs (among_at qs k d (omega arith))

head_differs : (q : ℕ) (qs : List ℕ) (k d : ℕ) → not (is_among q qs) ≡ true → k < length qs → q ≢ get_or qs k d
head_differs q qs k d e h s = true≢false (sym e ∙ ap not (ap (λ x. is_among x qs) s ∙ among_at qs k d h))

pub differ : (qs : List ℕ) (i j d : ℕ) → all_different qs ≡ true → i < length qs → j < length qs → i ≢ j → get_or qs i d ≢ get_or qs j d
unfolding all_different
differ [] i j d e hi hj n = absurd (omega arith)
differ (q ∷ qs) zero zero d e hi hj n = absurd (n refl)
differ (q ∷ qs) zero (suc j) d e hi hj n = head_differs q qs j d (both_left _ _ e) (omega arith)
differ (q ∷ qs) (suc i) zero d e hi hj n = λ s. head_differs q qs i d (both_left _ _ e) (omega arith) (sym s)
differ (q ∷ qs) (suc i) (suc j) d e hi hj n = differ qs i j d (both_right _ _ e) (omega arith) (omega arith) (λ s. n (ap suc s))

-- ---- the qubits at an index
qubit_below : (n i : ℕ) (t : Target) → Within n i t → qubit_at i t < n
qubit_below n i (Single q) w = w
qubit_below n i (Whole q size) w = omega arith

pub qubit_read : (ts : List Target) (i q : ℕ) (d : Target) → q < length ts → get_or (qubits_at ts i) q 0 ≡ qubit_at i (get_or ts q d)
qubit_read ts i q d h = get_or-map (qubit_at i) ts q d 0 h

qubits_below : (n i : ℕ) (ts : List Target) (q : ℕ) → All (Within n i) ts → q < length ts → get_or (qubits_at ts i) q 0 < n
qubits_below n i ts q w h =
    let e = qubit_read ts i q (Single 0) h in
    let b = qubit_below n i (get_or ts q (Single 0)) (w q (Single 0) h) in
    omega arith

placed_one : (n i : ℕ) (ts : List Target) (g : Prim) → All (Within n i) ts → all_different (qubits_at ts i) ≡ true → IsWithin (length ts) g → IsWithin n (on_qubits (qubits_at ts i) g)
placed_one n i ts (U theta phi lambda q) w e h = qubits_below n i ts q w h
placed_one n i ts (Cx c t) w e h =
    let l = length-map ts (qubit_at i) in
    let hc : c < length ts = h.0 in
    let ht : t < length ts = h.1 in
    (qubits_below n i ts c w h.0, qubits_below n i ts t w h.1, differ (qubits_at ts i) c t 0 e (omega arith) (omega arith) h.2)

pub placed_all : (n i : ℕ) (ts : List Target) (gs : List Prim) → All (Within n i) ts → all_different (qubits_at ts i) ≡ true → AllWithin (length ts) gs → AllWithin n (all_on (qubits_at ts i) gs)
placed_all n i ts [] w e h = tt
placed_all n i ts (g ∷ gs) w e h = (placed_one n i ts g w e h.0, placed_all n i ts gs w e h.1)

-- ---- items
items_grown : (gs : List Prim) (ts : List Target) (i n : ℕ) → items_from gs ts i (suc n) ≡ items_from gs ts i n ++ all_on (qubits_at ts (i + n)) gs ∷ []
unfolding items_from
items_grown gs ts i zero = let z : i ≡ i + 0 = omega arith in ap (λ k. all_on (qubits_at ts k) gs ∷ []) z
items_grown gs ts i (suc n) =
    let z : (i + 1) + n ≡ i + suc n = omega arith in
    ap (λ l. all_on (qubits_at ts i) gs ∷ l) (items_grown gs ts (i + 1) n ∙ ap (λ k. items_from gs ts (i + 1) n ++ all_on (qubits_at ts k) gs ∷ []) z)

pub items_more : (gs : List Prim) (ts : List Target) (n : ℕ) → items_from gs ts 0 (n + 1) ≡ items_from gs ts 0 n ++ all_on (qubits_at ts n) gs ∷ []
items_more gs ts n =
    let e : n + 1 ≡ suc n = omega arith in
    let z : 0 + n ≡ n = omega arith in
    ap (λ k. items_from gs ts 0 k) e ∙ items_grown gs ts 0 n ∙ ap (λ k. items_from gs ts 0 n ++ all_on (qubits_at ts k) gs ∷ []) z

pub items_count : (gs : List Prim) (ts : List Target) (i n : ℕ) → length (items_from gs ts i n) ≡ n
unfolding items_from
items_count gs ts i zero = refl
items_count gs ts i (suc n) = ap suc (items_count gs ts (i + 1) n)

pub items_within : (n : ℕ) (gs : List Prim) (ts : List Target) (i k : ℕ) → ((j : ℕ) → j < i + k → All (Within n j) ts) → ((j : ℕ) → j < i + k → all_different (qubits_at ts j) ≡ true) → AllWithin (length ts) gs → ItemsWithin n (items_from gs ts i k)
unfolding items_from
items_within n gs ts i zero w e h = tt
items_within n gs ts i (suc k) w e h = (
  placed_all n i ts gs (w i (omega arith)) (e i (omega arith)) h,
  items_within n gs ts (i + 1) k (λ j l. w j (omega arith)) (λ j l. e j (omega arith)) h,
)

pub both_within : (n : ℕ) (xs ys : List (List Prim)) → ItemsWithin n xs → ItemsWithin n ys → ItemsWithin n (xs ++ ys)
both_within n [] ys h k = k
both_within n (x ∷ xs) ys h k = (h.0, both_within n xs ys h.1 k)

pub items_none : (xs : List (List Prim)) (gs : List Prim) (ts : List Target) → xs ≡ xs ++ items_from gs ts 0 0
unfolding items_from
items_none xs gs ts = sym (append-nil xs)

pub items_next : (xs now next : List (List Prim)) (gs item : List Prim) (ts : List Target) (i : ℕ) → now ≡ xs ++ items_from gs ts 0 i → next ≡ now ++ item ∷ [] → item ≡ all_on (qubits_at ts i) gs → next ≡ xs ++ items_from gs ts 0 (i + 1)
items_next xs now next gs item ts i e f g =
    f ∙ ap (λ l. l ++ item ∷ []) e ∙ append_assoc xs (items_from gs ts 0 i) (item ∷ []) ∙ ap (λ x. xs ++ (items_from gs ts 0 i ++ x ∷ [])) g ∙ ap (λ l. xs ++ l) (sym (items_more gs ts i))

-- ---- the first byte of an expression
pub expression_read : (fs : List Formula) (k : ℕ) (d : Formula) → k < length fs → (get_or fs k d).from ≡ expression_at fs k
unfolding expression_at
expression_read [] k d h = absurd (omega arith)
expression_read (f ∷ fs) zero d h = refl
expression_read (f ∷ fs) (suc k) d h = expression_read fs k d (omega arith)

pub expression_past : (fs : List Formula) (k : ℕ) → length fs ≤ k → 0 ≡ expression_at fs k
unfolding expression_at
expression_past [] k h = refl
expression_past (f ∷ fs) zero h = absurd (omega arith)
expression_past (f ∷ fs) (suc k) h = expression_past fs k (omega arith)
