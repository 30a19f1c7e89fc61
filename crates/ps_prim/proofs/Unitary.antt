-- A prim multiplies the inner product of two columns by its weight.
use mathlib.Core.Path.{fun_ext}
use mathlib.Core.Bool.{xor}
use Rattle.std.proofs.Common.{◌≡◌, ◌≢◌, ℕ, zero, suc, ◌*◌, refl, ap, ap₂, sym, ◌∙◌, arith, ◌≤◌, Bool, true, false, not, length}
use Rattle.std.proofs.Math.IntN.{ℤ, pos, ◌+ℤ◌, ◌-ℤ◌, ◌*ℤ◌, neg_ℤ}
use Rattle.std.proofs.lemmas.Int.{ints}
use Rattle.ps_ring.specs.Numbers.{Number, IsNumber}
use Rattle.ps_ring.specs.Inner.{inner}
use Rattle.ps_ring.specs.Sums.{total, insert_at}
use Rattle.ps_ring.proofs.Totals.{total_ext, total_pull, total_times}
use Rattle.ps_ring.proofs.Inserts.{set_inserted, get_inserted, get_beside}
use Rattle.ps_ring.proofs.Inners.{inner_turned, inner_number, inner_add_left, inner_add_right}
use Rattle.ps_prim.specs.declared.prims.Primitive.TheVariants.{U, Cx}
use Rattle.ps_prim.specs.Amplitudes.{Truths, Column, bit, first_phase, second_phase, entry, flipped, exchanged, act}
use Rattle.ps_prim.specs.Columns.{inner_over, PrimKeepsInner}

-- two phases on each side
inner_four : (c d : Number) → IsNumber c → IsNumber d → (p p' q q' j : ℤ) → inner (λ i. c (i -ℤ p) +ℤ c (i -ℤ p')) (λ i. d (i -ℤ q) +ℤ d (i -ℤ q')) j
    ≡ (inner c d (j +ℤ p -ℤ q) +ℤ inner c d (j +ℤ p -ℤ q')) +ℤ (inner c d (j +ℤ p' -ℤ q) +ℤ inner c d (j +ℤ p' -ℤ q'))
inner_four c d h k p p' q q' j =
    let C : Number = λ i. c (i -ℤ p) in
    let C' : Number = λ i. c (i -ℤ p') in
    let D : Number = λ i. d (i -ℤ q) in
    let D' : Number = λ i. d (i -ℤ q') in
    inner_add_left C C' (λ i. D i +ℤ D' i) j
    ∙ ap₂ (λ r s. r +ℤ s) (inner_add_right C D D' j ∙ ap₂ (λ r s. r +ℤ s) (inner_turned c d h k p q j) (inner_turned c d h k p q' j))
    (inner_add_right C' D D' j ∙ ap₂ (λ r s. r +ℤ s) (inner_turned c d h k p' q j) (inner_turned c d h k p' q' j))

-- the entries of column a against those of column b, over both rows
rows : (t f l : ℤ) (a b : Bool) (X : Number) → IsNumber X → ℤ → Bool → ℤ
rows t f l a b X h j r =
    (X (j +ℤ first_phase t f l r a -ℤ first_phase t f l r b) +ℤ X (j +ℤ first_phase t f l r a -ℤ second_phase t f l r b))
    +ℤ (X (j +ℤ second_phase t f l r a -ℤ first_phase t f l r b) +ℤ X (j +ℤ second_phase t f l r a -ℤ second_phase t f l r b))

half_up : (X : Number) → IsNumber X → (i k : ℤ) → i ≡ k +ℤ pos 2147483648 → X i ≡ neg_ℤ (X k)
half_up X h i k e = ap X e ∙ h k

same_column : (t f l : ℤ) (a : Bool) (X : Number) (h : IsNumber X) (j : ℤ) → rows t f l a a X h j false +ℤ rows t f l a a X h j true ≡ pos 4 *ℤ X j
unfolding rows first_phase second_phase
same_column t f l false X h j =
    let e1 : X (j +ℤ t -ℤ t) ≡ X j = ap X (omega (arith, ints)) in
    let e2 : X (j +ℤ neg_ℤ t -ℤ neg_ℤ t) ≡ X j = ap X (omega (arith, ints)) in
    let e3 : X (j +ℤ (f +ℤ t -ℤ pos 1073741824) -ℤ (f +ℤ t -ℤ pos 1073741824)) ≡ X j = ap X (omega (arith, ints)) in
    let e4 : X (j +ℤ (f -ℤ t +ℤ pos 1073741824) -ℤ (f -ℤ t +ℤ pos 1073741824)) ≡ X j = ap X (omega (arith, ints)) in
    let e5 : X (j +ℤ t -ℤ neg_ℤ t) ≡ neg_ℤ (X (j +ℤ (f +ℤ t -ℤ pos 1073741824) -ℤ (f -ℤ t +ℤ pos 1073741824))) = half_up X h _ _ (omega (arith, ints)) in
    let e6 : X (j +ℤ (f -ℤ t +ℤ pos 1073741824) -ℤ (f +ℤ t -ℤ pos 1073741824)) ≡ neg_ℤ (X (j +ℤ neg_ℤ t -ℤ t)) = half_up X h _ _ (omega (arith, ints)) in
    omega (arith, ints)
same_column t f l true X h j =
    let e1 : X (j +ℤ (l +ℤ t +ℤ pos 1073741824) -ℤ (l +ℤ t +ℤ pos 1073741824)) ≡ X j = ap X (omega (arith, ints)) in
    let e2 : X (j +ℤ (l -ℤ t -ℤ pos 1073741824) -ℤ (l -ℤ t -ℤ pos 1073741824)) ≡ X j = ap X (omega (arith, ints)) in
    let e3 : X (j +ℤ (f +ℤ l +ℤ t) -ℤ (f +ℤ l +ℤ t)) ≡ X j = ap X (omega (arith, ints)) in
    let e4 : X (j +ℤ (f +ℤ l -ℤ t) -ℤ (f +ℤ l -ℤ t)) ≡ X j = ap X (omega (arith, ints)) in
    let e5 : X (j +ℤ (l +ℤ t +ℤ pos 1073741824) -ℤ (l -ℤ t -ℤ pos 1073741824)) ≡ neg_ℤ (X (j +ℤ (f +ℤ l +ℤ t) -ℤ (f +ℤ l -ℤ t))) = half_up X h _ _ (omega (arith, ints)) in
    let e6 : X (j +ℤ (f +ℤ l -ℤ t) -ℤ (f +ℤ l +ℤ t)) ≡ neg_ℤ (X (j +ℤ (l -ℤ t -ℤ pos 1073741824) -ℤ (l +ℤ t +ℤ pos 1073741824))) = half_up X h _ _ (omega (arith, ints)) in
    omega (arith, ints)

other_column : (t f l : ℤ) (a : Bool) (X : Number) (h : IsNumber X) (j : ℤ) → rows t f l a (not a) X h j false +ℤ rows t f l a (not a) X h j true ≡ pos 0
unfolding rows first_phase second_phase
other_column t f l false X h j =
    let e1 : X (j +ℤ t -ℤ (l -ℤ t -ℤ pos 1073741824)) ≡ neg_ℤ (X (j +ℤ (f +ℤ t -ℤ pos 1073741824) -ℤ (f +ℤ l -ℤ t))) = half_up X h _ _ (omega (arith, ints)) in
    let e2 : X (j +ℤ neg_ℤ t -ℤ (l -ℤ t -ℤ pos 1073741824)) ≡ neg_ℤ (X (j +ℤ t -ℤ (l +ℤ t +ℤ pos 1073741824))) = half_up X h _ _ (omega (arith, ints)) in
    let e3 : X (j +ℤ (f -ℤ t +ℤ pos 1073741824) -ℤ (f +ℤ l -ℤ t)) ≡ neg_ℤ (X (j +ℤ (f +ℤ t -ℤ pos 1073741824) -ℤ (f +ℤ l +ℤ t))) = half_up X h _ _ (omega (arith, ints)) in
    let e4 : X (j +ℤ (f -ℤ t +ℤ pos 1073741824) -ℤ (f +ℤ l +ℤ t)) ≡ neg_ℤ (X (j +ℤ neg_ℤ t -ℤ (l +ℤ t +ℤ pos 1073741824))) = half_up X h _ _ (omega (arith, ints)) in
    omega (arith, ints)
other_column t f l true X h j =
    let e1 : X (j +ℤ (l +ℤ t +ℤ pos 1073741824) -ℤ t) ≡ neg_ℤ (X (j +ℤ (l -ℤ t -ℤ pos 1073741824) -ℤ neg_ℤ t)) = half_up X h _ _ (omega (arith, ints)) in
    let e2 : X (j +ℤ (l +ℤ t +ℤ pos 1073741824) -ℤ neg_ℤ t) ≡ neg_ℤ (X (j +ℤ (f +ℤ l +ℤ t) -ℤ (f -ℤ t +ℤ pos 1073741824))) = half_up X h _ _ (omega (arith, ints)) in
    let e3 : X (j +ℤ (f +ℤ l +ℤ t) -ℤ (f +ℤ t -ℤ pos 1073741824)) ≡ neg_ℤ (X (j +ℤ (f +ℤ l -ℤ t) -ℤ (f -ℤ t +ℤ pos 1073741824))) = half_up X h _ _ (omega (arith, ints)) in
    let e4 : X (j +ℤ (f +ℤ l -ℤ t) -ℤ (f +ℤ t -ℤ pos 1073741824)) ≡ neg_ℤ (X (j +ℤ (l -ℤ t -ℤ pos 1073741824) -ℤ t)) = half_up X h _ _ (omega (arith, ints)) in
    omega (arith, ints)

-- ---- U
inner_rows : (t f l : ℤ) (r a b : Bool) (c d : Number) (h : IsNumber c) (k : IsNumber d) (j : ℤ) → inner (entry t f l r a c) (entry t f l r b d) j ≡ rows t f l a b (inner c d) (inner_number c d k) j r
unfolding entry rows
inner_rows t f l r a b c d h k j = inner_four c d h k (first_phase t f l r a) (second_phase t f l r a) (first_phase t f l r b) (second_phase t f l r b) j

-- both rows of U between two pairs of numbers
row : (t f l : ℤ) (r : Bool) (c0 c1 : Number) → Number
row t f l r c0 c1 j = entry t f l r false c0 j +ℤ entry t f l r true c1 j

inner_row : (t f l : ℤ) (r : Bool) (c0 c1 d0 d1 : Number) (hc0 : IsNumber c0) (hc1 : IsNumber c1) (hd0 : IsNumber d0) (hd1 : IsNumber d1) (j : ℤ) → inner (row t f l r c0 c1) (row t f l r d0 d1) j
    ≡ (rows t f l false false (inner c0 d0) (inner_number c0 d0 hd0) j r +ℤ rows t f l false true (inner c0 d1) (inner_number c0 d1 hd1) j r)
    +ℤ (rows t f l true false (inner c1 d0) (inner_number c1 d0 hd0) j r +ℤ rows t f l true true (inner c1 d1) (inner_number c1 d1 hd1) j r)
unfolding row
inner_row t f l r c0 c1 d0 d1 hc0 hc1 hd0 hd1 j =
    inner_add_left (entry t f l r false c0) (entry t f l r true c1) (row t f l r d0 d1) j
    ∙ ap₂ (λ u v. u +ℤ v)
    (inner_add_right (entry t f l r false c0) (entry t f l r false d0) (entry t f l r true d1) j ∙ ap₂ (λ u v. u +ℤ v) (inner_rows t f l r false false c0 d0 hc0 hd0 j) (inner_rows t f l r false true c0 d1 hc0 hd1 j))
    (inner_add_right (entry t f l r true c1) (entry t f l r false d0) (entry t f l r true d1) j ∙ ap₂ (λ u v. u +ℤ v) (inner_rows t f l r true false c1 d0 hc1 hd0 j) (inner_rows t f l r true true c1 d1 hc1 hd1 j))

u_pair : (t f l : ℤ) (c0 c1 d0 d1 : Number) → IsNumber c0 → IsNumber c1 → IsNumber d0 → IsNumber d1 → (j : ℤ)
    → inner (row t f l false c0 c1) (row t f l false d0 d1) j +ℤ inner (row t f l true c0 c1) (row t f l true d0 d1) j ≡ pos 4 *ℤ (inner c0 d0 j +ℤ inner c1 d1 j)
u_pair t f l c0 c1 d0 d1 hc0 hc1 hd0 hd1 j =
    let a = inner_row t f l false c0 c1 d0 d1 hc0 hc1 hd0 hd1 j in
    let b = inner_row t f l true c0 c1 d0 d1 hc0 hc1 hd0 hd1 j in
    let e00 = same_column t f l false (inner c0 d0) (inner_number c0 d0 hd0) j in
    let e11 = same_column t f l true (inner c1 d1) (inner_number c1 d1 hd1) j in
    let e01 = other_column t f l false (inner c0 d1) (inner_number c0 d1 hd1) j in
    let e10 = other_column t f l true (inner c1 d0) (inner_number c1 d0 hd0) j in
    omega (arith, ints)

-- U's row at a list with the value r put in at its qubit
act_row : (theta phi lambda q : ℕ) (v : Column) (r : Bool) (y : Truths) → q ≤ length y → act (U theta phi lambda q) v (insert_at q r y) ≡ row (pos theta) (pos (2 * phi)) (pos (2 * lambda)) r (v (insert_at q false y)) (v (insert_at q true y))
unfolding act row
act_row theta phi lambda q v r y h = fun_ext (λ j.
    rw (get_inserted q r y h, set_inserted q r false y h, set_inserted q r true y h) refl)

u_keeps : (m theta phi lambda q : ℕ) (v w : Column) → q ≤ m → ((z : Truths) → IsNumber (v z)) → ((z : Truths) → IsNumber (w z)) → (j : ℤ) → inner_over (suc m) (act (U theta phi lambda q) v) (act (U theta phi lambda q) w) j ≡ pos 4 *ℤ inner_over (suc m) v w j
unfolding inner_over
u_keeps m theta phi lambda q v w h hv hw j =
    total_pull m q h _
    ∙ total_ext m _ (λ y. pos 4 *ℤ (inner (v (insert_at q false y)) (w (insert_at q false y)) j +ℤ inner (v (insert_at q true y)) (w (insert_at q true y)) j)) (λ y ly.
    let g : q ≤ length y = omega arith in
    ap₂ (λ r s. r +ℤ s) (ap₂ (λ a b. inner a b j) (act_row theta phi lambda q v false y g) (act_row theta phi lambda q w false y g)) (ap₂ (λ a b. inner a b j) (act_row theta phi lambda q v true y g) (act_row theta phi lambda q w true y g))
    ∙ u_pair (pos theta) (pos (2 * phi)) (pos (2 * lambda)) _ _ _ _ (hv _) (hv _) (hw _) (hw _) j)
    ∙ total_times m (pos 4) _
    ∙ ap (λ r. pos 4 *ℤ r) (sym (total_pull m q h (λ z. inner (v z) (w z) j)))

-- ---- Cx
flipped_inserted : (b : Bool) (t : ℕ) (a : Bool) (y : Truths) → t ≤ length y → flipped b t (insert_at t a y) ≡ insert_at t (xor a b) y
unfolding flipped xor
flipped_inserted true t true y h = rw (get_inserted t true y h) (set_inserted t true false y h)
flipped_inserted true t false y h = rw (get_inserted t false y h) (set_inserted t false true y h)
flipped_inserted false t true y h = refl
flipped_inserted false t false y h = refl

exchanged_inserted : (c t : ℕ) (a : Bool) (y : Truths) → t ≤ length y → c ≢ t → exchanged c t (insert_at t a y) ≡ insert_at t (xor a (bit (insert_at t false y) c)) y
unfolding exchanged
exchanged_inserted c t a y h n = ap (λ b. flipped b t (insert_at t a y)) (get_beside t c a false y h (λ e. n (sym e))) ∙ flipped_inserted (bit (insert_at t false y) c) t a y h

pair_any : (b : Bool) (F : Truths → ℤ) (u : Bool → Truths) → F (u (xor false b)) +ℤ F (u (xor true b)) ≡ F (u false) +ℤ F (u true)
unfolding xor
pair_any true F u = omega (arith, ints)
pair_any false F u = refl

exchange_pair : (c t : ℕ) (F : Truths → ℤ) (y : Truths) → t ≤ length y → c ≢ t → F (exchanged c t (insert_at t false y)) +ℤ F (exchanged c t (insert_at t true y)) ≡ F (insert_at t false y) +ℤ F (insert_at t true y)
exchange_pair c t F y h n =
    let e = exchanged_inserted c t false y h n in
    let d = exchanged_inserted c t true y h n in
    rw (e, d) (pair_any (bit (insert_at t false y) c) F (λ r. insert_at t r y))

cx_keeps : (m c t : ℕ) (F : Truths → ℤ) → t ≤ m → c ≢ t → total (suc m) (λ z. F (exchanged c t z)) ≡ total (suc m) F
cx_keeps m c t F h n =
    total_pull m t h _ ∙ total_ext m _ (λ y. F (insert_at t false y) +ℤ F (insert_at t true y)) (λ y l. exchange_pair c t F y (omega arith) n) ∙ sym (total_pull m t h F)

pub prim_keeps : PrimKeepsInner
unfolding inner_over act
prim_keeps zero (U theta phi lambda q) v w h hv hw j = absurd (omega arith)
prim_keeps (suc m) (U theta phi lambda q) v w h hv hw j = u_keeps m theta phi lambda q v w (omega arith) hv hw j
prim_keeps zero (Cx c t) v w h hv hw j = absurd (omega arith)
prim_keeps (suc m) (Cx c t) v w h hv hw j = cx_keeps m c t (λ z. inner (v z) (w z) j) (omega arith) h.2 ∙ one_times _
  where
    one_times : (k : ℤ) → k ≡ pos 1 *ℤ k
    one_times k = omega (arith, ints)
