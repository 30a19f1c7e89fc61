-- Columns of inner product 1 are equal.
use Rattle.std.proofs.Common.{◌≡◌, ℕ, zero, suc, ◌+◌, ◌*◌, ◌^◌, refl, ap, ap₂, sym, ◌∙◌, arith, Bool, true, false, List, [], ◌∷◌, length, pow-add}
use Rattle.std.proofs.Math.IntN.{ℤ, pos, ◌+ℤ◌, ◌*ℤ◌, neg_ℤ, *ℤ_comm, *ℤ-zero, +ℤ_idr}
use Rattle.std.proofs.Common.{◌≤ℤ◌}
use Rattle.std.proofs.lemmas.Int.{ints}
use Rattle.ps_ring.specs.Numbers.{Number, IsNumber, one, when}
use Rattle.ps_ring.specs.Inner.{inner}
use Rattle.ps_ring.specs.Sums.{total}
use Rattle.ps_ring.proofs.Products.{mul_opposite, mul_assoc_z, opposite_mul}
use Rattle.ps_ring.proofs.Ones.{one_first}
use Rattle.ps_ring.proofs.Windows.{window_ext, window_times, window_zero}
use Rattle.ps_ring.proofs.Inners.{inner_add_left, inner_add_right, inner_one}
use Rattle.ps_ring.proofs.Squares.{inner_up, inner_none}
use Rattle.ps_ring.proofs.Totals.{total_ext, total_add, total_times, total_at}
use Rattle.ps_prim.specs.declared.prims.Primitive.{Primitive as Prim}
use Rattle.ps_prim.specs.declared.prims.Primitive.TheVariants.{U, Cx}
use Rattle.ps_prim.specs.Amplitudes.{Truths, Column, same_bits, act, run, start, amplitude, turns}
use Rattle.ps_prim.specs.Maps.{AllWithin}
use Rattle.ps_prim.specs.Columns.{inner_over, OwnInnerIsOne, OneIsSame}
use Rattle.ps_prim.proofs.Columns.{act_number, start_number, amplitude_number}
use Rattle.ps_prim.proofs.Unitary.{prim_keeps}

-- ---- sums of numbers that are not below 0
total_up : (m : ℕ) (F : Truths → ℤ) → ((y : Truths) → pos 0 ≤ℤ F y) → pos 0 ≤ℤ total m F
unfolding total
total_up zero F h = h []
total_up (suc m) F h =
    let a = total_up m (λ y. F (false ∷ y)) (λ y. h (false ∷ y)) in
    let b = total_up m (λ y. F (true ∷ y)) (λ y. h (true ∷ y)) in
    omega (arith, ints)

total_none : (m : ℕ) (F : Truths → ℤ) → ((y : Truths) → pos 0 ≤ℤ F y) → total m F ≡ pos 0 → (y : Truths) → length y ≡ m → F y ≡ pos 0
unfolding total
total_none zero F h e [] l = e
total_none zero F h e (b ∷ y) l = absurd (omega arith)
total_none (suc m) F h e [] l = absurd (omega arith)
total_none (suc m) F h e (false ∷ y) l =
    let a = total_up m (λ y. F (false ∷ y)) (λ y. h (false ∷ y)) in
    let b = total_up m (λ y. F (true ∷ y)) (λ y. h (true ∷ y)) in
    total_none m (λ y. F (false ∷ y)) (λ y. h (false ∷ y)) (omega (arith, ints)) y (omega arith)
total_none (suc m) F h e (true ∷ y) l =
    let a = total_up m (λ y. F (false ∷ y)) (λ y. h (false ∷ y)) in
    let b = total_up m (λ y. F (true ∷ y)) (λ y. h (true ∷ y)) in
    total_none m (λ y. F (true ∷ y)) (λ y. h (true ∷ y)) (omega (arith, ints)) y (omega arith)

-- ---- a column of inner product 0 with itself
pub column_none : (n : ℕ) (v : Column) → ((z : Truths) → IsNumber (v z)) → inner_over n v v (pos 0) ≡ pos 0 → (z : Truths) → length z ≡ n → (j : ℤ) → v z j ≡ pos 0
unfolding inner_over
column_none n v h e z l j = inner_none (v z) (h z) (total_none n (λ z. inner (v z) (v z) (pos 0)) (λ y. inner_up (v y)) e z l) j

-- ---- circuits
run_keeps : (n : ℕ) (A : List Prim) (v w : Column) → AllWithin n A → ((z : Truths) → IsNumber (v z)) → ((z : Truths) → IsNumber (w z)) → (j : ℤ) → inner_over n (run A v) (run A w) j ≡ pos (2 ^ (turns A + turns A)) *ℤ inner_over n v w j
unfolding run turns
run_keeps n [] v w h hv hw j = omega (arith, ints)
run_keeps n (U theta phi lambda q ∷ gs) v w h hv hw j =
    let g = U theta phi lambda q in
    let r = run_keeps n gs (act g v) (act g w) h.1 (act_number g v hv) (act_number g w hw) j in
    let s = prim_keeps n g v w h.0 hv hw j in
    let e : 2 ^ ((turns gs + 1) + (turns gs + 1)) ≡ 2 ^ (turns gs + turns gs) * 4 = ap (λ k. 2 ^ k) (omega arith) ∙ pow-add 2 (turns gs + turns gs) 2 in
    r ∙ ap (λ k. pos (2 ^ (turns gs + turns gs)) *ℤ k) s ∙ sym (mul_assoc_z (pos (2 ^ (turns gs + turns gs))) (pos 4) (inner_over n v w j)) ∙ ap (λ k. pos k *ℤ inner_over n v w j) (sym e)
run_keeps n (Cx c t ∷ gs) v w h hv hw j =
    let g = Cx c t in
    let r = run_keeps n gs (act g v) (act g w) h.1 (act_number g v hv) (act_number g w hw) j in
    let s = prim_keeps n g v w h.0 hv hw j in
    r ∙ ap (λ k. pos (2 ^ (turns gs + turns gs)) *ℤ k) (s ∙ one_times (inner_over n v w j))
  where
    one_times : (k : ℤ) → pos 1 *ℤ k ≡ k
    one_times k = omega (arith, ints)

pub inner_when : (b : Bool) (c d : Number) (j : ℤ) → inner (λ i. when b (c i)) (λ i. when b (d i)) j ≡ when b (inner c d j)
unfolding inner when
inner_when true c d j = refl
inner_when false c d j = window_zero 2147483648

start_inner : (n : ℕ) (x : Truths) → length x ≡ n → (j : ℤ) → inner_over n (start x) (start x) j ≡ one j
unfolding inner_over start
start_inner n x l j = total_ext n _ (λ z. when (same_bits x z) (one j)) (λ z lz. inner_when (same_bits x z) one one j ∙ ap (when (same_bits x z)) (inner_one one j)) ∙ ap (λ k. total k (λ z. when (same_bits x z) (one j))) (sym l) ∙ total_at x (λ z. one j)

pub own : OwnInnerIsOne
unfolding amplitude
own n A x h l j = run_keeps n A (start x) (start x) h (start_number x) (start_number x) j ∙ ap (λ k. pos (2 ^ (turns A + turns A)) *ℤ k) (start_inner n x l j)

-- ---- two columns
over_add_left : (n : ℕ) (u v w : Column) (j : ℤ) → inner_over n (λ z i. u z i +ℤ v z i) w j ≡ inner_over n u w j +ℤ inner_over n v w j
unfolding inner_over
over_add_left n u v w j = total_ext n _ _ (λ z l. inner_add_left (u z) (v z) (w z) j) ∙ total_add n _ _

over_add_right : (n : ℕ) (u v w : Column) (j : ℤ) → inner_over n u (λ z i. v z i +ℤ w z i) j ≡ inner_over n u v j +ℤ inner_over n u w j
unfolding inner_over
over_add_right n u v w j = total_ext n _ _ (λ z l. inner_add_right (u z) (v z) (w z) j) ∙ total_add n _ _

pub over_times_left : (n : ℕ) (k : ℤ) (v w : Column) (j : ℤ) → inner_over n (λ z i. k *ℤ v z i) w j ≡ k *ℤ inner_over n v w j
unfolding inner_over inner
over_times_left n k v w j =
    total_ext n _ (λ z. k *ℤ inner (v z) (w z) j) (λ z l. window_ext 2147483648 _ _ (λ i. mul_assoc_z k (v z i) (w z (i +ℤ j))) ∙ window_times 2147483648 k _) ∙ total_times n k _

over_swap : (n : ℕ) (v w : Column) → inner_over n v w (pos 0) ≡ inner_over n w v (pos 0)
unfolding inner_over inner
over_swap n v w = total_ext n _ _ (λ z l. window_ext 2147483648 _ _ (λ i. ap (λ r. v z i *ℤ w z r) (+ℤ_idr i) ∙ *ℤ_comm (v z i) (w z i) ∙ ap (λ r. w z i *ℤ v z r) (sym (+ℤ_idr i))))

pub times_one : (k : ℤ) → k *ℤ one (pos 0) ≡ k
times_one k = ap (λ r. k *ℤ r) one_first ∙ right_one k
  where
    right_one : (k : ℤ) → k *ℤ pos 1 ≡ k
    right_one k = omega (arith, ints)

-- p a - q b against itself, where a, b have inner products q², p² and q p
none_left : (p q : ℕ) → pos p *ℤ (pos p *ℤ pos (q * q) +ℤ neg_ℤ (pos q) *ℤ pos (q * p)) +ℤ neg_ℤ (pos q) *ℤ (pos p *ℤ pos (q * p) +ℤ neg_ℤ (pos q) *ℤ pos (p * p)) ≡ pos 0
none_left p q =
    let a = mul_opposite (pos q) (pos (q * p)) in
    let b = mul_opposite (pos q) (pos (p * p)) in
    let c : pos p *ℤ pos (q * q) +ℤ neg_ℤ (pos q) *ℤ pos (q * p) ≡ pos 0 = omega (arith, ints) in
    let d : pos p *ℤ pos (q * p) +ℤ neg_ℤ (pos q) *ℤ pos (p * p) ≡ pos 0 = omega (arith, ints) in
    ap₂ (λ r s. pos p *ℤ r +ℤ neg_ℤ (pos q) *ℤ s) c d ∙ ap₂ (λ r s. r +ℤ s) (*ℤ-zero (pos p)) (*ℤ-zero (neg_ℤ (pos q)))

difference_none : (n p q : ℕ) (a b : Column) → inner_over n a a (pos 0) ≡ pos (q * q) → inner_over n b b (pos 0) ≡ pos (p * p) → inner_over n a b (pos 0) ≡ pos (q * p)
    → inner_over n (λ z i. pos p *ℤ a z i +ℤ neg_ℤ (pos q) *ℤ b z i) (λ z i. pos p *ℤ a z i +ℤ neg_ℤ (pos q) *ℤ b z i) (pos 0) ≡ pos 0
difference_none n p q a b aa bb ab =
    let D : Column = λ z i. pos p *ℤ a z i +ℤ neg_ℤ (pos q) *ℤ b z i in
    let with : (w : Column) → inner_over n D w (pos 0) ≡ pos p *ℤ inner_over n a w (pos 0) +ℤ neg_ℤ (pos q) *ℤ inner_over n b w (pos 0)
    = λ w. over_add_left n (λ z i. pos p *ℤ a z i) (λ z i. neg_ℤ (pos q) *ℤ b z i) w (pos 0) ∙ ap₂ (λ r s. r +ℤ s) (over_times_left n (pos p) a w (pos 0)) (over_times_left n (neg_ℤ (pos q)) b w (pos 0)) in
    let ba = over_swap n b a ∙ ab in
    let aD = over_swap n a D ∙ with a ∙ ap₂ (λ r s. pos p *ℤ r +ℤ neg_ℤ (pos q) *ℤ s) aa ba in
    let bD = over_swap n b D ∙ with b ∙ ap₂ (λ r s. pos p *ℤ r +ℤ neg_ℤ (pos q) *ℤ s) ab bb in
    with D ∙ ap₂ (λ r s. pos p *ℤ r +ℤ neg_ℤ (pos q) *ℤ s) aD bD ∙ none_left p q

scaled_number : (k : ℤ) (c : Number) → IsNumber c → (j : ℤ) → k *ℤ c (j +ℤ pos 2147483648) ≡ neg_ℤ (k *ℤ c j)
scaled_number k c h j = ap (λ r. k *ℤ r) (h j) ∙ opposite_mul k (c j)

pub difference_number : (p q : ℤ) (c d : Number) → IsNumber c → IsNumber d → IsNumber (λ i. p *ℤ c i +ℤ q *ℤ d i)
difference_number p q c d h k j = let a = scaled_number p c h j in let b = scaled_number q d k j in omega (arith, ints)

pub apart_none : (a b q : ℤ) → a +ℤ neg_ℤ q *ℤ b ≡ pos 0 → a ≡ q *ℤ b
apart_none a b q e = let m = mul_opposite q b in omega (arith, ints)

-- columns of such inner products with themselves and with one another are equal, as far as they are scaled
pub columns_equal : (n p q : ℕ) (v w : Column) → ((z : Truths) → IsNumber (v z)) → ((z : Truths) → IsNumber (w z)) → inner_over n v v (pos 0) ≡ pos (q * q) → inner_over n w w (pos 0) ≡ pos (p * p) → inner_over n v w (pos 0) ≡ pos (q * p)
    → (z : Truths) → length z ≡ n → (j : ℤ) → pos p *ℤ v z j ≡ pos q *ℤ w z j
columns_equal n p q v w hv hw vv ww vw z lz j =
    apart_none (pos p *ℤ v z j) (w z j) (pos q)
    (column_none n (λ y i. pos p *ℤ v y i +ℤ neg_ℤ (pos q) *ℤ w y i) (λ y. difference_number (pos p) (neg_ℤ (pos q)) _ _ (hv y) (hw y)) (difference_none n p q v w vv ww vw) z lz j)

-- a column of inner product 1 with itself, as far as it is scaled
pub own_first : (n : ℕ) (A : List Prim) (x : Truths) → AllWithin n A → length x ≡ n → inner_over n (amplitude A x) (amplitude A x) (pos 0) ≡ pos (2 ^ turns A * 2 ^ turns A)
own_first n A x h l = own n A x h l (pos 0) ∙ times_one _ ∙ ap pos (pow-add 2 (turns A) (turns A))

pub one_is_same : OneIsSame
one_is_same n A B x hA hB l e z lz j =
    columns_equal n (2 ^ turns B) (2 ^ turns A) (amplitude A x) (amplitude B x) (amplitude_number A x) (amplitude_number B x) (own_first n A x hA l) (own_first n B x hB l)
    (e (pos 0) ∙ times_one _ ∙ ap pos (pow-add 2 (turns A) (turns B))) z lz j
