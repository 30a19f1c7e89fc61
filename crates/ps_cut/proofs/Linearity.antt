-- What a list of prims does to columns is linear, and reads a column at the lists of bits of one length alone.
use mathlib.Core.Path.{fun_ext}
use Rattle.std.proofs.Common.{◌≡◌, ℕ, zero, suc, ◌*◌, refl, ap, ap₂, sym, ◌∙◌, arith, Bool, true, false, List, [], ◌∷◌, length, set, length-set}
use Rattle.std.proofs.Math.IntN.{ℤ, pos, ◌+ℤ◌, ◌-ℤ◌, ◌*ℤ◌}
use Rattle.std.proofs.lemmas.Int.{ints}
use Rattle.ps_ring.specs.Numbers.{Number}
use Rattle.ps_ring.specs.Inner.{window}
use Rattle.ps_ring.specs.Sums.{total}
use Rattle.ps_ring.proofs.Products.{sum_mul}
use Rattle.ps_prim.specs.declared.prims.Primitive.{Primitive as Prim}
use Rattle.ps_prim.specs.declared.prims.Primitive.TheVariants.{U, Cx}
use Rattle.ps_prim.specs.Amplitudes.{Truths, Column, bit, first_phase, second_phase, entry, exchanged, act, run}
use Rattle.ps_prim.proofs.Bits.{length-exchanged}

-- ---- columns that agree at the lists of n bits
act_local : (n : ℕ) (g : Prim) (v w : Column) → ((z : Truths) → length z ≡ n → v z ≡ w z) → (z : Truths) → length z ≡ n → act g v z ≡ act g w z
unfolding act
act_local n (Cx c t) v w h z l = h (exchanged c t z) (length-exchanged c t z ∙ l)
act_local n (U theta phi lambda q) v w h z l =
    ap₂ {C = Number} (λ (c d : Number) (j : ℤ). entry (pos theta) (pos (2 * phi)) (pos (2 * lambda)) (bit z q) false c j +ℤ entry (pos theta) (pos (2 * phi)) (pos (2 * lambda)) (bit z q) true d j)
    (h (set z q false) (length-set z q false ∙ l)) (h (set z q true) (length-set z q true ∙ l))

pub run_local : (n : ℕ) (A : List Prim) (v w : Column) → ((z : Truths) → length z ≡ n → v z ≡ w z) → (z : Truths) → length z ≡ n → run A v z ≡ run A w z
unfolding run
run_local n [] v w h z l = h z l
run_local n (g ∷ gs) v w h z l = run_local n gs (act g v) (act g w) (act_local n g v w h) z l

-- ---- sums
act_add : (g : Prim) (v w : Column) → act g (λ z i. v z i +ℤ w z i) ≡ (λ z i. act g v z i +ℤ act g w z i)
unfolding act entry
act_add (Cx c t) v w = refl
act_add (U theta phi lambda q) v w = fun_ext (λ z. fun_ext (λ j. omega (arith, ints)))

pub run_add : (A : List Prim) (v w : Column) → run A (λ z i. v z i +ℤ w z i) ≡ (λ z i. run A v z i +ℤ run A w z i)
unfolding run
run_add [] v w = refl
run_add (g ∷ gs) v w = ap (run gs) (act_add g v w) ∙ run_add gs (act g v) (act g w)

-- ---- multiples
four_times : (k a b c d : ℤ) → (k *ℤ a +ℤ k *ℤ b) +ℤ (k *ℤ c +ℤ k *ℤ d) ≡ k *ℤ ((a +ℤ b) +ℤ (c +ℤ d))
four_times k a b c d = sym (sum_mul k (a +ℤ b) (c +ℤ d) ∙ ap₂ (λ r s. r +ℤ s) (sum_mul k a b) (sum_mul k c d))

act_times : (g : Prim) (k : ℤ) (v : Column) → act g (λ z i. k *ℤ v z i) ≡ (λ z i. k *ℤ act g v z i)
unfolding act entry
act_times (Cx c t) k v = refl
act_times (U theta phi lambda q) k v = fun_ext (λ z. fun_ext (λ j. four_times k _ _ _ _))

pub run_times : (A : List Prim) (k : ℤ) (v : Column) → run A (λ z i. k *ℤ v z i) ≡ (λ z i. k *ℤ run A v z i)
unfolding run
run_times [] k v = refl
run_times (g ∷ gs) k v = ap (run gs) (act_times g k v) ∙ run_times gs k (act g v)

-- ---- turns
swap : (c : Number) (j p q : ℤ) → c (j -ℤ p -ℤ q) ≡ c (j -ℤ q -ℤ p)
swap c j p q = ap c (omega (arith, ints))

entry_turned : (t f l : ℤ) (a b : Bool) (c : Number) (p j : ℤ) → entry t f l a b (λ i. c (i -ℤ p)) j ≡ entry t f l a b c (j -ℤ p)
unfolding entry
entry_turned t f l a b c p j = ap₂ (λ r s. r +ℤ s) (swap c j (first_phase t f l a b) p) (swap c j (second_phase t f l a b) p)

act_turned : (g : Prim) (p : ℤ) (v : Column) → act g (λ z i. v z (i -ℤ p)) ≡ (λ z i. act g v z (i -ℤ p))
unfolding act
act_turned (Cx c t) p v = refl
act_turned (U theta phi lambda q) p v = fun_ext (λ z. fun_ext (λ j.
    ap₂ (λ r s. r +ℤ s) (entry_turned (pos theta) (pos (2 * phi)) (pos (2 * lambda)) (bit z q) false (v (set z q false)) p j) (entry_turned (pos theta) (pos (2 * phi)) (pos (2 * lambda)) (bit z q) true (v (set z q true)) p j)))

pub run_turned : (A : List Prim) (p : ℤ) (v : Column) → run A (λ z i. v z (i -ℤ p)) ≡ (λ z i. run A v z (i -ℤ p))
unfolding run
run_turned [] p v = refl
run_turned (g ∷ gs) p v = ap (run gs) (act_turned g p v) ∙ run_turned gs p (act g v)

-- ---- sums of many
act_none : (g : Prim) → act g (λ z i. pos 0) ≡ (λ z i. pos 0)
unfolding act entry
act_none (Cx c t) = refl
act_none (U theta phi lambda q) = refl

run_none : (A : List Prim) → run A (λ z i. pos 0) ≡ (λ z i. pos 0)
unfolding run
run_none [] = refl
run_none (g ∷ gs) = ap (run gs) (act_none g) ∙ run_none gs

pub run_window : (A : List Prim) (k : ℕ) (v : ℤ → Column) → run A (λ z i. window k (λ s. v s z i)) ≡ (λ z i. window k (λ s. run A (v s) z i))
unfolding window
run_window A zero v = run_none A
run_window A (suc k) v = run_add A (λ z i. window k (λ s. v s z i)) (v (pos k)) ∙ ap {B = Column} (λ (u : Column) (z : Truths) (i : ℤ). u z i +ℤ run A (v (pos k)) z i) (run_window A k v)

pub run_total : (A : List Prim) (m : ℕ) (v : Truths → Column) → run A (λ z i. total m (λ y. v y z i)) ≡ (λ z i. total m (λ y. run A (v y) z i))
unfolding total
run_total A zero v = refl
run_total A (suc m) v =
    run_add A (λ z i. total m (λ y. v (false ∷ y) z i)) (λ z i. total m (λ y. v (true ∷ y) z i))
    ∙ ap₂ {C = Column} (λ (u w : Column) (z : Truths) (i : ℤ). u z i +ℤ w z i) (run_total A m (λ y. v (false ∷ y))) (run_total A m (λ y. v (true ∷ y)))
