-- What prims do to columns is linear.
use mathlib.Core.Path.{fun_ext}
use Rattle.std.proofs.Common.{◌≡◌, ℕ, zero, suc, ◌*◌, refl, ap, ap₂, sym, ◌∙◌, arith, Bool, true, false, List, [], ◌∷◌, set}
use Rattle.std.proofs.Math.IntN.{ℤ, pos, negsuc, ◌+ℤ◌, ◌-ℤ◌}
use Rattle.std.proofs.lemmas.Int.{ints}
use Rattle.ps_ring.specs.Numbers.{Number, sqrt2, root2}
use Rattle.ps_ring.specs.Sums.{total}
use Rattle.ps_ring.proofs.Totals.{total_ext, total_add}
use Rattle.ps_prim.specs.declared.prims.Primitive.{Primitive as Prim}
use Rattle.ps_prim.specs.declared.prims.Primitive.TheVariants.{U, Cx}
use Rattle.ps_prim.specs.Amplitudes.{Truths, Column, bit, first_phase, second_phase, entry, act, run}

swap : (c : Number) (j p q : ℤ) → c (j -ℤ p -ℤ q) ≡ c (j -ℤ q -ℤ p)
swap c j p q = ap c (omega (arith, ints))

-- a sum of turned numbers, turned
total_turned : (m : ℕ) (p : Truths → ℤ) (c : Truths → Number) (a j : ℤ) → total m (λ y. c y (j -ℤ a -ℤ p y)) ≡ total m (λ y. c y (j -ℤ p y -ℤ a))
total_turned m p c a j = total_ext m _ (λ y. c y (j -ℤ p y -ℤ a)) (λ y l. swap (c y) j a (p y))

total_entry : (t f l : ℤ) (a b : Bool) (m : ℕ) (p : Truths → ℤ) (c : Truths → Number) (j : ℤ) → entry t f l a b (λ i. total m (λ y. c y (i -ℤ p y))) j ≡ total m (λ y. entry t f l a b (c y) (j -ℤ p y))
unfolding entry
total_entry t f l a b m p c j =
    ap₂ (λ r s. r +ℤ s) (total_turned m p c (first_phase t f l a b) j) (total_turned m p c (second_phase t f l a b) j)
    ∙ sym (total_add m _ _)

-- a sum of turned columns, and the sum of what a gate makes of each
pub act_total : (g : Prim) (m : ℕ) (p : Truths → ℤ) (v : Truths → Column) (z : Truths) (j : ℤ) → act g (λ a i. total m (λ y. v y a (i -ℤ p y))) z j ≡ total m (λ y. act g (v y) z (j -ℤ p y))
unfolding act
act_total (Cx c t) m p v z j = refl
act_total (U theta phi lambda q) m p v z j =
    ap₂ (λ r s. r +ℤ s) (total_entry (pos theta) (pos (2 * phi)) (pos (2 * lambda)) (bit z q) false m p (λ y. v y (set z q false)) j) (total_entry (pos theta) (pos (2 * phi)) (pos (2 * lambda)) (bit z q) true m p (λ y. v y (set z q true)) j)
    ∙ sym (total_add m _ _)

pub run_ext : (A : List Prim) (v w : Column) → ((z : Truths) (j : ℤ) → v z j ≡ w z j) → (z : Truths) (j : ℤ) → run A v z j ≡ run A w z j
run_ext A v w h z j = ap (λ u. run A u z j) (fun_ext (λ a. fun_ext (λ i. h a i)))

pub run_total : (A : List Prim) (m : ℕ) (p : Truths → ℤ) (v : Truths → Column) (z : Truths) (j : ℤ) → run A (λ a i. total m (λ y. v y a (i -ℤ p y))) z j ≡ total m (λ y. run A (v y) z (j -ℤ p y))
unfolding run
run_total [] m p v z j = refl
run_total (g ∷ gs) m p v z j = run_ext gs _ _ (act_total g m p v) z j ∙ run_total gs m p (λ y. act g (v y)) z j

-- an eighth of a turn forth and back
eighth : Truths → ℤ
eighth [] = pos 0
eighth (false ∷ y) = pos 536870912
eighth (true ∷ y) = negsuc 536870911

sqrt2_is : (c : Number) (j : ℤ) → sqrt2 c j ≡ total 1 (λ y. c (j -ℤ eighth y))
unfolding sqrt2 total eighth
sqrt2_is c j = refl

pub run_sqrt2 : (A : List Prim) (v : Column) (z : Truths) (j : ℤ) → run A (λ a. sqrt2 (v a)) z j ≡ sqrt2 (run A v z) j
run_sqrt2 A v z j = run_ext A _ _ (λ a i. sqrt2_is (v a) i) z j ∙ run_total A 1 eighth (λ y. v) z j ∙ sym (sqrt2_is (run A v z) j)

pub run_root2 : (A : List Prim) (e : ℕ) (v : Column) (z : Truths) (j : ℤ) → run A (λ a. root2 e (v a)) z j ≡ root2 e (run A v z) j
unfolding root2
run_root2 A zero v z j = refl
run_root2 A (suc e) v z j = run_sqrt2 A (λ a. root2 e (v a)) z j ∙ ap (λ c. sqrt2 c j) (fun_ext (λ i. run_root2 A e v z i))

pub sqrt2_total : (m : ℕ) (p : Truths → ℤ) (c : Truths → Number) (j : ℤ) → sqrt2 (λ i. total m (λ y. c y (i -ℤ p y))) j ≡ total m (λ y. sqrt2 (c y) (j -ℤ p y))
unfolding sqrt2
sqrt2_total m p c j = ap₂ (λ r s. r +ℤ s) (total_turned m p c (pos 536870912) j) (total_turned m p c (negsuc 536870911) j) ∙ sym (total_add m _ _)

pub root2_total : (e m : ℕ) (p : Truths → ℤ) (c : Truths → Number) (j : ℤ) → root2 e (λ i. total m (λ y. c y (i -ℤ p y))) j ≡ total m (λ y. root2 e (c y) (j -ℤ p y))
unfolding root2
root2_total zero m p c j = refl
root2_total (suc e) m p c j = ap (λ d. sqrt2 d j) (fun_ext (λ i. root2_total e m p c i)) ∙ sqrt2_total m p (λ y. root2 e (c y)) j
