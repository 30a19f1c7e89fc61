-- A column of numbers is a sum of columns that are 1 at one list of bits alone, each turned and multiplied.
-- So the amplitudes of a list of prims at all inputs tell what it makes of each column.
use mathlib.Core.Path.{fun_ext}
use Rattle.std.proofs.Common.{◌≡◌, ℕ, ap, ap₂, sym, ◌∙◌, arith, Bool, true, false, List, [], ◌∷◌, length, refl, ◌%◌}
use Rattle.std.proofs.Math.IntN.{ℤ, pos, ◌+ℤ◌, ◌-ℤ◌, ◌*ℤ◌, *ℤ_comm, *ℤ-zero, +ℤ_idr, +ℤ_idl, nat_abs}
use Rattle.std.proofs.lemmas.Int.{ints}
use Rattle.ps_ring.specs.Numbers.{Number, IsNumber, one, when, unit_at}
use Rattle.ps_ring.specs.Inner.{window, inner}
use Rattle.ps_ring.specs.Sums.{total}
use Rattle.ps_ring.proofs.Turned.{one_number}
use Rattle.ps_ring.proofs.Windows.{window_ext, window_zero}
use Rattle.ps_ring.proofs.Inners.{inner_left, inner_one}
use Rattle.ps_ring.proofs.Totals.{total_ext, total_at}
use Rattle.ps_prim.specs.declared.prims.Primitive.{Primitive as Prim}
use Rattle.ps_prim.specs.Amplitudes.{Truths, Column, same_bits, run, start, amplitude}
use Rattle.ps_cut.proofs.Linearity.{run_local, run_times, run_turned, run_window, run_total}

-- ---- 1 is even
abs_back : (a b : ℤ) → nat_abs (a -ℤ b) ≡ nat_abs (b -ℤ a)
abs_back a b = omega (arith, ints)

one_back : (a b : ℤ) → one (a -ℤ b) ≡ one (b -ℤ a)
unfolding one
one_back a b = ap (λ k. unit_at (k % 4294967296)) (abs_back a b)

-- a number is the sum of its coefficients, each times a turned 1
number_is : (c : Number) → IsNumber c → (j : ℤ) → window 2147483648 (λ s. c s *ℤ one (j -ℤ s)) ≡ c j
unfolding inner
number_is c h j =
    window_ext 2147483648 _ (λ s. one (s -ℤ j) *ℤ c (s +ℤ pos 0)) (λ s. *ℤ_comm (c s) (one (j -ℤ s)) ∙ ap₂ (λ r i. r *ℤ c i) (one_back j s) (sym (+ℤ_idr s)))
    ∙ inner_left one c one_number h j (pos 0) ∙ inner_one c (pos 0 +ℤ j) ∙ ap c (+ℤ_idl j)

number_when : (b : Bool) (c : Number) → IsNumber c → (j : ℤ) → window 2147483648 (λ s. c s *ℤ when b (one (j -ℤ s))) ≡ when b (c j)
unfolding when
number_when true c h j = number_is c h j
number_when false c h j = window_ext 2147483648 _ (λ s. pos 0) (λ s. *ℤ-zero (c s)) ∙ window_zero 2147483648

same_back : (y z : Truths) → same_bits y z ≡ same_bits z y
unfolding same_bits
same_back [] [] = refl
same_back [] (b ∷ z) = refl
same_back (a ∷ y) [] = refl
same_back (true ∷ y) (true ∷ z) = same_back y z
same_back (true ∷ y) (false ∷ z) = refl
same_back (false ∷ y) (true ∷ z) = refl
same_back (false ∷ y) (false ∷ z) = same_back y z

-- a column at the lists of n bits
column_is : (n : ℕ) (v : Column) → ((z : Truths) → IsNumber (v z)) → (z : Truths) → length z ≡ n → (i : ℤ) → v z i ≡ total n (λ y. window 2147483648 (λ s. v y s *ℤ start y z (i -ℤ s)))
unfolding start
column_is n v h z l i =
    sym (total_ext n _ (λ y. when (same_bits z y) (v y i)) (λ y ly. number_when (same_bits y z) (v y) (h y) i ∙ ap (λ b. when b (v y i)) (same_back y z))
    ∙ ap (λ k. total k (λ y. when (same_bits z y) (v y i))) (sym l) ∙ total_at z (λ y. v y i))

-- one term of the sum
run_term : (A : List Prim) (y : Truths) (k s : ℤ) → run A (λ z i. k *ℤ start y z (i -ℤ s)) ≡ (λ z i. k *ℤ amplitude A y z (i -ℤ s))
unfolding amplitude
run_term A y k s = run_times A k (λ z i. start y z (i -ℤ s)) ∙ ap {B = Column} (λ (u : Column) (z : Truths) (i : ℤ). k *ℤ u z i) (run_turned A s (start y))

-- what a list makes of a column
pub run_is : (n : ℕ) (A : List Prim) (v : Column) → ((z : Truths) → IsNumber (v z)) → (z : Truths) → length z ≡ n → (j : ℤ) → run A v z j ≡ total n (λ y. window 2147483648 (λ s. v y s *ℤ amplitude A y z (j -ℤ s)))
run_is n A v h z l j =
    ap (λ (c : Number). c j) (run_local n A v (λ a i. total n (λ y. window 2147483648 (λ s. v y s *ℤ start y a (i -ℤ s)))) (λ a la. fun_ext (column_is n v h a la)) z l)
    ∙ ap (λ (u : Column). u z j) (run_total A n (λ y a i. window 2147483648 (λ s. v y s *ℤ start y a (i -ℤ s))))
    ∙ total_ext n _ _ (λ y ly. ap (λ (u : Column). u z j) (run_window A 2147483648 (λ s a i. v y s *ℤ start y a (i -ℤ s)))
    ∙ window_ext 2147483648 _ _ (λ s. ap (λ (u : Column). u z j) (run_term A y (v y s) s)))
