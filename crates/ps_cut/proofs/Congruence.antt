-- Lists that are one map are so on each column, and so behind a front and before a back.
use Rattle.std.proofs.Common.{◌≡◌, ℕ, ◌^◌, refl, ap, sym, ◌∙◌, List, [], ◌∷◌, ◌++◌, length, pow-add, pow_pos}
use Rattle.std.proofs.Math.IntN.{ℤ, pos, ◌-ℤ◌, ◌*ℤ◌, *ℤ_comm}
use mathlib.Core.Path.{fun_ext}
use Rattle.ps_ring.specs.Numbers.{IsNumber}
use Rattle.ps_ring.specs.Inner.{window}
use Rattle.ps_ring.specs.Sums.{total}
use Rattle.ps_ring.proofs.Products.{mul_assoc_z, mul_cancel}
use Rattle.ps_ring.proofs.Windows.{window_ext, window_times}
use Rattle.ps_ring.proofs.Totals.{total_ext, total_times}
use Rattle.ps_prim.specs.declared.prims.Primitive.{Primitive as Prim}
use Rattle.ps_prim.specs.Amplitudes.{Truths, Column, run, amplitude, turns}
use Rattle.ps_prim.specs.Maps.{SameAt, SameMap}
use Rattle.ps_prim.proofs.Appended.{amplitude-append, turns-append}
use Rattle.ps_prim.proofs.Columns.{amplitude_number}
use Rattle.ps_cut.specs.MapLaws.{MapReflexive, MapSymmetric, MapTransitive, MapAppend, MapBetween, WindowsSame}
use Rattle.ps_cut.proofs.Linearity.{run_local, run_times}
use Rattle.ps_cut.proofs.Spans.{run_is}

-- ---- an equivalence
crossed : (p q w : ℤ) → p *ℤ (q *ℤ w) ≡ q *ℤ (p *ℤ w)
crossed p q w = sym (mul_assoc_z p q w) ∙ ap (λ r. r *ℤ w) (*ℤ_comm p q) ∙ mul_assoc_z q p w

pub same_at_trans : (n : ℕ) (A B C : List Prim) (x : Truths) → SameAt n A B x → SameAt n B C x → SameAt n A C x
same_at_trans n A B C x h k z l j =
    let p = pos (2 ^ turns A) in
    let q = pos (2 ^ turns B) in
    let r = pos (2 ^ turns C) in
    mul_cancel (2 ^ turns B) _ _ (pow_pos (turns B))
    (crossed q r (amplitude A x z j) ∙ ap (λ w. r *ℤ w) (h z l j) ∙ crossed r p (amplitude B x z j) ∙ ap (λ w. p *ℤ w) (k z l j) ∙ crossed p q (amplitude C x z j))

pub map_reflexive : MapReflexive
map_reflexive n A x lx z lz j = refl

pub map_symmetric : MapSymmetric
map_symmetric n A B h x lx z lz j = sym (h x lx z lz j)

pub map_transitive : MapTransitive
map_transitive n A B C h k x lx = same_at_trans n A B C x (h x lx) (k x lx)

-- ---- on each column
-- a multiple of a sum of sums
times_sums : (n : ℕ) (k : ℤ) (F G : Truths → ℤ → ℤ) → k *ℤ total n (λ y. window 2147483648 (λ s. F y s *ℤ G y s)) ≡ total n (λ y. window 2147483648 (λ s. F y s *ℤ (k *ℤ G y s)))
times_sums n k F G =
    sym (total_ext n _ _ (λ y ly. window_ext 2147483648 _ _ (λ s. crossed (F y s) k (G y s)) ∙ window_times 2147483648 k (λ s. F y s *ℤ G y s)) ∙ total_times n k (λ y. window 2147483648 (λ s. F y s *ℤ G y s)))

pub on_columns : (n : ℕ) (A B : List Prim) → SameMap n A B → (v : Column) → ((z : Truths) → IsNumber (v z)) → (z : Truths) → length z ≡ n → (j : ℤ) → pos (2 ^ turns B) *ℤ run A v z j ≡ pos (2 ^ turns A) *ℤ run B v z j
on_columns n A B h v hv z l j =
    let p = pos (2 ^ turns B) in
    let q = pos (2 ^ turns A) in
    ap (λ r. p *ℤ r) (run_is n A v hv z l j) ∙ times_sums n p v (λ y s. amplitude A y z (j -ℤ s))
    ∙ total_ext n _ _ (λ y ly. window_ext 2147483648 _ _ (λ s. ap (λ r. v y s *ℤ r) (h y ly z l (j -ℤ s))))
    ∙ sym (times_sums n q v (λ y s. amplitude B y z (j -ℤ s))) ∙ ap (λ r. q *ℤ r) (sym (run_is n B v hv z l j))

-- multiples of two columns that are equal at the lists of n bits
run_multiples : (n : ℕ) (A : List Prim) (p q : ℤ) (v w : Column) → ((z : Truths) → length z ≡ n → (j : ℤ) → p *ℤ v z j ≡ q *ℤ w z j) → (z : Truths) → length z ≡ n → (j : ℤ) → p *ℤ run A v z j ≡ q *ℤ run A w z j
run_multiples n A p q v w h z l j =
    sym (ap (λ (u : Column). u z j) (run_times A p v)) ∙ ap (λ (c : ℤ → ℤ). c j) (run_local n A (λ a i. p *ℤ v a i) (λ a i. q *ℤ w a i) (λ a la. fun_ext (h a la)) z l) ∙ ap (λ (u : Column). u z j) (run_times A q w)

-- ---- congruence
split_power : (A B : List Prim) (w : ℤ) → pos (2 ^ turns (A ++ B)) *ℤ w ≡ pos (2 ^ turns A) *ℤ (pos (2 ^ turns B) *ℤ w)
split_power A B w = ap (λ k. pos k *ℤ w) (ap (λ k. 2 ^ k) (turns-append A B) ∙ pow-add 2 (turns A) (turns B)) ∙ mul_assoc_z (pos (2 ^ turns A)) (pos (2 ^ turns B)) w

-- one map at x, and then one map
pub same_at_append : (n : ℕ) (A B C D : List Prim) (x : Truths) → SameAt n A B x → SameMap n C D → SameAt n (A ++ C) (B ++ D) x
same_at_append n A B C D x h k z l j =
    let a = pos (2 ^ turns A) in
    let b = pos (2 ^ turns B) in
    let c = pos (2 ^ turns C) in
    let d = pos (2 ^ turns D) in
    ap (λ (v : Column). pos (2 ^ turns (B ++ D)) *ℤ v z j) (amplitude-append A C x)
    ∙ split_power B D (run C (amplitude A x) z j)
    ∙ ap (λ r. b *ℤ r) (on_columns n C D k (amplitude A x) (amplitude_number A x) z l j)
    ∙ crossed b c (run D (amplitude A x) z j)
    ∙ ap (λ r. c *ℤ r) (run_multiples n D b a (amplitude A x) (amplitude B x) h z l j)
    ∙ crossed c a (run D (amplitude B x) z j)
    ∙ sym (split_power A C (run D (amplitude B x) z j))
    ∙ ap (λ (v : Column). pos (2 ^ turns (A ++ C)) *ℤ v z j) (sym (amplitude-append B D x))

pub map_append : MapAppend
map_append n A B C D h k x lx = same_at_append n A B C D x (h x lx) k

pub map_between : MapBetween
map_between n P M N S h = map_append n P P (M ++ S) (N ++ S) (map_reflexive n P) (map_append n M N S S h (map_reflexive n S))

pub windows_same : WindowsSame
windows_same n [] h = map_reflexive n []
windows_same n (w ∷ ws) h = map_append n w.0 w.1 _ _ h.0 (windows_same n ws h.1)
