-- A sum for one list, joined to a sum for another, is a sum for both in a row.
use mathlib.Core.Path.{fun_ext}
use Rattle.std.proofs.Common.{◌≡◌, ℕ, ◌+◌, ap, ap₂, sym, ◌∙◌, arith, List, ◌++◌, length, take, drop, take-append-drop, length-take, length-drop}
use Rattle.std.proofs.Math.IntN.{ℤ, pos, ◌-ℤ◌}
use Rattle.std.proofs.lemmas.Int.{ints}
use Rattle.ps_ring.specs.Numbers.{one, when, root2, above, SameScaled}
use Rattle.ps_ring.specs.Sums.{total, PathValues, signed_count}
use Rattle.ps_ring.proofs.Turned.{one_number, turned_same}
use Rattle.ps_ring.proofs.Roots.{root2_add, root2_swap, same_from, same_path, above_is}
use Rattle.ps_ring.proofs.Totals.{total_ext, total_append}
use Rattle.ps_ring.proofs.StepLaws.{signed_number}
use Rattle.ps_prim.specs.declared.prims.Primitive.{Primitive as Prim}
use Rattle.ps_prim.specs.Amplitudes.{Truths, Column, same_bits, run, start, amplitude, turns}
use Rattle.ps_prim.specs.Sums.{Denotes}
use Rattle.ps_ring.specs.Joins.{JoinedSum}
use Rattle.ps_prim.specs.SumLaws.{JoinDenotes}
use Rattle.ps_prim.proofs.Appended.{run-append, turns-append}
use Rattle.ps_prim.proofs.Columns.{amplitude_number}
use Rattle.ps_prim.proofs.Runs.{run_total, run_root2, root2_total}

-- the joined sum: over the paths of the first, the second's number at the outputs there, turned
count_join : (n : ℕ) (S1 S2 S : PathValues) → JoinedSum n S1 S2 S → (x z : Truths) → length x ≡ n → (j : ℤ) → signed_count S x z j ≡ total S1.m (λ y. signed_count S2 (S1.outs x y) z (j -ℤ pos (S1.phase x y)))
unfolding signed_count
count_join n S1 S2 S e x z l j =
    ap (λ m. total m (λ y. when (same_bits (S.outs x y) z) (one (j -ℤ pos (S.phase x y))))) e.m_is
    ∙ total_append S1.m S2.m _
    ∙ total_ext S1.m _ _ (λ y ly. total_ext S2.m _ (λ w. when (same_bits (S2.outs (S1.outs x y) w) z) (one (j -ℤ pos (S1.phase x y) -ℤ pos (S2.phase (S1.outs x y) w)))) (λ w lw.
    ap₂ (λ o v. when (same_bits o z) v) (e.outs_is x y w l ly lw)
    (turned_same one one_number _ _ (e.phase_is x y w l ly lw) j ∙ ap one (omega (arith, ints)))))

-- what a circuit makes of a sum's numbers
run_count : (A : List Prim) (S : PathValues) (x z : Truths) (j : ℤ) → run A (signed_count S x) z j ≡ total S.m (λ y. amplitude A (S.outs x y) z (j -ℤ pos (S.phase x y)))
unfolding signed_count start amplitude
run_count A S x z j = run_total A S.m (λ y. pos (S.phase x y)) (λ y. start (S.outs x y)) z j

-- with the second's numbers, and so with those of its circuit
second : (n : ℕ) (S1 S2 S : PathValues) (A1 A2 : List Prim) → JoinedSum n S1 S2 S → Denotes n S1 A1 → Denotes n S2 A2 → (x z : Truths) → length x ≡ n
    → root2 (above S2.k (pos (turns A2 + turns A2))) (signed_count S x z) ≡ root2 (above (pos (turns A2 + turns A2)) S2.k) (run A2 (signed_count S1 x) z)
second n S1 S2 S A1 A2 e d1 d2 x z l = fun_ext (λ j.
    let u = pos (turns A2 + turns A2) in
    ap (λ c. root2 (above S2.k u) c j) (fun_ext (λ i. count_join n S1 S2 S e x z l i))
    ∙ root2_total (above S2.k u) S1.m (λ y. pos (S1.phase x y)) (λ y. signed_count S2 (S1.outs x y) z) j
    ∙ total_ext S1.m _ (λ y. root2 (above u S2.k) (amplitude A2 (S1.outs x y) z) (j -ℤ pos (S1.phase x y))) (λ y ly. d2.same (S1.outs x y) z (d1.width x y l ly) (j -ℤ pos (S1.phase x y)))
    ∙ sym (root2_total (above u S2.k) S1.m (λ y. pos (S1.phase x y)) (λ y. amplitude A2 (S1.outs x y) z) j)
    ∙ ap (λ c. root2 (above u S2.k) c j) (fun_ext (λ i. sym (run_count A2 S1 x z i))))

-- the first's numbers, and so those of its circuit, under the second circuit
first : (A : List Prim) (a b : ℕ) (v w : Column) → ((z : Truths) → root2 a (v z) ≡ root2 b (w z)) → (z : Truths) → root2 a (run A v z) ≡ root2 b (run A w z)
first A a b v w h z = fun_ext (λ j. sym (run_root2 A a v z j) ∙ ap (λ u. run A u z j) (fun_ext h) ∙ run_root2 A b w z j)

join_same : (n : ℕ) (S1 S2 S : PathValues) (A1 A2 : List Prim) → JoinedSum n S1 S2 S → Denotes n S1 A1 → Denotes n S2 A2 → (x z : Truths) → length x ≡ n → SameScaled S.k (signed_count S x z) (pos (turns (A1 ++ A2) + turns (A1 ++ A2))) (amplitude (A1 ++ A2) x z)
unfolding amplitude
join_same n S1 S2 S A1 A2 e d1 d2 x z l =
    let u1 = pos (turns A1 + turns A1) in
    let u2 = pos (turns A2 + turns A2) in
    let a1 = above S1.k u1 in
    let b1 = above u1 S1.k in
    let a2 = above S2.k u2 in
    let b2 = above u2 S2.k in
    let r : root2 (a1 + a2) (signed_count S x z) ≡ root2 (b2 + b1) (amplitude (A1 ++ A2) x z)
    = root2_add a1 a2 (signed_count S x z)
    ∙ ap (root2 a1) (second n S1 S2 S A1 A2 e d1 d2 x z l)
    ∙ root2_swap a1 b2 (run A2 (signed_count S1 x) z)
    ∙ ap (root2 b2) (first A2 a1 b1 (signed_count S1 x) (amplitude A1 x) (λ y. same_path S1.k u1 _ _ (d1.same x y l)) z)
    ∙ sym (root2_add b2 b1 (run A2 (amplitude A1 x) z))
    ∙ ap (λ v. root2 (b2 + b1) (v z)) (sym (run-append A1 A2 (start x))) in
    same_from S.k _ (a1 + a2) (b2 + b1) _ _ (signed_number S x z) (amplitude_number (A1 ++ A2) x z) (omega (arith, ints, above_is S1.k u1, above_is S2.k u2, e.k_is, turns-append A1 A2)) r

join_width : (n : ℕ) (S1 S2 S : PathValues) (A1 A2 : List Prim) → JoinedSum n S1 S2 S → Denotes n S1 A1 → Denotes n S2 A2 → (x y : Truths) → length x ≡ n → length y ≡ S.m → length (S.outs x y) ≡ n
join_width n S1 S2 S A1 A2 e d1 d2 x y l h =
    let a : length (take S1.m y) ≡ S1.m = omega (arith, length-take S1.m y, e.m_is) in
    let b : length (drop S1.m y) ≡ S2.m = omega (arith, length-drop S1.m y, e.m_is) in
    ap (λ w. length (S.outs x w)) (sym (take-append-drop S1.m y)) ∙ ap length (e.outs_is x (take S1.m y) (drop S1.m y) l a b) ∙ d2.width _ _ (d1.width x (take S1.m y) l a) b

pub join_denotes : JoinDenotes
join_denotes n S1 S2 S A1 A2 e d1 d2 = record { width = join_width n S1 S2 S A1 A2 e d1 d2; same = join_same n S1 S2 S A1 A2 e d1 d2 }
