-- There is one overlap of two sums, and it names few variables.
use Rattle.std.proofs.Common.{◌≡◌, ℕ, ◌+◌, ◌%◌, ap, ap₂, sym, ◌∙◌, arith, ◌<◌, ◌≤◌, List, ◌++◌, length, take, drop}
use Rattle.std.proofs.lemmas.List.{take-append-drop, length-take, length-drop}
use Rattle.ps_ring.specs.Truths.{Truths, bit}
use Rattle.ps_ring.specs.Sums.{PathValues}
use Rattle.ps_ring.specs.Joins.{OverlapSum, pairing, IsOpen}
use Rattle.ps_sum.specs.declared.sums.PathSum.{PathSum}
use Rattle.ps_sum.specs.declared.faults.Passed.{Passed}
use Rattle.ps_sum.specs.declared.faults.What.{What}
use Rattle.ps_sum.specs.Outs.{values}
use Rattle.ps_sum.specs.Sums.{path_values}
use Rattle.ps_sum.proofs.Closings.{length_values}
use Rattle.ps_sum.proofs.Uniqueness.{sum_only}
use Rattle.ps_overlap.specs.Overlapping.{IsOverlapOf, OverlapPasses}

-- a list of a + (b + c) truth values in its three parts
parts_of : (y : Truths) (a b : ℕ) → y ≡ take a y ++ (take b (drop a y) ++ drop b (drop a y))
parts_of y a b = sym (take-append-drop a y) ∙ ap (λ (r : Truths). take a y ++ r) (sym (take-append-drop b (drop a y)))

cancel_turns : (p q c r : ℕ) → (p + c) % 4294967296 ≡ r % 4294967296 → (q + c) % 4294967296 ≡ r % 4294967296 → p % 4294967296 ≡ q % 4294967296
cancel_turns p q c r e f = omega arith

same_phase : (n : ℕ) (A B S T : PathValues) → OverlapSum n A B S → OverlapSum n A B T → (x y : Truths) → length x ≡ n → length y ≡ A.m + (B.m + n) → S.phase x y % 4294967296 ≡ T.phase x y % 4294967296
same_phase n A B S T s t x y lx ly =
    let y1 = take A.m y in
    let y2 = take B.m (drop A.m y) in
    let w = drop B.m (drop A.m y) in
    let l1 : length y1 ≡ A.m = omega (arith, length-take A.m y) in
    let l2 : length y2 ≡ B.m = omega (arith, length-take B.m (drop A.m y), length-drop A.m y) in
    let lw : length w ≡ n = omega (arith, length-drop B.m (drop A.m y), length-drop A.m y) in
    let e = parts_of y A.m B.m in
    ap (λ (r : Truths). S.phase x r % 4294967296) e
    ∙ cancel_turns (S.phase x (y1 ++ (y2 ++ w))) (T.phase x (y1 ++ (y2 ++ w))) (A.phase x y1) (B.phase x y2 + pairing w (A.outs x y1) (B.outs x y2)) (s.phase_is x y1 y2 w lx l1 l2 lw) (t.phase_is x y1 y2 w lx l1 l2 lw)
    ∙ sym (ap (λ (r : Truths). T.phase x r % 4294967296) e)

-- two overlaps of the same sums are the same
pub overlap_only : (S1 S2 S T : PathSum) → IsOverlapOf S1 S2 S → IsOverlapOf S1 S2 T → S ≡ T
overlap_only S1 S2 S T s t = sum_only S T (record {
  n_is = s.qubits_are ∙ sym t.qubits_are;
  m_is = s.overlaps.m_is ∙ sym t.overlaps.m_is;
  k_is = s.overlaps.k_is ∙ sym t.overlaps.k_is;
  phase_is = λ x y lx ly. same_phase S1.n (path_values S1) (path_values S2) (path_values S) (path_values T) s.overlaps t.overlaps x y (lx ∙ s.qubits_are) (ly ∙ s.overlaps.m_is);
  outs_is = λ x y lx ly. ap (λ (o : List (List (List ℕ))). values o (bit (x ++ y))) (s.no_outs ∙ sym t.no_outs);
})

-- ---- the limit
limit : What → ℕ → Passed
limit w c = record { what = w; count = c }

pub overlap_passes_once : (S1 S2 : PathSum) (p q : Passed) → OverlapPasses S1 S2 p → OverlapPasses S1 S2 q → p ≡ q
overlap_passes_once S1 S2 p q a b = ap₂ (λ (w : What) (c : ℕ). record { what = w; count = c }) (a.what_is ∙ sym b.what_is) (a.count_is ∙ sym b.count_is)

pub overlap_passes_not : (S1 S2 S : PathSum) (p : Passed) → OverlapPasses S1 S2 p → IsOverlapOf S1 S2 S → ⊥
overlap_passes_not S1 S2 S p a s =
    let m : S.m ≡ S1.m + (S2.m + S1.n) = s.overlaps.m_is in
    let n : S.n ≡ S1.n = s.qubits_are in
    let f : S.n + S.m ≤ 512 = S.named in
    let h : 512 < S1.n + S1.n + S1.m + S2.m = a.above in
    omega arith

-- ---- a sum with outputs has one for each input
pub open_values : (S : PathSum) (n : ℕ) → S.n ≡ n → 0 < length S.outs → IsOpen n (path_values S)
open_values S n e h x y lx ly = length_values S.outs (bit (x ++ y)) ∙ S.width h ∙ e
