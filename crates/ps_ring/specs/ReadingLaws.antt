-- Sums that are read at assignments are steps, joins and overlaps of one another where what is read is.
use Rattle.std.specs.Prelude.{ℕ, suc, ◌<◌, ◌+◌, Bool, false, ◌++◌}
use Rattle.std.proofs.Math.IntN.{ℤ, pos, ◌+ℤ◌}
use Rattle.ps_ring.specs.Truths.{Truths, bit}
use Rattle.ps_ring.specs.Sums.{insert_at}
use Rattle.ps_ring.specs.Steps.{ElimStep, HhStep, OmegaStep}
use Rattle.ps_ring.specs.Joins.{PlainSum, TurnedSum, JoinedSum, OverlapSum}
use Rattle.ps_ring.specs.Readings.{Assignment, read_sum, ElimReading, HhReading, OmegaReading, PlainReading, TurnedReading, JoinReading, OverlapReading}

abbrev pub ElimRead : Type 0
ElimRead = (n m i : ℕ) (k : ℤ) (P P' : Assignment → ℕ) (O O' : Assignment → Truths) → ElimReading n m i P P' O O' → ElimStep n (read_sum (suc m) (k +ℤ pos 2) P O) (read_sum m k P' O') i

abbrev pub HhRead : Type 0
HhRead = (n m i r v1 : ℕ) (k : ℤ) (P R P' : Assignment → ℕ) (O O' : Assignment → Truths) (Q : Assignment → Bool) → HhReading n m i r v1 P R P' O O' Q
    → HhStep n (read_sum (suc (suc m)) (k +ℤ pos 2) P O) (read_sum m k P' O') i r (λ x y. Q (bit (x ++ insert_at i false (insert_at r false y))))

abbrev pub OmegaRead : Type 0
OmegaRead = (n m i : ℕ) (k : ℤ) (P R P' : Assignment → ℕ) (O O' : Assignment → Truths) (Q : Assignment → Bool) → OmegaReading n m i P R P' O O' Q
    → OmegaStep n (read_sum (suc m) (k +ℤ pos 1) P O) (read_sum m k P' O') i (λ x y. Q (bit (x ++ insert_at i false y)))

abbrev pub PlainRead : Type 0
PlainRead = (n : ℕ) (f : Truths → Truths) (F : Truths → ℕ) (P : Assignment → ℕ) (O : Assignment → Truths) → PlainReading n f F P O → PlainSum n f F (read_sum 0 (pos 0) P O)

abbrev pub TurnedRead : Type 0
TurnedRead = (n theta phi lambda q : ℕ) (P : Assignment → ℕ) (O : Assignment → Truths) → q < n → TurnedReading n theta phi lambda q P O → TurnedSum n theta phi lambda q (read_sum 2 (pos 2) P O)

abbrev pub JoinRead : Type 0
JoinRead = (n m1 m2 : ℕ) (k1 k2 : ℤ) (P1 P2 P : Assignment → ℕ) (O1 O2 O : Assignment → Truths) → JoinReading n m1 m2 P1 P2 P O1 O2 O
    → JoinedSum n (read_sum m1 k1 P1 O1) (read_sum m2 k2 P2 O2) (read_sum (m1 + m2) (k1 +ℤ k2) P O)

abbrev pub OverlapRead : Type 0
OverlapRead = (n m1 m2 : ℕ) (k1 k2 : ℤ) (P1 P2 P : Assignment → ℕ) (O1 O2 O : Assignment → Truths) → OverlapReading n m1 m2 P1 P2 P O1 O2 O
    → OverlapSum n (read_sum m1 k1 P1 O1) (read_sum m2 k2 P2 O2) (read_sum (m1 + (m2 + n)) (k1 +ℤ k2 +ℤ pos (n + n)) P O)
