-- The sum of one prim denotes it.
use mathlib.Core.Path.{fun_ext}
use mathlib.Core.Bool.{xor}
use Rattle.std.proofs.Common.{◌≡◌, ℕ, zero, suc, ◌+◌, ◌*◌, ◌%◌, cond, refl, ap, ◌∙◌, arith, ◌<◌, Bool, true, false, [], ◌∷◌, length, set, not, ◌&&◌, length-set, zero-add}
use Rattle.std.proofs.Math.IntN.{ℤ, pos, ◌+ℤ◌, ◌-ℤ◌, neg_ℤ}
use Rattle.std.proofs.lemmas.Int.{ints}
use Rattle.ps_ring.specs.Numbers.{one, when, root2}
use Rattle.ps_ring.specs.Sums.{total, PathValues, signed_count}
use Rattle.ps_ring.proofs.Turned.{one_number, turned_by}
use Rattle.ps_ring.proofs.Roots.{same_from}
use Rattle.ps_ring.proofs.StepLaws.{signed_number}
use Rattle.ps_prim.specs.declared.prims.Primitive.TheVariants.{U, Cx}
use Rattle.ps_prim.specs.Amplitudes.{Truths, bit, same_bits, first_phase, second_phase, entry, exchanged, act, run, start, amplitude, turns}
use Rattle.ps_prim.specs.Sums.{Denotes}
use Rattle.ps_ring.specs.Joins.{TurnedSum}
use Rattle.ps_prim.specs.SumLaws.{LeafDenotes}
use Rattle.ps_prim.proofs.Columns.{amplitude_number}
use Rattle.ps_prim.proofs.Plains.{plain_empty, plain_cx, plain_turn, plain_equal}
use Rattle.ps_prim.proofs.PlainSums.{plain_denotes}

same_set : (x z : Truths) (q : ℕ) (y : Bool) → q < length x → same_bits (set x q y) z ≡ (same_bits x (set z q (bit x q)) && not (xor y (bit z q)))
unfolding same_bits xor
same_set [] z q y h = absurd (omega arith)
same_set (a ∷ x) [] zero y h = refl
same_set (a ∷ x) [] (suc q) y h = refl
same_set (a ∷ x) (b ∷ z) zero y h = grind arith
same_set (true ∷ x) (true ∷ z) (suc q) y h = same_set x z q y (omega arith)
same_set (true ∷ x) (false ∷ z) (suc q) y h = refl
same_set (false ∷ x) (true ∷ z) (suc q) y h = refl
same_set (false ∷ x) (false ∷ z) (suc q) y h = same_set x z q y (omega arith)

-- not with the other value
same_other : (x z : Truths) (q : ℕ) (y : Bool) → q < length x → xor y (bit x q) ≡ true → same_bits x (set z q y) ≡ false
unfolding same_bits xor
same_other [] z q y h d = absurd (omega arith)
same_other (a ∷ x) [] zero y h d = refl
same_other (a ∷ x) [] (suc q) y h d = refl
same_other (true ∷ x) (b ∷ z) zero false h d = refl
same_other (false ∷ x) (b ∷ z) zero true h d = refl
same_other (true ∷ x) (b ∷ z) zero true h d = cc
same_other (false ∷ x) (b ∷ z) zero false h d = cc
same_other (true ∷ x) (true ∷ z) (suc q) y h d = same_other x z q y (omega arith) d
same_other (true ∷ x) (false ∷ z) (suc q) y h d = refl
same_other (false ∷ x) (true ∷ z) (suc q) y h d = refl
same_other (false ∷ x) (false ∷ z) (suc q) y h d = same_other x z q y (omega arith) d

-- the two paths to an output are the two phases of the entry
leaf_second : (t f l : ℕ) (x z : Bool) (p : ℕ) → (p + t) % 4294967296 ≡ (cond x (l + 3221225472) 0 + cond (x && false) 2147483648 0 + cond false (2 * t) 0 + cond (false && z) 2147483648 0 + cond z (f + 1073741824) 0) % 4294967296
    → (j : ℤ) → one (j -ℤ pos p) ≡ one (j -ℤ second_phase (pos t) (pos f) (pos l) z x)
unfolding second_phase
leaf_second t f l true true p e j = turned_by one one_number p t _ 1 (pos f +ℤ pos l -ℤ pos t) e (omega (arith, ints)) j
leaf_second t f l true false p e j = turned_by one one_number p t _ 1 (pos l -ℤ pos t -ℤ pos 1073741824) e (omega (arith, ints)) j
leaf_second t f l false true p e j = turned_by one one_number p t _ 0 (pos f -ℤ pos t +ℤ pos 1073741824) e (omega (arith, ints)) j
leaf_second t f l false false p e j = turned_by one one_number p t 0 0 (neg_ℤ (pos t)) e (omega (arith, ints)) j

leaf_first : (t f l : ℕ) (x z : Bool) (p : ℕ) → (p + t) % 4294967296 ≡ (cond x (l + 3221225472) 0 + cond (x && true) 2147483648 0 + cond true (2 * t) 0 + cond (true && z) 2147483648 0 + cond z (f + 1073741824) 0) % 4294967296
    → (j : ℤ) → one (j -ℤ pos p) ≡ one (j -ℤ first_phase (pos t) (pos f) (pos l) z x)
unfolding first_phase
leaf_first t f l true true p e j = turned_by one one_number p t _ 2 (pos f +ℤ pos l +ℤ pos t) e (omega (arith, ints)) j
leaf_first t f l true false p e j = turned_by one one_number p t _ 1 (pos l +ℤ pos t +ℤ pos 1073741824) e (omega (arith, ints)) j
leaf_first t f l false true p e j = turned_by one one_number p t _ 1 (pos f +ℤ pos t -ℤ pos 1073741824) e (omega (arith, ints)) j
leaf_first t f l false false p e j = turned_by one one_number p t _ 0 (pos t) e (omega (arith, ints)) j

-- the paths whose output is z, and the entries from x
leaf_cases : (xq zq o : Bool) (s : Bool → Bool → Bool) (r : Bool → Bool) (V : Bool → Bool → ℤ) (W1 W2 : Bool → ℤ) → ((a b : Bool) → s a b ≡ (o && not (xor b zq))) → r xq ≡ o → ((b : Bool) → xor b xq ≡ true → r b ≡ false)
    → V false zq ≡ W2 xq → V true zq ≡ W1 xq
    → (when (s false false) (V false false) +ℤ when (s false true) (V false true)) +ℤ (when (s true false) (V true false) +ℤ when (s true true) (V true true)) ≡ (when (r false) (W1 false) +ℤ when (r false) (W2 false)) +ℤ (when (r true) (W1 true) +ℤ when (r true) (W2 true))
unfolding when xor
leaf_cases true true true s r V W1 W2 hs ho hr e2 e1 = rw (hs false false, hs false true, hs true false, hs true true, ho, hr false refl) (omega (arith, ints))
leaf_cases true true false s r V W1 W2 hs ho hr e2 e1 = rw (hs false false, hs false true, hs true false, hs true true, ho, hr false refl) (omega (arith, ints))
leaf_cases true false true s r V W1 W2 hs ho hr e2 e1 = rw (hs false false, hs false true, hs true false, hs true true, ho, hr false refl) (omega (arith, ints))
leaf_cases true false false s r V W1 W2 hs ho hr e2 e1 = rw (hs false false, hs false true, hs true false, hs true true, ho, hr false refl) (omega (arith, ints))
leaf_cases false true true s r V W1 W2 hs ho hr e2 e1 = rw (hs false false, hs false true, hs true false, hs true true, ho, hr true refl) (omega (arith, ints))
leaf_cases false true false s r V W1 W2 hs ho hr e2 e1 = rw (hs false false, hs false true, hs true false, hs true true, ho, hr true refl) (omega (arith, ints))
leaf_cases false false true s r V W1 W2 hs ho hr e2 e1 = rw (hs false false, hs false true, hs true false, hs true true, ho, hr true refl) (omega (arith, ints))
leaf_cases false false false s r V W1 W2 hs ho hr e2 e1 = rw (hs false false, hs false true, hs true false, hs true true, ho, hr true refl) (omega (arith, ints))

two_paths : (m : ℕ) → m ≡ 2 → (F : Truths → ℤ) → total m F ≡ (F (false ∷ false ∷ []) +ℤ F (false ∷ true ∷ [])) +ℤ (F (true ∷ false ∷ []) +ℤ F (true ∷ true ∷ []))
unfolding total
two_paths m e F = ap (λ k. total k F) e

leaf_same : (n theta phi lambda q : ℕ) (S : PathValues) → q < n → TurnedSum n theta phi lambda q S → (x z : Truths) → length x ≡ n → (j : ℤ) → signed_count S x z j ≡ amplitude (U theta phi lambda q ∷ []) x z j
unfolding signed_count amplitude run act entry start
leaf_same n theta phi lambda q S w e x z lx j =
    let h : q < length x = omega arith in
    two_paths S.m e.m_is _
    ∙ leaf_cases (bit x q) (bit z q) (same_bits x (set z q (bit x q))) (λ a b. same_bits (S.outs x (a ∷ b ∷ [])) z) (λ b. same_bits x (set z q b)) (λ a b. one (j -ℤ pos (S.phase x (a ∷ b ∷ []))))
    (λ b. one (j -ℤ first_phase (pos theta) (pos (2 * phi)) (pos (2 * lambda)) (bit z q) b)) (λ b. one (j -ℤ second_phase (pos theta) (pos (2 * phi)) (pos (2 * lambda)) (bit z q) b))
    (λ a b. ap (λ o. same_bits o z) (e.outs_is x a b lx) ∙ same_set x z q b h) refl (λ b d. same_other x z q b h d)
    (leaf_second theta (2 * phi) (2 * lambda) (bit x q) (bit z q) _ (e.phase_is x false (bit z q) lx) j)
    (leaf_first theta (2 * phi) (2 * lambda) (bit x q) (bit z q) _ (e.phase_is x true (bit z q) lx) j)

leaf_width : (n theta phi lambda q : ℕ) (S : PathValues) → TurnedSum n theta phi lambda q S → (x y : Truths) → length x ≡ n → length y ≡ 2 → length (S.outs x y) ≡ n
leaf_width n theta phi lambda q S e x [] lx h = absurd (omega arith)
leaf_width n theta phi lambda q S e x (a ∷ []) lx h = absurd (omega arith)
leaf_width n theta phi lambda q S e x (a ∷ b ∷ []) lx h = ap length (e.outs_is x a b lx) ∙ length-set x q b ∙ lx
leaf_width n theta phi lambda q S e x (a ∷ b ∷ c ∷ y) lx h = absurd (omega arith)

pub turned_denotes : (n theta phi lambda q : ℕ) (S : PathValues) → q < n → TurnedSum n theta phi lambda q S → Denotes n S (U theta phi lambda q ∷ [])
unfolding turns root2
turned_denotes n theta phi lambda q S w e = record {
  width = λ x y lx ly. leaf_width n theta phi lambda q S e x y lx (ly ∙ e.m_is);
  same = λ x z lx. same_from S.k (pos 2) 0 0 _ _ (signed_number S x z) (amplitude_number (U theta phi lambda q ∷ []) x z) (ap (λ k. pos 0 +ℤ k) e.k_is) (fun_ext (leaf_same n theta phi lambda q S w e x z lx));
}

pub leaf_denotes : LeafDenotes
leaf_denotes n (U zero phi lambda q) S w s =
    plain_denotes n (U 0 phi lambda q ∷ []) (λ x. x) (λ x. cond (bit x q) (2 * phi + 2 * lambda) 0) S
    (plain_equal n (U 0 phi lambda q ∷ []) (λ x. x) (λ x. x) (λ x. 0 + cond (bit x q) (2 * phi + 2 * lambda) 0) (λ x. cond (bit x q) (2 * phi + 2 * lambda) 0)
    (plain_turn n [] (λ x. x) (λ x. 0) phi lambda q (plain_empty n)) (λ x lx. refl) (λ x lx. ap (λ k. k % 4294967296) (zero-add (cond (bit x q) (2 * phi + 2 * lambda) 0)))) s
leaf_denotes n (U (suc theta) phi lambda q) S w s = turned_denotes n (suc theta) phi lambda q S w s
leaf_denotes n (Cx c t) S w s = plain_denotes n (Cx c t ∷ []) (exchanged c t) (λ x. 0) S (plain_cx n [] (λ x. x) (λ x. 0) c t (plain_empty n) w.0 w.1 w.2) s
