-- Sums that are read at assignments: the steps.
use mathlib.Core.Bool.{xor}
use Rattle.std.proofs.Common.{◌≡◌, ◌≢◌, ℕ, suc, ◌+◌, ◌%◌, ◌≤◌, refl, ap, ap₂, sym, ◌∙◌, arith, Bool, true, false, cond, ◌&&◌, ◌++◌, length, length-append}
use Rattle.ps_ring.specs.Truths.{Truths, bit}
use Rattle.ps_ring.specs.Sums.{insert_at}
use Rattle.ps_ring.specs.Readings.{Assignment, Ignores, opened}
use Rattle.ps_ring.specs.ReadingLaws.{ElimRead, HhRead, OmegaRead}
use Rattle.ps_ring.proofs.Inserts.{get_inserted, get_beside}
use Rattle.ps_ring.proofs.Openings.{closed_bit, behind, behind_two, two, two_first, two_second, two_closed, two_beside, two_other}

room : (n m i : ℕ) (x y : Truths) → i ≤ m → length x ≡ n → length y ≡ m → n + i ≤ length (x ++ y)
room n m i x y h lx ly = omega (arith, length-append x y)

pub elim_read : ElimRead
elim_read n m i k P P' O O' e = record {
  at = e.at;
  m_is = refl;
  k_is = refl;
  phase_is = λ x y b lx ly. ap (λ w. P (bit w) % 4294967296) (behind n x y i b lx) ∙ e.phase_is (bit (insert_at (n + i) b (x ++ y))) ∙ ap (λ a. P' a % 4294967296) (closed_bit (n + i) b (x ++ y) (room n m i x y e.at lx ly));
  outs_is = λ x y b lx ly. ap (λ w. O (bit w)) (behind n x y i b lx) ∙ e.outs_is (bit (insert_at (n + i) b (x ++ y))) ∙ ap O' (closed_bit (n + i) b (x ++ y) (room n m i x y e.at lx ly));
}

-- ---- one variable that turns by a quarter
omega_phase : (v0 : ℕ) (P R : Assignment → ℕ) (Q : Assignment → Bool) → ((a : Assignment) → P a % 4294967296 ≡ (R a + cond (a v0) (1073741824 + cond (Q a) 2147483648 0) 0) % 4294967296) → (a : Assignment) (b : Bool) → a v0 ≡ b → P a % 4294967296 ≡ (R a + cond b (1073741824 + cond (Q a) 2147483648 0) 0) % 4294967296
omega_phase v0 P R Q h a b e = h a ∙ ap (λ c. (R a + cond c (1073741824 + cond (Q a) 2147483648 0) 0) % 4294967296) e

quarter : (pt pf r q3 q : ℕ) → pt % 4294967296 ≡ (r + (1073741824 + q)) % 4294967296 → pf % 4294967296 ≡ (r + 0) % 4294967296 → pt % 4294967296 ≡ (pf + 1073741824 + q) % 4294967296
quarter pt pf r q3 q s t = omega arith

eighth : (p' pf r q : ℕ) → p' % 4294967296 ≡ (r + 536870912 + q) % 4294967296 → pf % 4294967296 ≡ (r + 0) % 4294967296 → p' % 4294967296 ≡ (pf + 536870912 + q) % 4294967296
eighth p' pf r q s t = omega arith

put_beside : (v : ℕ) (b d : Bool) (w : Truths) → v ≤ length w → (u : ℕ) → u ≢ v → bit (insert_at v b w) u ≡ bit (insert_at v d w) u
put_beside v b d w h u n = get_beside v u b d w h (λ e. n (sym e))

pub omega_read : OmegaRead
omega_read n m i k P R P' O O' Q e = record {
  at = e.at;
  m_is = refl;
  k_is = refl;
  turned = λ x y lx ly.
      let h = room n m i x y e.at lx ly in
      let T = bit (insert_at (n + i) true (x ++ y)) in
      let F = bit (insert_at (n + i) false (x ++ y)) in
      let off : (u : ℕ) → u ≢ n + i → T u ≡ F u = put_beside (n + i) true false (x ++ y) h in
      let s = omega_phase (n + i) P R Q e.phase_was T true (get_inserted (n + i) true (x ++ y) h)
      ∙ ap₂ (λ r q. (r + (1073741824 + cond q 2147483648 0)) % 4294967296) (e.rest_free T F off) (e.value_free T F off) in
      let t = omega_phase (n + i) P R Q e.phase_was F false (get_inserted (n + i) false (x ++ y) h) in
      ap (λ w. P (bit w) % 4294967296) (behind n x y i true lx)
      ∙ quarter (P T) (P F) (R F) 0 (cond (Q F) 2147483648 0) s t
      ∙ ap (λ w. (P (bit w) + 1073741824 + cond (Q (bit w)) 2147483648 0) % 4294967296) (sym (behind n x y i false lx));
  phase_is = λ x y lx ly.
      let h = room n m i x y e.at lx ly in
      let F = bit (insert_at (n + i) false (x ++ y)) in
      let t = omega_phase (n + i) P R Q e.phase_was F false (get_inserted (n + i) false (x ++ y) h) in
      let s = ap (λ a. P' a % 4294967296) (sym (closed_bit (n + i) false (x ++ y) h)) ∙ e.phase_is F in
      eighth (P' (bit (x ++ y))) (P F) (R F) (cond (Q F) 3221225472 0) s t
      ∙ ap (λ w. (P (bit w) + 536870912 + cond (Q (bit w)) 3221225472 0) % 4294967296) (sym (behind n x y i false lx));
  outs_is = λ x y b lx ly. ap (λ w. O (bit w)) (behind n x y i b lx) ∙ e.outs_is (bit (insert_at (n + i) b (x ++ y))) ∙ ap O' (closed_bit (n + i) b (x ++ y) (room n m i x y e.at lx ly));
}

-- ---- two variables
hh_phase : (v0 v1 : ℕ) (P R : Assignment → ℕ) (Q : Assignment → Bool) → ((a : Assignment) → P a % 4294967296 ≡ (R a + cond (a v0 && xor (a v1) (Q a)) 2147483648 0) % 4294967296) → (a : Assignment) (b : Bool) → a v0 ≡ b → P a % 4294967296 ≡ (R a + cond (b && xor (a v1) (Q a)) 2147483648 0) % 4294967296
hh_phase v0 v1 P R Q h a b e = h a ∙ ap (λ c. (R a + cond (c && xor (a v1) (Q a)) 2147483648 0) % 4294967296) e

half : (pt pf r q : ℕ) → pt % 4294967296 ≡ (r + q) % 4294967296 → pf % 4294967296 ≡ (r + 0) % 4294967296 → pt % 4294967296 ≡ (pf + q) % 4294967296
half pt pf r q s t = omega arith

none : (p r : ℕ) → p % 4294967296 ≡ (r + 0) % 4294967296 → p % 4294967296 ≡ r % 4294967296
none p r e = omega arith

room_two : (n m i : ℕ) (x y : Truths) → i ≤ suc m → length x ≡ n → length y ≡ m → n + i ≤ suc (length (x ++ y))
room_two n m i x y h lx ly = omega (arith, length-append x y)

-- what Q is where the two variables have any values
value_two : (v0 v1 p : ℕ) (Q : Assignment → Bool) → Ignores Bool v0 Q → Ignores Bool v1 Q → opened v0 p ≡ v1 → (b v : Bool) (w : Truths) → v0 ≤ suc (length w) → p ≤ length w → Q (two v0 b p v w) ≡ Q (two v0 false p false w)
value_two v0 v1 p Q f g s b v w h k =
    f (two v0 b p v w) (two v0 false p v w) (two_beside v0 p b false v w h)
    ∙ g (two v0 false p v w) (two v0 false p false w) (λ u n. two_other v0 p false v false w h k u (λ e. n (e ∙ s)))

pub hh_read : HhRead
hh_read n m i r v1 k P R P' O O' Q e = record {
  at = e.at;
  next = e.next;
  m_is = refl;
  k_is = refl;
  flips = λ x y v lx ly.
      let h = room_two n m i x y e.at lx ly in
      let l = room n m r x y e.next lx ly in
      let w = x ++ y in
      let T = two (n + i) true (n + r) v w in
      let F = two (n + i) false (n + r) v w in
      let q = value_two (n + i) v1 (n + r) Q e.value_free e.value_other e.second true v w h l in
      let at : T v1 ≡ v = ap T (sym e.second) ∙ two_second (n + i) (n + r) true v w h l in
      let s = hh_phase (n + i) v1 P R Q e.phase_was T true (two_first (n + i) (n + r) true v w h)
      ∙ ap₂ (λ a c. (a + cond c 2147483648 0) % 4294967296) (e.rest_free T F (two_beside (n + i) (n + r) true false v w h)) (ap₂ xor at q) in
      let t = hh_phase (n + i) v1 P R Q e.phase_was F false (two_first (n + i) (n + r) false v w h) in
      ap (λ w. P (bit w) % 4294967296) (behind_two n x y i r true v lx)
      ∙ half (P T) (P F) (R F) (cond (xor v (Q (two (n + i) false (n + r) false w))) 2147483648 0) s t
      ∙ ap₂ (λ a c. (P (bit a) + cond (xor v (Q (bit c))) 2147483648 0) % 4294967296) (sym (behind_two n x y i r false v lx)) (sym (behind_two n x y i r false false lx));
  phase_is = λ x y lx ly.
      let h = room_two n m i x y e.at lx ly in
      let l = room n m r x y e.next lx ly in
      let w = x ++ y in
      let q = Q (bit (x ++ insert_at i false (insert_at r false y))) in
      let F = two (n + i) false (n + r) q w in
      let own : F v1 ≡ Q F = ap F (sym e.second) ∙ two_second (n + i) (n + r) false q w h l ∙ ap (λ c. Q (bit c)) (behind_two n x y i r false false lx)
      ∙ sym (value_two (n + i) v1 (n + r) Q e.value_free e.value_other e.second false q w h l) in
      ap (λ w. P (bit w) % 4294967296) (behind_two n x y i r false q lx)
      ∙ none (P F) (R F) (hh_phase (n + i) v1 P R Q e.phase_was F false (two_first (n + i) (n + r) false q w h))
      ∙ sym (e.phase_is F own) ∙ ap (λ a. P' a % 4294967296) (two_closed (n + i) (n + r) false q w h l);
  idle = λ x w lx lw.
      let g : n + i ≤ length (x ++ w) = room n (suc m) i x w e.at lx lw in
      ap (λ a. O (bit a)) (behind n x w i true lx) ∙ e.outs_free _ _ (put_beside (n + i) true false (x ++ w) g) ∙ ap (λ a. O (bit a)) (sym (behind n x w i false lx));
  outs_is = λ x y lx ly.
      let h = room_two n m i x y e.at lx ly in
      let l = room n m r x y e.next lx ly in
      let w = x ++ y in
      let q = Q (bit (x ++ insert_at i false (insert_at r false y))) in
      let F = two (n + i) false (n + r) q w in
      let own : F v1 ≡ Q F = ap F (sym e.second) ∙ two_second (n + i) (n + r) false q w h l ∙ ap (λ c. Q (bit c)) (behind_two n x y i r false false lx)
      ∙ sym (value_two (n + i) v1 (n + r) Q e.value_free e.value_other e.second false q w h l) in
      ap (λ w. O (bit w)) (behind_two n x y i r false q lx) ∙ sym (e.outs_is F own) ∙ ap O' (two_closed (n + i) (n + r) false q w h l);
}
