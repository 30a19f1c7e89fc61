-- Closed path sums: 0 and 1.
use mathlib.Core.Path.{fun_ext}
use Rattle.std.proofs.Common.{◌≡◌, ℕ, zero, suc, ◌+◌, ◌%◌, refl, ap, ap₂, sym, ◌∙◌, arith, false, [], ◌≢◌, ◌≤◌, cond, ◌&&◌, ◌++◌, length, length-append, true}
use Rattle.std.proofs.Math.IntN.{ℤ, pos, ◌+ℤ◌, ◌-ℤ◌, neg_ℤ, +ℤ_idr}
use Rattle.std.proofs.lemmas.Int.{ints}
use Rattle.ps_ring.specs.Numbers.{Number, IsNumber, one, when, sqrt2, root2, above}
use Rattle.ps_ring.specs.Sums.{total, insert_at, PathValues, signed_count}
use Rattle.ps_ring.proofs.Turned.{one_number, turned_same}
use Rattle.ps_ring.proofs.Ones.{one_first}
use Rattle.ps_ring.proofs.Roots.{root2_cancel, same_path, same_from}
use Rattle.ps_ring.proofs.Whens.{when-neg}
use Rattle.ps_ring.proofs.Totals.{total_ext, total_pull, total_zero}
use Rattle.ps_ring.proofs.StepLaws.{signed_number}
use Rattle.ps_ring.proofs.Inserts.{get_inserted, get_beside}
use Rattle.ps_ring.proofs.Openings.{behind}
use Rattle.ps_prim.specs.Amplitudes.{Truths, bit, same_bits}
use Rattle.ps_prim.specs.Closed.{VanishRead, VanishingIsZero, ZeroIsNotOne, PlainIsOne, OneIsPlain}
use Rattle.ps_prim.proofs.PlainSums.{one_path}
use Rattle.ps_prim.proofs.Different.{phase_is_one}

-- half a turn more is the opposite
half_more : (p p' : ℕ) → p' % 4294967296 ≡ (p + 2147483648) % 4294967296 → (j : ℤ) → one (j -ℤ pos p') ≡ neg_ℤ (one (j -ℤ pos p))
half_more p p' e j =
    let a : j -ℤ pos p ≡ j -ℤ pos (p + 2147483648) +ℤ pos 2147483648 = omega (arith, ints) in
    let h : one (j -ℤ pos p) ≡ neg_ℤ (one (j -ℤ pos (p + 2147483648))) = ap one a ∙ one_number (j -ℤ pos (p + 2147483648)) in
    let t = turned_same one one_number p' (p + 2147483648) e j in
    omega (arith, ints)

opposites_cancel : (a b : ℤ) → b ≡ neg_ℤ a → a +ℤ b ≡ pos 0
opposites_cancel a b e = omega (arith, ints)

pub vanishing_is_zero : VanishingIsZero
unfolding signed_count
vanishing_is_zero S x m i v z j =
    ap (λ n. total n (λ y. when (same_bits (S.outs x y) z) (one (j -ℤ pos (S.phase x y))))) v.m_is
    ∙ total_pull m i v.at _
    ∙ total_ext m _ (λ y. pos 0) (λ y ly.
    opposites_cancel _ _ (ap₂ (λ o r. when (same_bits o z) r) (v.idle y ly) (half_more _ _ (v.flips y ly) j) ∙ when-neg (same_bits (S.outs x (insert_at i false y)) z) (one (j -ℤ pos (S.phase x (insert_at i false y))))))
    ∙ total_zero m

unfoldable pub nothing : Number
nothing j = pos 0

pub nothing_number : IsNumber nothing
unfolding nothing
nothing_number j = refl

pub root2_nothing : (e : ℕ) → root2 e nothing ≡ nothing
unfolding root2 sqrt2 nothing
root2_nothing zero = refl
root2_nothing (suc e) = ap sqrt2 (root2_nothing e)

pub zero_is_not_one : ZeroIsNotOne
unfolding nothing
zero_is_not_one S x h o =
    let c : signed_count S x [] ≡ nothing = fun_ext h in
    let r : root2 (above (pos 0) S.k) nothing ≡ root2 (above (pos 0) S.k) one
    = root2_nothing (above (pos 0) S.k) ∙ sym (root2_nothing (above S.k (pos 0))) ∙ ap (root2 (above S.k (pos 0))) (sym c) ∙ same_path S.k (pos 0) (signed_count S x []) one o in
    let e : pos 0 ≡ pos 1 = ap (λ u. u (pos 0)) (root2_cancel (above (pos 0) S.k) nothing one nothing_number one_number r) ∙ one_first in
    cc

when_closed : (v : ℤ) → when (same_bits [] []) v ≡ v
unfolding when same_bits
when_closed v = refl

-- without path variables there is one path
pub alone : (S : PathValues) (x : Truths) → S.m ≡ 0 → S.outs x [] ≡ [] → (j : ℤ) → signed_count S x [] j ≡ one (j -ℤ pos (S.phase x []))
unfolding signed_count
alone S x m o j = one_path S.m m _ ∙ ap (λ w. when (same_bits w []) (one (j -ℤ pos (S.phase x [])))) o ∙ when_closed _

pub plain_is_one : PlainIsOne
unfolding root2
plain_is_one S x m o k p =
    same_from S.k (pos 0) 0 0 (signed_count S x []) one (signed_number S x []) one_number (ap (λ r. pos 0 +ℤ r) k)
    (fun_ext (λ j. alone S x m o j ∙ turned_same one one_number (S.phase x []) 0 p j ∙ ap one (+ℤ_idr j)))

pub one_is_plain : OneIsPlain
one_is_plain S x m o h =
    let c : signed_count S x [] ≡ (λ j. one (j -ℤ pos (S.phase x []))) = fun_ext (alone S x m o) in
    phase_is_one S.k (S.phase x []) (λ j. ap (λ u. root2 (above S.k (pos 0)) u j) (sym c) ∙ h j)

half_at : (pt pf r : ℕ) → pt % 4294967296 ≡ (r + 2147483648) % 4294967296 → pf % 4294967296 ≡ (r + 0) % 4294967296 → pt % 4294967296 ≡ (pf + 2147483648) % 4294967296
half_at pt pf r s t = omega arith

pub vanish_read : VanishRead
vanish_read n m i k P R O Q x lx e = record {
  m_is = refl;
  at = e.at;
  flips = λ y ly.
      let h : n + i ≤ length (x ++ y) = omega (arith, length-append x y, e.at) in
      let T = bit (insert_at (n + i) true (x ++ y)) in
      let F = bit (insert_at (n + i) false (x ++ y)) in
      let off : (u : ℕ) → u ≢ n + i → T u ≡ F u = λ u d. get_beside (n + i) u true false (x ++ y) h (λ c. d (sym c)) in
      let q : Q T ≡ true = e.value_free T F off ∙ ap (λ w. Q (bit w)) (sym (behind n x y i false lx)) ∙ e.holds y ly in
      let s : P T % 4294967296 ≡ (R F + 2147483648) % 4294967296 = e.phase_was T ∙ ap₂ (λ a c. (R T + cond (a && c) 2147483648 0) % 4294967296) (get_inserted (n + i) true (x ++ y) h) q ∙ ap (λ r. (r + 2147483648) % 4294967296) (e.rest_free T F off) in
      let t : P F % 4294967296 ≡ (R F + 0) % 4294967296 = e.phase_was F ∙ ap (λ a. (R F + cond (a && Q F) 2147483648 0) % 4294967296) (get_inserted (n + i) false (x ++ y) h) in
      ap (λ w. P (bit w) % 4294967296) (behind n x y i true lx) ∙ half_at (P T) (P F) (R F) s t ∙ ap (λ w. (P (bit w) + 2147483648) % 4294967296) (sym (behind n x y i false lx));
  idle = λ y ly.
      let h : n + i ≤ length (x ++ y) = omega (arith, length-append x y, e.at) in
      ap (λ w. O (bit w)) (behind n x y i true lx) ∙ e.outs_free _ _ (λ u d. get_beside (n + i) u true false (x ++ y) h (λ c. d (sym c))) ∙ ap (λ w. O (bit w)) (sym (behind n x y i false lx));
}
