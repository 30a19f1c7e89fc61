-- Two terms of which the second is turned.
use Rattle.std.proofs.Common.{◌≡◌, ◌+◌, ap, sym, ◌∙◌, arith, true, false}
use Rattle.std.proofs.Math.IntN.{pos, ◌+ℤ◌, ◌-ℤ◌, neg_ℤ}
use Rattle.std.proofs.lemmas.Int.{ints}
use Rattle.ps_ring.specs.Numbers.{when, sqrt2, root2}
use Rattle.ps_ring.specs.NumberLaws.{SumOfEqual, SumOfHalfTurn, SumOfQuarterTurn}
use Rattle.ps_ring.proofs.Turned.{sqrt2_twice}

pub sum_of_equal : SumOfEqual
unfolding root2
sum_of_equal c h j = sym (sqrt2_twice c h j)

pub sum_of_half_turn : SumOfHalfTurn
unfolding when
sum_of_half_turn c h true j =
    let a : c j ≡ neg_ℤ (c (j -ℤ pos 2147483648)) = ap c (omega (arith, ints)) ∙ h (j -ℤ pos 2147483648) in
    omega (arith, ints)
sum_of_half_turn c h false j =
    let a : c (j -ℤ pos 0) ≡ c j = ap c (omega (arith, ints)) in
    omega (arith, ints)

pub sum_of_quarter_turn : SumOfQuarterTurn
unfolding sqrt2
sum_of_quarter_turn c h true j =
    let a : c (j -ℤ (pos 536870912 -ℤ pos 1073741824) -ℤ pos 536870912) ≡ c j = ap c (omega (arith, ints)) in
    let b : c (j -ℤ (pos 536870912 -ℤ pos 1073741824) +ℤ pos 536870912) ≡ neg_ℤ (c (j -ℤ pos 1073741824)) = ap c (omega (arith, ints)) ∙ h (j -ℤ pos 1073741824) in
    let d : c (j -ℤ pos 1073741824) ≡ neg_ℤ (c (j -ℤ pos (1073741824 + 2147483648))) = ap c (omega (arith, ints)) ∙ h (j -ℤ pos (1073741824 + 2147483648)) in
    omega (arith, ints)
sum_of_quarter_turn c h false j =
    let a : c (j -ℤ (pos 536870912 -ℤ pos 0) -ℤ pos 536870912) ≡ c (j -ℤ pos (1073741824 + 0)) = ap c (omega (arith, ints)) in
    let b : c (j -ℤ (pos 536870912 -ℤ pos 0) +ℤ pos 536870912) ≡ c j = ap c (omega (arith, ints)) in
    omega (arith, ints)
