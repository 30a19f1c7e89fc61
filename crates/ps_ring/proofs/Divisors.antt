-- The power of 2 that divides a number.
use Rattle.std.proofs.Common.{◌≡◌, ℕ, zero, suc, ◌+◌, ◌*◌, ◌/◌, ◌%◌, ◌^◌, ◌≤◌, refl, ap, ◌∙◌, arith}
use Rattle.std.proofs.lemmas.Nat.{mod-pow-add}
use lib.Count.{count_trailing_zeros, under}

-- the lowest digit, and the rest
digit_first : (n c : ℕ) → n % 2 ^ suc c ≡ (n / 2 % 2 ^ c) * 2 + n % 2
digit_first n c = ap (λ k. n % 2 ^ k) (omega arith) ∙ mod-pow-add n c 1

by_one : (n : ℕ) → n % 2 ^ 0 ≡ 0
by_one n = omega arith

divides_digit : (d c n : ℕ) → n % 2 ≡ d → n / 2 % 2 ^ c ≡ 0 → n % 2 ^ under d c ≡ 0
divides_digit zero c n e h = digit_first n c ∙ omega (arith, h, e)
divides_digit (suc d) c n e h = by_one n

pub trailing_divides : (k n : ℕ) → n % 2 ^ count_trailing_zeros k n ≡ 0
unfolding count_trailing_zeros
trailing_divides zero n = by_one n
trailing_divides (suc k) n = divides_digit (n % 2) (count_trailing_zeros k (n / 2)) n refl (trailing_divides k (n / 2))

greatest_digit : (d c n u : ℕ) → n % 2 ≡ d → n % 2 ^ suc u ≡ 0 → (n / 2 % 2 ^ u ≡ 0 → u ≤ c) → suc u ≤ under d c
greatest_digit zero c n u e h next = let r = digit_first n u in let s = next (omega arith) in omega arith
greatest_digit (suc d) c n u e h next = let r = digit_first n u in absurd (omega arith)

pub trailing_greatest : (k n v : ℕ) → v ≤ k → n % 2 ^ v ≡ 0 → v ≤ count_trailing_zeros k n
unfolding count_trailing_zeros
trailing_greatest zero n v l h = omega arith
trailing_greatest (suc k) n zero l h = omega arith
trailing_greatest (suc k) n (suc u) l h = greatest_digit (n % 2) (count_trailing_zeros k (n / 2)) n u refl h (λ e. trailing_greatest k (n / 2) u (omega arith) e)
