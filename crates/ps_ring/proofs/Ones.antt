-- Where the number 1 is 1.
use Rattle.std.proofs.Common.{◌≡◌, ℕ, ◌+◌, ◌-◌, ◌%◌, refl, ap, sym, ◌∙◌, arith}
use Rattle.std.proofs.Math.IntN.{pos, ◌-ℤ◌, nat_abs}
use Rattle.std.proofs.lemmas.Bool.Decides.{nat_tests}
use Rattle.ps_ring.specs.Numbers.{one, unit_at}

pub one_first : one (pos 0) ≡ pos 1
unfolding one unit_at
one_first = refl

at_one : (r : ℕ) → unit_at r ≡ pos 1 → r ≡ 0
unfolding unit_at
at_one r e = grind (arith, nat_tests)

distance : (p q : ℕ) → nat_abs (pos p -ℤ pos q) ≡ (p - q) + (q - p)
distance p q = grind (arith, nat_tests)

whole_apart : (p q : ℕ) → ((p - q) + (q - p)) % 4294967296 ≡ 0 → p % 4294967296 ≡ q % 4294967296
whole_apart p q e = omega arith

-- only whole turns apart
pub phases_meet : (p q : ℕ) → one (pos p -ℤ pos q) ≡ pos 1 → p % 4294967296 ≡ q % 4294967296
unfolding one
phases_meet p q e = whole_apart p q (ap (λ n. n % 4294967296) (sym (distance p q)) ∙ at_one _ e)
