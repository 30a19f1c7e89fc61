-- Numbers that stand for monomials where many are sorted.
use Rattle.std.specs.Prelude.{ℕ, zero, suc, ◌≡◌, ◌≤◌, ◌+◌, ◌-◌, ◌*◌, ◌^◌, Bool, false, not, List, [], ◌∷◌, length, nat_lt, cond}
use Rattle.ps_mono.specs.Sets.{is_set, members, stands, digit}

-- the number k and the variables behind it, at nine bits each
unfoldable pub key_behind : ℕ → List ℕ → ℕ
key_behind k [] = k
key_behind k (v ∷ m) = key_behind (k * 512 + v) m

-- the degree and behind it the variables, where there are at most six; else the highest number of 64 bits
unfoldable pub order_key : List ℕ → ℕ
order_key m = cond (nat_lt 6 (length m)) 18446744073709551615 (key_behind (length m) m)

-- the variables of one word, of which the first would be lo
unfoldable pub from_word : ℕ → ℕ → List ℕ
from_word lo word = members (λ v. is_set word (v - lo)) lo 64

-- n bits, of which the highest is 1 where p is true of lo, the next where it is true of lo + 1, and so on
unfoldable pub mirror : (ℕ → Bool) → ℕ → ℕ → ℕ
mirror p lo zero = 0
mirror p lo (suc n) = digit (p lo) * 2 ^ n + mirror p (suc lo) n

-- no variable from 119 on stands in m
abbrev pub IsLow : List ℕ → Type 0
IsLow m = (v : ℕ) → 119 ≤ v → stands v m ≡ false

-- the degree, and behind it a bit for each variable below 119, the lowest first: 0 where it stands in m, 1 where it does not
unfoldable pub low_key : List ℕ → ℕ
low_key m = length m * 2 ^ 119 + mirror (λ v. not (stands v m)) 0 119
