-- Lists of phases, what they count to, and the phases at all assignments of some variables.
use Rattle.std.specs.Prelude.{ℕ, zero, suc, ◌+◌, ◌%◌, ◌^◌, ◌<◌, true, false, List, [], ◌∷◌, ◌++◌, length, get_or}
use Rattle.std.proofs.Math.IntN.{pos, ◌+ℤ◌, ◌-ℤ◌}
use Rattle.ps_ring.specs.Numbers.{Number, one}
use Rattle.ps_ring.specs.Truths.{Truths}
use Rattle.ps_mono.specs.Truth.{times}

-- the number that phases count to: each is a turn by so many parts of 2^32
unfoldable pub tallied : List ℕ → Number
tallied [] j = pos 0
tallied (p ∷ ps) j = one (j -ℤ pos p) +ℤ tallied ps j

-- less than half a turn each
abbrev pub IsBelowHalf : List ℕ → Type 0
IsBelowHalf ps = (i : ℕ) → get_or ps i 0 < 2147483648

-- ---- tables
-- m variables, from v on
unfoldable pub names_from : ℕ → ℕ → List ℕ
names_from v zero = []
names_from v (suc m) = v ∷ names_from (suc v) m

-- the values at all lists of m truth values, those with the first one false in front
unfoldable pub listing : ℕ → (Truths → ℕ) → List ℕ
listing zero F = (F [] % 4294967296) ∷ []
listing (suc m) F = listing m (λ ys. F (false ∷ ys)) ++ listing m (λ ys. F (true ∷ ys))

-- the words modulo 2^32
unfoldable pub reduced : List ℕ → List ℕ
reduced [] = []
reduced (t ∷ ts) = (t % 4294967296) ∷ reduced ts

-- the sum of the words, from place i on, of the sets of variables that are all true: first come the sets without the first one
unfoldable pub worth : Truths → List ℕ → ℕ → ℕ
worth [] ts i = get_or ts i 0
worth (b ∷ y) ts i = worth y ts i + times b (worth y ts (i + 2 ^ length y))
