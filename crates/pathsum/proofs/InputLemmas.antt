-- The digits of a basis input.
use Rattle.std.proofs.Common.{◌≡◌, ℕ, zero, suc, ◌+◌, refl, ap, ap₂, sym, ◌∙◌, arith, Bool, List, [], ◌∷◌, ◌++◌, map, append_assoc}
use Rattle.std.proofs.lemmas.List.{append-nil}
use Rattle.ps_mono.specs.Sets.{stands}
use Rattle.ps_ring.specs.Truths.{Truths}
use Rattle.ps_ring.specs.Readings.{taken}
use Rattle.pathsum.specs.Inputs.{bit_code}

-- for each of the n variables from v on, whether it stands in m
abbrev pub truths_from : List ℕ → ℕ → ℕ → Truths
truths_from m v n = taken v n (λ u. stands u m)

pub truths_next : (m : List ℕ) (v n : ℕ) → truths_from m v (suc n) ≡ truths_from m v n ++ (stands (v + n) m ∷ [])
unfolding taken
truths_next m v zero = let e : v + zero ≡ v = omega arith in ap (λ u. stands u m ∷ []) (sym e)
truths_next m v (suc n) =
    let e : suc v + n ≡ v + suc n = omega arith in
    ap (λ (r : List Bool). stands v m ∷ r) (truths_next m (suc v) n ∙ ap (λ u. truths_from m (suc v) n ++ (stands u m ∷ [])) e)

pub map_next : (f : Bool → ℕ) (xs : List Bool) (b : Bool) → map f (xs ++ (b ∷ [])) ≡ map f xs ++ (f b ∷ [])
map_next f [] b = refl
map_next f (x ∷ xs) b = ap (λ (r : List ℕ). f x ∷ r) (map_next f xs b)

-- the digits so far, behind others
abbrev pub digits_to : List ℕ → List ℕ → ℕ → List ℕ
digits_to front m n = front ++ map bit_code (truths_from m 0 n)

pub digits_start : (front m : List ℕ) → front ≡ digits_to front m 0
unfolding taken
digits_start front m = sym (append-nil front)

pub digits_next : (front m line line' : List ℕ) (n d : ℕ) → line ≡ digits_to front m n → d ≡ bit_code (stands n m) → line' ≡ line ++ (d ∷ []) → line' ≡ digits_to front m (n + 1)
digits_next front m line line' n d e f g =
    let s : n + 1 ≡ suc n = omega arith in
    let z : zero + n ≡ n = omega arith in
    g ∙ ap₂ (λ (a : List ℕ) (b : ℕ). a ++ (b ∷ [])) e (f ∙ ap (λ u. bit_code (stands u m)) (sym z))
    ∙ append_assoc front (map bit_code (truths_from m 0 n)) (bit_code (stands (zero + n) m) ∷ [])
    ∙ ap (λ (r : List ℕ). front ++ r) (sym (map_next bit_code (truths_from m 0 n) (stands (zero + n) m)) ∙ ap (map bit_code) (sym (truths_next m 0 n)))
    ∙ ap (digits_to front m) (sym s)
