-- The digits of a basis input, one after the other.
use Rattle.std.proofs.Common.{◌≡◌, ℕ, zero, suc, ◌+◌, refl, ap, sym, ◌∙◌, arith, Bool, List, [], ◌∷◌, ◌++◌, append_assoc, map}
use Rattle.std.proofs.lemmas.List.{map-append, append-nil}
use Rattle.ps_mono.specs.Sets.{stands}
use Rattle.ps_ring.specs.Truths.{Truths}
use Rattle.ps_ring.specs.Readings.{taken}
use Rattle.ps_reply.specs.Verdicts.{bit_code, input_text}

taken_next : (f : ℕ → Bool) (v n : ℕ) → taken v (suc n) f ≡ taken v n f ++ f (v + n) ∷ []
unfolding taken
taken_next f v zero = let e : v + zero ≡ v = omega arith in ap (λ u. f u ∷ []) (sym e)
taken_next f v (suc n) =
    let e : suc v + n ≡ v + suc n = omega arith in
    ap (λ (r : List Bool). f v ∷ r) (taken_next f (suc v) n ∙ ap (λ u. taken (suc v) n f ++ f u ∷ []) e)

pub input_start : (m old : List ℕ) → old ≡ old ++ input_text 0 m
unfolding taken
input_start m old = sym (append-nil old)

pub input_next : (m old line line' : List ℕ) (n d : ℕ) → line ≡ old ++ input_text n m → d ≡ bit_code (stands n m) → line' ≡ line ++ d ∷ [] → line' ≡ old ++ input_text (n + 1) m
input_next m old line line' n d e f g =
    let s : suc n ≡ n + 1 = omega arith in
    let z : zero + n ≡ n = omega arith in
    let t : input_text (n + 1) m ≡ input_text n m ++ d ∷ [] =
    ap (λ k. input_text k m) (sym s) ∙ ap (map bit_code) (taken_next (λ v. stands v m) zero n) ∙ map-append bit_code (taken zero n (λ v. stands v m)) (stands (zero + n) m ∷ [])
    ∙ ap (λ u. input_text n m ++ bit_code (stands u m) ∷ []) z ∙ ap (λ u. input_text n m ++ u ∷ []) (sym f) in
    g ∙ ap (λ r. r ++ d ∷ []) e ∙ append_assoc old (input_text n m) (d ∷ []) ∙ ap (λ r. old ++ r) (sym t)
