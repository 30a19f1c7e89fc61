-- A phase as a part of a turn.
use Rattle.std.proofs.Common.{◌≡◌, ℕ, zero, suc, ◌-◌, ◌/◌, ◌^◌, refl, ap, ◌∙◌, List, [], ◌++◌, codes, decimal}
use Rattle.ps_sum.specs.Texts.{fraction_text}
use Rattle.ps_sum.proofs.Counting.{Power}
use Rattle.ps_sum.proofs.Texting.{fraction_is}
use Rattle.ps_reply.specs.Verdicts.{turn_text}

turn_is : (u : ℕ) → (u ≡ 0 → ⊥) → fraction_text u ≡ turn_text u
turn_is zero n = absurd (n refl)
turn_is (suc u) n = refl

-- a phase that is not 0 is told as its fraction
pub fraction_told : (u r a b : ℕ) (text : List ℕ) → Power u r → a ≡ u / 2 ^ r → b ≡ 2 ^ (32 - r) → (u ≡ 0 → ⊥) → text ≡ codes "yes phase " ++ (decimal a ++ (codes "/" ++ decimal b)) → text ≡ codes "yes phase " ++ turn_text u
fraction_told u r a b text p ea eb n e =
    let f : decimal a ++ (codes "/" ++ decimal b) ≡ fraction_text u = fraction_is u r a b [] (decimal a ++ (codes "/" ++ decimal b)) p ea eb refl in
    e ∙ ap (λ (t : List ℕ). codes "yes phase " ++ t) (f ∙ turn_is u n)
