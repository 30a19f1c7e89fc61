-- Journals of an object that counts.
use Rattle.std.proofs.Common.{◌≡◌, ℕ, ◌+◌, ◌==◌, ◌&&◌, Bool, true, false, List, [], ◌∷◌, ◌++◌, length, arith}
use Rattle.std.proofs.lemmas.Bool.Decides.{nat_tests}
use Rattle.ps_desk.specs.declared.entry.Entry.{Entry}
use Rattle.ps_desk.specs.Counting.{is_counted, IsCounted}

more : (n : ℕ) (es : List (Entry ℕ ℕ)) (e : Entry ℕ ℕ) → e.reply ≡ n + length es → is_counted n es ≡ true → is_counted n (es ++ e ∷ []) ≡ true
more n [] e is _ = grind (arith, nat_tests)
more n (x ∷ xs) e is all =
    let F : Bool → Type 0 = λ b. b && is_counted (n + 1) xs ≡ true → b && is_counted (n + 1) (xs ++ e ∷ []) ≡ true in
    (elim (x.reply == n) as F [ true ↦ (λ h. more (n + 1) xs e (omega arith) h) | false ↦ (λ h. h) ]) all

pub is_counted_append : (es : List (Entry ℕ ℕ)) (e : Entry ℕ ℕ) → e.reply ≡ length es → IsCounted es → IsCounted (es ++ e ∷ [])
is_counted_append es e is all = more 0 es e (omega arith) all
