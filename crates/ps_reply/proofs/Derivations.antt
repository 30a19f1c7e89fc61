-- The lines of a derivation, with LF in front of each or behind each.
use Rattle.std.proofs.Common.{◌≡◌, ℕ, suc, ◌+◌, ◌-◌, refl, ap, ap₂, sym, ◌∙◌, arith, List, [], ◌∷◌, ◌++◌, length, take, append_assoc, codes, decimal}
use Rattle.std.proofs.lemmas.List.{length-append}
use Rattle.ps_steps.specs.declared.lines.Line.{Line}
use Rattle.ps_steps.specs.Texts.{line_text, lines_text}
use Rattle.ps_reply.specs.Replies.{derivation_lines, proof_text}

lines_end : (ls : List Line) → 10 ∷ lines_text ls ≡ derivation_lines ls ++ 10 ∷ []
unfolding lines_text
lines_end [] = refl
lines_end (l ∷ ls) =
    ap (λ (r : List ℕ). 10 ∷ (line_text l ++ r)) (lines_end ls)
    ∙ sym (append_assoc (10 ∷ line_text l) (derivation_lines ls) (10 ∷ []))

take_front : (xs ys : List ℕ) → take (length xs) (xs ++ ys) ≡ xs
take_front [] ys = refl
take_front (x ∷ xs) ys = ap (λ (r : List ℕ). x ∷ r) (take_front xs ys)

take_init : (xs : List ℕ) (x : ℕ) → take (length (xs ++ x ∷ []) - 1) (xs ++ x ∷ []) ≡ xs
take_init xs x =
    let e : length (xs ++ x ∷ []) - 1 ≡ length xs = ap (λ n. n - 1) (length-append xs (x ∷ [])) ∙ omega arith in
    ap (λ n. take n (xs ++ x ∷ [])) e ∙ take_front xs (x ∷ [])

-- without the last LF, and with one in front
pub lines_between : (l : Line) (ls : List Line) → 10 ∷ take (length (lines_text (l ∷ ls)) - 1) (lines_text (l ∷ ls)) ≡ derivation_lines (l ∷ ls)
unfolding lines_text
lines_between l ls =
    let e : lines_text (l ∷ ls) ≡ (line_text l ++ derivation_lines ls) ++ 10 ∷ [] =
    ap (λ (r : List ℕ). line_text l ++ r) (lines_end ls) ∙ sym (append_assoc (line_text l) (derivation_lines ls) (10 ∷ [])) in
    ap (λ (r : List ℕ). 10 ∷ take (length r - 1) r) e ∙ ap (λ (r : List ℕ). 10 ∷ r) (take_init (line_text l ++ derivation_lines ls) 10)

-- what is written is the text of a derivation that has a line
pub proof_written : (l : Line) (ls : List Line) (n : ℕ) (head lines part out : List ℕ) → n ≡ length (l ∷ ls) → head ≡ codes "proof " ++ (decimal n ++ codes "\n")
    → lines ≡ lines_text (l ∷ ls) → part ≡ take (length lines - 1) lines → out ≡ head ++ part → out ≡ proof_text (l ∷ ls)
proof_written l ls n head lines part out en eh el ep eo =
    eo ∙ ap₂ (λ (a b : List ℕ). a ++ b) eh (ep ∙ ap (λ (r : List ℕ). take (length r - 1) r) el)
    ∙ ap (λ (r : List ℕ). codes "proof " ++ r) (append_assoc (decimal n) (codes "\n") (take (length (lines_text (l ∷ ls)) - 1) (lines_text (l ∷ ls))))
    ∙ ap₂ (λ (k : ℕ) (r : List ℕ). codes "proof " ++ (decimal k ++ r)) en (lines_between l ls)
