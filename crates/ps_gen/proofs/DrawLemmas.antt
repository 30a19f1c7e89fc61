-- Laws of the applications that are drawn.
use Rattle.std.proofs.Common.{ℕ, zero, suc, ◌≡◌, ◌<◌, ◌≤◌, ◌+◌, ◌-◌, List, [], ◌∷◌, ◌++◌, length, refl, ap, sym, ◌∙◌, arith}
use Rattle.std.proofs.lemmas.List.{append_assoc, append-nil}
use Rattle.ps_gen.specs.declared.applications.Application.{Application}
use Rattle.ps_gen.specs.Draws.{applications, chosen, third_number}

-- there are as many as were asked for
pub drawn_count : (qubits n x : ℕ) → length (applications qubits n x) ≡ n
unfolding applications
drawn_count qubits zero x = refl
drawn_count qubits (suc n) x = let h = drawn_count qubits n (third_number x) in omega arith

one_more : (qubits m x : ℕ) → applications qubits (suc m) x ≡ chosen qubits x ∷ applications qubits m (third_number x)
unfolding applications
one_more qubits m x = refl

-- the first of what is still to be drawn, and the others
pub draw_one : (qubits n i x : ℕ) → i < n → applications qubits (n - i) x ≡ chosen qubits x ∷ applications qubits (n - (i + 1)) (third_number x)
draw_one qubits n i x below =
    let e : n - i ≡ suc (n - (i + 1)) = omega arith in
    ap (λ k. applications qubits k x) e ∙ one_more qubits (n - (i + 1)) x

-- what is drawn goes behind what was drawn before
pub drawn_step : (qubits n i x x' : ℕ) (done done' all : List Application) (drawn : Application) → i < n → done ++ applications qubits (n - i) x ≡ all
    → drawn ≡ chosen qubits x → x' ≡ third_number x → done' ≡ done ++ drawn ∷ [] → done' ++ applications qubits (n - (i + 1)) x' ≡ all
drawn_step qubits n i x x' done done' all drawn below so is next more =
    let rest = applications qubits (n - (i + 1)) (third_number x) in
    let front : applications qubits (n - i) x ≡ chosen qubits x ∷ rest = draw_one qubits n i x below in
    rw (more, next, is) (append_assoc done (chosen qubits x ∷ []) rest ∙ ap (λ t. done ++ t) (sym front) ∙ so)

-- all is drawn
pub drawn_all : (qubits n i x : ℕ) (done all : List Application) → n ≤ i → done ++ applications qubits (n - i) x ≡ all → done ≡ all
unfolding applications
drawn_all qubits n i x done all past so =
    let e : n - i ≡ 0 = omega arith in
    let none : applications qubits (n - i) x ≡ [] = ap (λ k. applications qubits k x) e in
    sym (append-nil done) ∙ ap (λ t. done ++ t) (sym none) ∙ so
