-- How long generated blocks are.
use Rattle.std.proofs.Common.{ℕ, zero, suc, ◌≡◌, ◌<◌, ◌≤◌, ◌+◌, ◌*◌, ◌%◌, List, [], ◌∷◌, ◌++◌, length, length-append, refl, ap, ◌∙◌, arith}
use Rattle.std.specs.Prelude.{codes, decimal, reverse}
use Rattle.std.specs.List.{flat_map}
use Rattle.std.proofs.lemmas.Fmt.{length-decimal-le}
use Rattle.std.proofs.lemmas.List.{reverse-append, append-nil}
use Rattle.std.proofs.lemmas.Grind.{flat_map-append}
use Rattle.std.proofs.lemmas.List.Folds.{flat_map-map}
use Rattle.ps_gen.specs.declared.applications.Gate.{Gate}
use Rattle.ps_gen.specs.declared.applications.Gate.TheVariants.{X, S, Sdg, T, Tdg, Cx, Cz, Swap}
use Rattle.ps_gen.specs.declared.applications.Application.{Application}
use Rattle.ps_gen.specs.Draws.{applications, chosen, third_number}
use Rattle.ps_gen.specs.Texts.{line_of, line, mirrored_gate, mirrored, circuit_text, mirror_text}

-- ---- one line
two_digits : (a : ℕ) → a < 16 → length (decimal a) ≤ 2
two_digits a low = length-decimal-le 2 a (omega arith) (omega arith) (omega arith)

one_short : (xs : List ℕ) → length xs ≤ 2 → length (xs ++ codes "];\n") ≤ 5
one_short xs h = omega (arith, length-append xs (codes "];\n"))

two_short : (xs ys : List ℕ) → length xs ≤ 2 → length ys ≤ 2 → length (xs ++ codes "],q[" ++ ys ++ codes "];\n") ≤ 11
two_short xs ys h k =
    let first : length (xs ++ codes "],q[") ≡ length xs + 4 = length-append xs (codes "],q[") in
    let both : length (xs ++ codes "],q[" ++ ys) ≡ length (xs ++ codes "],q[") + length ys = length-append (xs ++ codes "],q[") ys in
    let whole : length (xs ++ codes "],q[" ++ ys ++ codes "];\n") ≡ length (xs ++ codes "],q[" ++ ys) + 3 = length-append (xs ++ codes "],q[" ++ ys) (codes "];\n") in
    omega arith

line_short : (g : Gate) (a b : ℕ) → a < 16 → b < 16 → length (line_of g a b) ≤ 18
line_short X a b h k = omega (arith, one_short (decimal a) (two_digits a h))
line_short S a b h k = omega (arith, one_short (decimal a) (two_digits a h))
line_short Sdg a b h k = omega (arith, one_short (decimal a) (two_digits a h))
line_short T a b h k = omega (arith, one_short (decimal a) (two_digits a h))
line_short Tdg a b h k = omega (arith, one_short (decimal a) (two_digits a h))
line_short Cx a b h k = omega (arith, two_short (decimal a) (decimal b) (two_digits a h) (two_digits b k))
line_short Cz a b h k = omega (arith, two_short (decimal a) (decimal b) (two_digits a h) (two_digits b k))
line_short Swap a b h k = omega (arith, two_short (decimal a) (decimal b) (two_digits a h) (two_digits b k))

-- ---- all lines
remainder_low : (n q : ℕ) → 2 ≤ q → q ≤ 16 → n % q < 16
remainder_low n q least most = omega arith

-- lines of these gates, which may be others than those that were drawn
abbrev with_gates : (Gate → Gate) → Application → List ℕ
with_gates f p = line_of (f p.gate) p.first p.second

drawn_short : (f : Gate → Gate) (q n x : ℕ) → 2 ≤ q → q ≤ 16 → length (flat_map (with_gates f) (applications q n x)) ≤ 18 * n
unfolding applications
drawn_short f q zero x least most = omega arith
drawn_short f q (suc n) x least most =
    let p = chosen q x in
    let rest = flat_map (with_gates f) (applications q n (third_number x)) in
    let here : length (with_gates f p) ≤ 18 = line_short (f p.gate) p.first p.second (remainder_low _ q least most) (remainder_low _ q least most) in
    let others : length rest ≤ 18 * n = drawn_short f q n (third_number x) least most in
    let both : length (with_gates f p ++ rest) ≡ length (with_gates f p) + length rest = length-append (with_gates f p) rest in
    omega arith

-- the order is of no concern
turned_length : {A : Type 0} (f : A → List ℕ) (xs : List A) → length (flat_map f (reverse xs)) ≡ length (flat_map f xs)
turned_length f [] = refl
turned_length f (x ∷ xs) =
    let flipped : reverse (x ∷ xs) ≡ reverse xs ++ x ∷ [] = reverse-append (x ∷ []) xs in
    let parted : flat_map f (reverse xs ++ x ∷ []) ≡ flat_map f (reverse xs) ++ (f x ++ []) = flat_map-append f (reverse xs) (x ∷ []) in
    let before : length (flat_map f (reverse xs) ++ (f x ++ [])) ≡ length (flat_map f (reverse xs)) + length (f x ++ []) = length-append (flat_map f (reverse xs)) (f x ++ []) in
    let behind : length (f x ++ flat_map f xs) ≡ length (f x) + length (flat_map f xs) = length-append (f x) (flat_map f xs) in
    let alone : length (f x ++ []) ≡ length (f x) = ap length (append-nil (f x)) in
    let rest : length (flat_map f (reverse xs)) ≡ length (flat_map f xs) = turned_length f xs in
    let sums : length (flat_map f (reverse xs) ++ (f x ++ [])) ≡ length (f x ++ flat_map f xs) = omega arith in
    ap (λ l. length (flat_map f l)) flipped ∙ ap length parted ∙ sums

-- ---- both blocks
pub circuit_short : (seed qubits items : ℕ) → 2 ≤ qubits → qubits ≤ 16 → length (circuit_text seed qubits items) ≤ 18 * items
circuit_short seed qubits items least most = drawn_short (λ g. g) qubits items seed least most

pub mirror_short : (seed qubits items : ℕ) → 2 ≤ qubits → qubits ≤ 16 → length (mirror_text seed qubits items) ≤ 18 * items
mirror_short seed qubits items least most =
    let drawn = applications qubits items seed in
    let same : mirror_text seed qubits items ≡ flat_map (with_gates mirrored_gate) (reverse drawn) = flat_map-map line mirrored (reverse drawn) in
    let turned : length (flat_map (with_gates mirrored_gate) (reverse drawn)) ≡ length (flat_map (with_gates mirrored_gate) drawn) = turned_length _ drawn in
    let short = drawn_short mirrored_gate qubits items seed least most in
    rw same (omega arith)
