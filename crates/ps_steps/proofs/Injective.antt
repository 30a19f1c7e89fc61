-- The text of a line tells the line.
use Rattle.std.proofs.Common.{◌≡◌, ◌≢◌, ℕ, ◌<◌, ◌+◌, ◌^◌, refl, sym, ap, ap₂, ◌∙◌, subst, arith, Bool, true, false, ◌&&◌, ◌||◌, not, nat_eq, nat_lt, List, [], ◌∷◌, ◌++◌, length, drop, get_or, cond, codes, decimal}
use Rattle.std.proofs.lemmas.Bool.{and_parts, and_from}
use Rattle.std.proofs.lemmas.Bool.Decides.{nat_tests}
use Rattle.ps_rules.specs.declared.steps.Step.{Step}
use Rattle.ps_rules.specs.declared.steps.Step.TheVariants.{Elim, Hh, Omega}
use Rattle.ps_steps.specs.declared.lines.Line.{Line}
use Rattle.ps_steps.specs.declared.lines.Line.TheVariants.{Head, Leaf, Id, Join, Rewrite, Overlap, End}
use Rattle.ps_steps.specs.Pieces.{lacks}
use Rattle.ps_steps.specs.Steps.{is_step}
use Rattle.ps_steps.specs.Texts.{side_text, step_text, line_text}
use Rattle.ps_steps.specs.Spelled.{is_line}
use Rattle.ps_steps.proofs.Lacking.{lacks_both, split_once, SameParts, front, back, front_is, back_is}
use Rattle.ps_steps.proofs.Numbers.{value_from, value_decimal, decimal_lacks}

-- ---- bounds
pub below : (n b : ℕ) → nat_lt n b ≡ true → n < b
below n b h = grind (arith, nat_tests)

pub is_below : (n b : ℕ) → n < b → nat_lt n b ≡ true
is_below n b h = grind (arith, nat_tests)

pub is_one : (n : ℕ) → nat_eq n 1 ≡ true → n ≡ 1
is_one n h = grind (arith, nat_tests)

-- ---- the line that a text is, told by its second byte
unfoldable line_from : List ℕ → Line
line_from [] = End
line_from (a ∷ []) = End
line_from (a ∷ b ∷ rest) =
    cond (nat_eq b 97) (Head (value_from 0 (drop 6 rest)))
    (cond (nat_eq b 101) (Leaf (nat_eq (get_or rest 3 0) 98) (value_from 0 (drop 5 rest)))
    (cond (nat_eq b 100) (Id (nat_eq (get_or rest 1 0) 98))
    (cond (nat_eq b 111) Join
    (cond (nat_eq b 108) (Rewrite (Elim (value_from 0 (drop 3 rest))))
    (cond (nat_eq b 104) (Rewrite (Hh (value_from 0 (front 32 (drop 1 rest))) (value_from 0 (back 32 (drop 1 rest)))))
    (cond (nat_eq b 109) (Rewrite (Omega (value_from 0 (drop 4 rest))))
    (cond (nat_eq b 118) Overlap End)))))))

line_back : (l : Line) → is_line l ≡ true → line_from (line_text l) ≡ l
unfolding line_from line_text side_text step_text is_line is_step
line_back (Head n) h = ap Head (value_decimal n (let e = is_one n h in omega (arith, e)))
line_back (Leaf true i) h = ap (Leaf true) (value_decimal i (let e = below i 4294967296 h in omega (arith, e)))
line_back (Leaf false i) h = ap (Leaf false) (value_decimal i (let e = below i 4294967296 h in omega (arith, e)))
line_back (Id true) h = refl
line_back (Id false) h = refl
line_back Join h = refl
line_back (Rewrite (Elim y)) h = ap (λ (n : ℕ). Rewrite (Elim n)) (value_decimal y (let e = below y 65536 h in omega (arith, e)))
line_back (Rewrite (Hh y z)) h =
    let b : y < 65536 = below y 65536 (and_parts (nat_lt y 65536) (nat_lt z 65536) h).0 in
    let c : z < 65536 = below z 65536 (and_parts (nat_lt y 65536) (nat_lt z 65536) h).1 in
    let k : lacks 32 (decimal y) ≡ true = decimal_lacks 32 y (omega arith) (omega (arith, b)) in
    let f : value_from 0 (front 32 (decimal y ++ 32 ∷ decimal z)) ≡ y = ap (value_from 0) (front_is 32 (decimal y) (decimal z) k) ∙ value_decimal y (omega (arith, b)) in
    let g : value_from 0 (back 32 (decimal y ++ 32 ∷ decimal z)) ≡ z = ap (value_from 0) (back_is 32 (decimal y) (decimal z) k) ∙ value_decimal z (omega (arith, c)) in
    ap₂ (λ (m n : ℕ). Rewrite (Hh m n)) f g
line_back (Rewrite (Omega y)) h = ap (λ (n : ℕ). Rewrite (Omega n)) (value_decimal y (let e = below y 65536 h in omega (arith, e)))
line_back Overlap h = refl
line_back End h = refl

pub one_line : (l m : Line) → is_line l ≡ true → is_line m ≡ true → line_text l ≡ line_text m → l ≡ m
one_line l m p q e = sym (line_back l p) ∙ ap line_from e ∙ line_back m q

-- ---- no LF stands in a line
side_lacks : (b : Bool) → lacks 10 (side_text b) ≡ true
unfolding side_text
side_lacks true = refl
side_lacks false = refl

step_lacks : (s : Step) → is_step s ≡ true → lacks 10 (step_text s) ≡ true
unfolding step_text is_step
step_lacks (Elim y) h = lacks_both 10 (codes "elim ") (decimal y) refl (decimal_lacks 10 y (omega arith) (let e = below y 65536 h in omega (arith, e)))
step_lacks (Hh y z) h =
    let b : y < 65536 = below y 65536 (and_parts (nat_lt y 65536) (nat_lt z 65536) h).0 in
    let c : z < 65536 = below z 65536 (and_parts (nat_lt y 65536) (nat_lt z 65536) h).1 in
    lacks_both 10 (codes "hh ") (decimal y ++ (codes " " ++ decimal z)) refl (lacks_both 10 (decimal y) (codes " " ++ decimal z) (decimal_lacks 10 y (omega arith) (omega (arith, b))) (lacks_both 10 (codes " ") (decimal z) refl (decimal_lacks 10 z (omega arith) (omega (arith, c)))))
step_lacks (Omega y) h = lacks_both 10 (codes "omega ") (decimal y) refl (decimal_lacks 10 y (omega arith) (let e = below y 65536 h in omega (arith, e)))

pub line_lacks : (l : Line) → is_line l ≡ true → lacks 10 (line_text l) ≡ true
unfolding line_text is_line
line_lacks (Head n) h = lacks_both 10 (codes "pathsum ") (decimal n) refl (decimal_lacks 10 n (omega arith) (let e = is_one n h in omega (arith, e)))
line_lacks (Leaf b i) h =
    lacks_both 10 (codes "leaf ") (side_text b ++ (codes " " ++ decimal i)) refl (lacks_both 10 (side_text b) (codes " " ++ decimal i) (side_lacks b) (lacks_both 10 (codes " ") (decimal i) refl (decimal_lacks 10 i (omega arith) (let e = below i 4294967296 h in omega (arith, e)))))
line_lacks (Id b) h = lacks_both 10 (codes "id ") (side_text b) refl (side_lacks b)
line_lacks Join h = refl
line_lacks (Rewrite s) h = step_lacks s h
line_lacks Overlap h = refl
line_lacks End h = refl

-- ---- two lines at the front of the same bytes are one
pub record OneLine (l m : Line) (x y : List ℕ) : Type 0 where
  pub line : l ≡ m
  pub rest : x ≡ y

pub first_line : (l m : Line) (x y : List ℕ) → is_line l ≡ true → is_line m ≡ true → line_text l ++ 10 ∷ x ≡ line_text m ++ 10 ∷ y → OneLine l m x y
first_line l m x y p q e =
    let s : SameParts (line_text l) (line_text m) x y = split_once 10 (line_text l) (line_text m) x y (line_lacks l p) (line_lacks m q) e in
    record { line = one_line l m p q s.front; rest = s.back }
