-- Pieces that a mark ends.
use Rattle.std.proofs.Common.{◌≡◌, ◌≢◌, ℕ, ◌<◌, ◌+◌, refl, sym, ap, ◌∙◌, arith, Bool, true, false, ◌&&◌, not, nat_eq, List, [], ◌∷◌, ◌++◌, cond}
use Rattle.std.specs.List.{list_all}
use Rattle.std.proofs.lemmas.Bool.{and_parts, and_from}
use Rattle.std.proofs.lemmas.Bool.Decides.{nat_tests}
use Rattle.std.proofs.lemmas.List.Folds.{list_all-append}
use Rattle.ps_steps.specs.Pieces.{lacks}

pub other_mark : (b mark : ℕ) → not (nat_eq b mark) ≡ true → b ≡ mark → ⊥
other_mark b mark h e = grind (arith, nat_tests)

pub mark_differs : (b mark : ℕ) → b ≢ mark → not (nat_eq b mark) ≡ true
mark_differs b mark h = grind (arith, nat_tests)

pub mark_equals : (mark : ℕ) → not (nat_eq mark mark) ≡ false
mark_equals mark = grind (arith, nat_tests)

pub lacks_both : (mark : ℕ) (a b : List ℕ) → lacks mark a ≡ true → lacks mark b ≡ true → lacks mark (a ++ b) ≡ true
lacks_both mark a b p q = list_all-append (λ c. not (nat_eq c mark)) a b ∙ and_from _ _ p q

pub has_mark : (mark : ℕ) (a rest : List ℕ) → lacks mark (a ++ mark ∷ rest) ≡ false
has_mark mark [] rest = ap (λ t. t && lacks mark rest) (mark_equals mark)
has_mark mark (b ∷ a) rest = ap (λ t. not (nat_eq b mark) && t) (has_mark mark a rest) ∙ and_no (not (nat_eq b mark))
  where
    and_no : (t : Bool) → (t && false) ≡ false
    and_no true = refl
    and_no false = refl

pub not_both : (b : Bool) → b ≡ true → b ≡ false → ⊥
not_both b p q = absurd (cc)

pub no_mark : (mark : ℕ) (bytes a rest : List ℕ) → lacks mark bytes ≡ true → bytes ≡ a ++ mark ∷ rest → ⊥
no_mark mark bytes a rest h e = not_both (lacks mark bytes) h (ap (lacks mark) e ∙ has_mark mark a rest)

pub record SameParts (a b x y : List ℕ) : Type 0 where
  pub front : a ≡ b
  pub back : x ≡ y

pub split_once : (mark : ℕ) (a b x y : List ℕ) → lacks mark a ≡ true → lacks mark b ≡ true → a ++ mark ∷ x ≡ b ++ mark ∷ y → SameParts a b x y
split_once mark [] [] x y p q e = record { front = refl; back = cc }
split_once mark [] (c ∷ b) x y p q e = absurd (other_mark c mark (and_parts _ _ q).0 (cc))
split_once mark (c ∷ a) [] x y p q e = absurd (other_mark c mark (and_parts _ _ p).0 (cc))
split_once mark (c ∷ a) (d ∷ b) x y p q e =
    let first : c ≡ d = cc in
    let rest : a ++ mark ∷ x ≡ b ++ mark ∷ y = cc in
    let s : SameParts a b x y = split_once mark a b x y (and_parts _ _ p).1 (and_parts _ _ q).1 rest in
    record { front = ap (λ z. z ∷ a) first ∙ ap (λ (l : List ℕ). d ∷ l) s.front; back = s.back }

-- the bytes before the first mark, and behind it
unfoldable pub front : ℕ → List ℕ → List ℕ
front mark [] = []
front mark (b ∷ bs) = cond (nat_eq b mark) [] (b ∷ front mark bs)

unfoldable pub back : ℕ → List ℕ → List ℕ
back mark [] = []
back mark (b ∷ bs) = cond (nat_eq b mark) bs (back mark bs)

not_is : (t : Bool) → not t ≡ true → t ≡ false
not_is true h = absurd (cc)
not_is false h = refl

same_mark : (mark : ℕ) → nat_eq mark mark ≡ true
same_mark mark = grind (arith, nat_tests)

pub front_is : (mark : ℕ) (a rest : List ℕ) → lacks mark a ≡ true → front mark (a ++ mark ∷ rest) ≡ a
unfolding front
front_is mark [] rest h = ap (λ t. cond t [] (mark ∷ front mark rest)) (same_mark mark)
front_is mark (b ∷ a) rest h =
    ap (λ t. cond t [] (b ∷ front mark (a ++ mark ∷ rest))) (not_is _ (and_parts _ _ h).0) ∙ ap (λ (l : List ℕ). b ∷ l) (front_is mark a rest (and_parts _ _ h).1)

pub back_is : (mark : ℕ) (a rest : List ℕ) → lacks mark a ≡ true → back mark (a ++ mark ∷ rest) ≡ rest
unfolding back
back_is mark [] rest h = ap (λ t. cond t rest (back mark rest)) (same_mark mark)
back_is mark (b ∷ a) rest h =
    ap (λ t. cond t (a ++ mark ∷ rest) (back mark (a ++ mark ∷ rest))) (not_is _ (and_parts _ _ h).0) ∙ back_is mark a rest (and_parts _ _ h).1
