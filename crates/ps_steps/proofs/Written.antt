-- Lines written one after the other.
use Rattle.std.proofs.Common.{◌≡◌, ℕ, ◌<◌, ◌≤◌, ◌+◌, refl, sym, ap, ap₂, ◌∙◌, arith, Bool, true, false, List, [], ◌∷◌, ◌++◌, length, take, get_or, codes, decimal, append_assoc, Result, Ok, Err, is_ok, OnOk, cond, Vec, String, Global, vec_items}
use Rattle.std.specs.String.{string_bytes, string_vec}
use Rattle.std.proofs.lemmas.List.{take_more, take_all}
use Rattle.ps_rules.specs.declared.steps.Step.{Step}
use Rattle.ps_rules.specs.declared.steps.Step.TheVariants.{Elim, Hh, Omega}
use Rattle.ps_steps.specs.declared.lines.Line.{Line}
use Rattle.ps_steps.specs.declared.lines.Line.TheVariants.{Head, Leaf, Id, Join, Rewrite, Overlap, End}
use Rattle.ps_steps.specs.Texts.{side_text, step_text, line_text, lines_text}

-- what a push says where it was done
pub pushed : {T E : Type 0} (r : Result T E) (new a b : List ℕ) → new ≡ cond (is_ok r) a b → OnOk r (new ≡ a)
pushed (Ok x) new a b e = e
pushed (Err x) new a b e = tt

pub bytes_are : (v : Vec ℕ Global) (s : String Global) → v ≡ string_vec s → v.items ≡ string_bytes s
bytes_are v s e = ap vec_items e

pub lines_push : (ls : List Line) (l : Line) → lines_text (ls ++ l ∷ []) ≡ lines_text ls ++ (line_text l ++ 10 ∷ [])
unfolding lines_text
lines_push [] l = refl
lines_push (m ∷ ls) l = ap (λ (r : List ℕ). line_text m ++ 10 ∷ r) (lines_push ls l) ∙ sym (append_assoc (line_text m) (10 ∷ lines_text ls) (line_text l ++ 10 ∷ []))

pub write_start : (ls : List Line) → [] ≡ lines_text (take 0 ls)
unfolding lines_text
write_start ls = refl

pub write_next : (ls : List Line) (i : ℕ) (d l : Line) (old new : List ℕ) → i < length ls → new ≡ old ++ (line_text l ++ 10 ∷ []) → l ≡ get_or ls i d → old ≡ lines_text (take i ls) → new ≡ lines_text (take (i + 1) ls)
write_next ls i d l old new h en el eo =
    let t : take (i + 1) ls ≡ take i ls ++ l ∷ [] = take_more ls i d h ∙ ap (λ (y : Line). take i ls ++ y ∷ []) (sym el) in
    en ∙ ap (λ r. r ++ (line_text l ++ 10 ∷ [])) eo ∙ sym (ap lines_text t ∙ lines_push (take i ls) l)

pub write_all : (ls : List Line) (i : ℕ) (out : List ℕ) → length ls ≤ i → out ≡ lines_text (take i ls) → out ≡ lines_text ls
write_all ls i out h e = e ∙ ap lines_text (take_all i ls h)

-- ---- the forms
pub elim_written : (y : ℕ) (old new : List ℕ) (s : Step) → s ≡ Elim y → new ≡ old ++ (codes "elim " ++ (decimal y ++ codes "\n")) → new ≡ old ++ (step_text s ++ 10 ∷ [])
unfolding step_text
elim_written y old new s es e = e ∙ ap (λ (r : List ℕ). old ++ r) (sym (append_assoc (codes "elim ") (decimal y) (codes "\n"))) ∙ sym (ap (λ (t : Step). old ++ (step_text t ++ 10 ∷ [])) es)

pub omega_written : (y : ℕ) (old new : List ℕ) (s : Step) → s ≡ Omega y → new ≡ old ++ (codes "omega " ++ (decimal y ++ codes "\n")) → new ≡ old ++ (step_text s ++ 10 ∷ [])
unfolding step_text
omega_written y old new s es e = e ∙ ap (λ (r : List ℕ). old ++ r) (sym (append_assoc (codes "omega ") (decimal y) (codes "\n"))) ∙ sym (ap (λ (t : Step). old ++ (step_text t ++ 10 ∷ [])) es)

pub hh_written : (y z : ℕ) (old new : List ℕ) (s : Step) → s ≡ Hh y z → new ≡ old ++ (codes "hh " ++ (decimal y ++ (codes " " ++ (decimal z ++ codes "\n")))) → new ≡ old ++ (step_text s ++ 10 ∷ [])
unfolding step_text
hh_written y z old new s es e =
    e ∙ ap (λ (r : List ℕ). old ++ (codes "hh " ++ r)) (sym (append_assoc (decimal y) (codes " " ++ decimal z) (codes "\n")))
    ∙ sym (ap (λ (t : Step). old ++ (step_text t ++ 10 ∷ [])) es)

pub leaf_b_written : (b : Bool) (i : ℕ) (old new : List ℕ) → b ≡ true → new ≡ old ++ (codes "leaf b " ++ (decimal i ++ codes "\n")) → new ≡ old ++ (line_text (Leaf b i) ++ 10 ∷ [])
unfolding line_text side_text
leaf_b_written true i old new h e = e
leaf_b_written false i old new h e = absurd (cc)

pub leaf_a_written : (b : Bool) (i : ℕ) (old new : List ℕ) → b ≡ false → new ≡ old ++ (codes "leaf a " ++ (decimal i ++ codes "\n")) → new ≡ old ++ (line_text (Leaf b i) ++ 10 ∷ [])
unfolding line_text side_text
leaf_a_written false i old new h e = e
leaf_a_written true i old new h e = absurd (cc)

pub head_written : (n : ℕ) (old new : List ℕ) (l : Line) → l ≡ Head n → new ≡ old ++ (codes "pathsum " ++ (decimal n ++ codes "\n")) → new ≡ old ++ (line_text l ++ 10 ∷ [])
unfolding line_text
head_written n old new l el e = e ∙ ap (λ (r : List ℕ). old ++ r) (sym (append_assoc (codes "pathsum ") (decimal n) (codes "\n"))) ∙ sym (ap (λ (t : Line). old ++ (line_text t ++ 10 ∷ [])) el)

pub as_line : (l m : Line) (old new : List ℕ) → l ≡ m → new ≡ old ++ (line_text m ++ 10 ∷ []) → new ≡ old ++ (line_text l ++ 10 ∷ [])
as_line l m old new el e = e ∙ sym (ap (λ (t : Line). old ++ (line_text t ++ 10 ∷ [])) el)

pub id_b_written : (old new : List ℕ) → new ≡ old ++ codes "id b\n" → new ≡ old ++ (line_text (Id true) ++ 10 ∷ [])
unfolding line_text side_text
id_b_written old new e = e

pub id_a_written : (old new : List ℕ) → new ≡ old ++ codes "id a\n" → new ≡ old ++ (line_text (Id false) ++ 10 ∷ [])
unfolding line_text side_text
id_a_written old new e = e

pub join_written : (old new : List ℕ) → new ≡ old ++ codes "join\n" → new ≡ old ++ (line_text Join ++ 10 ∷ [])
unfolding line_text
join_written old new e = e

pub overlap_written : (old new : List ℕ) → new ≡ old ++ codes "overlap\n" → new ≡ old ++ (line_text Overlap ++ 10 ∷ [])
unfolding line_text
overlap_written old new e = e

pub end_written : (old new : List ℕ) → new ≡ old ++ codes "end\n" → new ≡ old ++ (line_text End ++ 10 ∷ [])
unfolding line_text
end_written old new e = e

pub rewrite_written : (s : Step) (old new : List ℕ) → new ≡ old ++ (step_text s ++ 10 ∷ []) → new ≡ old ++ (line_text (Rewrite s) ++ 10 ∷ [])
unfolding line_text
rewrite_written s old new e = e
