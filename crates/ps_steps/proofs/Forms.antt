-- Which line a piece spells.
use Rattle.std.proofs.Common.{◌≡◌, ◌≢◌, ℕ, ◌<◌, ◌≤◌, ◌+◌, ◌-◌, refl, sym, ap, ap₂, ◌∙◌, subst, arith, Bool, true, false, ◌&&◌, ◌||◌, not, nat_eq, nat_lt, List, [], ◌∷◌, ◌++◌, length, take, drop, get_or, codes, decimal, append_assoc, take-append-drop}
use mathlib.Core.Bool.{beq}
use Rattle.std.proofs.lemmas.Bool.{and_parts, and_from}
use Rattle.std.proofs.lemmas.Bool.Decides.{nat_tests}
use Rattle.std.proofs.lemmas.Fmt.{decimal_digit}
use Rattle.std.proofs.lemmas.List.{append_cancel_left}
use Rattle.ps_rules.specs.declared.steps.Step.{Step}
use Rattle.ps_rules.specs.declared.steps.Step.TheVariants.{Elim, Hh, Omega}
use Rattle.ps_steps.specs.declared.lines.Line.{Line}
use Rattle.ps_steps.specs.declared.lines.Line.TheVariants.{Head, Leaf, Id, Join, Rewrite, Overlap, End}
use Rattle.ps_steps.specs.Pieces.{lacks, Splits, SpellsBelow, SpellsNone}
use Rattle.ps_steps.specs.Steps.{is_head, is_inner, is_end, is_step}
use Rattle.ps_steps.specs.Texts.{side_text, step_text, line_text}
use Rattle.ps_steps.specs.Spelled.{is_line, is_word, is_any_head, may_stand, Spells, NoWord, NoLeaf, SpellsStep, NoStep, NoLine, StandsThere, NoneStands, IsPair, NoPair}
use Rattle.ps_steps.proofs.Lacking.{split_once, SameParts, no_mark}
use Rattle.ps_steps.proofs.Numbers.{decimal_lacks}
use Rattle.ps_steps.proofs.Injective.{below, is_below, is_one, one_line}
use Rattle.ps_steps.proofs.Ordering.{standing_line}

-- ---- words
head_text : line_text (Head 1) ≡ codes "pathsum 1"
unfolding line_text
head_text = ap (λ (r : List ℕ). codes "pathsum " ++ r) (decimal_digit 1 (omega arith))

pub spells_head : (piece : List ℕ) → piece ≡ codes "pathsum 1" → Spells piece (Head 1)
unfolding is_line
spells_head piece e = record { spelled = head_text ∙ sym e; formed = refl }

pub spells_id : (piece : List ℕ) (b : Bool) → piece ≡ codes "id " ++ side_text b → Spells piece (Id b)
unfolding is_line line_text
spells_id piece b e = record { spelled = sym e; formed = refl }

pub spells_id_a : (piece : List ℕ) → piece ≡ codes "id a" → Spells piece (Id false)
unfolding side_text
spells_id_a piece e = spells_id piece false e

pub spells_id_b : (piece : List ℕ) → piece ≡ codes "id b" → Spells piece (Id true)
unfolding side_text
spells_id_b piece e = spells_id piece true e

pub spells_join : (piece : List ℕ) → piece ≡ codes "join" → Spells piece Join
unfolding is_line line_text
spells_join piece e = record { spelled = sym e; formed = refl }

pub spells_overlap : (piece : List ℕ) → piece ≡ codes "overlap" → Spells piece Overlap
unfolding is_line line_text
spells_overlap piece e = record { spelled = sym e; formed = refl }

pub spells_end : (piece : List ℕ) → piece ≡ codes "end" → Spells piece End
unfolding is_line line_text
spells_end piece e = record { spelled = sym e; formed = refl }

pub no_word : (piece : List ℕ) → piece ≢ codes "pathsum 1" → piece ≢ codes "id a" → piece ≢ codes "id b" → piece ≢ codes "join" → piece ≢ codes "overlap" → piece ≢ codes "end" → NoWord piece
unfolding is_word is_line line_text side_text
no_word piece h a b j o e (Head n) w f s = h (sym s ∙ ap (λ (k : ℕ). codes "pathsum " ++ decimal k) (is_one n f) ∙ ap (λ (r : List ℕ). codes "pathsum " ++ r) (decimal_digit 1 (omega arith)))
no_word piece h a b j o e (Leaf c i) w f s = absurd (cc)
no_word piece h a b j o e (Id true) w f s = b (sym s)
no_word piece h a b j o e (Id false) w f s = a (sym s)
no_word piece h a b j o e Join w f s = j (sym s)
no_word piece h a b j o e (Rewrite s') w f s = absurd (cc)
no_word piece h a b j o e Overlap w f s = o (sym s)
no_word piece h a b j o e End w f s = e (sym s)

-- ---- leaves
pub leaf_a : (piece digits : List ℕ) (v : ℕ) → piece ≡ codes "leaf a " ++ digits → SpellsBelow 4294967296 digits v → Spells piece (Leaf false v)
unfolding line_text side_text is_line
leaf_a piece digits v e s = record { spelled = ap (λ (r : List ℕ). codes "leaf a " ++ r) s.spelled ∙ sym e; formed = is_below v 4294967296 s.below }

pub leaf_b : (piece digits : List ℕ) (v : ℕ) → piece ≡ codes "leaf b " ++ digits → SpellsBelow 4294967296 digits v → Spells piece (Leaf true v)
unfolding line_text side_text is_line
leaf_b piece digits v e s = record { spelled = ap (λ (r : List ℕ). codes "leaf b " ++ r) s.spelled ∙ sym e; formed = is_below v 4294967296 s.below }

first_differs : (a b : ℕ) (x y : List ℕ) → nat_eq a b ≡ false → a ∷ x ≡ b ∷ y → ⊥
first_differs a b x y h e = let f : a ≡ b = ap (λ l. get_or l 0 0) e in differs a b h f
  where
    differs : (a b : ℕ) → nat_eq a b ≡ false → a ≡ b → ⊥
    differs a b h f = grind (arith, nat_tests)

leaf_rest : (b : Bool) (i : ℕ) (piece : List ℕ) → line_text (Leaf b i) ≡ piece → piece ≡ codes "leaf " ++ (side_text b ++ (codes " " ++ decimal i))
unfolding line_text
leaf_rest b i piece s = sym s

a_for_b : (i : ℕ) (digits : List ℕ) → codes "leaf b " ++ decimal i ≡ codes "leaf a " ++ digits → ⊥
a_for_b i digits e = let f = append_cancel_left (codes "leaf ") (codes "b " ++ decimal i) (codes "a " ++ digits) e in first_differs 98 97 (codes " " ++ decimal i) (codes " " ++ digits) refl f

pub leaf_a_none : (piece digits : List ℕ) → piece ≡ codes "leaf a " ++ digits → SpellsNone 4294967296 digits → NoLeaf piece
unfolding line_text side_text
leaf_a_none piece digits e n true i h s = a_for_b i digits (s ∙ e)
leaf_a_none piece digits e n false i h s = n i h (append_cancel_left (codes "leaf a ") (decimal i) digits (s ∙ e))

pub leaf_b_none : (piece digits : List ℕ) → ((rest : List ℕ) → piece ≢ codes "leaf a " ++ rest) → piece ≡ codes "leaf b " ++ digits → SpellsNone 4294967296 digits → NoLeaf piece
unfolding line_text side_text
leaf_b_none piece digits o e n true i h s = n i h (append_cancel_left (codes "leaf b ") (decimal i) digits (s ∙ e))
leaf_b_none piece digits o e n false i h s = o (decimal i) (sym s)

pub leaf_none : (piece : List ℕ) → ((rest : List ℕ) → piece ≢ codes "leaf a " ++ rest) → ((rest : List ℕ) → piece ≢ codes "leaf b " ++ rest) → NoLeaf piece
unfolding line_text side_text
leaf_none piece a b true i h s = b (decimal i) (sym s)
leaf_none piece a b false i h s = a (decimal i) (sym s)

-- ---- two path variables
pub pair_unparted : (digits : List ℕ) → lacks 32 digits ≡ true → NoPair digits
pair_unparted digits h y z p = no_mark 32 digits (decimal y) (decimal z) h (sym p.spelled)

pair_parts : (digits piece rest : List ℕ) (y z : ℕ) → Splits 32 digits piece rest → IsPair digits y z → SameParts (decimal y) piece (decimal z) rest
pair_parts digits piece rest y z s p = split_once 32 (decimal y) piece (decimal z) rest (decimal_lacks 32 y (omega arith) (omega (arith, p.first_below))) s.whole (p.spelled ∙ s.parted)

pub pair_first_none : (digits piece rest : List ℕ) → Splits 32 digits piece rest → SpellsNone 65536 piece → NoPair digits
pair_first_none digits piece rest s n y z p = let q : SameParts (decimal y) piece (decimal z) rest = pair_parts digits piece rest y z s p in n y p.first_below q.front

pub pair_second_none : (digits piece rest : List ℕ) → Splits 32 digits piece rest → SpellsNone 65536 rest → NoPair digits
pair_second_none digits piece rest s n y z p = let q : SameParts (decimal y) piece (decimal z) rest = pair_parts digits piece rest y z s p in n z p.second_below q.back

pub pair_is : (digits piece rest : List ℕ) (y z : ℕ) → Splits 32 digits piece rest → SpellsBelow 65536 piece y → SpellsBelow 65536 rest z → IsPair digits y z
pair_is digits piece rest y z s p q = record { spelled = ap₂ (λ (a b : List ℕ). a ++ 32 ∷ b) p.spelled q.spelled ∙ sym s.parted; first_below = p.below; second_below = q.below }

-- ---- steps
pub step_elim : (piece digits : List ℕ) (y : ℕ) → piece ≡ codes "elim " ++ digits → SpellsBelow 65536 digits y → SpellsStep piece (Elim y)
unfolding step_text is_step
step_elim piece digits y e s = record { spelled = ap (λ (r : List ℕ). codes "elim " ++ r) s.spelled ∙ sym e; formed = is_below y 65536 s.below }

pub step_omega : (piece digits : List ℕ) (y : ℕ) → piece ≡ codes "omega " ++ digits → SpellsBelow 65536 digits y → SpellsStep piece (Omega y)
unfolding step_text is_step
step_omega piece digits y e s = record { spelled = ap (λ (r : List ℕ). codes "omega " ++ r) s.spelled ∙ sym e; formed = is_below y 65536 s.below }

pub step_hh : (piece digits : List ℕ) (y z : ℕ) → piece ≡ codes "hh " ++ digits → IsPair digits y z → SpellsStep piece (Hh y z)
unfolding step_text is_step
step_hh piece digits y z e s = record { spelled = ap (λ (r : List ℕ). codes "hh " ++ r) s.spelled ∙ sym e; formed = and_from (nat_lt y 65536) (nat_lt z 65536) (is_below y 65536 s.first_below) (is_below z 65536 s.second_below) }

pub elim_none : (piece digits : List ℕ) → piece ≡ codes "elim " ++ digits → SpellsNone 65536 digits → NoStep piece
unfolding step_text is_step
elim_none piece digits e n (Elim y) h s = n y (below y 65536 h) (append_cancel_left (codes "elim ") (decimal y) digits (s ∙ e))
elim_none piece digits e n (Hh y z) h s = first_differs 104 101 (codes "h " ++ (decimal y ++ (codes " " ++ decimal z))) (codes "lim " ++ digits) refl (s ∙ e)
elim_none piece digits e n (Omega y) h s = first_differs 111 101 (codes "mega " ++ decimal y) (codes "lim " ++ digits) refl (s ∙ e)

pub omega_none : (piece digits : List ℕ) → piece ≡ codes "omega " ++ digits → SpellsNone 65536 digits → NoStep piece
unfolding step_text is_step
omega_none piece digits e n (Elim y) h s = first_differs 101 111 (codes "lim " ++ decimal y) (codes "mega " ++ digits) refl (s ∙ e)
omega_none piece digits e n (Hh y z) h s = first_differs 104 111 (codes "h " ++ (decimal y ++ (codes " " ++ decimal z))) (codes "mega " ++ digits) refl (s ∙ e)
omega_none piece digits e n (Omega y) h s = n y (below y 65536 h) (append_cancel_left (codes "omega ") (decimal y) digits (s ∙ e))

pub step_other : (piece : List ℕ) → ((rest : List ℕ) → piece ≢ codes "elim " ++ rest) → ((rest : List ℕ) → piece ≢ codes "omega " ++ rest) → ((rest : List ℕ) → piece ≢ codes "hh " ++ rest) → NoStep piece
unfolding step_text
step_other piece a b c (Elim y) h s = a (decimal y) (sym s)
step_other piece a b c (Hh y z) h s = c (decimal y ++ (codes " " ++ decimal z)) (sym s)
step_other piece a b c (Omega y) h s = b (decimal y) (sym s)

pub hh_none : (piece digits : List ℕ) → piece ≡ codes "hh " ++ digits → NoPair digits → NoStep piece
unfolding step_text is_step
hh_none piece digits e n (Elim y) h s = first_differs 101 104 (codes "lim " ++ decimal y) (codes "h " ++ digits) refl (s ∙ e)
hh_none piece digits e n (Hh y z) h s = n y z (record {
  spelled = append_cancel_left (codes "hh ") (decimal y ++ (codes " " ++ decimal z)) digits (s ∙ e);
  first_below = below y 65536 (and_parts (nat_lt y 65536) (nat_lt z 65536) h).0;
  second_below = below z 65536 (and_parts (nat_lt y 65536) (nat_lt z 65536) h).1;
})
hh_none piece digits e n (Omega y) h s = first_differs 111 104 (codes "mega " ++ decimal y) (codes "h " ++ digits) refl (s ∙ e)

-- ---- lines
pub line_step : (piece : List ℕ) (s : Step) → SpellsStep piece s → Spells piece (Rewrite s)
unfolding line_text is_line
line_step piece s h = record { spelled = h.spelled; formed = h.formed }

pub line_none : (piece : List ℕ) → NoWord piece → NoLeaf piece → NoStep piece → NoLine piece
unfolding is_line is_word line_text
line_none piece w f s (Head n) h e = w (Head n) refl h e
line_none piece w f s (Leaf b i) h e = f b i (below i 4294967296 h) e
line_none piece w f s (Id b) h e = w (Id b) refl refl e
line_none piece w f s Join h e = w Join refl refl e
line_none piece w f s (Rewrite t) h e = s t h e
line_none piece w f s Overlap h e = w Overlap refl refl e
line_none piece w f s End h e = w End refl refl e

-- ---- lines where they may stand
pub end_is : (l : Line) → l ≡ End → true ≡ is_end l
unfolding is_end
end_is l e = sym (ap is_end e)

pub not_end : (l : Line) → (l ≡ End → ⊥) → false ≡ is_end l
unfolding is_end
not_end (Head n) h = refl
not_end (Leaf b i) h = refl
not_end (Id b) h = refl
not_end Join h = refl
not_end (Rewrite s) h = refl
not_end Overlap h = refl
not_end End h = absurd (h refl)

pub head_is : (l : Line) (n : ℕ) → l ≡ Head n → true ≡ is_any_head l
unfolding is_any_head
head_is l n e = sym (ap is_any_head e)

pub not_head : (l : Line) → ((n : ℕ) → l ≡ Head n → ⊥) → false ≡ is_any_head l
unfolding is_any_head
not_head (Head n) h = absurd (h n refl)
not_head (Leaf b i) h = refl
not_head (Id b) h = refl
not_head Join h = refl
not_head (Rewrite s) h = refl
not_head Overlap h = refl
not_head End h = refl

or_none : (t : Bool) → t ≡ true → (t || false) ≡ true
or_none true e = refl
or_none false e = e

stands_at : (first : Bool) (l : Line) → is_line l ≡ true → is_any_head l ≡ first → may_stand first l ≡ true
unfolding is_line is_any_head may_stand is_head is_inner is_end
stands_at true (Head n) h e = h
stands_at true (Leaf b i) h e = absurd (cc)
stands_at true (Id b) h e = absurd (cc)
stands_at true Join h e = absurd (cc)
stands_at true (Rewrite s) h e = absurd (cc)
stands_at true Overlap h e = absurd (cc)
stands_at true End h e = absurd (cc)
stands_at false (Head n) h e = absurd (cc)
stands_at false (Leaf b i) h e = or_none _ h
stands_at false (Id b) h e = refl
stands_at false Join h e = refl
stands_at false (Rewrite s) h e = or_none _ h
stands_at false Overlap h e = refl
stands_at false End h e = refl

at_stand : (first : Bool) (l : Line) → may_stand first l ≡ true → is_any_head l ≡ first
unfolding is_any_head may_stand is_head is_inner is_end
at_stand true (Head n) h = refl
at_stand true (Leaf b i) h = absurd (cc)
at_stand true (Id b) h = absurd (cc)
at_stand true Join h = absurd (cc)
at_stand true (Rewrite s) h = absurd (cc)
at_stand true Overlap h = absurd (cc)
at_stand true End h = absurd (cc)
at_stand false (Head n) h = absurd (cc)
at_stand false (Leaf b i) h = refl
at_stand false (Id b) h = refl
at_stand false Join h = refl
at_stand false (Rewrite s) h = refl
at_stand false Overlap h = refl
at_stand false End h = refl

pub stands_there : (first : Bool) (piece : List ℕ) (l : Line) → Spells piece l → is_any_head l ≡ first → StandsThere first piece l
stands_there first piece l s e = record { spelled = s.spelled; stands = stands_at first l s.formed e }

pub none_spelled : (first : Bool) (piece : List ℕ) → NoLine piece → NoneStands first piece
none_spelled first piece n l h e = n l (standing_line first l h) e

-- a piece spells one line alone, so where that may not stand none does
pub none_of : (first head : Bool) (piece : List ℕ) (l : Line) → Spells piece l → head ≡ is_any_head l → (head ≡ first → ⊥) → NoneStands first piece
none_of first head piece l s e h m g f =
    let k : m ≡ l = one_line m l (standing_line first m g) s.formed (f ∙ sym s.spelled) in
    h (e ∙ sym (ap is_any_head k) ∙ at_stand first m g)

pub same_bool : (a b : Bool) → beq a b ≡ true → a ≡ b
same_bool true true e = refl
same_bool true false e = absurd (cc)
same_bool false true e = absurd (cc)
same_bool false false e = refl

pub other_bool : (a b : Bool) → beq a b ≡ false → a ≡ b → ⊥
other_bool true true e f = absurd (cc)
other_bool true false e f = absurd (cc)
other_bool false true e f = absurd (cc)
other_bool false false e f = absurd (cc)
