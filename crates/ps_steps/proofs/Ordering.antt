-- Lines in their order.
use Rattle.std.proofs.Common.{◌≡◌, ◌≢◌, ℕ, suc, ◌<◌, ◌+◌, refl, sym, ap, ◌∙◌, arith, Bool, true, false, ◌&&◌, ◌||◌, not, nat_eq, nat_lt, List, [], ◌∷◌, ◌++◌, length}
use Rattle.std.proofs.lemmas.Bool.{and_parts, and_from}
use Rattle.std.proofs.lemmas.Bool.Decides.{nat_tests}
use Rattle.ps_rules.specs.declared.steps.Step.{Step}
use Rattle.ps_steps.specs.declared.lines.Line.{Line}
use Rattle.ps_steps.specs.declared.lines.Line.TheVariants.{Head, Leaf, Id, Join, Rewrite, Overlap, End}
use Rattle.ps_steps.specs.Steps.{is_head, is_inner, is_end, is_step, goes_on, is_beginning, is_ended, is_derivation}
use Rattle.ps_steps.specs.Spelled.{is_line, may_stand}
use Rattle.ps_steps.proofs.Lacking.{not_both}

-- ---- what may stand somewhere is a line of some form
pub standing_line : (first : Bool) (l : Line) → may_stand first l ≡ true → is_line l ≡ true
unfolding may_stand is_line is_head is_inner is_end
standing_line true (Head n) h = h
standing_line true (Leaf b i) h = absurd (cc)
standing_line true (Id b) h = refl
standing_line true Join h = refl
standing_line true (Rewrite s) h = absurd (cc)
standing_line true Overlap h = refl
standing_line true End h = refl
standing_line false (Head n) h = absurd (cc)
standing_line false (Leaf b i) h = or_no _ h
  where
    or_no : (t : Bool) → (t || false) ≡ true → t ≡ true
    or_no true e = refl
    or_no false e = e
standing_line false (Id b) h = refl
standing_line false Join h = refl
standing_line false (Rewrite s) h = or_no _ h
  where
    or_no : (t : Bool) → (t || false) ≡ true → t ≡ true
    or_no true e = refl
    or_no false e = e
standing_line false Overlap h = refl
standing_line false End h = refl

or_left : (s t : Bool) → (s || t) ≡ true → t ≡ false → s ≡ true
or_left true t h e = refl
or_left false t h e = absurd (not_both t h e)

pub or_first : (s t : Bool) → s ≡ true → (s || t) ≡ true
or_first true t h = refl
or_first false t h = absurd (cc)

and_second : (s t : Bool) → (s && t) ≡ true → t ≡ true
and_second s t h = (and_parts s t h).1

-- ---- behind the head
pub goes_first : (l : Line) (ls : List Line) → goes_on (l ∷ ls) ≡ true → may_stand false l ≡ true
unfolding goes_on may_stand
goes_first l [] h = h
goes_first l (m ∷ ls) h = or_first (is_inner l) (is_end l) (and_parts (is_inner l) (goes_on (m ∷ ls)) h).0

pub goes_rest : (l : Line) (ls : List Line) → goes_on (l ∷ ls) ≡ true → goes_on ls ≡ true
unfolding goes_on
goes_rest l [] h = refl
goes_rest l (m ∷ ls) h = and_second _ _ h

pub goes_inner : (l m : Line) (ls : List Line) → goes_on (l ∷ m ∷ ls) ≡ true → is_inner l ≡ true
unfolding goes_on
goes_inner l m ls h = (and_parts _ _ h).0

pub goes_more : (l : Line) (ls : List Line) (k : Line) → is_inner l ≡ true → goes_on (ls ++ k ∷ []) ≡ true → goes_on (l ∷ (ls ++ k ∷ [])) ≡ true
unfolding goes_on
goes_more l [] k i h = and_from _ _ i h
goes_more l (m ∷ ls) k i h = and_from _ _ i h

pub goes_push : (ls : List Line) (l : Line) → goes_on ls ≡ true → is_ended ls ≡ false → may_stand false l ≡ true → goes_on (ls ++ l ∷ []) ≡ true
unfolding goes_on is_ended may_stand
goes_push [] l h o s = s
goes_push (m ∷ []) l h o s = and_from _ _ (or_left _ _ h o) s
goes_push (m ∷ k ∷ ls) l h o s = and_from _ _ (and_parts _ _ h).0 (goes_push (k ∷ ls) l (and_parts _ _ h).1 o s)

pub goes_last : (ls : List Line) (l : Line) → goes_on (ls ++ l ∷ []) ≡ true → may_stand false l ≡ true
goes_last [] l h = goes_first l [] h
goes_last (m ∷ ls) l h = goes_last ls l (goes_rest m (ls ++ l ∷ []) h)

-- nothing goes on behind the end
inner_end : (l : Line) → is_inner l ≡ true → is_end l ≡ true → ⊥
unfolding is_inner is_end
inner_end (Head n) h e = absurd (cc)
inner_end (Leaf b i) h e = absurd (cc)
inner_end (Id b) h e = absurd (cc)
inner_end Join h e = absurd (cc)
inner_end (Rewrite s) h e = absurd (cc)
inner_end Overlap h e = absurd (cc)
inner_end End h e = absurd (cc)

goes_stops : (ls : List Line) (l : Line) → is_ended ls ≡ true → goes_on (ls ++ l ∷ []) ≡ true → ⊥
unfolding goes_on is_ended
goes_stops [] l e h = absurd (cc)
goes_stops (m ∷ []) l e h = inner_end m (and_parts _ _ h).0 e
goes_stops (m ∷ k ∷ ls) l e h = goes_stops (k ∷ ls) l e (and_parts _ _ h).1

head_end : (l : Line) → is_head l ≡ true → is_end l ≡ false
unfolding is_head is_end
head_end (Head n) h = refl
head_end (Leaf b i) h = refl
head_end (Id b) h = refl
head_end Join h = refl
head_end (Rewrite s) h = refl
head_end Overlap h = refl
head_end End h = absurd (cc)

-- ---- beginnings of derivations
later : (n : ℕ) → nat_eq (suc n) 0 ≡ false
later n = grind (arith, nat_tests)

tail_open : (h : Line) (ls : List Line) → is_ended (h ∷ ls) ≡ false → is_ended ls ≡ false
unfolding is_ended
tail_open h [] e = refl
tail_open h (m ∷ ls) e = e

tail_ended : (h : Line) (ls : List Line) → is_head h ≡ true → is_ended (h ∷ ls) ≡ true → is_ended ls ≡ true
unfolding is_ended
tail_ended h [] s e = absurd (not_both (is_end h) e (head_end h s))
tail_ended h (m ∷ ls) s e = e

pub begin_push : (ls : List Line) (l : Line) → is_beginning ls ≡ true → is_ended ls ≡ false → may_stand (nat_eq (length ls) 0) l ≡ true → is_beginning (ls ++ l ∷ []) ≡ true
unfolding is_beginning may_stand goes_on
begin_push [] l h o s = and_from _ _ s refl
begin_push (m ∷ ls) l h o s =
    let s' : may_stand false l ≡ true = ap (λ (f : Bool). may_stand f l) (sym (later (length ls))) ∙ s in
    and_from _ _ (and_parts _ _ h).0 (goes_push ls l (and_parts _ _ h).1 (tail_open m ls o) s')

pub begin_last : (ls : List Line) (l : Line) → is_beginning (ls ++ l ∷ []) ≡ true → may_stand (nat_eq (length ls) 0) l ≡ true
unfolding is_beginning may_stand
begin_last [] l h = (and_parts _ _ h).0
begin_last (m ∷ ls) l h = ap (λ (f : Bool). may_stand f l) (later (length ls)) ∙ goes_last ls l (and_parts _ _ h).1

pub ended_stops : (ls : List Line) (l : Line) → is_ended ls ≡ true → is_beginning (ls ++ l ∷ []) ≡ true → ⊥
unfolding is_beginning is_ended
ended_stops [] l e h = absurd (cc)
ended_stops (m ∷ ls) l e h = goes_stops ls l (tail_ended m ls (and_parts _ _ h).0 e) (and_parts _ _ h).1

pub ended_push : (ls : List Line) (l : Line) → is_ended (ls ++ l ∷ []) ≡ is_end l
unfolding is_ended
ended_push [] l = refl
ended_push (m ∷ []) l = refl
ended_push (m ∷ k ∷ ls) l = ended_push (k ∷ ls) l
