-- Bytes are read as one thing alone.
use Rattle.std.proofs.Common.{◌≡◌, ◌≢◌, ℕ, ◌<◌, ◌≤◌, ◌+◌, refl, sym, ap, ap₂, ◌∙◌, subst, arith, Bool, true, false, ◌&&◌, ◌||◌, not, nat_eq, List, [], ◌∷◌, ◌++◌, length, cond, append_assoc, Result, Ok, Err}
use Rattle.std.proofs.lemmas.Bool.{and_parts, and_from}
use Rattle.ps_steps.specs.declared.lines.Line.{Line}
use Rattle.ps_steps.specs.declared.fault.StepFault.{StepFault}
use Rattle.ps_steps.specs.declared.fault.StepFault.TheVariants.{Form, Cut, Memory}
use Rattle.ps_steps.specs.Pieces.{lacks}
use Rattle.ps_steps.specs.Steps.{is_head, is_inner, is_end, goes_on, is_beginning, is_ended, is_derivation}
use Rattle.ps_steps.specs.Spelled.{is_line, may_stand}
use Rattle.ps_steps.specs.Texts.{line_text, lines_text, IsText, IsWrongLine, IsBehindEnd, IsFormFault, line, behind, IsCutFault, IsReading, Known, Only}
use Rattle.ps_steps.proofs.Lacking.{not_both, has_mark, no_mark, split_once, SameParts}
use Rattle.ps_steps.proofs.Injective.{OneLine, first_line, line_lacks}
use Rattle.ps_steps.proofs.Ordering.{standing_line, goes_first, goes_rest, goes_inner, goes_more, begin_last, ended_stops}

append_none : (r : List ℕ) → r ++ [] ≡ r
append_none [] = refl
append_none (x ∷ r) = ap (λ (s : List ℕ). x ∷ s) (append_none r)

-- no line that may stand behind these begins the rest
abbrev Stops : List Line → List ℕ → Type 0
Stops ls r = (l : Line) (more : List ℕ) → is_beginning (ls ++ l ∷ []) ≡ true → r ≡ line_text l ++ 10 ∷ more → ⊥

abbrev TailStops : List Line → List ℕ → Type 0
TailStops ls r = (l : Line) (more : List ℕ) → goes_on (ls ++ l ∷ []) ≡ true → r ≡ line_text l ++ 10 ∷ more → ⊥

record SameStop (ls ms : List Line) (r s : List ℕ) : Type 0 where
  pub lines : ls ≡ ms
  pub rest : r ≡ s

-- a line at the front of more lines
lines_first : (l : Line) (ls : List Line) (r : List ℕ) → lines_text (l ∷ ls) ++ r ≡ line_text l ++ 10 ∷ (lines_text ls ++ r)
unfolding lines_text
lines_first l ls r = append_assoc (line_text l) (10 ∷ lines_text ls) r

two_lines : (l m : Line) (ls ms : List Line) (r s : List ℕ) → is_line l ≡ true → is_line m ≡ true → lines_text (l ∷ ls) ++ r ≡ lines_text (m ∷ ms) ++ s → OneLine l m (lines_text ls ++ r) (lines_text ms ++ s)
two_lines l m ls ms r s p q e = first_line l m (lines_text ls ++ r) (lines_text ms ++ s) p q (sym (lines_first l ls r) ∙ e ∙ lines_first m ms s)

same_cons : (l m : Line) (ls ms : List Line) (r s : List ℕ) → l ≡ m → SameStop ls ms r s → SameStop (l ∷ ls) (m ∷ ms) r s
same_cons l m ls ms r s e h = record { lines = ap (λ (k : Line). k ∷ ls) e ∙ ap (λ (ks : List Line). m ∷ ks) h.lines; rest = h.rest }

later_stops : (l : Line) (ls : List Line) (r : List ℕ) → is_inner l ≡ true → TailStops (l ∷ ls) r → TailStops ls r
later_stops l ls r i h k more g e = h k more (goes_more l ls k i g) e

alone : (m : Line) → may_stand false m ≡ true → goes_on (m ∷ []) ≡ true
unfolding goes_on may_stand
alone m h = h

none_more : (m : Line) (ms : List Line) (r s : List ℕ) → goes_on (m ∷ ms) ≡ true → r ≡ lines_text (m ∷ ms) ++ s → TailStops [] r → ⊥
none_more m ms r s g e h = h m (lines_text ms ++ s) (alone m (goes_first m ms g)) (e ∙ lines_first m ms s)

no_lines : (r : List ℕ) → lines_text [] ++ r ≡ r
unfolding lines_text
no_lines r = refl

same_tail : (ls ms : List Line) (r s : List ℕ) → goes_on ls ≡ true → goes_on ms ≡ true → lines_text ls ++ r ≡ lines_text ms ++ s → TailStops ls r → TailStops ms s → SameStop ls ms r s
same_tail [] [] r s g h e t u = record { lines = refl; rest = sym (no_lines r) ∙ e ∙ no_lines s }
same_tail [] (m ∷ ms) r s g h e t u = absurd (none_more m ms r s h (sym (no_lines r) ∙ e) t)
same_tail (l ∷ ls) [] r s g h e t u = absurd (none_more l ls s r g (sym (no_lines s) ∙ sym e) u)
same_tail (l ∷ []) (m ∷ []) r s g h e t u =
    let o : OneLine l m (lines_text [] ++ r) (lines_text [] ++ s) = two_lines l m [] [] r s (standing_line false l (goes_first l [] g)) (standing_line false m (goes_first m [] h)) e in
    same_cons l m [] [] r s o.line (record { lines = refl; rest = sym (no_lines r) ∙ o.rest ∙ no_lines s })
same_tail (l ∷ []) (m ∷ k ∷ ms) r s g h e t u =
    let o : OneLine l m (lines_text [] ++ r) (lines_text (k ∷ ms) ++ s) = two_lines l m [] (k ∷ ms) r s (standing_line false l (goes_first l [] g)) (standing_line false m (goes_first m (k ∷ ms) h)) e in
    let i : is_inner m ≡ true = goes_inner m k ms h in
    let j : is_inner l ≡ true = ap is_inner o.line ∙ i in
    same_cons l m [] (k ∷ ms) r s o.line (same_tail [] (k ∷ ms) r s (goes_rest l [] g) (goes_rest m (k ∷ ms) h) o.rest (later_stops l [] r j t) (later_stops m (k ∷ ms) s i u))
same_tail (l ∷ k ∷ ls) (m ∷ ms) r s g h e t u =
    let o : OneLine l m (lines_text (k ∷ ls) ++ r) (lines_text ms ++ s) = two_lines l m (k ∷ ls) ms r s (standing_line false l (goes_first l (k ∷ ls) g)) (standing_line false m (goes_first m ms h)) e in
    let i : is_inner l ≡ true = goes_inner l k ls g in
    let j : is_inner m ≡ true = ap is_inner (sym o.line) ∙ i in
    same_cons l m (k ∷ ls) ms r s o.line (same_tail (k ∷ ls) ms r s (goes_rest l (k ∷ ls) g) (goes_rest m ms h) o.rest (later_stops l (k ∷ ls) r i t) (later_stops m ms s j u))

begin_head : (l : Line) (ls : List Line) → is_beginning (l ∷ ls) ≡ true → may_stand true l ≡ true
unfolding is_beginning may_stand
begin_head l ls h = (and_parts (is_head l) (goes_on ls) h).0

begin_tail : (l : Line) (ls : List Line) → is_beginning (l ∷ ls) ≡ true → goes_on ls ≡ true
unfolding is_beginning
begin_tail l ls h = (and_parts (is_head l) (goes_on ls) h).1

begin_one : (l : Line) → may_stand true l ≡ true → is_beginning (l ∷ []) ≡ true
unfolding is_beginning may_stand goes_on
begin_one l h = and_from (is_head l) true h refl

tail_stops : (l : Line) (ls : List Line) (r : List ℕ) → may_stand true l ≡ true → Stops (l ∷ ls) r → TailStops ls r
unfolding is_beginning may_stand
tail_stops l ls r i h k more g e = h k more (and_from (is_head l) (goes_on (ls ++ k ∷ [])) i g) e

no_first : (m : Line) (ms : List Line) (r s : List ℕ) → is_beginning (m ∷ ms) ≡ true → r ≡ lines_text (m ∷ ms) ++ s → Stops [] r → ⊥
no_first m ms r s g e h = h m (lines_text ms ++ s) (begin_one m (begin_head m ms g)) (e ∙ lines_first m ms s)

same_stop : (ls ms : List Line) (r s : List ℕ) → is_beginning ls ≡ true → is_beginning ms ≡ true → lines_text ls ++ r ≡ lines_text ms ++ s → Stops ls r → Stops ms s → SameStop ls ms r s
same_stop [] [] r s g h e t u = record { lines = refl; rest = sym (no_lines r) ∙ e ∙ no_lines s }
same_stop [] (m ∷ ms) r s g h e t u = absurd (no_first m ms r s h (sym (no_lines r) ∙ e) t)
same_stop (l ∷ ls) [] r s g h e t u = absurd (no_first l ls s r g (sym (no_lines s) ∙ sym e) u)
same_stop (l ∷ ls) (m ∷ ms) r s g h e t u =
    let p : may_stand true l ≡ true = begin_head l ls g in
    let q : may_stand true m ≡ true = begin_head m ms h in
    let o : OneLine l m (lines_text ls ++ r) (lines_text ms ++ s) = two_lines l m ls ms r s (standing_line true l p) (standing_line true m q) e in
    same_cons l m ls ms r s o.line (same_tail ls ms r s (begin_tail l ls g) (begin_tail m ms h) o.rest (tail_stops l ls r p t) (tail_stops m ms s q u))

-- ---- the answer at the place where reading stops
abbrev is_none : List ℕ → Bool
is_none [] = true
is_none (b ∷ bs) = false

abbrev answer_at : List Line → List ℕ → Result (List Line) StepFault
answer_at ls r = cond (is_ended ls) (cond (is_none r) (Ok ls) (Err (Form (length ls + 1)))) (cond (lacks 10 r) (Err (Cut (length ls + 1))) (Err (Form (length ls + 1))))

record Stopped (bytes : List ℕ) (a : Result (List Line) StepFault) : Type 0 where
  pub lines : List Line
  pub rest : List ℕ
  pub begins : is_beginning lines ≡ true
  pub spelled : bytes ≡ lines_text lines ++ rest
  pub stops : Stops lines rest
  pub answer : a ≡ answer_at lines rest

same_answer : (bytes : List ℕ) (a b : Result (List Line) StepFault) → Stopped bytes a → Stopped bytes b → a ≡ b
same_answer bytes a b s t =
    let o : SameStop s.lines t.lines s.rest t.rest = same_stop s.lines t.lines s.rest t.rest s.begins t.begins (sym s.spelled ∙ t.spelled) s.stops t.stops in
    s.answer ∙ ap₂ (λ (ls : List Line) (r : List ℕ). answer_at ls r) o.lines o.rest ∙ sym t.answer

lacking_stops : (ls : List Line) (r : List ℕ) → lacks 10 r ≡ true → Stops ls r
lacking_stops ls r h l more g e = no_mark 10 r (line_text l) more h e

ended_all : (ls : List Line) (r : List ℕ) → is_ended ls ≡ true → Stops ls r
ended_all ls r h l more g e = ended_stops ls l h g

wrong_stops : (ls : List Line) (piece rest : List ℕ) → lacks 10 piece ≡ true → ((l : Line) → is_beginning (ls ++ l ∷ []) ≡ true → line_text l ≢ piece) → Stops ls (piece ++ 10 ∷ rest)
wrong_stops ls piece rest h w l more g e =
    let p : is_line l ≡ true = standing_line (nat_eq (length ls) 0) l (begin_last ls l g) in
    let s : SameParts (line_text l) piece more rest = split_once 10 (line_text l) piece more rest (line_lacks l p) h (sym e) in
    w l g s.front

at_end : (ls : List Line) → is_ended ls ≡ true → Ok ls ≡ answer_at ls []
at_end ls h = sym (ap (λ (t : Bool). cond t (Ok ls) (Err (Cut (length ls + 1)))) h)

at_behind : (ls : List Line) (r : List ℕ) (n : ℕ) → is_ended ls ≡ true → r ≢ [] → n ≡ length ls + 1 → Err (Form n) ≡ answer_at ls r
at_behind ls [] n h m e = absurd (m refl)
at_behind ls (b ∷ r) n h m e = ap (λ (k : ℕ). Err (Form k)) e ∙ sym (ap (λ (t : Bool). cond t (Err (Form (length ls + 1))) (cond (lacks 10 (b ∷ r)) (Err (Cut (length ls + 1))) (Err (Form (length ls + 1))))) h)

at_wrong : (ls : List Line) (piece rest : List ℕ) (n : ℕ) → is_ended ls ≡ false → n ≡ length ls + 1 → Err (Form n) ≡ answer_at ls (piece ++ 10 ∷ rest)
at_wrong ls piece rest n h e =
    ap (λ (k : ℕ). Err (Form k)) e ∙ sym (ap₂ (λ (t u : Bool). cond t (cond (is_none (piece ++ 10 ∷ rest)) (Ok ls) (Err (Form (length ls + 1)))) (cond u (Err (Cut (length ls + 1))) (Err (Form (length ls + 1))))) h (has_mark 10 piece rest))

at_cut : (ls : List Line) (piece : List ℕ) (n : ℕ) → is_ended ls ≡ false → lacks 10 piece ≡ true → n ≡ length ls + 1 → Err (Cut n) ≡ answer_at ls piece
at_cut ls piece n h l e =
    ap (λ (k : ℕ). Err (Cut k)) e ∙ sym (ap₂ (λ (t u : Bool). cond t (cond (is_none piece) (Ok ls) (Err (Form (length ls + 1)))) (cond u (Err (Cut (length ls + 1))) (Err (Form (length ls + 1))))) h l)

stopped : (bytes : List ℕ) (a : Result (List Line) StepFault) → IsReading bytes a → Stopped bytes a
stopped bytes (Ok ls) h = record {
  lines = ls;
  rest = [];
  begins = (and_parts (is_beginning ls) (is_ended ls) h.form).0;
  spelled = h.spelled ∙ sym (append_none (lines_text ls));
  stops = lacking_stops ls [] refl;
  answer = at_end ls (and_parts (is_beginning ls) (is_ended ls) h.form).1;
}
stopped bytes (Err (Form n)) (line w) = record {
  lines = w.before;
  rest = w.piece ++ 10 ∷ w.rest;
  begins = w.begins;
  spelled = w.spelled;
  stops = wrong_stops w.before w.piece w.rest w.whole w.wrong;
  answer = at_wrong w.before w.piece w.rest n w.open_still w.place;
}
stopped bytes (Err (Form n)) (behind w) = record {
  lines = w.before;
  rest = w.rest;
  begins = (and_parts (is_beginning w.before) (is_ended w.before) w.form).0;
  spelled = w.spelled;
  stops = ended_all w.before w.rest (and_parts (is_beginning w.before) (is_ended w.before) w.form).1;
  answer = at_behind w.before w.rest n (and_parts (is_beginning w.before) (is_ended w.before) w.form).1 w.more w.place;
}
stopped bytes (Err (Cut n)) w = record {
  lines = w.before;
  rest = w.piece;
  begins = w.begins;
  spelled = w.spelled;
  stops = lacking_stops w.before w.piece w.unended;
  answer = at_cut w.before w.piece n w.open_still w.unended w.place;
}
stopped bytes (Err Memory) h = absurd h

pub one_reading : (bytes : List ℕ) (a b : Result (List Line) StepFault) → IsReading bytes a → IsReading bytes b → a ≡ b
one_reading bytes a b p q = same_answer bytes a b (stopped bytes a p) (stopped bytes b q)

pub only_reading : (bytes : List ℕ) (a : Result (List Line) StepFault) → Known a (IsReading bytes) → Only a (IsReading bytes)
only_reading bytes (Ok ls) h = λ b q. one_reading bytes b (Ok ls) q h
only_reading bytes (Err (Form n)) h = λ b q. one_reading bytes b (Err (Form n)) q h
only_reading bytes (Err (Cut n)) h = λ b q. one_reading bytes b (Err (Cut n)) q h
only_reading bytes (Err Memory) h = tt
