-- Reading one line after the other.
use Rattle.std.proofs.Common.{not, take-append-drop, drop-cons, ◌≡◌, ◌≢◌, ℕ, zero, suc, ◌<◌, ◌≤◌, ◌+◌, refl, sym, ap, ap₂, ◌∙◌, subst, arith, Bool, true, false, ◌&&◌, nat_eq, List, [], ◌∷◌, ◌++◌, length, append_assoc, length-append, take, drop, get_or, Result, Ok, Err}
use Rattle.std.proofs.lemmas.Bool.{and_parts, and_from}
use Rattle.std.proofs.lemmas.Bool.Decides.{nat_tests}
use Rattle.std.proofs.lemmas.List.{take_all, take_more}
use Rattle.std.proofs.lemmas.List.Folds.{list_all_more}
use Rattle.ps_steps.specs.declared.lines.Line.{Line}
use Rattle.ps_steps.specs.declared.fault.StepFault.{StepFault}
use Rattle.ps_steps.specs.declared.fault.StepFault.TheVariants.{Form, Cut, Memory}
use Rattle.ps_steps.specs.Pieces.{lacks, Splits}
use Rattle.ps_steps.specs.Steps.{is_end, is_beginning, is_ended, is_derivation}
use Rattle.ps_steps.specs.Spelled.{may_stand, StandsThere, NoneStands}
use Rattle.ps_steps.specs.Texts.{line_text, lines_text, IsText, IsWrongLine, IsBehindEnd, IsFormFault, line, behind, IsCutFault, IsReading, Known, IsEnding}
use Rattle.ps_steps.proofs.Lacking.{mark_differs}
use Rattle.ps_steps.proofs.Ordering.{begin_push, begin_last, ended_push}
use Rattle.ps_steps.proofs.Written.{lines_push}

pub empty : {b : Bool} (n : ℕ) → b ≡ nat_eq n 0 → b ≡ true → n ≡ 0
empty n e t = grind (arith, nat_tests)

pub not_empty : {b : Bool} (n : ℕ) → b ≡ nat_eq n 0 → b ≡ false → n ≢ 0
not_empty n e t z = grind (arith, nat_tests)

-- ---- up to a mark
pub lacks_more : (mark : ℕ) (text : List ℕ) (i : ℕ) → i < length text → get_or text i 0 ≢ mark → lacks mark (take i text) ≡ true → lacks mark (take (i + 1) text) ≡ true
lacks_more mark text i h d l = list_all_more (λ b. not (nat_eq b mark)) text i 0 h ∙ and_from _ _ l (mark_differs (get_or text i 0) mark d)

pub lacks_all : (mark : ℕ) (text : List ℕ) (i : ℕ) → length text ≤ i → lacks mark (take i text) ≡ true → lacks mark text ≡ true
lacks_all mark text i h l = sym (ap (lacks mark) (take_all i text h)) ∙ l

drop_first : (text : List ℕ) (i : ℕ) → i < length text → drop i text ≡ get_or text i 0 ∷ drop (i + 1) text
drop_first text i h = let n : suc i ≡ i + 1 = omega arith in drop-cons text i 0 h ∙ ap (λ (k : ℕ). get_or text i 0 ∷ drop k text) n

pub splits_at : (mark : ℕ) (text : List ℕ) (i : ℕ) (piece rest : List ℕ) → i < length text → get_or text i 0 ≡ mark → lacks mark (take i text) ≡ true → piece ≡ take i text → rest ≡ drop (i + 1) text → Splits mark text piece rest
splits_at mark text i piece rest h e l ep er = record {
  whole = ap (lacks mark) ep ∙ l;
  parted = sym (take-append-drop i text) ∙ ap (λ (r : List ℕ). take i text ++ r) (drop_first text i h ∙ ap (λ (b : ℕ). b ∷ drop (i + 1) text) e) ∙ ap₂ (λ (a b : List ℕ). a ++ mark ∷ b) (sym ep) (sym er);
}

-- ---- the lines so far
pub record ReadsOn (text : List ℕ) (ls : List Line) (rest : List ℕ) : Type 0 where
  pub begins : is_beginning ls ≡ true
  pub open_still : is_ended ls ≡ false
  pub spelled : text ≡ lines_text ls ++ rest

pub reads_start : (text : List ℕ) (ls : List Line) → ls ≡ [] → ReadsOn text ls text
unfolding is_beginning is_ended lines_text
reads_start text [] e = record { begins = refl; open_still = refl; spelled = refl }
reads_start text (l ∷ ls) e = absurd (cc)

lines_few : (ls : List Line) → length ls ≤ length (lines_text ls)
unfolding lines_text
lines_few [] = omega arith
lines_few (l ∷ ls) = omega (arith, lines_few ls, length-append (line_text l) (10 ∷ lines_text ls))

pub few_lines : (text : List ℕ) (ls : List Line) (rest : List ℕ) → ReadsOn text ls rest → length text ≤ 4294967294 → length ls < 4294967295
few_lines text ls rest r h = omega (arith, lines_few ls, ap length r.spelled, length-append (lines_text ls) rest)

pub few_equal : (text : List ℕ) (ls ks : List Line) (rest : List ℕ) → ReadsOn text ls rest → ks ≡ ls → length text ≤ 4294967294 → length ks < 4294967295
few_equal text ls ks rest r e h = omega (arith, few_lines text ls rest r h, ap length e)

pub cut_here : (text : List ℕ) (ls ks : List Line) (rest : List ℕ) (n : ℕ) → ReadsOn text ls rest → lacks 10 rest ≡ true → ks ≡ ls → n ≡ length ks + 1 → IsCutFault text n
cut_here text ls ks rest n r h e p = record {
  before = ls;
  piece = rest;
  begins = r.begins;
  open_still = r.open_still;
  unended = h;
  spelled = r.spelled;
  place = p ∙ ap (λ (l : List Line). length l + 1) e;
}

pub wrong_here : (text : List ℕ) (ls ks : List Line) (rest piece more : List ℕ) (first : Bool) (n : ℕ) → ReadsOn text ls rest → Splits 10 rest piece more → first ≡ nat_eq (length ls) 0 → NoneStands first piece → ks ≡ ls → n ≡ length ks + 1 → IsFormFault text n
wrong_here text ls ks rest piece more first n r s f h e p = line (record {
  before = ls;
  piece = piece;
  rest = more;
  begins = r.begins;
  open_still = r.open_still;
  whole = s.whole;
  spelled = r.spelled ∙ ap (λ (t : List ℕ). lines_text ls ++ t) s.parted;
  wrong = λ l g. h l (ap (λ (b : Bool). may_stand b l) f ∙ begin_last ls l g);
  place = p ∙ ap (λ (l : List Line). length l + 1) e;
})

spelled_next : (text : List ℕ) (ls : List Line) (l : Line) (rest piece more : List ℕ) → text ≡ lines_text ls ++ rest → rest ≡ piece ++ 10 ∷ more → line_text l ≡ piece → text ≡ lines_text (ls ++ l ∷ []) ++ more
spelled_next text ls l rest piece more e f g =
    e ∙ ap (λ (t : List ℕ). lines_text ls ++ t) (f ∙ ap (λ (t : List ℕ). t ++ 10 ∷ more) (sym g) ∙ sym (append_assoc (line_text l) (10 ∷ []) more))
    ∙ sym (append_assoc (lines_text ls) (line_text l ++ 10 ∷ []) more) ∙ ap (λ (t : List ℕ). t ++ more) (sym (lines_push ls l))

pub next_text : (text : List ℕ) (ls ks : List Line) (rest piece more : List ℕ) (first : Bool) (l : Line) → ReadsOn text ls rest → Splits 10 rest piece more → StandsThere first piece l → ks ≡ ls ++ l ∷ [] → text ≡ lines_text ks ++ more
next_text text ls ks rest piece more first l r s t e = spelled_next text ls l rest piece more r.spelled s.parted t.spelled ∙ ap (λ (k : List Line). lines_text k ++ more) (sym e)

next_begins : (text : List ℕ) (ls ks : List Line) (rest piece : List ℕ) (first : Bool) (l : Line) → ReadsOn text ls rest → first ≡ nat_eq (length ls) 0 → StandsThere first piece l → ks ≡ ls ++ l ∷ [] → is_beginning ks ≡ true
next_begins text ls ks rest piece first l r f t e = ap is_beginning e ∙ begin_push ls l r.begins r.open_still (ap (λ (b : Bool). may_stand b l) (sym f) ∙ t.stands)

pub next_reads : (text : List ℕ) (ls ks : List Line) (rest piece more : List ℕ) (first ends : Bool) (l : Line) → ReadsOn text ls rest → Splits 10 rest piece more → first ≡ nat_eq (length ls) 0 → StandsThere first piece l → ks ≡ ls ++ l ∷ [] → ends ≡ is_end l → ends ≡ false → ReadsOn text ks more
next_reads text ls ks rest piece more first ends l r s f t e q h = record {
  begins = next_begins text ls ks rest piece first l r f t e;
  open_still = ap is_ended e ∙ ended_push ls l ∙ sym q ∙ h;
  spelled = next_text text ls ks rest piece more first l r s t e;
}

pub whole_now : (text : List ℕ) (ls ks : List Line) (rest piece : List ℕ) (first ends : Bool) (l : Line) → ReadsOn text ls rest → first ≡ nat_eq (length ls) 0 → StandsThere first piece l → ks ≡ ls ++ l ∷ [] → ends ≡ is_end l → ends ≡ true → is_derivation ks ≡ true
whole_now text ls ks rest piece first ends l r f t e q h = and_from (is_beginning ks) (is_ended ks) (next_begins text ls ks rest piece first l r f t e) (ap is_ended e ∙ ended_push ls l ∙ sym q ∙ h)

pub few_next : (text : List ℕ) (ls ks : List Line) (rest piece more : List ℕ) (first : Bool) (l : Line) → ReadsOn text ls rest → Splits 10 rest piece more → StandsThere first piece l → ks ≡ ls ++ l ∷ [] → length text ≤ 4294967294 → length ks < 4294967295
few_next text ls ks rest piece more first l r s t e h =
    omega (arith, lines_few ks, ap length (next_text text ls ks rest piece more first l r s t e), length-append (lines_text ks) more)

pub smaller : (rest piece more : List ℕ) → Splits 10 rest piece more → length more < length rest
smaller rest piece more s = omega (arith, ap length s.parted, length-append piece (10 ∷ more))

append_none : (r : List ℕ) → r ++ [] ≡ r
append_none [] = refl
append_none (x ∷ r) = ap (λ (s : List ℕ). x ∷ s) (append_none r)

pub ending : (text : List ℕ) (ks : List Line) (more : List ℕ) (r : Result (List Line) StepFault) → is_derivation ks ≡ true → text ≡ lines_text ks ++ more → IsEnding ks more r → Known r (IsReading text)
ending text ks more (Ok ms) d e h = record {
  form = ap is_derivation h.1 ∙ d;
  spelled = e ∙ ap (λ (t : List ℕ). lines_text ks ++ t) h.0 ∙ append_none (lines_text ks) ∙ ap lines_text (sym h.1);
}
ending text ks more (Err (Form n)) d e h = behind (record { before = ks; rest = more; form = d; more = h.0; spelled = e; place = h.1 })
ending text ks more (Err (Cut n)) d e h = absurd h
ending text ks more (Err Memory) d e h = absurd h
