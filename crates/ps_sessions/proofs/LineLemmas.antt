-- The commands of a seat among lines.
use Rattle.std.proofs.Common.{ℕ, ◌≡◌, Bool, true, false, cond, List, [], ◌∷◌, ◌++◌, refl, sym, ap, ◌∙◌, append-nil}
use Rattle.std.specs.Prelude.{eqb, filter, map}
use Rattle.std.proofs.lemmas.Bool.{eq-eqb, eqb-true}
use Rattle.std.proofs.lemmas.List.{map-append}
use Rattle.std.proofs.lemmas.List.Elements.{filter-append}
use Rattle.ps_script.specs.declared.script.Line.{Line}
use Rattle.ps_sessions.specs.Lines.{seat_of, commands_of}

abbrev lines_of : ℕ → List Line → List Line
lines_of seat ls = filter (λ l. eqb (seat_of l) seat) ls

pub commands_both : (seat : ℕ) (xs ys : List Line) → commands_of seat (xs ++ ys) ≡ commands_of seat xs ++ commands_of seat ys
commands_both seat xs ys =
    ap (map (λ (l : Line). l.command)) (filter-append (λ (l : Line). eqb (seat_of l) seat) xs ys)
    ∙ map-append (λ (l : Line). l.command) (lines_of seat xs) (lines_of seat ys)

-- those of one line
commands_one : (l : Line) → commands_of (seat_of l) (l ∷ []) ≡ l.command ∷ []
commands_one l = ap (λ b. map (λ (x : Line). x.command) (cond b (l ∷ []) [])) (eq-eqb (seat_of l) (seat_of l) refl)

commands_none : (seat : ℕ) (l : Line) → eqb (seat_of l) seat ≡ false → commands_of seat (l ∷ []) ≡ []
commands_none seat l d = ap (λ b. map (λ (x : Line). x.command) (cond b (l ∷ []) [])) d

pub commands_here : (ls : List Line) (l : Line) → commands_of (seat_of l) (ls ++ l ∷ []) ≡ commands_of (seat_of l) ls ++ l.command ∷ []
commands_here ls l = commands_both (seat_of l) ls (l ∷ []) ∙ ap (λ cs. commands_of (seat_of l) ls ++ cs) (commands_one l)

pub commands_there : (seat : ℕ) (ls : List Line) (l : Line) → eqb (seat_of l) seat ≡ false → commands_of seat (ls ++ l ∷ []) ≡ commands_of seat ls
commands_there seat ls l d =
    commands_both seat ls (l ∷ []) ∙ ap (λ cs. commands_of seat ls ++ cs) (commands_none seat l d) ∙ append-nil (commands_of seat ls)

-- ---- a seat without a line
first_none : {A : Type 0} (xs ys : List A) → xs ++ ys ≡ [] → xs ≡ []
first_none [] ys h = refl
first_none (x ∷ xs) ys h = absurd (cc)

last_none : {A : Type 0} (xs ys : List A) → xs ++ ys ≡ [] → ys ≡ []
last_none [] ys h = h
last_none (x ∷ xs) ys h = absurd (cc)

pub none_before : (seat : ℕ) (xs ys : List Line) → commands_of seat (xs ++ ys) ≡ [] → commands_of seat xs ≡ []
none_before seat xs ys h = first_none (commands_of seat xs) (commands_of seat ys) (sym (commands_both seat xs ys) ∙ h)

none_here : (l : Line) (ls : List Line) → commands_of (seat_of l) (l ∷ ls) ≡ [] → ⊥
none_here l ls h =
    let one : commands_of (seat_of l) (l ∷ ls) ≡ l.command ∷ commands_of (seat_of l) ls =
    commands_both (seat_of l) (l ∷ []) ls ∙ ap (λ cs. cs ++ commands_of (seat_of l) ls) (commands_one l) in
    let none : l.command ∷ commands_of (seat_of l) ls ≡ [] = sym one ∙ h in
    cc

-- the line behind the others is not of such a seat
pub none_next : (seat : ℕ) (xs ys : List Line) (l : Line) → commands_of seat (xs ++ l ∷ ys) ≡ [] → eqb (seat_of l) seat ≡ false
none_next seat xs ys l h = by (eqb (seat_of l) seat) refl
  where
    behind : commands_of seat (l ∷ ys) ≡ []
    behind = last_none (commands_of seat xs) (commands_of seat (l ∷ ys)) (sym (commands_both seat xs (l ∷ ys)) ∙ h)

    by : (b : Bool) → eqb (seat_of l) seat ≡ b → eqb (seat_of l) seat ≡ false
    by true s = absurd (none_here l ys (ap (λ n. commands_of n (l ∷ ys)) (eqb-true (seat_of l) seat s) ∙ behind))
    by false s = s
