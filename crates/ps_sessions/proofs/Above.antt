-- What stands above a run needs of it.
use Rattle.std.proofs.Common.{ℕ, zero, suc, ◌≡◌, ◌≤◌, Bool, true, false, cond, List, [], ◌∷◌, refl, sym, ap, ◌∙◌, ◌+◌, arith}
use Rattle.std.specs.Prelude.{All, eqb, filter, map}
use Rattle.std.proofs.lemmas.Bool.{false≢true}
use Rattle.std.proofs.lemmas.Bool.Decides.{nat_tests}
use Rattle.ps_script.specs.declared.script.Line.{Line}
use Rattle.ps_journal.specs.History.{Entry, ends_command, own_entries}
use Rattle.ps_sessions.specs.declared.runs.Run.{Run}
use Rattle.ps_sessions.specs.Lines.{seat_of, commands_of}
use Rattle.ps_sessions.specs.Runs.{IsRunOf}

-- an entry that ends a command is of a session, which all have numbers from 1 on
abbrev pub IsOfSession : Entry → Type 0
IsOfSession e = ends_command e.cmd e.reply ≡ true → 1 ≤ e.seat

-- no line is of seat 0
never_zero : (n : ℕ) → eqb (n + 1) 0 ≡ false
never_zero n = grind (arith, nat_tests)

seat_zero : (ls : List Line) → commands_of 0 ls ≡ []
seat_zero [] = refl
seat_zero (l ∷ ls) =
    let rest = filter (λ (x : Line). eqb (seat_of x) 0) ls in
    ap (λ b. map (λ (x : Line). x.command) (cond b (l ∷ rest) rest)) (never_zero l.session) ∙ seat_zero ls

-- the first of entries of which none is of seat 0
first_other : (e : Entry) (es : List Entry) → own_entries 0 (e ∷ es) ≡ [] → (eqb e.seat 0 ≡ false) × (own_entries 0 es ≡ [])
first_other e es h = by (eqb e.seat 0) refl h
  where
    by : (b : Bool) → eqb e.seat 0 ≡ b → cond b (e ∷ own_entries 0 es) (own_entries 0 es) ≡ [] → (eqb e.seat 0 ≡ false) × (own_entries 0 es ≡ [])
    by true s k = absurd (cc)
    by false s k = (s, k)

positive : (n : ℕ) → eqb n 0 ≡ false → 1 ≤ n
positive zero h = absurd (false≢true (sym h))
positive (suc n) h = omega arith

numbered : (es : List Entry) → own_entries 0 es ≡ [] → All IsOfSession es
numbered [] h k d low = let none : ⊥ = omega (arith, low) in absurd none
numbered (e ∷ es) h zero d low = λ ends. positive e.seat (first_other e es h).0
numbered (e ∷ es) h (suc k) d low = numbered es (first_other e es h).1 k d (omega (arith, low))

-- as the text of a journal asks
pub of_sessions : (lines : List Line) (r : Run) → IsRunOf lines r → All IsOfSession r.journal
of_sessions lines r w = numbered r.journal (w.others 0 (seat_zero lines))
