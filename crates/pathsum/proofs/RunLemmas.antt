-- From what a script comes to, to how a call ends.
use Rattle.std.proofs.Common.{◌≡◌, ℕ, refl, ap, sym, ◌∙◌, ◌≤◌, Option, Some, None, List, [], ◌∷◌, ◌++◌, length, subst, ◌⊎◌, inl, inr, append-nil, map, arith, Ok, Err}
use Rattle.std.specs.Prelude.{All, codes, cond, filter}
use Rattle.std.specs.Io.KnownBytes.{append_known}
use Rattle.std.proofs.lemmas.List.Elements.{filter-append}
use Rattle.ps_script.specs.declared.script.Line.{Line}
use Rattle.ps_script.specs.declared.command.Command.{Command}
use Rattle.ps_script.specs.declared.fault.ScriptFault.{ScriptFault}
use Rattle.ps_script.specs.declared.fault.ScriptFault.TheVariants as fault
use Rattle.ps_script.specs.Reading.{Read as Reads, IsReading, Known, Only, asked_of}
use Rattle.ps_journal.specs.History.{Entry, IsLegal, nothing_is_legal, own_entries, session_entries, ends_command}
use Rattle.ps_history.specs.Matching.{Matched, nothing, inner, answer}
use Rattle.ps_history.proofs.Lists.{last_there}
use Rattle.ps_reply.specs.Lines.{journal_text, IsOfSession}
use Rattle.ps_sessions.specs.declared.runs.Ending.{Ending}
use Rattle.ps_sessions.specs.declared.runs.Ending.TheVariants as ending
use Rattle.ps_threads.specs.declared.runs.Run.{Run}
use Rattle.ps_sessions.specs.Lines.{commands_of}
use Rattle.ps_threads.specs.Runs.{IsRunOf}
use Rattle.ps_threads.proofs.RunLaws.{entries_numbered}
use Rattle.pathsum.specs.declared.answer.Answer.{Answer}
use Rattle.pathsum.specs.declared.answer.Answer.TheVariants.{Yes, Proof, YesPhase, No, NoPair, NoBehind, Stuck, Passed, Accepted, Rejected, Left, Refused, Words, Read, TooLong, Memory}
use Rattle.pathsum.specs.declared.scripts.Outcome.{Outcome}
use Rattle.pathsum.specs.declared.scripts.Outcome.TheVariants.{Hindered, Served}
use Rattle.pathsum.specs.Answers.{status_of, text_of}
use Rattle.pathsum.specs.Ended.{Writes, whole, failed}
use Rattle.pathsum.specs.Scripts.{Gives, IsScript, IsFaulty, answer_to}
use Rattle.pathsum.specs.Runs.{Holds, HoldsFirst, HasWorkers, Headline, CutShort, Hinders, Comes, hindered, starved, done, full, RunEnds, IsOneRefusal, IsRefusedAs, refused, unread, unwritten, wanting}
use Rattle.pathsum.proofs.AloneLemmas.{none_ends}
use Rattle.pathsum.specs.Outcomes.{YieldsOf, YieldsRun, Yields, ending_status, last_line, run_text, PrintsRun}

-- ---- what bytes come to
-- a fault of the bytes is answered by it, and want of memory by that
pub fault_yields : (workers : ℕ) (bytes : List ℕ) (e : ScriptFault) (a : Answer) → Known (Err e) (IsReading 1 bytes) → Only (Err e) (IsReading 1 bytes)
    → a ≡ answer_to e → YieldsOf workers bytes (Hindered a)
fault_yields workers bytes (fault.Form n) a k o q = inr (fault.Form n, record { reads = k; only = o }, q)
fault_yields workers bytes (fault.Session n) a k o q = inr (fault.Session n, record { reads = k; only = o }, q)
fault_yields workers bytes (fault.Block n) a k o q = inr (fault.Block n, record { reads = k; only = o }, q)
fault_yields workers bytes fault.Memory a k o q = inl q

-- a seat without commands has no entry that ends one
none_left : (lines : List Line) (workers : ℕ) (run : Run) → IsRunOf lines workers run → (seat : ℕ) → commands_of seat lines ≡ []
    → session_entries (own_entries seat run.journal) ≡ []
none_left lines workers run r seat e =
    let part = r.parts seat in
    none_ends (own_entries seat run.journal) part.served part.matched (none_served part.served part.left (sym part.split ∙ e))
  where
    none_served : (xs ys : List Command) → xs ++ ys ≡ [] → xs ≡ []
    none_served [] ys e = refl
    none_served (x ∷ xs) ys e = absurd (cc)

run_holds : (lines : List Line) (workers : ℕ) (run : Run) → IsRunOf lines workers run → run.ending ≡ ending.Done → Holds lines run.journal
run_holds lines workers run r e = record { legal = r.legal; each = r.complete e; others = none_left lines workers run r; just = r.just }

run_holds_first : (lines : List Line) (workers : ℕ) (run : Run) (ticket : ℕ) → IsRunOf lines workers run → run.ending ≡ ending.Full ticket
    → HoldsFirst lines run.journal
run_holds_first lines workers run ticket r e =
    let cut = r.cut ticket e in
    record {
      legal = r.legal;
      each = r.parts;
      others = none_left lines workers run r;
      just = r.just;
      seat = cut.seat;
      cut = cut.part;
      some_left = cut.some_left;
      full = cut.full;
    }

has_workers : (lines : List Line) (workers : ℕ) (run : Run) → IsRunOf lines workers run → HasWorkers workers run.journal
has_workers lines workers run r = record { work = r.work; absent = r.absent }

pub none_is_legal : (journal : List Entry) → journal ≡ [] → IsLegal journal
none_is_legal journal j = subst IsLegal (sym j) nothing_is_legal

module _ (workers : ℕ) (told : Option (List ℕ)) where
  pub run_is_legal : (journal : List Entry) (run : Run) → YieldsRun workers told run → journal ≡ run.journal → IsLegal journal
  run_is_legal journal run y j = subst IsLegal (sym j) y.2.2.legal

  pub run_of_sessions : (run : Run) → YieldsRun workers told run → All IsOfSession run.journal
  run_of_sessions run y = λ k d low ends. entries_numbered y.2.0 workers run y.2.2 k d low

  module _ (reads reads' : ℕ) where
    fault_hinders : (bytes : List ℕ) (e : ScriptFault) → Gives told bytes → IsFaulty bytes e → Hinders told reads reads' (answer_to e)
    fault_hinders bytes (fault.Form n) g f = (bytes, fault.Form n, g, f, refl)
    fault_hinders bytes (fault.Session n) g f = (bytes, fault.Session n, g, f, refl)
    fault_hinders bytes (fault.Block n) g f = (bytes, fault.Block n, g, f, refl)
    fault_hinders bytes fault.Memory g f = tt

    pub source_yields : (bytes : List ℕ) (o : Outcome) → Gives told bytes → YieldsOf workers bytes o → Yields workers told reads reads' o
    source_yields bytes (Hindered a) g (inl q) = subst (Hinders told reads reads') (sym q) tt
    source_yields bytes (Hindered a) g (inr y) = subst (Hinders told reads reads') (sym y.2) (fault_hinders bytes y.0 g y.1)
    source_yields bytes (Served run) g y = (bytes, g, y)

    run_comes : (bytes : List ℕ) (lines : List Line) (run : Run) (x : Ending) → Gives told bytes → IsScript bytes lines → IsRunOf lines workers run
        → run.ending ≡ x → Comes workers told reads reads' run.journal (ending_status run.ending) (run_text run)
    run_comes bytes lines run ending.Done g s r e =
        done bytes lines g s (run_holds lines workers run r e) (has_workers lines workers run r) (ap ending_status e)
        (ap (λ (x : Ending). journal_text run.journal ++ last_line x) e ∙ append-nil (journal_text run.journal))
    run_comes bytes lines run (ending.Full ticket) g s r e =
        full bytes lines g s (run_holds_first lines workers run ticket r e) (has_workers lines workers run r) (ap ending_status e)
        (ap (λ (x : Ending). journal_text run.journal ++ last_line x) e)

    -- ---- statuses that no answer has where no command was done
    not_done : (a : Answer) → Hinders told reads reads' a → status_of a ≡ 0 → ⊥
    not_done Read h e = omega arith
    not_done TooLong h e = omega arith
    not_done Memory h e = omega arith
    not_done (Refused why line column) h e = omega arith
    not_done Yes h e = h
    not_done (Proof d) h e = h
    not_done (YesPhase p) h e = h
    not_done (No i) h e = h
    not_done (NoPair i k) h e = h
    not_done (NoBehind i k) h e = h
    not_done (Stuck s) h e = h
    not_done (Passed l) h e = h
    not_done Accepted h e = h
    not_done (Rejected l w) h e = h
    not_done (Left s) h e = h
    not_done Words h e = h

    not_full : (a : Answer) → Hinders told reads reads' a → status_of a ≡ 69 → ⊥
    not_full Read h e = omega arith
    not_full TooLong h e = omega arith
    not_full Memory h e = omega arith
    not_full (Refused why line column) h e = omega arith
    not_full Yes h e = h
    not_full (Proof d) h e = h
    not_full (YesPhase p) h e = h
    not_full (No i) h e = h
    not_full (NoPair i k) h e = h
    not_full (NoBehind i k) h e = h
    not_full (Stuck s) h e = h
    not_full (Passed l) h e = h
    not_full Accepted h e = h
    not_full (Rejected l w) h e = h
    not_full (Left s) h e = h
    not_full Words h e = h

-- ---- a script with a fault
abbrev ok_of : List Line → Reads
ok_of lines = Ok (map asked_of lines)

abbrev err_of : ScriptFault → Reads
err_of e = Err e

err_not_ok : (e : ScriptFault) (lines : List Line) → err_of e ≡ ok_of lines → ⊥
err_not_ok e lines q = cc

same_fault : (e d : ScriptFault) → err_of e ≡ err_of d → e ≡ d
same_fault e d q = cc

module _ (bytes : List ℕ) (e : ScriptFault) (faulty : IsReading 1 bytes (Err e)) where
  -- so are the bytes that a source gave
  read_given : (given : List ℕ) → Gives (Some bytes) given → IsReading 1 given (Err e)
  read_given given g = subst (λ (b : List ℕ). IsReading 1 b (Err e)) (sym g.all) faulty

  no_script : (given : List ℕ) (lines : List Line) → Gives (Some bytes) given → IsScript given lines → ⊥
  no_script given lines g s = err_not_ok e lines (s.only (Err e) (read_given given g))

  answer_refused : (reads reads' : ℕ) (old new : Option (List ℕ)) (status : ℕ) (a : Answer) → length bytes ≤ 16777216 → Hinders (Some bytes) reads reads' a
      → status ≡ status_of a → new ≡ append_known old (text_of a) → IsRefusedAs e old new status
  answer_refused reads reads' old new status Read s h k w = unread k
  answer_refused reads reads' old new status TooLong s h k w = absurd (omega (arith, s, h))
  answer_refused reads reads' old new status Memory s h k w = wanting k
  answer_refused reads reads' old new status (Refused why line column) s h k w =
      let same : e ≡ h.1 = same_fault e h.1 (h.3.only (Err e) (read_given h.0 h.2)) in
      refused k (w ∙ ap (λ (x : Answer). append_known old (text_of x)) (h.4 ∙ ap answer_to (sym same)))
  answer_refused reads reads' old new status Yes s h k w = absurd h
  answer_refused reads reads' old new status (Proof d) s h k w = absurd h
  answer_refused reads reads' old new status (YesPhase p) s h k w = absurd h
  answer_refused reads reads' old new status (No i) s h k w = absurd h
  answer_refused reads reads' old new status (NoPair i j) s h k w = absurd h
  answer_refused reads reads' old new status (NoBehind i j) s h k w = absurd h
  answer_refused reads reads' old new status (Stuck l) s h k w = absurd h
  answer_refused reads reads' old new status (Passed l) s h k w = absurd h
  answer_refused reads reads' old new status Accepted s h k w = absurd h
  answer_refused reads reads' old new status (Rejected l y) s h k w = absurd h
  answer_refused reads reads' old new status (Left l) s h k w = absurd h
  answer_refused reads reads' old new status Words s h k w = absurd h

-- ---- how a call ends
pub other_number : {a b n : ℕ} → a ≡ n → a ≡ b → n ≡ b
other_number p q = sym p ∙ q

module _ (workers : ℕ) (told : Option (List ℕ)) (reads reads' : ℕ) (old new : Option (List ℕ)) (f f' : ℕ) (journal : List Entry) (status : ℕ) where
  pub hindered_ends : (a : Answer) → Hinders told reads reads' a → journal ≡ []
      → (Writes old new f f' (text_of a) (status_of a) status) ⊎ (Writes old new f f' (text_of Memory) 70 status)
      → RunEnds workers told reads reads' old new f f' journal status
  hindered_ends a h j (inl w) = record { wanted = status_of a; text = text_of a; comes = hindered a h j refl refl; written = w }
  hindered_ends a h j (inr w) = record { wanted = 70; text = text_of Memory; comes = starved refl refl; written = w }

  pub run_ends : (run : Run) → YieldsRun workers told run → journal ≡ run.journal → PrintsRun run old new f f' status
      → RunEnds workers told reads reads' old new f f' journal status
  run_ends run y j p = subst (λ (es : List Entry). RunEnds workers told reads reads' old new f f' es status) (sym j) (by p)
    where
      by : PrintsRun run old new f f' status → RunEnds workers told reads reads' old new f f' run.journal status
      by (inl w) = record {
        wanted = ending_status run.ending;
        text = run_text run;
        comes = run_comes workers told reads reads' y.0 y.2.0 run run.ending y.1 y.2.1 y.2.2 refl;
        written = w;
      }
      by (inr w) = record { wanted = 70; text = codes "memory\n"; comes = starved refl refl; written = w }

  -- ---- and what its status tells then
  headline_from : (n : ℕ) (t : List ℕ) → Comes workers told reads reads' journal n t → n ≡ 0 → new ≡ append_known old t → Headline workers told old new journal
  headline_from n t (hindered a h j w x) e k = absurd (not_done workers told reads reads' a h (other_number w e))
  headline_from n t (starved w x) e k = absurd (omega (arith, w, e))
  headline_from n t (done bytes lines g s h b w x) e k =
      record { bytes = bytes; lines = lines; given = g; script = s; holds = h; workers_are = b; written = k ∙ ap (append_known old) x }
  headline_from n t (full bytes lines g s h b w x) e k = absurd (omega (arith, w, e))

  headline_by : (n : ℕ) (t : List ℕ) → Comes workers told reads reads' journal n t → Writes old new f f' t n status → status ≡ 0 → Headline workers told old new journal
  headline_by n t c (whole k e) z = headline_from n t c (other_number e z) k
  headline_by n t c (failed p q e) z = absurd (omega (arith, e, z))

  pub headline_of : RunEnds workers told reads reads' old new f f' journal status → status ≡ 0 → Headline workers told old new journal
  headline_of r z = headline_by r.wanted r.text r.comes r.written z

  cut_from : (n : ℕ) (t : List ℕ) → Comes workers told reads reads' journal n t → n ≡ 69 → new ≡ append_known old t → CutShort workers told old new journal
  cut_from n t (hindered a h j w x) e k = absurd (not_full workers told reads reads' a h (other_number w e))
  cut_from n t (starved w x) e k = absurd (omega (arith, w, e))
  cut_from n t (done bytes lines g s h b w x) e k = absurd (omega (arith, w, e))
  cut_from n t (full bytes lines g s h b w x) e k = record {
    bytes = bytes;
    lines = lines;
    given = g;
    script = s;
    holds = h;
    workers_are = b;
    written = k ∙ ap (append_known old) x;
  }

  cut_by : (n : ℕ) (t : List ℕ) → Comes workers told reads reads' journal n t → Writes old new f f' t n status → status ≡ 69 → CutShort workers told old new journal
  cut_by n t c (whole k e) z = cut_from n t c (other_number e z) k
  cut_by n t c (failed p q e) z = absurd (omega (arith, e, z))

  pub cut_short_of : RunEnds workers told reads reads' old new f f' journal status → status ≡ 69 → CutShort workers told old new journal
  cut_short_of r z = cut_by r.wanted r.text r.comes r.written z

module _ (workers : ℕ) (reads reads' : ℕ) (old new : Option (List ℕ)) (f f' : ℕ) (journal : List Entry) (status : ℕ) where
  module _ (bytes : List ℕ) (e : ScriptFault) (short : length bytes ≤ 16777216) (faulty : IsReading 1 bytes (Err e)) where
    refused_from : (n : ℕ) (t : List ℕ) → Comes workers (Some bytes) reads reads' journal n t → status ≡ n → new ≡ append_known old t → IsRefusedAs e old new status
    refused_from n t (hindered a h j w x) k y = answer_refused bytes e faulty reads reads' old new status a short h (k ∙ w) (y ∙ ap (append_known old) x)
    refused_from n t (starved w x) k y = wanting (k ∙ w)
    refused_from n t (done given lines g p h b w x) k y = absurd (no_script bytes e faulty given lines g p)
    refused_from n t (full given lines g p h b w x) k y = absurd (no_script bytes e faulty given lines g p)

    refused_by : (n : ℕ) (t : List ℕ) → Comes workers (Some bytes) reads reads' journal n t → Writes old new f f' t n status → IsRefusedAs e old new status
    refused_by n t c (whole y k) = refused_from n t c k y
    refused_by n t c (failed p q k) = unwritten k

  pub one_refusal_of : (told : Option (List ℕ)) → RunEnds workers told reads reads' old new f f' journal status → IsOneRefusal told old new status
  one_refusal_of None r = tt
  one_refusal_of (Some bytes) r = λ e s d. refused_by bytes e s d r.wanted r.text r.comes r.written
