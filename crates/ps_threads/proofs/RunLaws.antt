-- What the closed journal has of each seat.
use Rattle.std.proofs.Common.{◌≡◌, ◌≢◌, ◌⊎◌, ℕ, suc, ◌+◌, ◌-◌, ◌<◌, ◌≤◌, cond, List, [], ◌∷◌, ◌++◌, length, get_or, refl, sym, ap, ◌∙◌, subst, append-nil, inl, inr, ⊎_elim, arith, ne_eqb}
use Rattle.std.specs.Prelude.{eqb, filter, map}
use mathlib.Core.Option.{some}
use mathlib.Core.Logic.{dite}
use native.Mathlib.Decide.{ℕ_discrete, dec_le}
use lib.ListN.{get_elem?}
use Rattle.atomic_table.specs.Seated.{TableId}
use Rattle.ps_desk.specs.declared.object.Object.{Ghosts}
use Rattle.ps_desk.specs.declared.seat.Seat.{Seat}
use Rattle.ps_desk.specs.declared.view.View.{View}
use Rattle.ps_desk.specs.declared.view.Ended.{Ended}
use Rattle.ps_desk.specs.declared.seat.Desk.{Desk}
use Rattle.ps_desk.specs.Rule.{Core}
use Rattle.ps_desk.specs.Seats.{view_of, Closed}
use Rattle.ps_desk.proofs.ListLemmas.{owned}
use Rattle.ps_script.specs.declared.command.Command.{Command}
use Rattle.ps_script.specs.declared.script.Line.{Line}
use Rattle.ps_journal.specs.declared.commands.Cmd.{Cmd}
use Rattle.ps_journal.specs.declared.replies.Reply.{Reply}
use Rattle.ps_journal.specs.History.{Entry, IsLegal, own_entries}
use Rattle.ps_history.specs.Matching.{Matched, nothing}
use Rattle.ps_threads.specs.declared.held.Held.{Held}
use Rattle.ps_sessions.specs.declared.runs.Ending.{Ending}
use Rattle.ps_sessions.specs.declared.runs.Ending.TheVariants.{Done, Full}
use Rattle.ps_sessions.specs.Lines.{seat_of, commands_of}
use Rattle.ps_sessions.proofs.Judgements.{legal_just}
use Rattle.ps_threads.specs.declared.parts.Job.{Job}
use Rattle.ps_threads.specs.declared.parts.Finished.{Finished}
use Rattle.ps_threads.specs.declared.runs.Run.{Run}
use Rattle.ps_threads.specs.Served.{Serves, AreJobs, JobsAt, AreServed, IsBack, AreBack}
use Rattle.ps_threads.specs.Worked.{IsWork, SeatsAt, AreIdle, AreWorked}
use Rattle.ps_threads.specs.Lent.{HasServed, AllServe, ServesAs, CutAt, Came}
use Rattle.ps_threads.specs.Runs.{AnswersFirst, IsCutShort, IsRunOf}
use Rattle.ps_threads.proofs.ListLaws.{there, within, at_index}
use Rattle.ps_threads.proofs.WorkLaws.{no_work, work_matched}

-- ---- the jobs, and what became of them
pub jobs_at : (lines : List Line) (desk : Desk Held Cmd Reply) (table : TableId) (jobs : List Job) → table ≡ desk.table.shared.table_id → AreJobs lines table jobs
    → JobsAt desk jobs
jobs_at lines desk table jobs here are k j e = let a = are k j e in (a.desk_is ∙ here, a.fresh)

module _ {O : Type 0} {o : Ghosts O Cmd Reply} where
  pub seats_at : (desk : Desk O Cmd Reply) (table : TableId) (n : ℕ) (seats : List (Seat O Cmd Reply o)) → table ≡ desk.table.shared.table_id → AreIdle table n seats
      → SeatsAt desk seats
  seats_at desk table n seats here idle k s e = let i = idle k s e in (i.desk_is ∙ here, i.fresh)

  -- of 16 sessions, and of the workers behind them
  module _ (lines : List Line) (table : TableId) (n : ℕ) (jobs : List Job) (seats : List (Seat O Cmd Reply o)) (fs : List Finished) (are : AreJobs lines table jobs)
      (idle : AreIdle table 17 seats) (served : AreServed jobs fs) (worked : AreWorked n seats fs) (sixteen : n ≡ 16) (all : length jobs ≡ 16)
      (len : length fs ≡ 16 + length seats) where
    job_at : (k : ℕ) → k ≤ 15 → (j : Job) × (get_elem? jobs k ≡ some j)
    job_at k low = there jobs k (omega (arith, low, all))

    seat_at : (k : ℕ) (f : Finished) → get_elem? fs k ≡ some f → 15 < k → (s : Seat O Cmd Reply o) × (get_elem? seats (k - 16) ≡ some s)
    seat_at k f e high = there seats (k - 16) (let low = within fs k f e in omega (arith, low, len, high))

    at_worker : (k : ℕ) (f : Finished) → get_elem? fs k ≡ some f → 15 < k → get_elem? fs (n + (k - 16)) ≡ some f
    at_worker k f e high = ap (get_elem? fs) (omega (arith, sixteen, high)) ∙ e

    session_back : (k : ℕ) (f : Finished) → get_elem? fs k ≡ some f → k ≤ 15 → IsBack table k f
    session_back k f e low =
        let j = job_at k low in
        let a = are k j.0 j.1 in
        let s = served k j.0 f j.1 e in
        record {
          desk_is = s.desk ∙ a.desk_is;
          number = ap (λ (x : Core Cmd Reply). x.number) s.core_is ∙ a.number;
          ended = ap (λ (x : Core Cmd Reply). x.ended) s.core_is ∙ a.fresh.ended;
        }

    worker_back : (k : ℕ) (f : Finished) → get_elem? fs k ≡ some f → 15 < k → IsBack table k f
    worker_back k f e high =
        let s = seat_at k f e high in
        let i = idle (k - 16) s.0 s.1 in
        let w = worked (k - 16) s.0 f s.1 (at_worker k f e high) in
        let number : 17 + (k - 16) ≡ k + 1 = omega (arith, high) in
        record {
          desk_is = w.0.desk ∙ i.desk_is;
          number = ap (λ (x : Core Cmd Reply). x.number) w.0.core_is ∙ i.number_is ∙ number;
          ended = ap (λ (x : Core Cmd Reply). x.ended) w.0.core_is ∙ i.fresh.ended;
        }

    pub are_back : AreBack table fs
    are_back k f e = dite (dec_le k 15) (session_back k f e) (λ g. worker_back k f e (omega (arith, g)))

    session_serves : (k : ℕ) (f : Finished) → get_elem? fs k ≡ some f → k ≤ 15 → HasServed lines (k + 1) (view_of f.seat).own (view_of f.seat).refused f.ending
    session_serves k f e low =
        let j = job_at k low in
        let a = are k j.0 j.1 in
        let s = served k j.0 f j.1 e in
        record {
          session = λ h. subst (λ cs. Serves cs (view_of f.seat).own (view_of f.seat).refused f.ending) a.commands s.serves;
          worker = λ h. absurd (omega (arith, h, low));
        }

    worker_serves : (k : ℕ) (f : Finished) → get_elem? fs k ≡ some f → 15 < k → HasServed lines (k + 1) (view_of f.seat).own (view_of f.seat).refused f.ending
    worker_serves k f e high =
        let s = seat_at k f e high in
        let w = worked (k - 16) s.0 f s.1 (at_worker k f e high) in
        record { session = λ h. absurd (omega (arith, h, high)); worker = λ h. (w.0.work, w.1) }

    pub all_serve : AllServe lines fs
    all_serve k f e = dite (dec_le k 15) (session_serves k f e) (λ g. worker_serves k f e (omega (arith, g)))

-- ---- seats of no session
abbrev IsOutside : ℕ → Type 0
IsOutside m = (m ≡ 0) ⊎ (16 < m)

other_seat : (l : Line) (m : ℕ) → IsOutside m → seat_of l ≢ m
other_seat l m (inl z) e = omega (arith, z, e)
other_seat l m (inr high) e = omega (arith, high, e, l.low)

no_commands : (lines : List Line) (m : ℕ) → IsOutside m → commands_of m lines ≡ []
no_commands [] m out = refl
no_commands (l ∷ ls) m out =
    let rest = filter (λ (x : Line). eqb (seat_of x) m) ls in
    ap (λ b. map (λ (x : Line). x.command) (cond b (l ∷ rest) rest)) (ne_eqb (seat_of l) m (other_seat l m out)) ∙ no_commands ls m out

none_of : (m : ℕ) (es : List Entry) → ((k : ℕ) (x : Entry) → get_elem? es k ≡ some x → x.seat ≢ m) → own_entries m es ≡ []
none_of m [] other = refl
none_of m (e ∷ es) other =
    ap (λ b. cond b (e ∷ own_entries m es) (own_entries m es)) (ne_eqb e.seat m (other 0 e refl)) ∙ none_of m es (λ k x at. other (suc k) x at)

which : (m : ℕ) → (m ≡ 0) ⊎ (((0 < m) × (m ≤ 16)) ⊎ (16 < m))
which m =
    dite (ℕ_discrete m 0)
    (λ z. inl z)
    (λ ne. inr (dite (dec_le m 16) (λ l. inl (omega (arith, ne), l)) (λ g. inr (omega (arith, g)))))

not_full : (ticket : ℕ) → Full ticket ≡ Done → ⊥
not_full ticket e = cc

-- ---- the whole
-- where none is left
all_matched : (commands served left : List Command) (own : List Entry) → commands ≡ served ++ left → left ≡ [] → Matched own served → Matched own commands
all_matched commands served left own split none m =
    subst (Matched own) (sym (split ∙ ap (λ cs. served ++ cs) none ∙ append-nil served)) m

module _ (lines : List Line) (workers : ℕ) (v : View Cmd Reply) (journal : List Entry) (closed : Closed IsLegal v journal) (alone : v.own ≡ []) (ending : Ending)
    (came : Came lines (16 + workers) ending v.ended) (all : length v.ended ≡ 16 + workers) where
  -- a seat that came back has this number
  record EndedAt (m : ℕ) : Type 0 where
    place : ℕ
    seat : Ended Cmd Reply
    at : get_elem? v.ended place ≡ some seat
    number : seat.number ≡ m

  ended_at : (m : ℕ) → 0 < m → m ≤ 16 + workers → EndedAt m
  ended_at m low high =
      let t = there v.ended (16 + workers - m) (omega (arith, all, low, high)) in
      record {
        place = 16 + workers - m;
        seat = t.0;
        at = t.1;
        number = (let h = came.numbers (16 + workers - m) t.0 t.1 in omega (arith, h, high));
      }

  first_seat : own_entries 0 journal ≡ []
  first_seat = sym closed.own ∙ alone

  absent : (m : ℕ) → 16 + workers < m → own_entries m journal ≡ []
  absent m high =
      none_of m journal (λ k x at same.
      ⊎_elim
      (λ z. omega (arith, z, same, high))
      (λ e. let h = came.numbers e.0 e.1 e.2 in let s = e.3 in omega (arith, h, s, same, high))
      (closed.all k x at))

  own_at : (m : ℕ) (e : EndedAt m) → own_entries m journal ≡ e.seat.own
  own_at m e = ap (λ k. own_entries k journal) (sym e.number) ∙ sym (closed.ended e.place e.seat e.at)

  -- ---- a seat of a session
  record SessionAt (m : ℕ) : Type 0 where
    ended : EndedAt m
    ending_is : Ending
    serves : Serves (commands_of m lines) ended.seat.own ended.seat.refused ending_is

  serves_at : (m : ℕ) (e : EndedAt m) (b : Ending) → m ≤ 16 → ServesAs lines e.seat b → Serves (commands_of m lines) e.seat.own e.seat.refused b
  serves_at m e b low s =
      subst (λ k. Serves (commands_of k lines) e.seat.own e.seat.refused b) e.number (s.session (subst (λ k. k ≤ 16) (sym e.number) low))

  session_at : (m : ℕ) → 0 < m → m ≤ 16 → SessionAt m
  session_at m low high =
      let e = ended_at m low (omega (arith, high)) in
      let s = came.each e.place e.seat e.at in
      record { ended = e; ending_is = s.0; serves = serves_at m e s.0 high s.1 }

  -- ---- a seat of a worker
  work_at : (m : ℕ) → 16 < m → m ≤ 16 + workers → IsWork (own_entries m journal)
  work_at m low high =
      let e = ended_at m (omega (arith, low)) high in
      let s = came.each e.place e.seat e.at in
      subst IsWork (sym (own_at m e)) (s.1.worker (subst (λ k. 16 < k) (sym e.number) low)).0

  work_of : (m : ℕ) → 16 < m → IsWork (own_entries m journal)
  work_of m low = dite (dec_le m (16 + workers)) (work_at m low) (λ g. no_work (own_entries m journal) (absent m (omega (arith, g))))

  -- ---- all seats
  no_part : (m : ℕ) → IsOutside m → Matched (own_entries m journal) [] → AnswersFirst (commands_of m lines) (own_entries m journal)
  no_part m out matched = record { served = []; left = []; split = no_commands lines m out; matched = matched }

  part : (m : ℕ) → AnswersFirst (commands_of m lines) (own_entries m journal)
  part m = by (which m)
    where
      by : (m ≡ 0) ⊎ (((0 < m) × (m ≤ 16)) ⊎ (16 < m)) → AnswersFirst (commands_of m lines) (own_entries m journal)
      by (inl z) = no_part m (inl z) (subst (λ es. Matched es []) (sym (ap (λ k. own_entries k journal) z ∙ first_seat)) nothing)
      by (inr (inr h)) = no_part m (inr h) (work_matched (own_entries m journal) (work_of m h))
      by (inr (inl h)) =
          let e = session_at m h.0 h.1 in
          record {
            served = e.serves.served;
            left = e.serves.left;
            split = e.serves.split;
            matched = subst (λ es. Matched es e.serves.served) (sym (own_at m e.ended)) e.serves.matched;
          }

  no_line : (m : ℕ) → m ≤ 16 → commands_of m lines ≡ [] → own_entries m journal ≡ []
  no_line m low none = by (which m)
    where
      by : (m ≡ 0) ⊎ (((0 < m) × (m ≤ 16)) ⊎ (16 < m)) → own_entries m journal ≡ []
      by (inl z) = ap (λ k. own_entries k journal) z ∙ first_seat
      by (inr (inr h)) = absurd (omega (arith, h, low))
      by (inr (inl h)) = let e = session_at m h.0 h.1 in own_at m e.ended ∙ e.serves.still none

  whole : ending ≡ Done → (m : ℕ) → Matched (own_entries m journal) (commands_of m lines)
  whole done m = by (which m)
    where
      outside : IsOutside m → Matched (own_entries m journal) [] → Matched (own_entries m journal) (commands_of m lines)
      outside out matched = subst (Matched (own_entries m journal)) (sym (no_commands lines m out)) matched

      by : (m ≡ 0) ⊎ (((0 < m) × (m ≤ 16)) ⊎ (16 < m)) → Matched (own_entries m journal) (commands_of m lines)
      by (inl z) = outside (inl z) (subst (λ es. Matched es []) (sym (ap (λ k. own_entries k journal) z ∙ first_seat)) nothing)
      by (inr (inr h)) = outside (inr h) (work_matched (own_entries m journal) (work_of m h))
      by (inr (inl h)) =
          let e = ended_at m h.0 (let t = h.1 in omega (arith, t)) in
          let s = serves_at m e Done h.1 (came.whole done e.place e.seat e.at) in
          subst (λ es. Matched es (commands_of m lines)) (sym (own_at m e))
          (all_matched (commands_of m lines) s.served s.left e.seat.own s.split s.leaves s.matched)

  cut_at : (ticket : ℕ) (d : CutAt lines v.ended ticket) → Serves (commands_of d.seat.number lines) d.seat.own d.seat.refused (Full ticket)
      → IsCutShort lines ticket journal
  cut_at ticket d s = record {
    seat = d.seat.number;
    part = record {
      served = s.served;
      left = s.left;
      split = s.split;
      matched = subst (λ es. Matched es s.served) (closed.ended d.place d.seat d.at) s.matched;
    };
    some_left = s.leaves.0;
    late = s.leaves.2;
    full = closed.refused_ended d.place ticket d.seat d.at s.leaves.1;
  }

  cut_short : (ticket : ℕ) → ending ≡ Full ticket → IsCutShort lines ticket journal
  cut_short ticket full =
      let d = came.cut ticket full in
      dite (dec_le d.seat.number 16)
      (λ l. cut_at ticket d (d.serves.session l))
      (λ g. absurd (not_full ticket (d.serves.worker (omega (arith, g))).1))

  pub run_is : (r : Run) → r.journal ≡ journal → r.ending ≡ ending → IsRunOf lines workers r
  run_is r j e = subst (λ es. IsRunOf lines workers record { journal = es; ending = r.ending }) (sym j)
      (subst (λ b. IsRunOf lines workers record { journal = journal; ending = b }) (sym e) record {
        legal = closed.lawful;
        parts = part;
        others = no_line;
        work = work_of;
        absent = absent;
        complete = whole;
        cut = cut_short;
        just = legal_just journal (λ m. (part m).served) closed.lawful (λ m. (part m).matched);
      })

-- ---- each entry is of a session
pub entries_numbered : (lines : List Line) (workers : ℕ) (r : Run) → IsRunOf lines workers r → (k : ℕ) (d : Entry) → k < length r.journal → 1 ≤ (get_or r.journal k d).seat
entries_numbered lines workers r w k d low =
    let x = get_or r.journal k d in
    let none : own_entries 0 r.journal ≡ [] = w.others 0 (omega arith) (no_commands lines 0 (inl refl)) in
    dite (ℕ_discrete x.seat 0)
    (λ z. absurd (owned r.journal k x (at_index r.journal k d low) (ap (λ n. own_entries n r.journal) z ∙ none)))
    (λ ne. omega (arith, ne))
