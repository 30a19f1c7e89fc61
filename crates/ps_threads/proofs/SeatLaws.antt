-- Seats that go out, and come back.
use Rattle.std.proofs.Common.{◌≡◌, ◌⊎◌, ℕ, ◌+◌, ◌<◌, List, [], ◌∷◌, ◌++◌, length, refl, sym, ap, ◌∙◌, subst, inl, inr, ⊎_elim, arith}
use mathlib.Core.Option.{some, some-ne-none}
use mathlib.Core.Logic.{dite}
use native.Mathlib.Decide.{ℕ_discrete}
use lib.ListN.{get_elem?}
use Rattle.std.specs.declared.vec.Vec.{Vec}
use Rattle.std.specs.declared.alloc.Global.{Global}
use Rattle.atomic_table.specs.Seated.{TableId}
use Rattle.atomic_table.proofs.Lists.{at_longer, at_last}
use Rattle.ps_desk.specs.declared.object.Object.{Ghosts}
use Rattle.ps_desk.specs.declared.seat.Seat.{Seat}
use Rattle.ps_desk.specs.declared.view.View.{View}
use Rattle.ps_desk.specs.declared.view.Ended.{Ended}
use Rattle.ps_desk.specs.Views.{Has, giving, given, joined, ended_of, opened, take_out}
use Rattle.ps_desk.specs.Seats.{view_of, desk_of}
use Rattle.ps_desk.proofs.ListLemmas.{has_less, length_less}
use Rattle.ps_script.specs.declared.command.Command.{Command}
use Rattle.ps_script.specs.declared.script.Line.{Line}
use Rattle.ps_journal.specs.declared.commands.Cmd.{Cmd}
use Rattle.ps_journal.specs.declared.replies.Reply.{Reply}
use Rattle.ps_sessions.specs.declared.runs.Ending.{Ending}
use Rattle.ps_sessions.specs.declared.runs.Ending.TheVariants.{Done, Full}
use Rattle.ps_sessions.specs.Lines.{commands_of}
use Rattle.ps_threads.specs.declared.parts.Job.{Job}
use Rattle.ps_threads.specs.Served.{AreDealt, IsJob, AreJobs, first_full}
use Rattle.ps_threads.specs.Worked.{IsIdle, AreIdle}
use Rattle.ps_threads.specs.Lent.{HasServed, Lends, ServesAs, CutAt, Came}
use Rattle.ps_threads.proofs.ListLaws.{all_more, at_middle}

-- ---- the first seat
pub lends_none : (v : View Cmd Reply) (seats : ℕ) → v ≡ opened seats → Lends v 1
lends_none v seats is =
    subst (λ w. Lends w 1) (sym is) (record { number = refl; own = refl; count = refl; out = λ k low high. absurd (omega arith) })

pub lends_more : (v v' : View Cmd Reply) (n : ℕ) → Lends v n → v.next ≡ n → v' ≡ giving v → Lends v' (n + 1)
lends_more v v' n l next is =
    let out : v'.out ≡ v.next ∷ v.out = ap (λ (y : View Cmd Reply). y.out) is in
    record {
      number = ap (λ (y : View Cmd Reply). y.number) is ∙ l.number;
      own = ap (λ (y : View Cmd Reply). y.own) is ∙ l.own;
      count = (let a = ap (length {A = ℕ}) out in let b = l.count in omega arith);
      out = λ k low high.
          subst (λ xs. Has xs k) (sym out) (dite (ℕ_discrete k n) (λ z. inl (next ∙ sym z)) (λ ne. inr (l.out k low (omega arith))));
    }

pub lends_less : (v w v' : View Cmd Reply) (n m : ℕ) → Lends v m → w.number ≡ n → 0 < n → m ≡ n + 1 → v' ≡ joined v w → Lends v' n
lends_less v w v' n m l number low eq is =
    let has : Has v.out n = l.out n low (omega arith) in
    let has' : Has v.out w.number = subst (λ k. Has v.out k) (sym number) has in
    let out : v'.out ≡ take_out w.number v.out = ap (λ (y : View Cmd Reply). y.out) is in
    record {
      number = ap (λ (y : View Cmd Reply). y.number) is ∙ l.number;
      own = ap (λ (y : View Cmd Reply). y.own) is ∙ l.own;
      count = (let a = ap (length {A = ℕ}) out in let b = l.count in let d = length_less v.out w.number has' in omega arith);
      out = λ k low' high. subst (λ xs. Has xs k) (sym out) (has_less v.out k w.number (λ e. omega arith) (l.out k low' (omega arith)));
    }

-- ---- the seats that came back
pub came_none : (lines : List Line) (n : ℕ) (ended : List (Ended Cmd Reply)) → ended ≡ [] → Came lines n Done ended
came_none lines n ended is = subst (λ es. Came lines n Done es) (sym is) (record {
  numbers = λ k e at. absurd (some-ne-none e (sym at));
  each = λ k e at. absurd (some-ne-none e (sym at));
  whole = λ t k e at. absurd (some-ne-none e (sym at));
  cut = λ t f. absurd (cc);
})

-- both are Done where the first Full of them is none
both_done : (a b : Ending) → first_full a b ≡ Done → (a ≡ Done) × (b ≡ Done)
both_done Done b e = (refl, e)
both_done (Full ticket) b e = absurd (cc)

one_full : (a b : Ending) (ticket : ℕ) → first_full a b ≡ Full ticket → (a ≡ Full ticket) ⊎ (b ≡ Full ticket)
one_full Done b ticket e = inr e
one_full (Full t) b ticket e = inl e

module _ (lines : List Line) (n : ℕ) (ending this now : Ending) (v w v' : View Cmd Reply) (c : Came lines n ending v.ended) (both : now ≡ first_full ending this)
    (is : v' ≡ joined v w) (none : w.ended ≡ []) (number : w.number + length v.ended ≡ n)
    (serves : HasServed lines w.number w.own w.refused this) where
  ended : v'.ended ≡ v.ended ++ ended_of w ∷ []
  ended = ap (λ (y : View Cmd Reply). y.ended) is ∙ ap (λ l. v.ended ++ ended_of w ∷ l) none

  one_of : (P : ℕ → Ended Cmd Reply → Type 0) → ((k : ℕ) (e : Ended Cmd Reply) → get_elem? v.ended k ≡ some e → P k e) → P (length v.ended) (ended_of w)
      → (k : ℕ) (e : Ended Cmd Reply) → get_elem? v'.ended k ≡ some e → P k e
  one_of P all here = all_more v.ended v'.ended (ended_of w) ended P all here

  as_done : this ≡ Done → ServesAs lines (ended_of w) Done
  as_done e = subst (λ b. ServesAs lines (ended_of w) b) e serves

  cut_before : (ticket : ℕ) → CutAt lines v.ended ticket → CutAt lines v'.ended ticket
  cut_before ticket d = record {
    place = d.place;
    seat = d.seat;
    at = ap (λ l. get_elem? l d.place) ended ∙ at_longer v.ended (ended_of w ∷ []) d.place d.seat d.at;
    serves = d.serves;
  }

  cut_here : (ticket : ℕ) → this ≡ Full ticket → CutAt lines v'.ended ticket
  cut_here ticket e = record {
    place = length v.ended;
    seat = ended_of w;
    at = ap (λ l. get_elem? l (length v.ended)) ended ∙ at_last v.ended (ended_of w) (length v.ended) refl;
    serves = subst (λ b. ServesAs lines (ended_of w) b) e serves;
  }

  pub came_more : Came lines n now v'.ended
  came_more = record {
    numbers = one_of (λ k e. e.number + k ≡ n) c.numbers number;
    each = one_of (λ k e. (b : Ending) × ServesAs lines e b) c.each (this, serves);
    whole = λ all. let p = both_done ending this (sym both ∙ all) in one_of (λ k e. ServesAs lines e Done) (c.whole p.0) (as_done p.1);
    cut = λ ticket f.
        ⊎_elim (λ e. cut_before ticket (c.cut ticket e)) (λ e. cut_here ticket e) (one_full ending this ticket (sym both ∙ f));
  }

-- ---- one job more
module _ (lines : List Line) (table : TableId) (dealt before rest : List (Vec Command Global)) (jobs all : List Job) (job : Job) (giver : View Cmd Reply)
    (split : dealt ≡ before ++ job.commands ∷ rest) (are : AreDealt lines dealt) (placed : length before ≡ length jobs) (each : AreJobs lines table jobs)
    (is : all ≡ jobs ++ job ∷ []) (here : desk_of job.seat ≡ table) (new : view_of job.seat ≡ given giver) (next : giver.next ≡ length jobs + 1) where
  job_is : IsJob lines table (length jobs) job
  job_is = record {
    desk_is = here;
    number = ap (λ (v : View Cmd Reply). v.number) new ∙ next;
    fresh = record { own = ap (λ (v : View Cmd Reply). v.own) new; ended = ap (λ (v : View Cmd Reply). v.ended) new };
    commands =
        are (length before) job.commands (ap (λ l. get_elem? l (length before)) split ∙ at_middle before rest job.commands)
        ∙ ap (λ n. commands_of (n + 1) lines) placed;
  }

  pub jobs_more : AreJobs lines table all
  jobs_more = all_more jobs all job is (IsJob lines table) each job_is

-- ---- one idle seat more
pub lends_next : (v v' : View Cmd Reply) → Lends v v.next → v' ≡ giving v → Lends v' v'.next
lends_next v v' l is = subst (Lends v') (sym (ap (λ (y : View Cmd Reply). y.next) is)) (lends_more v v' v.next l refl is)

module _ {O : Type 0} {o : Ghosts O Cmd Reply} where
  pub idle_more : (table : TableId) (n : ℕ) (seats all : List (Seat O Cmd Reply o)) (seat : Seat O Cmd Reply o) (giver : View Cmd Reply)
      → AreIdle table n seats → all ≡ seats ++ seat ∷ [] → desk_of seat ≡ table → view_of seat ≡ given giver → giver.next ≡ n + length seats
      → AreIdle table n all
  idle_more table n seats all seat giver each is here new next =
      all_more seats all seat is (λ k s. IsIdle table (n + k) s) each record {
        desk_is = here;
        number_is = ap (λ (v : View Cmd Reply). v.number) new ∙ next;
        fresh = record { own = ap (λ (v : View Cmd Reply). v.own) new; ended = ap (λ (v : View Cmd Reply). v.ended) new };
      }
