-- The entries of a worker's seat.
use Rattle.std.proofs.Common.{◌≡◌, ℕ, List, [], ◌∷◌, ◌++◌, refl, sym, ap, ◌∙◌, subst, arith}
use Rattle.ps_desk.specs.declared.object.Object.{Ghosts}
use Rattle.ps_desk.specs.declared.seat.Seat.{Seat}
use Rattle.ps_desk.specs.Rule.{core}
use Rattle.ps_desk.specs.Seats.{view_of, desk_of}
use Rattle.ps_journal.specs.declared.commands.Cmd.{Cmd}
use Rattle.ps_journal.specs.declared.replies.Reply.{Reply}
use Rattle.ps_journal.specs.History.{Entry}
use Rattle.ps_history.specs.Matching.{Matched, nothing, inner}
use Rattle.ps_calls.specs.Calls.{Grows, own}
use Rattle.ps_worker.specs.Steps.{Steps, none, more}
use Rattle.ps_worker.specs.Shifts.{Adds}
use Rattle.ps_threads.specs.Seated.{seat_view, IsFresh}
use Rattle.ps_threads.specs.Worked.{IsWork, IsWorkedBy}
use Rattle.ps_threads.proofs.TurnLaws.{own_is, stays_desk, stays_core}

pub no_work : (own : List Entry) → own ≡ [] → IsWork own
no_work own e = subst IsWork (sym e) (record { count = 0; few = omega arith; steps = none })

-- work answers no command
steps_matched : (before es : List Entry) (n : ℕ) → Matched before [] → Steps before n es → Matched es []
steps_matched before es n m none = m
steps_matched before es n m (more e s w i) = inner e (steps_matched before _ _ m s) i

pub work_matched : (own : List Entry) → IsWork own → Matched own []
work_matched own w = steps_matched [] own w.count nothing w.steps

-- the seat as it was, as it is, and as it is handed back
module _ {O : Type 0} {o : Ghosts O Cmd Reply} (first s t back : Seat O Cmd Reply o) where
  pub worked_by : s ≡ first → IsFresh first → Grows (seat_view s) (seat_view t) → Adds 8190 (own (seat_view s)) (own (seat_view t)) → back ≡ t → IsWorkedBy first back
  worked_by same fresh g a e = subst (λ x. IsWorkedBy first x) (sym e) record {
    desk = stays_desk s t g.stays ∙ ap desk_of same;
    core_is = stays_core s t g.stays ∙ ap (λ x. core (view_of x)) same;
    work = subst (λ es. Adds 8190 es (view_of t).own) nothing_yet (subst (Adds 8190 (own (seat_view s))) (sym (own_is t)) a);
  }
    where
      nothing_yet : own (seat_view s) ≡ []
      nothing_yet = sym (own_is s) ∙ ap (λ x. (view_of x).own) same ∙ fresh.own
