-- Jobs, one more with each step, and what became of them.
use Rattle.std.proofs.Common.{◌≡◌, ℕ, ◌+◌, ◌≤◌, List, [], ◌∷◌, ◌++◌, length}
use Rattle.ps_desk.specs.declared.object.Object.{Ghosts}
use Rattle.ps_desk.specs.declared.seat.Seat.{Seat}
use Rattle.ps_desk.specs.declared.seat.Desk.{Desk}
use Rattle.ps_desk.specs.Seats.{IsSeatOf}
use Rattle.ps_journal.specs.declared.commands.Cmd.{Cmd}
use Rattle.ps_journal.specs.declared.replies.Reply.{Reply}
use Rattle.ps_threads.specs.declared.held.Held.{Held}
use Rattle.ps_threads.specs.declared.parts.Job.{Job}
use Rattle.ps_threads.specs.declared.parts.Finished.{Finished}
use Rattle.ps_threads.specs.Seated.{IsFresh}
use Rattle.ps_sessions.specs.declared.runs.Ending.TheVariants.{Done}
use Rattle.ps_threads.specs.Served.{IsServedBy, JobsAt, AreServed}
use Rattle.ps_threads.specs.Worked.{IsWorkedBy, SeatsAt, AreWorked}
use Rattle.ps_threads.proofs.ListLaws.{front_at, last_at, side_more, side_kept, offset_more}

module _ (desk : Desk Held Cmd Reply) (rest jobs : List Job) (job : Job) (is : jobs ≡ rest ++ job ∷ []) (all : JobsAt desk jobs) where
  pub last_job : IsSeatOf desk job.seat × IsFresh job.seat
  last_job = all (length rest) job (last_at rest jobs job is)

  pub other_jobs : JobsAt desk rest
  other_jobs k j e = all k j (front_at rest jobs job is k j e)

pub served_more : (rest jobs : List Job) (job : Job) (done all : List Finished) (f : Finished) → jobs ≡ rest ++ job ∷ [] → all ≡ done ++ f ∷ []
    → length done ≡ length rest → AreServed rest done → IsServedBy job.commands.items job.seat f.seat f.ending → AreServed jobs all
served_more rest jobs job done all f isj isf len each here =
    side_more (λ (j : Job) (f : Finished). IsServedBy j.commands.items j.seat f.seat f.ending) rest jobs done all job f isj isf len each here

-- ---- workers
module _ {O : Type 0} {o : Ghosts O Cmd Reply} where
  module _ (desk : Desk O Cmd Reply) (rest seats : List (Seat O Cmd Reply o)) (seat : Seat O Cmd Reply o) (is : seats ≡ rest ++ seat ∷ []) (all : SeatsAt desk seats) where
    pub last_seat : IsSeatOf desk seat × IsFresh seat
    last_seat = all (length rest) seat (last_at rest seats seat is)

    pub other_seats : SeatsAt desk rest
    other_seats k s e = all k s (front_at rest seats seat is k s e)

  pub worked_more : (n : ℕ) (rest seats : List (Seat O Cmd Reply o)) (seat : Seat O Cmd Reply o) (done all : List Finished) (f : Finished) → seats ≡ rest ++ seat ∷ []
      → all ≡ done ++ f ∷ [] → length done ≡ n + length rest → AreWorked n rest done → IsWorkedBy seat f.seat × (f.ending ≡ Done) → AreWorked n seats all
  worked_more n rest seats seat done all f iss isf len each here =
      offset_more (λ (s : Seat O Cmd Reply o) (f : Finished). IsWorkedBy s f.seat × (f.ending ≡ Done)) n rest seats done all seat f iss isf len each here

pub served_kept : (jobs : List Job) (done all : List Finished) (f : Finished) → all ≡ done ++ f ∷ [] → length jobs ≤ length done → AreServed jobs done
    → AreServed jobs all
served_kept jobs done all f isf len each =
    side_kept (λ (j : Job) (f : Finished). IsServedBy j.commands.items j.seat f.seat f.ending) jobs done all f isf len each
