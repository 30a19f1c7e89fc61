use Rattle.std.proofs.Common.{rules, ◌≡◌, ◌≤◌, ◌+◌, length, vec_len}
use Rattle.ps_desk.specs.Seats.{IsSeatOf}
use Rattle.ps_threads.specs.Seated.{IsFresh}
use Rattle.ps_threads.specs.Served.{JobsAt}
use Rattle.ps_threads.specs.Worked.{SeatsAt}
use Rattle.ps_threads.proofs.CrewLaws.{last_seat, other_seats, worked_more, served_kept}
use Rattle.ps_threads.proofs.beside.+workers.Goals as goal

pub join-finished-requires-after_bounds : goal.join-finished-requires-after_bounds
join-finished-requires-after_bounds g t c κs within =
    let here : IsSeatOf c.args.desk.now c.in-Some.seat × IsFresh c.in-Some.seat =
    last_seat c.args.desk.now c.pop.new.self.items c.args.idle.items c.in-Some.seat c.in-Some.ensures.items c.requires.idle in
    let rest : SeatsAt c.args.desk.now c.pop.new.self.items =
    other_seats c.args.desk.now c.pop.new.self.items c.args.idle.items c.in-Some.seat c.in-Some.ensures.items c.requires.idle in
    let jobs : JobsAt c.args.desk.now c.args.jobs.items = c.requires.jobs in
    search rules

pub returns-clause-sessions : goal.returns-clause-sessions
returns-clause-sessions g t c =
    let rest = c.join-finished.ensures.second in
    let len : length c.args.jobs.items ≤ length c.join-finished.result.1.items = search rules in
    served_kept c.args.jobs.items c.join-finished.result.1.items c.push_reserved.new.self.items c.join-finished.result.0 c.push_reserved.ensures.items len rest.2

pub returns-clause-workers : goal.returns-clause-workers
returns-clause-workers g t c =
    let rest = c.join-finished.ensures.second in
    let len : length c.join-finished.result.1.items ≡ vec_len c.args.jobs + length c.pop.new.self.items = search rules in
    worked_more (vec_len c.args.jobs) c.pop.new.self.items c.args.idle.items c.in-Some.seat c.join-finished.result.1.items c.push_reserved.new.self.items
    c.join-finished.result.0 c.in-Some.ensures.items c.push_reserved.ensures.items len rest.3 c.join-finished.ensures.first
