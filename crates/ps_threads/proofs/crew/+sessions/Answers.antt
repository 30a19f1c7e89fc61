use Rattle.std.proofs.Common.{rules, ◌≡◌, length}
use Rattle.ps_desk.specs.Seats.{IsSeatOf}
use Rattle.ps_threads.specs.Seated.{IsFresh}
use Rattle.ps_threads.specs.Served.{JobsAt}
use Rattle.ps_threads.proofs.CrewLaws.{last_job, other_jobs, served_more}
use Rattle.ps_threads.proofs.crew.+sessions.Goals as goal

pub sessions-done-requires-clause-jobs : goal.sessions-done-requires-clause-jobs
sessions-done-requires-clause-jobs g t c κs within =
    other_jobs c.args.desk.now c.pop.new.self.items c.args.jobs.items c.in-Some.job c.in-Some.ensures.items c.requires.jobs

pub serve-requires : goal.serve-requires
serve-requires g t c = last_job c.args.desk.now c.pop.new.self.items c.args.jobs.items c.in-Some.job c.in-Some.ensures.items c.requires.jobs

pub returns-then-is_empty-clause-each : goal.returns-then-is_empty-clause-each
returns-then-is_empty-clause-each g t c =
    let len : length c.sessions-done.result.items ≡ length c.pop.new.self.items = search rules in
    served_more c.pop.new.self.items c.args.jobs.items c.in-Some.job c.sessions-done.result.items c.push_reserved.new.self.items c.serve.result
    c.in-Some.ensures.items c.push_reserved.ensures.items len c.sessions-done.ensures.each c.serve.ensures

pub join-finished-requires-after_bounds : goal.join-finished-requires-after_bounds
join-finished-requires-after_bounds g t c κs within =
    let here : IsSeatOf c.args.desk.now c.in-Some.job.seat × IsFresh c.in-Some.job.seat =
    last_job c.args.desk.now c.pop.new.self.items c.args.jobs.items c.in-Some.job c.in-Some.ensures.items c.requires.jobs in
    let rest : JobsAt c.args.desk.now c.pop.new.self.items =
    other_jobs c.args.desk.now c.pop.new.self.items c.args.jobs.items c.in-Some.job c.in-Some.ensures.items c.requires.jobs in
    search rules

pub returns-clause-each : goal.returns-clause-each
returns-clause-each g t c =
    let rest = c.join-finished.ensures.second in
    let len : length c.join-finished.result.1.items ≡ length c.pop.new.self.items = search rules in
    served_more c.pop.new.self.items c.args.jobs.items c.in-Some.job c.join-finished.result.1.items c.push_reserved-2.new.self.items
    c.join-finished.result.0 c.in-Some.ensures.items c.push_reserved-2.ensures.items len rest.2 c.join-finished.ensures.first
