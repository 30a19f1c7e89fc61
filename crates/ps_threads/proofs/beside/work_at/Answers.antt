use Rattle.std.proofs.Common.{refl}
use Rattle.ps_threads.proofs.WorkLaws.{worked_by}
use Rattle.ps_threads.proofs.beside.work_at.Goals as goal

pub returns : goal.returns
returns g c = (
  worked_by c.args.seat c.new-session.result.seat c.work.new.turns.seat c.finish.result c.new-session.ensures c.requires.1 c.work.ensures.grows c.work.ensures.adds
      c.finish.ensures,
  refl,
)
