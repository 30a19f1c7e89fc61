use Rattle.std.proofs.Common.{vec_len}
use Rattle.ps_threads.proofs.crew.+sessions.Given as goal

abbrev pub decreases-sessions : goal.decreases-sessions
decreases-sessions g l = vec_len l.jobs

abbrev pub decreases-join+arg3 : goal.decreases-join+arg3
decreases-join+arg3 g l = vec_len l.jobs
