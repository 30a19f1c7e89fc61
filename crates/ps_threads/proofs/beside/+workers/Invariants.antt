use Rattle.std.proofs.Common.{vec_len}
use Rattle.ps_threads.proofs.beside.+workers.Given as goal

abbrev pub decreases-beside : goal.decreases-beside
decreases-beside g l = vec_len l.idle

abbrev pub decreases-join+arg3 : goal.decreases-join+arg3
decreases-join+arg3 g l = vec_len l.idle
