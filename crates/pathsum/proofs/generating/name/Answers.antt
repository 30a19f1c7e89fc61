use Rattle.pathsum.proofs.GenerationLemmas.{clash, named}
use Rattle.pathsum.proofs.generating.name.Goals as goal

pub unreachable-requires : goal.unreachable-requires
unreachable-requires c = clash c.in-None.ensures named
