use Rattle.ps_mono.proofs.Mirrors.{mirror_is}
use Rattle.ps_mono.proofs.keys.mirrored.Goals as goal

pub returns : goal.returns
returns c = mirror_is c.args.word _ _ _ _ _ _ c.swapped-pairs.ensures c.swapped-fours.ensures c.swapped-bytes.ensures c.swapped-shorts.ensures c.swapped-halves.ensures c.swapped.ensures
