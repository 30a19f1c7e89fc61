use Rattle.std.proofs.Common.{◌+◌, arith}
use Rattle.ps_overlap.proofs.Made.{scale_is}
use Rattle.ps_overlap.proofs.overlaps.overlap_scale.Goals as goal

pub returns : goal.returns
returns c = scale_is c.args.first.now.k c.args.second.now.k (c.args.first.now.n + c.args.first.now.n) c.args.first.now.scaled c.args.second.now.scaled (let q = c.args.first.now.qubits in omega arith) c.requires
