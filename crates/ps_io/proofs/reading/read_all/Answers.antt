use Rattle.std.proofs.Common.{take}
use Rattle.ps_io.proofs.Known.{read_more}
use Rattle.ps_io.proofs.reading.read_all.Goals as goal

pub returns-then-n-limit-clause-rest : goal.returns-then-n-limit-clause-rest
returns-then-n-limit-clause-rest g c =
    let left = g.S.Source.remaining in
    read_more (left c.args.source.now) (left c.pieces.source) (left c.read.new.self) c.pieces.bytes.items (take c.in-Ok-read.n c.read.new.buf) c.pieces.invariant.front c.in-Ok-read.ensures.bytes

pub returns-in-Err-extend_from_slice-clause-rest : goal.returns-in-Err-extend_from_slice-clause-rest
returns-in-Err-extend_from_slice-clause-rest g c =
    let left = g.S.Source.remaining in
    read_more (left c.args.source.now) (left c.pieces.source) (left c.read.new.self) c.pieces.bytes.items (take c.in-Ok-read.n c.read.new.buf) c.pieces.invariant.front c.in-Ok-read.ensures.bytes
