use Rattle.ps_local.proofs.Masks.{more_u_at, more_cx_at}
use Rattle.ps_local.proofs.qubits.with_prim.Goals as goal

pub returns-in-U : goal.returns-in-U
returns-in-U c = more_u_at c.args.mask c.args.prim.now _ _ _ c.in-U.q c.in-U.is c.requires

pub returns-in-Cx : goal.returns-in-Cx
returns-in-Cx c = more_cx_at c.args.mask c.args.prim.now c.in-Cx.c c.in-Cx.t c.in-Cx.is c.requires
