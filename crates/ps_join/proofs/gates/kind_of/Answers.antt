use Rattle.ps_join.proofs.gates.kind_of.Goals as goal

pub returns-in-2 : goal.returns-in-2
returns-in-2 c = c.flip_kind.ensures c.args.n
