use Rattle.std.proofs.lemmas.Result.{IfOk-weaker}
use Rattle.ps_probe.proofs.Halves.{half_of}
use Rattle.ps_probe.proofs.halving.half.Goals as goal

pub returns : goal.returns
returns c = IfOk-weaker c.restrict.result _ _ (λ r h. half_of c.fixing.result c.args.sum.now r c.args.i c.args.one c.fixing.ensures c.requires.closed h) c.restrict.ensures
