use Rattle.std.proofs.Common.{refl}
use Rattle.ps_normal.proofs.Parting.{shared_onto}
use Rattle.ps_normal.proofs.prims.join_evidence.Goals as goal

pub returns-in_ok-second-in-Passed-clause-part : goal.returns-in_ok-second-in-Passed-clause-part
returns-in_ok-second-in-Passed-clause-part c = λ S ms f.
    shared_onto c.args.places.from c.args.places.middle c.args.places.to S c.args.gate.now.sum.value c.args.gate.now.sum.value c.in-Passed.first _ _ c.in-Passed.passed c.args.fault ms _
    c.in-Passed.is f refl c.in_ok-first-in-Passed.ensures.ok c.in_ok-second-in-Passed.ensures c.shared_evidence.ensures
