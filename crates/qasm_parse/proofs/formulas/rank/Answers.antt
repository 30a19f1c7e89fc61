use Rattle.std.proofs.Common.{arith}
use Rattle.qasm_parse.proofs.Counting.{count_split}
use Rattle.qasm_parse.proofs.formulas.rank.Goals as goal

pub returns-clause-value : goal.returns-clause-value
returns-clause-value c =
    let e = count_split c.args.sorts.now c.args.from c.args.place c.args.to c.requires.ordered (omega arith) in
    omega (arith, e, c.requires.known, c.count_ids-2.ensures.value)
