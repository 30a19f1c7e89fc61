use Rattle.qasm_lex.proofs.Longest.{longest_number}
use Rattle.qasm_lex.proofs.cutting.number_end.Goals as goal

pub returns-clause-longest : goal.returns-clause-longest
returns-clause-longest c = longest_number c.args.bytes.now c.args.at c.mantissa_end.result c.exponent_end.result c.mantissa_end.ensures c.exponent_end.ensures
