use Rattle.std.proofs.Common.{arith, Err}
use Rattle.qasm_lex.specs.Tokens.{gap, token, bad}
use Rattle.qasm_lex.proofs.Steps.{told_fault, reads_pushed, reads_end}
use Rattle.qasm_lex.proofs.cutting.cut.Goals as goal

pub loop-at-preserved-in-Gap : goal.loop-at-preserved-in-Gap
loop-at-preserved-in-Gap c = record {
  within = c.in-Gap.ensures.goes_on.1;
  rest = λ r h. c.loop-at.invariant.rest r (gap c.loop-at-test.true c.in-Gap.ensures.stands h);
}

pub loop-at-preserved : goal.loop-at-preserved
loop-at-preserved c = record {
  within = c.in-Token.ensures.goes_on.1;
  rest = λ r h. reads_pushed c.args.bytes.now c.loop-at.out.items c.push.new.self.items _ r c.in_ok-push-in-Token.ensures.items (c.loop-at.invariant.rest _ (token c.in-Token.ensures.stands h));
}

pub returns-in-Bad-clause-fault : goal.returns-in-Bad-clause-fault
returns-in-Bad-clause-fault c = told_fault c.in-Bad.fault _ (c.loop-at.invariant.rest (Err c.in-Bad.fault) (bad c.in-Bad.ensures.stands))

pub returns-clause-read : goal.returns-clause-read
returns-clause-read c = reads_end c.args.bytes.now c.loop-at.out.items c.loop-at.at (omega arith) c.loop-at.invariant.rest
