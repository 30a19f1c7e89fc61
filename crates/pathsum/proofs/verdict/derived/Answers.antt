use Rattle.pathsum.proofs.Verdicts.{derivation_told, other_told, untrue}
use Rattle.pathsum.proofs.verdict.derived.Goals as goal

pub returns-in_ok-derive : goal.returns-in_ok-derive
returns-in_ok-derive c first second b = derivation_told c.args.qubits first second c.args.judged c.in_ok-derive.field-0 b.decided b.first_record b.second_record (c.is_yes.ensures.0 c.if-is_yes.true) c.in_ok-derive.ensures.lines c.in_ok-derive.ensures.holds

pub returns-else-is_yes : goal.returns-else-is_yes
returns-else-is_yes c first second b = other_told c.args.qubits _ _ _ c.args.judged.verdict _ b.decided (λ e. untrue c.if-is_yes.false (c.is_yes.ensures.1 e)) c.told.ensures
