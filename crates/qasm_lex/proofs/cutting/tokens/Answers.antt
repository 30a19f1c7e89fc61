use Rattle.std.proofs.Common.{Ok, Err}
use Rattle.std.proofs.lemmas.Result.{MatchResult-from_both, IfOk-weaker, IfErr-weaker}
use Rattle.qasm_lex.proofs.Steps.{told_weaker}
use Rattle.qasm_lex.proofs.One.{one_reading}
use Rattle.qasm_lex.proofs.cutting.tokens.Goals as goal

pub returns-clause-only : goal.returns-clause-only
returns-clause-only c =
    let bytes = c.args.bytes.now in
    MatchResult-from_both c.cut.result _ _
    (IfOk-weaker c.cut.result _ _ (λ v h. λ s k. one_reading bytes 0 s (Ok v.items) k h) c.cut.ensures.read)
    (IfErr-weaker c.cut.result _ _ (λ e h. told_weaker e _ _ (λ f g. λ s k. one_reading bytes 0 s (Err f) k g) h) c.cut.ensures.fault)
