use Rattle.std.proofs.Common.{◌∙◌, sym, ap, refl}
use Rattle.std.proofs.lemmas.Result.{err_from_is_err_and}
use Rattle.qasm_parse.specs.declared.phrases.Form.TheVariants.{Indexed}
use Rattle.qasm_parse.specs.Phrases.{then, missed}
use Rattle.qasm_parse.proofs.Beginnings.{not_statement, block_declares}
use Rattle.qasm_parse.specs.Statements.{IsCall, IsDeclaration, IsStatement, begins, apply, declares, outside, opaquely, no_statement}
use Rattle.qasm_parse.proofs.Passing.{told_weaker, told_on}
use Rattle.qasm_parse.proofs.text.statement.Goals as goal

pub returns-in_err-found-in-Universal-clause-reads : goal.returns-in_err-found-in-Universal-clause-reads
returns-in_err-found-in-Universal-clause-reads c =
    let bytes = c.args.bytes.now in let tk = c.args.tokens.now in let ts = c.args.sorts.now in
    told_on (IsStatement bytes tk ts c.args.whence c.args.at) (IsCall bytes tk ts Indexed c.args.at) c.in_err-found-in-Universal.field-0.0 c.from_residual.result (err_from_is_err_and c.from_residual.result c.from_residual.ensures.1)
    (λ f h. apply (missed h)) c.in_err-found-in-Universal.ensures.reads

pub returns-in_ok-found-in-Universal-clause-reads : goal.returns-in_ok-found-in-Universal-clause-reads
returns-in_ok-found-in-Universal-clause-reads c =
    let bytes = c.args.bytes.now in let tk = c.args.tokens.now in let ts = c.args.sorts.now in
    apply (then c.in_ok-found-in-Universal.ensures.reads (refl))

pub returns-in-Outside-clause-reads : goal.returns-in-Outside-clause-reads
returns-in-Outside-clause-reads c = outside (sym c.in-Outside.ensures.value)

pub returns-in-Opaque-clause-reads : goal.returns-in-Opaque-clause-reads
returns-in-Opaque-clause-reads c = opaquely (sym c.in-Opaque.ensures.value)

pub returns-in-Text-clause-reads : goal.returns-in-Text-clause-reads
returns-in-Text-clause-reads c =
    let bytes = c.args.bytes.now in let tk = c.args.tokens.now in let ts = c.args.sorts.now in
    told_weaker (IsDeclaration bytes tk ts c.args.at) (IsStatement bytes tk ts c.args.whence c.args.at) c.declaration.result (λ r h. declares c.in-Text.is h) c.declaration.ensures.reads

pub returns-in-Block-clause-reads : goal.returns-in-Block-clause-reads
returns-in-Block-clause-reads c = let v = c.sort_at.ensures.value in no_statement (ap (begins c.args.whence) (sym v) ∙ block_declares c.args.whence c.sort_at.result c.in-Block.is c.in-Include.is)

pub returns-in_default : goal.returns-in_default
returns-in_default c =
    let v = c.sort_at.ensures.value in let d = c.in_default in
    record { reads = no_statement (not_statement _ _ (λ e. d.not-Universal (v ∙ e)) (λ e. d.not-Cx (v ∙ e)) (λ e. d.not-Id (v ∙ e)) (λ e. d.not-Barrier (v ∙ e)) (λ e. d.not-Outside (v ∙ e)) (λ e. d.not-Opaque (v ∙ e)) (λ e. d.not-Include (v ∙ e)) (λ e. d.not-Qreg (v ∙ e)) (λ e. d.not-Creg (v ∙ e)) (λ e. d.not-Gate (v ∙ e))); goes_on = tt }
