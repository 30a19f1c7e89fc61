use Rattle.std.proofs.Common.{sym, ◌∙◌, ap, subst, List, ◌++◌}
use Rattle.std.proofs.lemmas.Result.{err_from_is_err_and}
use Rattle.qasm_angle.specs.declared.types.Op.{Op}
use Rattle.qasm_parse.specs.declared.sort.Mark.{Mark}
use Rattle.qasm_parse.specs.Formulas.{OpsAre, formula}
use Rattle.qasm_parse.proofs.Passing.{formula_fault}
use Rattle.qasm_parse.proofs.Wholeness.{whole_read}
use Rattle.qasm_parse.proofs.formulas.formula.Goals as goal

pub returns-in_err-to-clause-reads : goal.returns-in_err-to-clause-reads
returns-in_err-to-clause-reads c =
    formula_fault c.args.bytes.now c.args.tokens.now c.args.sorts.now c.args.at c.new-marks.result.items c.chain.new.ops.items c.in_err-to.field-0.0 c.from_residual.result
    (err_from_is_err_and c.from_residual.result c.from_residual.ensures.1) c.in_err-to.ensures.reads

pub new-requires : goal.new-requires
new-requires c =
    let h = c.in_ok-to.ensures.reads in
    let o = subst (λ (ms : List Mark). OpsAre c.args.bytes.now c.args.tokens.now c.args.sorts.now c.args.at ms c.in_ok-ops.ops.items) (c.deref.ensures.value ∙ h.1 ∙ ap (λ xs. xs ++ h.0) c.new-marks.ensures.items) c.in_ok-ops.ensures in
    whole_read c.args.bytes.now c.args.tokens.now c.args.sorts.now c.args.at h.2 c.in_ok-ops.ops.items o

pub returns-clause-reads : goal.returns-clause-reads
returns-clause-reads c =
    let h = c.in_ok-to.ensures.reads in
    let o = subst (λ (ms : List Mark). OpsAre c.args.bytes.now c.args.tokens.now c.args.sorts.now c.args.at ms c.in_ok-ops.ops.items) (c.deref.ensures.value ∙ h.1 ∙ ap (λ xs. xs ++ h.0) c.new-marks.ensures.items) c.in_ok-ops.ensures in
    formula h.2 (subst (λ (xs : List Op). OpsAre c.args.bytes.now c.args.tokens.now c.args.sorts.now c.args.at h.0 xs) (sym c.new.ensures) o) (c.new-2.ensures ∙ c.in_ok-ids.ensures) (ap (λ p. p.from) c.span.ensures)
