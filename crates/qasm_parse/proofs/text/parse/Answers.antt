use Rattle.std.proofs.Common.{◌∙◌, Vec, Global, Ok, Err}
use Rattle.qasm_parse.specs.declared.program.Statement.{Statement}
use Rattle.qasm_parse.specs.Statements.{IsText, Known, OfText}
use Rattle.qasm_parse.proofs.Cut.{all_within, sorts_few}
use Rattle.qasm_parse.proofs.Within.{text_within}
use Rattle.qasm_parse.proofs.Whole.{only_text, read_ok, read_err}
use Rattle.qasm_parse.proofs.text.parse.Goals as goal

pub terminals-requires : goal.terminals-requires
terminals-requires c = all_within c.args.bytes.now c.args.tokens.now c.requires.cut

pub text-requires-clause-within : goal.text-requires-clause-within
text-requires-clause-within c = all_within c.args.bytes.now c.args.tokens.now c.requires.cut

pub text-requires-clause-small : goal.text-requires-clause-small
text-requires-clause-small c = sorts_few c.args.bytes.now c.args.tokens.now c.deref.result.now c.requires.cut c.requires.small (c.deref.ensures.value ∙ c.in_ok-sorts.ensures)

pub returns-in-Ok : goal.returns-in-Ok
returns-in-Ok c =
    let bytes = c.args.bytes.now in let tk = c.args.tokens.now in
    let h : OfText bytes tk (Ok c.new.result) = read_ok bytes tk (IsText bytes tk) c.deref.result.now c.in-Ok.list.items c.new.result c.in-Ok.field-0-1 (c.deref.ensures.value ∙ c.in_ok-sorts.ensures) c.new.ensures c.in-Ok.ensures in
    record { reads = h; only = only_text bytes tk (Ok c.new.result) h; places = text_within bytes tk c.new.result c.requires.cut h }

pub returns : goal.returns
returns c =
    let bytes = c.args.bytes.now in let tk = c.args.tokens.now in
    let h : Known (Err c.at_offset.result) (OfText bytes tk) = read_err (λ (v : Vec Statement Global). v.items) bytes tk (IsText bytes tk) c.deref.result.now (c.deref.ensures.value ∙ c.in_ok-sorts.ensures) c.in-Err.fault c.at_offset.result c.at_offset.ensures c.in-Err.ensures in
    record { reads = h; only = only_text bytes tk (Err c.at_offset.result) h; places = tt }
