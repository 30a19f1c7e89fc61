use Rattle.qasm_expand.specs.Checks.{of_tokens, of_grammar}
use Rattle.qasm_expand.proofs.Texts.{text_ok, text_err, text_lex, known_by}
use Rattle.qasm_expand.proofs.programs.text_program.Goals as goal

pub returns-in-Ok-parse-clause-reads : goal.returns-in-Ok-parse-clause-reads
returns-in-Ok-parse-clause-reads c = text_ok c.args.bytes.now c.in-Ok.list.items c.deref.result.now c.in-Ok-parse.program c.in-Ok.ensures.read c.deref.ensures.value c.in-Ok-parse.ensures.reads

pub returns-in-Ok-clause-reads : goal.returns-in-Ok-clause-reads
returns-in-Ok-clause-reads c = known_by _ (of_grammar c.in-Err-parse.fault) c.of_grammar.result c.of_grammar.ensures (text_err c.args.bytes.now c.in-Ok.list.items c.deref.result.now c.in-Err-parse.fault c.in-Ok.ensures.read c.deref.ensures.value c.in-Err-parse.ensures.reads)

pub returns-clause-reads : goal.returns-clause-reads
returns-clause-reads c = known_by _ (of_tokens c.in-Err.fault) c.of_tokens.result c.of_tokens.ensures (text_lex c.args.bytes.now c.in-Err.fault c.in-Err.ensures.fault)
