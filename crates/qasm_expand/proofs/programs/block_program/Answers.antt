use Rattle.qasm_expand.specs.Checks.{of_tokens, of_grammar}
use Rattle.qasm_expand.proofs.Plain.{block_plain}
use Rattle.qasm_expand.proofs.Texts.{block_ok, block_err, block_lex, known_by}
use Rattle.qasm_expand.proofs.programs.block_program.Goals as goal

pub returns-in-Ok-parse_block-clause-reads : goal.returns-in-Ok-parse_block-clause-reads
returns-in-Ok-parse_block-clause-reads c = block_ok c.args.bytes.now c.in-Ok.list.items c.deref.result.now c.in-Ok-parse_block.program c.in-Ok.ensures.read c.deref.ensures.value c.in-Ok-parse_block.ensures.reads

pub returns-in-Ok-clause-reads : goal.returns-in-Ok-clause-reads
returns-in-Ok-clause-reads c = known_by _ (of_grammar c.in-Err-parse_block.fault) c.of_grammar.result c.of_grammar.ensures (block_err c.args.bytes.now c.in-Ok.list.items c.deref.result.now c.in-Err-parse_block.fault c.in-Ok.ensures.read c.deref.ensures.value c.in-Err-parse_block.ensures.reads)

pub returns-clause-reads : goal.returns-clause-reads
returns-clause-reads c = known_by _ (of_tokens c.in-Err.fault) c.of_tokens.result c.of_tokens.ensures (block_lex c.args.bytes.now c.in-Err.fault c.in-Err.ensures.fault)

pub returns-in-Ok-parse_block-clause-plain : goal.returns-in-Ok-parse_block-clause-plain
returns-in-Ok-parse_block-clause-plain c = block_plain c.args.bytes.now c.deref.result.now c.in-Ok-parse_block.program c.in-Ok-parse_block.ensures.reads
