use Rattle.ps_script.proofs.OrderLemmas.{span_ends, span_first_none, span_second_none, span_is}
use Rattle.ps_script.proofs.spelling.span.Goals as goal

pub returns-in_err-words : goal.returns-in_err-words
returns-in_err-words c = rw c.from_residual.ensures (span_ends c.args.bytes.now c.in_err-words.ensures)

pub returns-in_err-from : goal.returns-in_err-from
returns-in_err-from c = let w = c.in_ok-words.words in
    rw c.from_residual-in_err-from.ensures (span_first_none c.args.bytes.now w.first.now w.rest.now c.in_ok-words.ensures c.in_err-from.ensures)

pub returns-in_err-to : goal.returns-in_err-to
returns-in_err-to c = let w = c.in_ok-words.words in
    rw c.from_residual-in_err-to.ensures (span_second_none c.args.bytes.now w.first.now w.rest.now c.in_ok-words.ensures c.in_err-to.ensures)

pub returns : goal.returns
returns c = let w = c.in_ok-words.words in
    span_is c.args.bytes.now w.first.now w.rest.now c.in_ok-words.ensures _ _ c.in_ok-from.ensures c.in_ok-to.ensures
