use Rattle.ps_script.proofs.OrderLemmas.{place_ends, place_unnamed, place_unnumbered, place_is}
use Rattle.ps_script.proofs.spelling.place.Goals as goal

pub returns-in_err-words : goal.returns-in_err-words
returns-in_err-words c = rw c.from_residual.ensures (place_ends c.args.bytes.now c.in_err-words.ensures)

pub returns-in_err-name : goal.returns-in_err-name
returns-in_err-name c = let w = c.in_ok-words.words in
    rw c.from_residual-in_err-name.ensures (place_unnamed c.args.bytes.now w.first.now w.rest.now c.in_ok-words.ensures c.in_err-name.ensures)

pub returns-in_err-version : goal.returns-in_err-version
returns-in_err-version c = let w = c.in_ok-words.words in
    rw c.from_residual-in_err-version.ensures (place_unnumbered c.args.bytes.now w.first.now w.rest.now c.in_ok-words.ensures c.in_err-version.ensures)

pub returns : goal.returns
returns c = let w = c.in_ok-words.words in
    place_is c.args.bytes.now w.first.now w.rest.now c.in_ok-words.ensures _ c.in_ok-name.ensures.0 c.in_ok-name.ensures.1 c.in_ok-version.ensures
