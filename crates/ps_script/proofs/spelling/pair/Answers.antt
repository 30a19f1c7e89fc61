use Rattle.ps_script.proofs.OrderLemmas.{pair_is_cut, pair_unnamed, pair_ends, pair_unnumbered, pair_unplaced, pair_is}
use Rattle.ps_script.proofs.spelling.pair.Goals as goal

pub returns-in_err-named : goal.returns-in_err-named
returns-in_err-named c = rw c.from_residual.ensures (pair_is_cut c.args.bytes.now c.in_err-named.ensures)

pub returns-in_err-name : goal.returns-in_err-name
returns-in_err-name c = let w = c.in_ok-named.named in
    rw c.from_residual-in_err-name.ensures (pair_unnamed c.args.bytes.now w.first.now w.rest.now c.in_ok-named.ensures c.in_err-name.ensures)

pub returns-in_err-numbered : goal.returns-in_err-numbered
returns-in_err-numbered c = let w = c.in_ok-named.named in
    rw c.from_residual-in_err-numbered.ensures (pair_ends c.args.bytes.now w.first.now w.rest.now c.in_ok-named.ensures c.in_err-numbered.ensures)

pub returns-in_err-version : goal.returns-in_err-version
returns-in_err-version c = let w = c.in_ok-named.named in let v = c.in_ok-numbered.numbered in
    rw c.from_residual-in_err-version.ensures
    (pair_unnumbered c.args.bytes.now w.first.now w.rest.now c.in_ok-named.ensures v.first.now v.rest.now c.in_ok-numbered.ensures c.in_err-version.ensures)

pub returns-in_err-second : goal.returns-in_err-second
returns-in_err-second c = let w = c.in_ok-named.named in let v = c.in_ok-numbered.numbered in
    rw c.from_residual-in_err-second.ensures
    (pair_unplaced c.args.bytes.now w.first.now w.rest.now c.in_ok-named.ensures v.first.now v.rest.now c.in_ok-numbered.ensures c.in_err-second.ensures)

pub returns : goal.returns
returns c = let w = c.in_ok-named.named in let v = c.in_ok-numbered.numbered in
    pair_is c.args.bytes.now w.first.now w.rest.now c.in_ok-named.ensures v.first.now v.rest.now c.in_ok-numbered.ensures _ _
    c.in_ok-name.ensures.0 c.in_ok-name.ensures.1 c.in_ok-version.ensures c.in_ok-second.ensures
