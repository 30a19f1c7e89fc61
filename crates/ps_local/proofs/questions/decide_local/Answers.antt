use Rattle.std.proofs.Common.{◌≡◌, Bool, true, false}
use Rattle.ps_local.proofs.Pieces.{middles_run}
use Rattle.ps_local.proofs.Telling.{asked}
use Rattle.ps_local.proofs.questions.decide_local.Goals as goal

untrue : (b : Bool) → b ≡ false → b ≡ true → ⊥
untrue b e f = cc

pub found_of-requires-clause-first : goal.found_of-requires-clause-first
found_of-requires-clause-first c = (middles_run c.args.n c.args.first.now c.args.second.now c.in_ok-cut.cut c.in_ok-cut.ensures c.requires.first c.requires.second).0

pub found_of-requires-clause-second : goal.found_of-requires-clause-second
found_of-requires-clause-second c = (middles_run c.args.n c.args.first.now c.args.second.now c.in_ok-cut.cut c.in_ok-cut.ensures c.requires.first c.requires.second).1

pub returns : goal.returns
returns c =
    asked c.args.n c.args.first.now c.args.second.now c.in_ok-cut.cut _ c.in_ok-cut.ensures (λ e. untrue c.nothing_left.result c.if-nothing_left.false (c.nothing_left.ensures.1 e)) c.in_ok-found.ensures
