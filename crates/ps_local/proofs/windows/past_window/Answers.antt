use Rattle.ps_local.proofs.Windowing.{can_rest}
use Rattle.ps_local.proofs.Aligning.{to_found}
use Rattle.ps_local.proofs.windows.past_window.Goals as goal

pub first_window-requires-clause-first : goal.first_window-requires-clause-first
first_window-requires-clause-first c = can_rest c.args.n c.args.first.now c.args.from.first c.requires.first

pub first_window-requires-clause-second : goal.first_window-requires-clause-second
first_window-requires-clause-second c = can_rest c.args.n c.args.second.now c.args.from.second c.requires.second

pub returns-in-Some : goal.returns-in-Some
returns-in-Some c = to_found c.args.n c.args.first.now c.args.second.now c.args.from c.in-Some.end c.in_ok-end.end c.in-Some.is c.in_ok-end.ensures c.requires.windows
