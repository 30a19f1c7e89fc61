use Rattle.std.proofs.Common.{refl}
use Rattle.ps_local.proofs.Windowing.{can_first, next_settled}
use Rattle.ps_local.proofs.windows.first_window.Goals as goal

pub compared-requires-clause-first : goal.compared-requires-clause-first
compared-requires-clause-first c = can_first c.args.n c.args.first.now c.in-Some.next.first c.requires.first

pub compared-requires-clause-second : goal.compared-requires-clause-second
compared-requires-clause-second c = can_first c.args.n c.args.second.now c.in-Some.next.second c.requires.second

pub returns-then-is_yes : goal.returns-then-is_yes
returns-then-is_yes c = next_settled c.args.n c.args.first.now c.args.second.now c.in-Some.next c.in_ok-decision.decision c.in-Some.ensures c.in_ok-decision.ensures (c.if-is_yes.ensures.0 refl)
