use Rattle.std.proofs.Common.{refl, ◌∙◌}
use Rattle.ps_local.proofs.Windowing.{lists_windowed}
use Rattle.ps_local.proofs.Aligning.{decided_lists, windowed_lists}
use Rattle.ps_local.proofs.questions.found_of.Goals as goal

pub returns-then-branch : goal.returns-then-branch
returns-then-branch c =
    lists_windowed c.args.n c.args.first c.args.second c.in_ok-decision.decision
    (decided_lists c.args.n c.args.first c.args.second c.in_ok-first.first.value c.in_ok-second.second.value c.in_ok-decision.decision c.in_ok-first.ensures.ok c.in_ok-second.ensures.ok c.in_ok-decision.ensures)
    (c.if-not-is_unknown.ensures.0 refl)
    (windowed_lists c.args.n c.args.first c.args.second _ _ (c.as_slice.ensures.value ∙ c.deref.ensures ∙ c.in_ok-first.ensures.ok) (c.as_slice-2.ensures.value ∙ c.deref-2.ensures ∙ c.in_ok-second.ensures.ok)
    (c.in_ok-found_windows.ensures c.if-branch.true))
