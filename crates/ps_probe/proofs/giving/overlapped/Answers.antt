use Rattle.std.proofs.Common.{ap, ◌∙◌}
use Rattle.std.proofs.lemmas.Result.{IfOk-weaker}
use Rattle.ps_probe.specs.Giving.{found_by}
use Rattle.ps_reach.specs.Fillings.{overrun}
use Rattle.std.proofs.Common.{Some}
use Rattle.ps_probe.proofs.Shown.{restricted_floor, overlap_gives, overlap_limit}
use Rattle.ps_probe.proofs.giving.overlapped.Goals as goal

pub reduced-requires-clause-floor : goal.reduced-requires-clause-floor
reduced-requires-clause-floor c = restricted_floor c.args.pattern.now c.args.first.now.value c.args.second.now.value _ _ c.in-Ok.sum c.in_ok-sum-in-Ok.sum c.requires.sums c.deref.ensures c.deref-2.ensures c.in-Ok.ensures.sum c.in_ok-sum-in-Ok.ensures

pub returns-in_ok-sum-in-Ok : goal.returns-in_ok-sum-in-Ok
returns-in_ok-sum-in-Ok c = IfOk-weaker c.reduced.result _ _ (λ g h. overlap_gives c.args.pattern.now c.args.first.now.value c.args.second.now.value _ _ c.in-Ok.sum c.in_ok-sum-in-Ok.sum (found_by g) c.deref.ensures c.deref-2.ensures c.in-Ok.ensures.sum c.in_ok-sum-in-Ok.ensures h) c.reduced.ensures

pub returns-in_ok-of_overlap-in-Err-Passed : goal.returns-in_ok-of_overlap-in-Err-Passed
returns-in_ok-of_overlap-in-Err-Passed c = overlap_limit c.args.pattern.now c.args.first.now.value c.args.second.now.value _ _ c.in-Err-Passed.passed c.in-Err-Passed.field-0 _ c.in-Err-Passed.field-0-is c.in-Err-Passed.ensures.passed c.deref.ensures c.deref-2.ensures
    (c.in_ok-of_overlap-in-Err-Passed.ensures ∙ ap (λ q. overrun q 0 0 0 c.args.first.now.value (Some c.args.second.now.value)) c.in-Err-Passed.passed-is)
