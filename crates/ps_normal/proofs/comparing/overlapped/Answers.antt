use Rattle.std.proofs.Common.{ap, ◌∙◌, Some}
use Rattle.std.proofs.lemmas.Result.{IfOk-weaker}
use Rattle.ps_reach.specs.Fillings.{overrun}
use Rattle.ps_normal.proofs.Finding.{overlap_at, overlap_found, overlap_passed}
use Rattle.ps_normal.proofs.comparing.overlapped.Goals as goal

pub returns-in-Ok : goal.returns-in-Ok
returns-in-Ok c = IfOk-weaker c.reduced.result _ _
    (λ f k. overlap_found c.args.mode c.args.first.now.value c.args.second.now.value c.in-Ok.sum f (overlap_at _ _ c.args.first.now.value c.args.second.now.value c.in-Ok.sum c.deref.ensures c.deref-2.ensures c.in-Ok.ensures.sum) k)
    c.reduced.ensures

pub returns-in_ok-first-in-Err-Passed : goal.returns-in_ok-first-in-Err-Passed
returns-in_ok-first-in-Err-Passed c =
    overlap_passed c.args.mode _ _ c.in_ok-first-in-Err-Passed.first.value c.in_ok-second-in-Err-Passed.second.value c.args.first.now.value c.args.second.now.value c.in-Err-Passed.passed c.in-Err-Passed.field-0 c.new.result.items _
    c.in-Err-Passed.field-0-is c.in-Err-Passed.ensures.passed c.deref.ensures c.deref-2.ensures c.in_ok-first-in-Err-Passed.ensures c.in_ok-second-in-Err-Passed.ensures c.new.ensures.items
    (c.shared_evidence-evidence.ensures ∙ ap (λ q. overrun q 0 0 0 c.in_ok-first-in-Err-Passed.first.value (Some c.in_ok-second-in-Err-Passed.second.value)) c.in-Err-Passed.passed-is)
