use Rattle.std.proofs.Common.{subst}
use Rattle.std.proofs.lemmas.Result.{IfOk-weaker}
use Rattle.ps_reach.specs.Runs.{AllItems}
use Rattle.ps_normal.proofs.Finding.{records_comparable, first_passed, second_passed, both_sums}
use Rattle.ps_normal.proofs.comparing.find_difference.Goals as goal

pub overlapped-requires : goal.overlapped-requires
overlapped-requires c = records_comparable c.args.first.now c.args.second.now c.in-Sum.before c.in-Sum-body.behind c.requires (subst AllItems c.deref.ensures c.as_slice-first.ensures.bounded) (subst AllItems c.deref-2.ensures c.as_slice-second.ensures.bounded) c.in-Sum.is c.in-Sum-body.is

pub returns-in-Passed : goal.returns-in-Passed
returns-in-Passed c = IfOk-weaker c.limit.result _ _ (λ f h. first_passed c.args.mode c.args.first.now c.args.second.now c.in-Passed.evidence _ _ c.in-Passed.is h) c.limit.ensures

pub returns-in-Passed-body : goal.returns-in-Passed-body
returns-in-Passed-body c = IfOk-weaker c.limit-in-Passed-body.result _ _ (λ f h. second_passed c.args.mode c.args.first.now c.args.second.now c.in-Sum.before c.in-Passed-body.evidence _ _ c.in-Sum.is c.in-Passed-body.is h) c.limit-in-Passed-body.ensures

pub returns-in-Sum-body : goal.returns-in-Sum-body
returns-in-Sum-body c = IfOk-weaker c.overlapped.result _ _ (λ f h. both_sums c.args.mode c.args.first.now c.args.second.now c.in-Sum.before c.in-Sum-body.behind _ _ c.in-Sum.is c.in-Sum-body.is h) c.overlapped.ensures
