use Rattle.std.proofs.lemmas.Result.{IfOk-weaker}
use Rattle.ps_normal.proofs.comparing.same_gates.Goals as goal

pub returns-clause-decided : goal.returns-clause-decided
returns-clause-decided c = IfOk-weaker c.judged_with.result _ _ (λ j k. (k c.args.first.now.value c.requires.first c.in_ok-before.ensures.filled).decided) c.judged_with.ensures

pub returns-clause-first_record : goal.returns-clause-first_record
returns-clause-first_record c = IfOk-weaker c.judged_with.result _ _ (λ j k. (k c.args.first.now.value c.requires.first c.in_ok-before.ensures.filled).first_record) c.judged_with.ensures

pub returns-clause-second_record : goal.returns-clause-second_record
returns-clause-second_record c = IfOk-weaker c.judged_with.result _ _ (λ j k. (k c.args.first.now.value c.requires.first c.in_ok-before.ensures.filled).second_record) c.judged_with.ensures

pub returns-clause-mode : goal.returns-clause-mode
returns-clause-mode c = IfOk-weaker c.judged_with.result _ _ (λ j k. (k c.args.first.now.value c.requires.first c.in_ok-before.ensures.filled).mode_is) c.judged_with.ensures
