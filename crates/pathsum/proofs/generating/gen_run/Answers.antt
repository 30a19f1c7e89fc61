use Rattle.pathsum.proofs.RunLemmas.{none_is_legal}
use Rattle.pathsum.proofs.GenerationLemmas.{generated_of_sessions, generated_is_legal, generated_ends}
use Rattle.pathsum.proofs.generating.gen_run.Goals as goal

pub print_run-requires : goal.print_run-requires
print_run-requires g c = generated_of_sessions _ _ _ c.in-Ok.run' c.in-Ok.ensures

pub returns-in-Ok-clause-ends : goal.returns-in-Ok-clause-ends
returns-in-Ok-clause-ends g c = generated_ends _ _ _ _ _ _ _ _ _ c.in-Ok.run' c.in-Ok.ensures c.print_run.ensures.journal c.print_run.ensures.written

pub returns-in-Ok-clause-legal : goal.returns-in-Ok-clause-legal
returns-in-Ok-clause-legal g c = generated_is_legal _ _ _ _ c.in-Ok.run' c.in-Ok.ensures c.print_run.ensures.journal

pub returns-in-Err-clause-legal : goal.returns-in-Err-clause-legal
returns-in-Err-clause-legal g c = none_is_legal _ c.print.ensures.unserved
