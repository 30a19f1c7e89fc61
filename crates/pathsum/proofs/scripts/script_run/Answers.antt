use Rattle.pathsum.proofs.RunLemmas.{hindered_ends, none_is_legal, run_ends, run_is_legal, run_of_sessions}
use Rattle.pathsum.proofs.scripts.script_run.Goals as goal

pub returns-in-Hindered-clause-ends : goal.returns-in-Hindered-clause-ends
returns-in-Hindered-clause-ends g c = hindered_ends _ _ _ _ _ _ _ _ _ _ c.in-Hindered.answer c.in-Hindered.ensures c.print.ensures.unserved c.print.ensures.written

pub returns-in-Hindered-clause-legal : goal.returns-in-Hindered-clause-legal
returns-in-Hindered-clause-legal g c = none_is_legal _ c.print.ensures.unserved

pub print_run-requires : goal.print_run-requires
print_run-requires g c = run_of_sessions _ _ c.in-Served.run' c.in-Served.ensures

pub returns-in-Served-clause-ends : goal.returns-in-Served-clause-ends
returns-in-Served-clause-ends g c = run_ends _ _ _ _ _ _ _ _ _ _ c.in-Served.run' c.in-Served.ensures c.print_run.ensures.journal c.print_run.ensures.written

pub returns-in-Served-clause-legal : goal.returns-in-Served-clause-legal
returns-in-Served-clause-legal g c = run_is_legal _ _ _ c.in-Served.run' c.in-Served.ensures c.print_run.ensures.journal
