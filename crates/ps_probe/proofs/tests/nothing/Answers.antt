use Rattle.std.proofs.Common.{ap, ◌∙◌, map}
use Rattle.ps_reach.specs.Runs.{prims_of}
use Rattle.ps_normal.proofs.TestRuns.{none_runs}
use Rattle.ps_probe.proofs.tests.nothing.Goals as goal

pub returns : goal.returns
returns c = none_runs 1 c.in_ok-new.field-0.value (c.in_ok-new.ensures.ok ∙ c.from_vec.ensures ∙ ap (map prims_of) c.new-list.ensures.items)
