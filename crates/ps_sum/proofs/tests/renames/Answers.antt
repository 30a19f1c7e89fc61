use Rattle.std.proofs.Common.{ap, ◌∙◌, ◌+◌}
use Rattle.ps_sum.specs.Outs.{outs_occur}
use Rattle.ps_sum.proofs.tests.renames.Goals as goal

pub rename-requires-clause-outs_free : goal.rename-requires-clause-outs_free
unfolding outs_occur
rename-requires-clause-outs_free g c =
    let s = rw c.expect-sum.ensures at c.of.ensures.some in
    ap (outs_occur (c.expect-sum.result.n + 0)) (s.4 ∙ c.of-outs.ensures ∙ c.new.ensures.items)
