use Rattle.std.proofs.Common.{◌∙◌}
use Rattle.ps_normal.proofs.Finding.{compares_at, both_judged}
use Rattle.ps_normal.proofs.comparing.judged_with.Goals as goal

pub returns : goal.returns
returns c items a p = both_judged c.args.mode c.args.n items c.args.second.now.value c.args.before c.in_ok-filled.field-0 c.in_ok-judged.judged a c.requires.second p c.in_ok-filled.ensures.filled
    (c.in_ok-judged.ensures.records.0 ∙ c.in_ok-before.ensures.ok, c.in_ok-judged.ensures.records.1 ∙ c.in_ok-behind.ensures.ok) c.in_ok-judged.ensures.mode (compares_at c.args.mode c.in_ok-before.before.value c.in_ok-behind.behind.value c.args.before c.in_ok-filled.field-0 _ _ c.in_ok-before.ensures.ok c.in_ok-behind.ensures.ok c.in_ok-judged.ensures.found)
