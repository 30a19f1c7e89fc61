use Rattle.std.proofs.Common.{[], ◌∙◌, ◌+◌, ap, min, length}
use Rattle.ps_sum.specs.Counts.{raw_term}
use Rattle.ps_rules.proofs.Limits.{omega_count, told_first, none_later}
use Rattle.ps_rules.proofs.measuring.omega_above.Goals as goal

pub returns-then-count-gt-LIMIT : goal.returns-then-count-gt-LIMIT
returns-then-count-gt-LIMIT c = told_first _ [] _ (omega_count (c.args.sum.now.n + c.args.y0) c.of.result (length c.args.poly.now) c.raw_term.result c.min-kept.result c.kept_count.result c.min-count.result c.terms.result.now c.args.sum.now.phase c.terms.ensures.value c.kept_count.ensures c.min-kept.ensures c.of.ensures
    (c.raw_term.ensures ∙ ap (λ n. min (raw_term c.of.result n) 1000000000000) c.count.ensures) c.min-count.ensures) c.if-count-gt-LIMIT.true

pub returns-else-count-gt-LIMIT : goal.returns-else-count-gt-LIMIT
returns-else-count-gt-LIMIT c = none_later _ _ [] (omega_count (c.args.sum.now.n + c.args.y0) c.of.result (length c.args.poly.now) c.raw_term.result c.min-kept.result c.kept_count.result c.min-count.result c.terms.result.now c.args.sum.now.phase c.terms.ensures.value c.kept_count.ensures c.min-kept.ensures c.of.ensures
    (c.raw_term.ensures ∙ ap (λ n. min (raw_term c.of.result n) 1000000000000) c.count.ensures) c.min-count.ensures) c.if-count-gt-LIMIT.false tt
