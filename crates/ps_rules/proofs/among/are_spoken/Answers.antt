use Rattle.std.proofs.Common.{ℕ, ◌<◌, subst}
use Rattle.ps_rules.proofs.Seeing.{off}
use Rattle.ps_rules.proofs.Deciding.{refused}
use Rattle.ps_rules.proofs.Suspects.{Spoken, each_start, each_more, not_spoken}
use Rattle.ps_rules.proofs.among.are_spoken.Goals as goal

pub loop-place-init : goal.loop-place-init
loop-place-init c = each_start (Spoken c.args.outs.now c.args.n) c.args.among.now

pub returns-then-not-is_input_or_spoken : goal.returns-then-not-is_input_or_spoken
returns-then-not-is_input_or_spoken c = refused _ (not_spoken c.args.outs.now c.args.n c.loop-place.place c.var_at.result c.args.among.now
    (subst (λ (n : ℕ). c.loop-place.place < n) c.degree-place-end.ensures c.loop-place-test.true) c.var_at.ensures.value (λ s. off (c.is_input_or_spoken.ensures.1 s) c.if-not-is_input_or_spoken.true))

pub loop-place-preserved : goal.loop-place-preserved
loop-place-preserved c = each_more (Spoken c.args.outs.now c.args.n) c.args.among.now c.loop-place.place c.var_at.result
    (subst (λ (n : ℕ). c.loop-place.place < n) c.degree-place-end.ensures c.loop-place-test.true) c.var_at.ensures.value (c.is_input_or_spoken.ensures.0 c.if-not-is_input_or_spoken.false) c.loop-place.invariant
