use Rattle.std.proofs.Common.{ℕ, ◌<◌, ◌≤◌, subst}
use Rattle.ps_rules.proofs.Seeing.{off}
use Rattle.ps_rules.proofs.Deciding.{skipped_start, skipped_more, partner_first, halves_none}
use Rattle.ps_rules.proofs.choosing.least_partner.Goals as goal

pub loop-place-init : goal.loop-place-init
loop-place-init c = skipped_start c.args.sum.now.n c.args.y c.args.sight.now.pairs c.args.sight.now.wide

pub returns-then-is_partner : goal.returns-then-is_partner
returns-then-is_partner c = partner_first c.args.sum.now c.args.y c.var_at-u.result c.loop-place.place c.args.sight.now.pairs c.args.sight.now.wide c.requires.inside c.requires.halves c.known.ensures
    (subst (λ (n : ℕ). c.loop-place.place < n) c.degree-place-end.ensures c.loop-place-test.true) c.var_at-u.ensures.value c.loop-place.invariant (c.is_partner.ensures.0 c.if-is_partner.true)

pub loop-place-preserved : goal.loop-place-preserved
loop-place-preserved c = skipped_more c.args.sum.now.n c.args.y c.args.sight.now.pairs c.args.sight.now.wide c.loop-place.place c.var_at-u.result
    (subst (λ (n : ℕ). c.loop-place.place < n) c.degree-place-end.ensures c.loop-place-test.true) c.var_at-u.ensures.value (λ p. off (c.is_partner.ensures.1 p) c.if-is_partner.false) c.loop-place.invariant

pub returns : goal.returns
returns c = halves_none c.args.sum.now c.args.y c.loop-place.place c.args.sight.now.pairs c.args.sight.now.wide c.requires.halves (subst (λ (n : ℕ). n ≤ c.loop-place.place) c.degree-place-end.ensures c.loop-place-test.false) c.loop-place.invariant
