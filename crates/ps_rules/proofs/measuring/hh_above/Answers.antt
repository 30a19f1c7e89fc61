use Rattle.std.proofs.Common.{ℕ, List, ◌+◌, map, length, subst, MatchOption}
use Rattle.ps_sum.specs.Counts.{raw_bool}
use Rattle.ps_rules.specs.Rules.{NoneAbove}
use Rattle.ps_rules.specs.Plans.{IsFirstTold}
use Rattle.ps_rules.proofs.Limits.{told_first, later}
use Rattle.ps_rules.proofs.Parting.{parts_count}
use Rattle.ps_rules.proofs.measuring.hh_above.Goals as goal

pub returns-then-terms-gt-LIMIT : goal.returns-then-terms-gt-LIMIT
returns-then-terms-gt-LIMIT c = told_first _ _ _ (parts_count (c.args.sum.now.n + c.args.y0) (c.args.sum.now.n + c.args.y1) (length c.args.parts.now.poly) c.args.parts.now.left c.min.result c.raw_phase-made.result c.min-terms.result c.args.sum.now.phase c.args.parts.now.into c.requires.left c.requires.into c.min.ensures c.raw_phase-made.ensures c.min-terms.ensures) c.if-terms-gt-LIMIT.true

pub returns : goal.returns
returns c = later c.outs_above.result _ c.min-terms.result (map (λ f. raw_bool (c.args.sum.now.n + c.args.y1) (length c.args.parts.now.poly) f) c.args.sum.now.outs)
    (parts_count (c.args.sum.now.n + c.args.y0) (c.args.sum.now.n + c.args.y1) (length c.args.parts.now.poly) c.args.parts.now.left c.min.result c.raw_phase-made.result c.min-terms.result c.args.sum.now.phase c.args.parts.now.into c.requires.left c.requires.into c.min.ensures c.raw_phase-made.ensures c.min-terms.ensures)
    c.if-terms-gt-LIMIT.false
    (subst (λ (outs : List (List (List ℕ))). MatchOption c.outs_above.result (NoneAbove (map (λ f. raw_bool (c.args.sum.now.n + c.args.y1) (length c.args.parts.now.poly) f) outs)) (λ k. IsFirstTold (map (λ f. raw_bool (c.args.sum.now.n + c.args.y1) (length c.args.parts.now.poly) f) outs) k)) c.polys.ensures c.outs_above.ensures)
