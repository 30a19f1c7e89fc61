use Rattle.std.proofs.Common.{ℕ, arith, refl, ◌∙◌, ◌≡◌, ◌-◌, ap, sym, get_or}
use Rattle.std.proofs.lemmas.List.{get_or_default}
use Rattle.ps_phase.specs.declared.terms.Term.{Term}
use Rattle.ps_phase.proofs.Weaves.{weaving_start, weaving_done}
use Rattle.ps_phase.proofs.weaving.weave.Goals as goal

pub loop-place-init : goal.loop-place-init
loop-place-init c = weaving_start c.args.terms.now.items c.args.others.now _ _ _ (omega (arith, c.len-left.ensures)) refl c.in-Ok.ensures.items

pub loop-place-preserved : goal.loop-place-preserved
loop-place-preserved c =
    let xs = c.args.terms.now.items in
    let ys = c.args.others.now in
    let y = c.index-others-place.result in
    let more = c.loop-place.place.more in
    let last : (d : Term) → y ≡ get_or ys (more - 1) d = λ d. c.index-others-place.is ∙ get_or_default ys (more - 1) y d (omega (arith, c.loop-place-test.true, c.loop-place.invariant.inside_second)) in
    (c.woven-place.ensures xs ys c.requires.form c.requires.order (λ d. last d ∙ ap (λ (k : ℕ). get_or ys (k - 1) d) (sym c.leapt-place.ensures.more))
    (c.leapt-place.ensures.weaving xs ys c.requires.form c.requires.order last c.loop-place.invariant)).0

pub returns-clause-sum : goal.returns-clause-sum
returns-clause-sum c = weaving_done c.args.terms.now.items c.args.others.now c.loop-place.terms.items _ c.loop-place.place.left c.loop-place.place.more c.loop-place.place.from c.requires.form c.requires.order (omega (arith, c.loop-place-test.false)) c.close.ensures c.loop-place.invariant
