use Rattle.std.proofs.Common.{◌≡◌, ◌<◌, ◌-◌, arith, ◌∙◌, ap, get_or}
use Rattle.std.proofs.lemmas.Nat.{and_le_l}
use Rattle.ps_mono.proofs.Places.{rest_is_not, select_start, select_more, selected, place_low}
use Rattle.ps_mono.specs.Sets.{members, is_set}
use Rattle.ps_mono.proofs.select.nth_one.Goals as goal

pub loop-step-init : goal.loop-step-init
loop-step-init c = record { small = c.ranges.word.fits; left = select_start c.args.word }

pub overflow_sub-rest : goal.overflow_sub-rest
overflow_sub-rest c = rest_is_not c.args.word _ c.loop-step.step c.args.place c.loop-step.invariant.small c.requires c.ranges.word.fits (omega arith) c.loop-step.invariant.left

pub loop-step-preserved : goal.loop-step-preserved
loop-step-preserved c = record {
  small = omega (arith, and_le_l c.loop-step.rest (c.loop-step.rest - 1), c.loop-step.invariant.small);
  left = select_more c.args.word _ c.loop-step.step (rest_is_not c.args.word _ c.loop-step.step c.args.place c.loop-step.invariant.small c.requires c.ranges.word.fits (omega arith) c.loop-step.invariant.left) c.loop-step.invariant.small c.loop-step.invariant.left;
}

pub returns-clause-value : goal.returns-clause-value
returns-clause-value c =
    let e : c.loop-step.step ≡ c.args.place = omega arith in
    let some : 0 < c.loop-step.rest = rest_is_not c.args.word _ c.loop-step.step c.args.place c.loop-step.invariant.small c.requires c.ranges.word.fits (omega arith) c.loop-step.invariant.left in
    selected c.args.word _ c.loop-step.step some c.loop-step.invariant.small c.loop-step.invariant.left ∙ ap (λ k. get_or (members (is_set c.args.word) 0 64) k 0) e

pub returns-clause-small : goal.returns-clause-small
returns-clause-small c = place_low _ (rest_is_not c.args.word _ c.loop-step.step c.args.place c.loop-step.invariant.small c.requires c.ranges.word.fits (omega arith) c.loop-step.invariant.left) c.loop-step.invariant.small
