use Rattle.std.proofs.Common.{◌+◌, refl, ap, ◌∙◌, Some}
use Rattle.ps_reach.specs.Fillings.{overrun}
use Rattle.std.proofs.lemmas.Result.{IfOk-weaker}
use Rattle.ps_normal.proofs.Parting.{usable_join, usable_floor, ended_at}
use Rattle.ps_normal.proofs.Pairs.{join_at, fits_at, shared_passed}
use Rattle.ps_normal.proofs.children.join_sums.Goals as goal

pub reduce-requires : goal.reduce-requires
reduce-requires g c =
    let r = c.requires.ready in
    record {
      floor = usable_floor r.n (r.before + r.behind) c.in-Ok.sum r.few
          (usable_join r.n r.before r.behind c.args.first.now.value c.args.second.now.value c.in-Ok.sum (join_at _ _ c.args.first.now.value c.args.second.now.value c.in-Ok.sum c.deref.ensures c.deref-2.ensures c.in-Ok.ensures.sum) r.first r.second);
    }

pub returns-in-Ok-clause-part : goal.returns-in-Ok-clause-part
returns-in-Ok-clause-part g c = IfOk-weaker c.ended_part.result _ _
    (λ p j. j c.args.first.now.value c.args.second.now.value c.in-Ok.sum refl (fits_at _ _ c.args.first.now.value c.args.second.now.value c.deref.ensures c.deref-2.ensures c.in-Ok.ensures.fits)
    (join_at _ _ c.args.first.now.value c.args.second.now.value c.in-Ok.sum c.deref.ensures c.deref-2.ensures c.in-Ok.ensures.sum) (ended_at _ _ _ _ c.deref-in-Ok.ensures.value c.in_ok-ended-in-Ok.ensures.ended))
    c.ended_part.ensures.join

pub returns-in-Err-Passed-clause-part : goal.returns-in-Err-Passed-clause-part
returns-in-Err-Passed-clause-part g c =
    shared_passed c.args.places.from c.args.places.middle c.args.places.to _ _ c.in_ok-first-in-Err-Passed.first.value c.in_ok-second-in-Err-Passed.second.value c.args.first.now.value c.args.second.now.value c.in-Err-Passed.passed c.in-Err-Passed.field-0 c.args.moves.now.items _
    c.in-Err-Passed.field-0-is c.in-Err-Passed.ensures.passed c.deref.ensures c.deref-2.ensures c.in_ok-first-in-Err-Passed.ensures c.in_ok-second-in-Err-Passed.ensures
    (c.shared_evidence.ensures ∙ ap (λ q. overrun q c.args.places.from c.args.places.middle c.args.places.to c.in_ok-first-in-Err-Passed.first.value (Some c.in_ok-second-in-Err-Passed.second.value)) c.in-Err-Passed.passed-is)
