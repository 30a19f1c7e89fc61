use Rattle.std.proofs.Common.{◌+◌, refl}
use Rattle.std.proofs.lemmas.Result.{IfOk-weaker}
use Rattle.ps_normal.proofs.Parting.{usable_join, usable_floor, ended_at}
use Rattle.ps_normal.proofs.Suspecting.{beside_joined}
use Rattle.ps_normal.proofs.prims.join_part.Goals as goal

pub reduce_joined-requires-clause-floor : goal.reduce_joined-requires-clause-floor
reduce_joined-requires-clause-floor g c =
    let r = c.requires.ready in
    usable_floor r.n (r.before + r.behind) c.in-Ok.sum r.few (usable_join r.n r.before r.behind c.args.first c.args.gate.now.sum.value c.in-Ok.sum c.in-Ok.ensures.sum r.first r.second)

pub reduce_joined-requires-clause-others : goal.reduce_joined-requires-clause-others
reduce_joined-requires-clause-others g c = beside_joined c.args.first c.args.gate.now.sum.value c.in-Ok.sum _ c.requires.still c.in-Ok.ensures.sum c.suspects-among.ensures

pub returns-in_ok-ended-in-Ok-clause-part : goal.returns-in_ok-ended-in-Ok-clause-part
returns-in_ok-ended-in-Ok-clause-part g c = IfOk-weaker c.ended_part.result _ _
    (λ p j. j c.args.first c.args.gate.now.sum.value c.in-Ok.sum refl c.in-Ok.ensures.fits c.in-Ok.ensures.sum (ended_at _ _ _ _ c.deref.ensures.value c.in_ok-ended-in-Ok.ensures.ended))
    c.ended_part.ensures.join

pub returns-in_ok-ended-in-Ok-clause-usable : goal.returns-in_ok-ended-in-Ok-clause-usable
returns-in_ok-ended-in-Ok-clause-usable g c = IfOk-weaker c.ended_part.result _ _
    (λ p u n a b v w. u n _ c.in-Ok.sum (usable_join n a b c.args.first c.args.gate.now.sum.value c.in-Ok.sum c.in-Ok.ensures.sum v w) (ended_at _ _ _ _ c.deref.ensures.value c.in_ok-ended-in-Ok.ensures.ended))
    c.ended_part.ensures.usable

pub returns-then-is_still-clause-usable : goal.returns-then-is_still-clause-usable
returns-then-is_still-clause-usable g c = IfOk-weaker c.still_part.result _ _
    (λ p u n a b v w. u n (a + b) (usable_join n a b c.args.first c.args.gate.now.sum.value c.in-Ok.sum c.in-Ok.ensures.sum v w))
    c.still_part.ensures.usable
