use Rattle.std.proofs.Common.{refl, ap, sym, ◌∙◌, arith}
use Rattle.ps_prim.specs.declared.items.Item.{Item}
use Rattle.ps_local.proofs.Parting.{front_more}
use Rattle.ps_local.proofs.ends.common_front.Goals as goal

pub loop-i-preserved : goal.loop-i-preserved
loop-i-preserved c =
    let k = c.if-not-same_item.ensures in
    front_more c.args.first.now c.args.second.now c.loop-i.i c.index-first-i.result c.index-second-i.result (omega arith) (omega arith) c.index-first-i.is c.index-second-i.is
    (sym (ap (λ (x : Item). x.prims) c.deref.ensures) ∙ k.0 refl ∙ ap (λ (x : Item). x.prims) c.deref-in-loop-i.ensures) c.loop-i.invariant
