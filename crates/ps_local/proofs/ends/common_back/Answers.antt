use Rattle.std.proofs.Common.{refl, ap, sym, ◌∙◌, arith}
use Rattle.ps_prim.specs.declared.items.Item.{Item}
use Rattle.ps_local.proofs.Parting.{back_more}
use Rattle.ps_local.proofs.ends.common_back.Goals as goal

pub loop-i-preserved : goal.loop-i-preserved
loop-i-preserved c =
    let k = c.if-not-same_item.ensures in
    back_more c.args.first.now c.args.second.now c.loop-i.i c.index-first-first.result c.index-second-second.result (omega arith) (omega arith) c.index-first-first.is c.index-second-second.is
    (sym (ap (λ (x : Item). x.prims) c.deref.ensures) ∙ k.0 refl ∙ ap (λ (x : Item). x.prims) c.deref-in-loop-i.ensures) c.loop-i.invariant
