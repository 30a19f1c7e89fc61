use Rattle.ps_normal.proofs.Tables.{kept_found}
use Rattle.ps_normal.proofs.leaves.kept_leaf.Goals as goal

pub returns-then-same_prim : goal.returns-then-same_prim
returns-then-same_prim c = λ n t. kept_found n c.args.leaves.now c.slot_of.result c.in-Some-Some.field-0.now c.in-Some-Some.kept c.args.prim.now c.deref-then-same_prim.result.now c.deref.result.now t c.in-Some-Some.ensures.lookup.3.0 (c.in-Some-Some.ensures.lookup.3.1 _) c.in-Some-Some.field-0-is
    c.deref-then-same_prim.ensures c.deref.ensures (c.same_prim.ensures.0 c.if-same_prim.true)
