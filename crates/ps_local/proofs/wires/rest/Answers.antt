use Rattle.std.proofs.Common.{ap, sym, ◌∙◌, arith, true, false, vec_items}
use Rattle.std.proofs.lemmas.List.{get_or_default}
use Rattle.ps_prim.specs.declared.items.Item.{Item}
use Rattle.ps_local.proofs.Keeping.{rest_more, rest_same, rest_all}
use Rattle.ps_local.proofs.wires.rest.Goals as goal
use Rattle.ps_local.proofs.wires.rest.Goals.{then-not-out-i+in_ok-try_clone+in_ok-push, else-not-out-i}

pub loop-i-preserved : goal.loop-i-preserved
loop-i-preserved c = elim c.if-not-out-i.branch [
  | then-not-out-i+in_ok-try_clone+in_ok-push w ↦
      (let h = w.in_ok-try_clone.ensures in
      let t = w.in_ok-push.ensures in
      rest_more c.args.out.now c.args.items.now c.loop-i.i w.index-items-i.result w.in_ok-try_clone.field-0 c.loop-i.list.items _ _ (omega arith) (omega arith)
      (sym (get_or_default c.args.out.now c.loop-i.i false true (omega arith)) ∙ w.if-not-out-i.true) w.index-items-i.is (ap (λ (i : Item). i.prims) h) (ap vec_items w.list-is ∙ t.items) c.loop-i.invariant)
  | else-not-out-i w ↦
      rest_same c.args.out.now c.args.items.now c.loop-i.i c.loop-i.list.items _ _ (omega arith) (omega arith) (sym (get_or_default c.args.out.now c.loop-i.i false true (omega arith)) ∙ w.if-not-out-i.false) (ap vec_items w.list-is) c.loop-i.invariant
]

pub returns : goal.returns
returns c = rest_all c.args.out.now c.args.items.now c.loop-i.list.items c.loop-i.i _ c.loop-i-test.false c.loop-i.invariant
