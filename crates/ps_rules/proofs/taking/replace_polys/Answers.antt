use Rattle.std.proofs.Common.{ℕ, List, ◌<◌, ◌≤◌, ◌∙◌, sym, refl, subst, length}
use Rattle.ps_rules.proofs.Replaces.{replacing_start, replacing_set, replacing_stay, replacing_end}
use Rattle.ps_rules.proofs.taking.replace_polys.Goals as goal
use Rattle.ps_rules.proofs.taking.replace_polys.Goals.{then-contains+in_ok-out, else-contains}

pub loop-out-init : goal.loop-out-init
loop-out-init c = replacing_start c.args.v c.args.poly.now c.args.polys.now.items c.deref_mut-out-items.result.now c.deref_mut-out-items.ensures.value

pub loop-out-preserved : goal.loop-out-preserved
loop-out-preserved c = elim c.if-contains.branch [
  | then-contains+in_ok-out w ↦ replacing_set c.args.v c.args.poly.now c.args.polys.now.items c.loop-out.out-items c.if-contains.out-items c.loop-out.out-index _ w.in_ok-out.field-0 c.out-item.result (subst (λ (r : List (List (List ℕ))). c.loop-out.out-index < length r) c.deref_mut-out-items.ensures.value c.loop-out-test.true)
      refl w.out-items-is (record { value = w.in_ok-out.ensures.value; known = w.in_ok-out.ensures.variables; form = w.in_ok-out.ensures.form }) c.loop-out.invariant
  | else-contains w ↦ replacing_stay c.args.v c.args.poly.now c.args.polys.now.items c.loop-out.out-items c.if-contains.out-items c.loop-out.out-index _ c.out-item.result (subst (λ (r : List (List (List ℕ))). c.loop-out.out-index < length r) c.deref_mut-out-items.ensures.value c.loop-out-test.true)
      refl w.out-items-is (sym c.contains.ensures ∙ w.if-contains.false) c.requires.form c.loop-out.invariant
]

pub returns : goal.returns
returns c = replacing_end c.args.v c.args.poly.now c.args.polys.now.items c.loop-out.out-items c.loop-out.out-index c.args.polys.now.len (subst (λ (r : List (List (List ℕ))). length r ≤ c.loop-out.out-index) c.deref_mut-out-items.ensures.value c.loop-out-test.false) c.args.polys.now.ok.0 c.loop-out.invariant
