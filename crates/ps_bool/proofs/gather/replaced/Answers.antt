use Rattle.std.proofs.Common.{◌⊎◌, ◌≡◌, inl, inr, ap, ◌∙◌, true, false}
use Rattle.std.specs.Vec.{vec_items}
use Rattle.ps_bool.specs.Polys.{bool_value, occurs}
use Rattle.ps_bool.proofs.Products.{no_occurs}
use Rattle.ps_bool.proofs.Replacing.{Multiplies, replaced_start, replaced_value, replaced_variables, replaced_end}
use Rattle.ps_bool.proofs.gather.replaced.Goals as goal
use Rattle.ps_bool.proofs.gather.replaced.Goals.{then-contains+in_ok-push_products, else-contains}

pub loop-mono-init : goal.loop-mono-init
loop-mono-init c = record {
  value = λ a. rw c.new-out.ensures.items (replaced_start _ _ c.args.v a);
  variables = λ u n o. rw c.new-out.ensures.items (no_occurs u);
}

pub loop-mono-preserved : goal.loop-mono-preserved
loop-mono-preserved c =
    let step : ((c.contains.result ≡ true) × Multiplies c.loop-mono.out.items c.if-contains.out.items c.args.by.now c.mono-item.result c.args.v) ⊎ ((c.contains.result ≡ false) × (c.if-contains.out.items ≡ c.loop-mono.out.items)) =
    elim c.if-contains.branch [
      | then-contains+in_ok-push_products w ↦ inl (
        w.if-contains.true,
        record {
          left = w.removed.result;
          members = w.removed.ensures.members;
          value = λ a. ap (λ z. bool_value (vec_items z) a) w.out-is ∙ w.in_ok-push_products.ensures.value a;
          variables = λ v s n o. ap (λ z. occurs v (vec_items z)) w.out-is ∙ w.in_ok-push_products.ensures.variables v s n o;
        },
      )
      | else-contains w ↦ inr (w.if-contains.false, ap vec_items w.out-is)
    ] in
    record {
      value = λ a. replaced_value c.args.v _ _ _ _ c.loop-mono.mono-index c.mono-item.result c.contains.result c.loop-mono-test.true c.mono-item.is c.contains.ensures step a (c.loop-mono.invariant.value a);
      variables = λ u n o. replaced_variables c.args.v _ _ _ _ c.loop-mono.mono-index c.mono-item.result c.contains.result c.loop-mono-test.true c.mono-item.is step u n o (c.loop-mono.invariant.variables u n o);
    }

pub returns-clause-value : goal.returns-clause-value
returns-clause-value c = λ a. replaced_end _ _ _ c.loop-mono.mono-index c.args.v c.loop-mono-test.false a (c.loop-mono.invariant.value a)
