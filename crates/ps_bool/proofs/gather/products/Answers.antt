use Rattle.ps_bool.proofs.Products.{products_start, products_next, products_end, missing_at, no_occurs}
use Rattle.ps_bool.proofs.gather.products.Goals as goal

pub loop-x-init : goal.loop-x-init
loop-x-init c = record {
  value = λ a. rw c.new-out.ensures.items (products_start _ _ a);
  variables = λ v n o. rw c.new-out.ensures.items (no_occurs v);
}

pub loop-x-preserved : goal.loop-x-preserved
loop-x-preserved c = record {
  value = λ a. products_next _ _ _ _ c.loop-x.x-index c.x-item.result a c.loop-x-test.true c.x-item.is (c.in_ok-push_products.ensures.value a) (c.loop-x.invariant.value a);
  variables = λ v n o. c.in_ok-push_products.ensures.variables v (missing_at v _ c.loop-x.x-index c.x-item.result c.loop-x-test.true c.x-item.is n) o (c.loop-x.invariant.variables v n o);
}

pub returns-clause-value : goal.returns-clause-value
returns-clause-value c = λ a. products_end _ _ _ c.loop-x.x-index a c.loop-x-test.false (c.loop-x.invariant.value a)
