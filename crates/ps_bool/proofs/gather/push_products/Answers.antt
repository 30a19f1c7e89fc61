use Rattle.ps_bool.proofs.Products.{push_value, push_missing, push_end}
use Rattle.ps_bool.proofs.gather.push_products.Goals as goal

pub loop-other-preserved : goal.loop-other-preserved
loop-other-preserved c = record {
  value = λ a. rw c.in_ok-push.ensures.items (push_value _ _ _ _ c.loop-other.other-index c.other-item.result c.union.result c.loop-other-test.true c.other-item.is c.union.ensures.members a (c.loop-other.invariant.value a));
  variables = λ v s n o. rw c.in_ok-push.ensures.items (push_missing _ _ _ c.loop-other.other-index c.other-item.result c.union.result c.loop-other-test.true c.other-item.is c.union.ensures.members v s n (c.loop-other.invariant.variables v s n o));
}

pub returns-clause-value : goal.returns-clause-value
returns-clause-value c = λ a. push_end _ _ _ _ c.loop-other.other-index a c.loop-other-test.false (c.loop-other.invariant.value a)
