use Rattle.std.proofs.Common.{◌∙◌, ap, ◌++◌, ◌∷◌, []}
use Rattle.qasm_expand.specs.Maps.{prims_in}
use Rattle.qasm_expand.proofs.Placing.{items_none, items_next}
use Rattle.qasm_expand.proofs.applying.add.Goals as goal

pub loop-index-init : goal.loop-index-init
loop-index-init c = items_none c.args.items.now c.args.prims.now c.args.targets.now

pub item_at-requires-clause-targets : goal.item_at-requires-clause-targets
item_at-requires-clause-targets c = c.requires.targets c.loop-index.index c.loop-index-test.true

pub item_at-requires-clause-different : goal.item_at-requires-clause-different
item_at-requires-clause-different c = c.requires.different c.loop-index.index c.loop-index-test.true

pub loop-index-preserved : goal.loop-index-preserved
loop-index-preserved c =
    items_next c.args.items.now c.loop-index.items c.push.new.self c.args.prims.now (prims_in c.in_ok-item.item) c.args.targets.now c.loop-index.index c.loop-index.invariant
    (c.in_ok-push.ensures ∙ ap (λ l. l ++ prims_in c.in_ok-item.item ∷ []) c.item_at.ensures.same) c.in_ok-item.ensures.item
