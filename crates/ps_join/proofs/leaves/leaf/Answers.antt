use Rattle.std.proofs.lemmas.Result.{IfOk-weaker}
use Rattle.ps_join.proofs.LeafSums.{as_leaf, denotes_leaf, denotes_wide, prim_turn}
use Rattle.ps_join.proofs.leaves.leaf.Goals as goal

pub returns-in-Cx-clause-denotes : goal.returns-in-Cx-clause-denotes
returns-in-Cx-clause-denotes c = IfOk-weaker c.exchange.result _ _ (λ s l. denotes_leaf c.args.n c.args.prim.now s c.requires.within (as_leaf c.args.n _ _ s c.in-Cx.is l)) c.exchange.ensures

pub returns-then-units-eq0-clause-denotes : goal.returns-then-units-eq0-clause-denotes
returns-then-units-eq0-clause-denotes c =
    IfOk-weaker c.turn.result _ _ (λ s l. denotes_leaf c.args.n c.args.prim.now s c.requires.within (as_leaf c.args.n _ _ s (prim_turn _ _ _ _ _ _ c.in-U.is c.units.ensures c.if-units-eq0.true) l)) c.turn.ensures

pub returns-else-units-eq0-clause-denotes : goal.returns-else-units-eq0-clause-denotes
returns-else-units-eq0-clause-denotes c = IfOk-weaker c.rotation.result _ _ (λ s l. denotes_leaf c.args.n c.args.prim.now s c.requires.within (as_leaf c.args.n _ _ s c.in-U.is l)) c.rotation.ensures

pub returns-in-Cx-clause-wide : goal.returns-in-Cx-clause-wide
returns-in-Cx-clause-wide c = IfOk-weaker c.exchange.result _ _ (λ s l. denotes_wide c.args.n s _ (denotes_leaf c.args.n c.args.prim.now s c.requires.within (as_leaf c.args.n _ _ s c.in-Cx.is l))) c.exchange.ensures

pub returns-then-units-eq0-clause-wide : goal.returns-then-units-eq0-clause-wide
returns-then-units-eq0-clause-wide c =
    IfOk-weaker c.turn.result _ _ (λ s l. denotes_wide c.args.n s _ (denotes_leaf c.args.n c.args.prim.now s c.requires.within (as_leaf c.args.n _ _ s (prim_turn _ _ _ _ _ _ c.in-U.is c.units.ensures c.if-units-eq0.true) l))) c.turn.ensures

pub returns-else-units-eq0-clause-wide : goal.returns-else-units-eq0-clause-wide
returns-else-units-eq0-clause-wide c = IfOk-weaker c.rotation.result _ _ (λ s l. denotes_wide c.args.n s _ (denotes_leaf c.args.n c.args.prim.now s c.requires.within (as_leaf c.args.n _ _ s c.in-U.is l))) c.rotation.ensures
