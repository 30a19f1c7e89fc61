use Rattle.std.proofs.Common.{◌+◌, ◌∷◌, subst, arith}
use Rattle.std.proofs.lemmas.Result.{IfOk-weaker}
use Rattle.ps_normal.specs.Pieces.{IsProgress}
use Rattle.ps_normal.proofs.Taking.{first_part, usable_more}
use Rattle.ps_normal.proofs.takings.take_prim.Goals as goal

pub returns-in-None-clause-taken : goal.returns-in-None-clause-taken
returns-in-None-clause-taken g c = IfOk-weaker c.leaf_part.result _ _
    (λ p l A more w. first_part c.args.n c.args.place A more c.args.moves.now.items c.leaf_part.new.moves.items c.args.prim.now p c.args.held c.in-None.is l w)
    c.leaf_part.ensures.part

pub returns-in-None-clause-usable : goal.returns-in-None-clause-usable
returns-in-None-clause-usable g c = IfOk-weaker c.leaf_part.result _ _ (λ p u. usable_more c.args.n 1 (c.args.place + 1) p (omega arith) u) c.leaf_part.ensures.usable

pub returns-in-Some-clause-taken : goal.returns-in-Some-clause-taken
returns-in-Some-clause-taken g c = IfOk-weaker c.take_next.result _ _
    (λ p t A more w. t A more (subst (λ x. IsProgress c.args.n A (c.args.prim.now ∷ more) x c.args.place c.args.moves.now.items) c.in-Some.is w))
    c.take_next.ensures.taken
