use Rattle.std.proofs.Common.{◌≡◌, refl, sym, subst, arith, ◌+◌, Bool, true, false}
use Rattle.ps_steps.specs.Holding.{AllSided}
use Rattle.ps_replay.specs.Failing.{leaf_closed}
use Rattle.ps_replay.specs.Places.{stack}
use Rattle.ps_replay.proofs.Runs.{within_at}
use Rattle.ps_replay.proofs.Stacking.{leaf_does, leaf_none}
use Rattle.ps_replay.proofs.lines.leaf_line.Goals as goal
use Rattle.ps_replay.proofs.lines.leaf_line.Goals.{then-at-prims-via-then-at-prims, then-at-prims-via-else-at-prims+then-not-all_sided}

clash : {c : Bool} → c ≡ true → c ≡ false → ⊥
clash x y = cc

pub returns-then-at-prims : goal.returns-then-at-prims
returns-then-at-prims c = λ A B e. elim c.then-at-prims.branch [
  | then-at-prims-via-then-at-prims w ↦ leaf_none c.args.n A B c.args.prims.now c.args.b c.args.prim c.args.held.now.items e (omega (arith, w.if-at-prims.true))
  | then-at-prims-via-else-at-prims+then-not-all_sided w ↦ leaf_closed (λ a. clash (w.all_sided.ensures.1 (subst (λ x. AllSided (stack x)) (sym w.deref.ensures.value) a)) w.if-not-all_sided.true)
]

pub leaf-requires-clause-within : goal.leaf-requires-clause-within
leaf-requires-clause-within c = within_at c.args.n c.args.prims.now c.args.prim c.index-prims-at.result c.requires.within (omega (arith, c.if-at-prims.false)) c.index-prims-at.is

pub returns : goal.returns
returns c = λ A B e. leaf_does c.args.n A B c.args.prims.now c.args.b c.args.prim (c.args.prim + 1) c.index-prims-at.result c.in_ok-sum.sum c.args.held.now.items c.push.new.self.items e refl
    (subst (λ x. AllSided (stack x)) c.deref.ensures.value (c.all_sided.ensures.0 c.if-not-all_sided.false)) (omega (arith, c.if-at-prims.false)) c.index-prims-at.is c.in_ok-sum.ensures.sum c.in_ok-push.ensures.items
