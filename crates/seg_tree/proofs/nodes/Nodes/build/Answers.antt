use Rattle.std.proofs.Common.{length, refl, ap, sym, ◌∙◌, subst, arith}
use Rattle.std.proofs.lemmas.Result.{IfOk-weaker}
use Rattle.seg_tree.specs.Trees.{run_maybe}
use Rattle.seg_tree.specs.Measures.{IsBalancedMaybe, uses_maybe, fresh_maybe}
use Rattle.seg_tree.specs.Growth.{PlantsMaybe}
use Rattle.seg_tree.proofs.Runs.{run-build, length-build}
use Rattle.seg_tree.proofs.Uses.{uses-build}
use Rattle.seg_tree.proofs.Built.{balanced-build, fresh-build}
use Rattle.seg_tree.proofs.Results.{run_is, balanced_is, few_new, passes, built_none}
use Rattle.seg_tree.proofs.Texts.{is_build}
use Rattle.seg_tree.proofs.nodes.Nodes.build.Goals as goal

pub add-requires-clause-balanced : goal.add-requires-clause-balanced
add-requires-clause-balanced c = subst IsBalancedMaybe (sym c.in_ok-draft.ensures.0) (balanced-build c.args.items.now)

pub add-requires-clause-short : goal.add-requires-clause-short
add-requires-clause-short c = omega (arith, ap (λ t. length (run_maybe t)) c.in_ok-draft.ensures.0, length-build c.args.items.now, c.requires)

pub returns-clause-none : goal.returns-clause-none
returns-clause-none c = IfOk-weaker c.add.result _ _ (λ r p. built_none c.args.self.now c.add.new.self c.args.items.now r (subst (λ t. PlantsMaybe c.args.self.now c.add.new.self t r) c.in_ok-draft.ensures.0 p)) c.add.ensures.tree

pub returns-clause-shape : goal.returns-clause-shape
returns-clause-shape c = IfOk-weaker c.add.result _ _ (λ r p. is_build c.args.items.now) c.add.ensures.tree

pub returns-clause-run : goal.returns-clause-run
returns-clause-run c = IfOk-weaker c.add.result _ _ (λ r p. run_is c.args.self.now c.add.new.self _ r p ∙ ap run_maybe c.in_ok-draft.ensures.0 ∙ run-build c.args.items.now) c.add.ensures.tree

pub returns-clause-balanced : goal.returns-clause-balanced
returns-clause-balanced c = IfOk-weaker c.add.result _ _ (λ r p. balanced_is c.args.self.now c.add.new.self _ r p (subst IsBalancedMaybe (sym c.in_ok-draft.ensures.0) (balanced-build c.args.items.now))) c.add.ensures.tree

pub returns-clause-nodes : goal.returns-clause-nodes
returns-clause-nodes c = IfOk-weaker c.add.result _ _ (λ r p. passes c.args.self.now c.add.new.self _ r p (λ k. 0) (λ k. omega (arith, ap (uses_maybe k) c.in_ok-draft.ensures.0, uses-build k c.args.items.now)) (λ k h. refl)) c.add.ensures.tree

pub returns-clause-bound : goal.returns-clause-bound
returns-clause-bound c = IfOk-weaker c.add.result _ _ (λ r p. omega (arith, few_new c.args.self.now c.add.new.self _ r p, ap fresh_maybe c.in_ok-draft.ensures.0, fresh-build c.args.items.now)) c.add.ensures.tree
