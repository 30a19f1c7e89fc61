use Rattle.ps_rules.specs.declared.steps.Move.TheVariants.{Leaf}
use Rattle.ps_normal.proofs.Pairs.{placed_get}
use Rattle.ps_normal.proofs.children.push_raised.Goals as goal

pub raise-requires-clause-placed : goal.raise-requires-clause-placed
raise-requires-clause-placed c = placed_get 268435456 c.args.moves.now c.moves.step-index (Leaf 0) c.requires.placed c.moves-test.true
