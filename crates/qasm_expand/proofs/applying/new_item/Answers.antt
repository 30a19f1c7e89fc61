use Rattle.std.proofs.Common.{sym, subst}
use Rattle.ps_prim.specs.Maps.{AllWithin}
use Rattle.qasm_expand.proofs.Placing.{placed_all}
use Rattle.qasm_expand.proofs.applying.new_item.Goals as goal

pub new-requires-clause-within : goal.new-requires-clause-within
new-requires-clause-within c =
    subst (AllWithin 64) (sym c.in_ok-all_placed.ensures) (placed_all 64 c.args.index c.args.targets.now c.args.prims.now c.requires.targets c.requires.different c.requires.prims)
