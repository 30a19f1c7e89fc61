use Rattle.std.proofs.Common.{arith}
use Rattle.ps_normal.proofs.Taking.{within_at, walk_more}
use Rattle.ps_normal.proofs.takings.take_prims.Goals as goal

pub take_prim-requires-clause-within : goal.take_prim-requires-clause-within
take_prim-requires-clause-within g c = within_at c.args.n c.args.prims.now c.prims.prim-index c.prim-item.result c.requires.within c.prims-test.true c.prim-item.is

pub prims-preserved : goal.prims-preserved
prims-preserved g c = record {
  walk = walk_more c.args.n c.args.place c.args.prims.now c.args.held c.prims.held c.args.moves.now.items c.prims.moves.items c.take_prim.new.moves.items c.prims.prim-index c.prims.at c.prim-item.result c.in-Sum.sum c.in_ok-sum.field-0
      c.prims-test.true c.prim-item.is c.prims.invariant.walk c.in-Sum.is c.in_ok-sum.ensures.taken c.in_ok-sum.ensures.usable;
  table = c.in_ok-sum.ensures.table;
  never_falls = omega (arith, c.prims.invariant.never_falls, c.asked.ensures.never_falls, c.take_prim.ensures.never_falls);
}
