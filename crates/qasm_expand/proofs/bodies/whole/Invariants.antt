use Rattle.std.proofs.Common.{List, [], ◌∷◌, reverse, Result}
use Rattle.std.specs.Prelude.{All}
use Rattle.ps_prim.specs.declared.prims.Primitive.{Primitive as Prim}
use Rattle.qasm_expand.specs.declared.broken.Broken.{Broken}
use Rattle.qasm_expand.specs.Bodies.{joined}
use Rattle.qasm_expand.specs.Frames.{FrameFits, Left, stack_work}
use Rattle.qasm_expand.proofs.bodies.whole.Given as goal

abbrev pub decreases-loop-frame : goal.decreases-loop-frame
decreases-loop-frame l = stack_work l.defs l.stack.items

abbrev pub invariant-loop-frame : goal.invariant-loop-frame
invariant-loop-frame l = record {
  frames : All (FrameFits l.defs) l.stack.items;
  rest : (r : Result (List Prim) Broken) → Left l.defs (reverse l.stack.items) r → Left l.defs (l.fn.first ∷ []) (joined l.out.items r);
}
