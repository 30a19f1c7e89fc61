use Rattle.std.proofs.Common.{sym, subst}
use Rattle.ps_reach.specs.Fillings.{Leaves}
use Rattle.ps_normal.specs.declared.parts.LeafPart.TheVariants as leaf
use Rattle.ps_normal.specs.Keeping.{IsKept, IsMade, LeafIs}
use Rattle.ps_normal.proofs.Taking.{joined_cases, next_over}
use Rattle.ps_normal.proofs.takings.take_new.Goals as goal

pub returns-in_ok-keep-in-Made-clause-taken : goal.returns-in_ok-keep-in-Made-clause-taken
returns-in_ok-keep-in-Made-clause-taken g c = λ A more w.
    joined_cases c.args.n c.args.place A more c.args.moves.now.items c.new_leaf.new.moves.items c.take_kept.new.moves.items c.args.prim.now c.args.sum c.in-Made.kept.gate.sum.value c.in_ok-part-in-Made.part
    (subst (LeafIs (Leaves c.args.n c.args.place c.args.prim.now c.args.moves.now.items) c.new_leaf.new.moves.items) c.in-Made.is c.in_ok-kept.ensures.part) c.in_ok-part-in-Made.ensures.part w

pub returns-in_ok-keep-in-Made-clause-table : goal.returns-in_ok-keep-in-Made-clause-table
returns-in_ok-keep-in-Made-clause-table g c =
    let h : IsMade c.args.n c.args.prim.now (leaf.Made c.in-Made.kept) = subst (IsMade c.args.n c.args.prim.now) c.in-Made.is c.in_ok-kept.ensures.kept in
    c.in_ok-keep-in-Made.ensures c.args.n c.requires.table (subst (λ x. IsKept c.args.n x c.in-Made.kept) (sym h.0) h.1)

pub returns-in-Over-clause-taken : goal.returns-in-Over-clause-taken
returns-in-Over-clause-taken g c = λ A more w.
    next_over c.args.n c.args.place A more c.args.moves.now.items c.new_leaf.new.moves.items c.args.prim.now c.args.sum c.in-Over.evidence c.in_ok-kept.field-0 c.in-Over.is c.in_ok-kept.ensures.part w
