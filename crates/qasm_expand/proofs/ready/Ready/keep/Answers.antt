use Rattle.std.proofs.Common.{sym, subst, None}
use Rattle.std.proofs.lemmas.List.Elements.{All-push, All-set}
use Rattle.qasm_expand.specs.Ready.{IsSlot, IsExpansion, AreExpansions}
use Rattle.qasm_expand.proofs.Expansions.{no_exprs}
use Rattle.qasm_expand.proofs.ready.Ready.keep.Goals as goal

pub slots-preserved : goal.slots-preserved
slots-preserved c = record { known = λ defs h. subst (AreExpansions defs) (sym c.in_ok-push.ensures.items) (All-push (IsSlot defs) c.slots.self.slots.items None (c.slots.invariant.known defs h) tt) }

pub returns : goal.returns
returns c = λ defs h w.
    All-set (IsSlot defs) c.slots.self.slots.items c.slot_of-slot.result _
    (subst (λ es. IsExpansion defs c.args.gate es c.args.prims.items) (no_exprs c.args.formulas.now c.is_empty.result c.is_empty.ensures c.if-not-is_empty.false) w) (c.slots.invariant.known defs h)
