use Rattle.std.proofs.Common.{◌∙◌, sym}
use Rattle.qasm_expand.proofs.Keeping.{on_ok_then, kept_new}
use Rattle.qasm_expand.proofs.bounds.Bounds.keep.Goals as goal

pub returns-in-None : goal.returns-in-None
returns-in-None c = record { bound = on_ok_then c.rebind.result (λ e. e ∙ kept_new c.args.self.now c.args.name.now c.args.def (sym c.in-None.ensures)) c.rebind.ensures.bound }
