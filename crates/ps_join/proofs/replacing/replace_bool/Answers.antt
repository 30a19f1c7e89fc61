use Rattle.ps_join.proofs.Chains.{idle_bool}
use Rattle.ps_join.proofs.replacing.replace_bool.Goals as goal

pub returns-then-not-may-clause-after : goal.returns-then-not-may-clause-after
returns-then-not-may-clause-after c = idle_bool c.args.v c.args.by.now c.args.poly c.requires.form (c.requires.free c.if-not-may.true)
