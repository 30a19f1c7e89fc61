use Rattle.std.proofs.lemmas.Result.{on_ok_weaker}
use Rattle.std.specs.String.{string_bytes}
use Rattle.ps_steps.proofs.Written.{elim_written, hh_written, omega_written}
use Rattle.ps_steps.proofs.writing.push_step.Goals as goal

pub returns-in-Elim : goal.returns-in-Elim
returns-in-Elim c = on_ok_weaker c.write.result (elim_written c.in-Elim.y0 (string_bytes c.args.text.now) (string_bytes c.write.new.self) c.args.step c.in-Elim.is) c.write.ensures.bytes

pub returns-in-Hh : goal.returns-in-Hh
returns-in-Hh c = on_ok_weaker c.write-in-Hh.result (hh_written c.in-Hh.y0 c.in-Hh.y1 (string_bytes c.args.text.now) (string_bytes c.write-in-Hh.new.self) c.args.step c.in-Hh.is) c.write-in-Hh.ensures.bytes

pub returns-in-Omega : goal.returns-in-Omega
returns-in-Omega c = on_ok_weaker c.write-in-Omega.result (omega_written c.in-Omega.y0 (string_bytes c.args.text.now) (string_bytes c.write-in-Omega.new.self) c.args.step c.in-Omega.is) c.write-in-Omega.ensures.bytes
