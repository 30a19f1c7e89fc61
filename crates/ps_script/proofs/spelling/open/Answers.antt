use Rattle.ps_script.proofs.OrderLemmas.{open_none, open_is}
use Rattle.ps_script.proofs.spelling.open.Goals as goal

pub returns-in_err-name : goal.returns-in_err-name
returns-in_err-name c = rw c.from_residual.ensures (open_none c.args.bytes.now c.in_err-name.ensures)

pub returns : goal.returns
returns c = open_is c.args.bytes.now c.in_ok-name.name c.in_ok-name.ensures.0 c.in_ok-name.ensures.1
