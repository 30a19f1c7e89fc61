use Rattle.ps_script.proofs.WordLemmas.{cut_none, cut_some}
use Rattle.ps_script.proofs.pieces.cut.Goals as goal

pub returns-in_err-at : goal.returns-in_err-at
returns-in_err-at c = rw c.from_residual.ensures (cut_none c.args.bytes.now c.in_err-at.ensures)

pub returns : goal.returns
returns c = cut_some c.args.bytes.now c.in_ok-at.at c.in_ok-at.ensures
