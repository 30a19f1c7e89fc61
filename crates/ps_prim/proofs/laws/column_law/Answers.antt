use Rattle.ps_prim.proofs.Unitary.{prim_keeps}
use Rattle.ps_prim.proofs.Equal.{own, one_is_same}
use Rattle.ps_prim.proofs.Different.{same_is_one}
use Rattle.ps_prim.proofs.laws.column_law.Goals as goal

pub returns : goal.returns
returns c = record { kept = prim_keeps; own = own; one = one_is_same; same = same_is_one }
