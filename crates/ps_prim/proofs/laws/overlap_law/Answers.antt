use Rattle.ps_prim.proofs.Overlaps.{overlap_is_inner, overlap_denotes, overlap_one, overlap_not_one}
use Rattle.ps_prim.proofs.Different.{phase_is_one}
use Rattle.ps_prim.proofs.laws.overlap_law.Goals as goal

pub returns : goal.returns
returns c = record { inner = overlap_is_inner; denotes = overlap_denotes; one = overlap_one; not_one = overlap_not_one; phase = phase_is_one }
