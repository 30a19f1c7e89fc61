use Rattle.ps_local.proofs.Uniqueness.{cut_once}
use Rattle.ps_local.proofs.Pieces.{middles_run, middles_same, middles_tell}
use Rattle.ps_local.proofs.Windowing.{windows_tell}
use Rattle.ps_local.proofs.Telling.{found_finds, finding_tells}
use Rattle.ps_local.proofs.laws.local_law.Goals as goal

pub returns : goal.returns
returns c = record { cut_once = cut_once; run = middles_run; same = middles_same; tell = middles_tell; windows = windows_tell; found = found_finds; finding = finding_tells }
