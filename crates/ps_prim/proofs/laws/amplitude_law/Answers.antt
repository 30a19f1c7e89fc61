use Rattle.ps_prim.proofs.Appended.{amplitude_empty, amplitude_last_at, amplitude_append_at, turns-append}
use Rattle.ps_prim.proofs.Columns.{amplitude_number}
use Rattle.ps_prim.proofs.laws.amplitude_law.Goals as goal

pub returns : goal.returns
returns c = record { empty = amplitude_empty; last = amplitude_last_at; append = amplitude_append_at; turns = turns-append; number = amplitude_number }
