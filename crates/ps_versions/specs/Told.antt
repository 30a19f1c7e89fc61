-- What is told of circuits and versions.
use Rattle.std.specs.Prelude.{◌≡◌, Option, Some, None, length}
use Rattle.ps_versions.specs.Held.{Version, Circuit}
use Rattle.ps_versions.specs.declared.data.About.{About}
use Rattle.ps_versions.specs.declared.data.State.{State}

-- its qubits, the entry that opened it and the number of its latest version
abbrev pub about : Option Circuit → Option About
about None = None
about (Some c) = Some (record { qubits = c.qubits; opened = c.opened; latest = length c.versions })

-- the version is retired, pinned and no longer kept as this says
abbrev pub Tells : Option Version → State → Type 0
Tells None s = ⊥
Tells (Some v) s = (s.retired ≡ v.retired) × (s.pins ≡ v.pins) × (s.ended ≡ v.ended)
