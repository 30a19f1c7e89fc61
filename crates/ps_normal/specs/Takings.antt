-- What some prims of a segment come to behind those before them.
use Rattle.std.specs.Prelude.{ℕ, List, Option, Some, None}
use Rattle.ps_io.specs.Counts.{Rose}
use Rattle.ps_prim.specs.declared.prims.Primitive.{Primitive as Prim}
use Rattle.ps_sum.specs.declared.sums.PathSum.{PathSum}
use Rattle.ps_rules.specs.declared.steps.Move.{Move}
use Rattle.ps_rules.specs.Rules.{IsIrreducible}
use Rattle.ps_reach.specs.Parts.{overrun_of}
use Rattle.ps_reach.specs.Fillings.{passed, Fills}
use Rattle.ps_normal.specs.declared.parts.Taken.{Taken}
use Rattle.ps_normal.specs.declared.parts.Taken.TheVariants.{Going, Over, Stopped}
use Rattle.ps_normal.specs.Pieces.{Usable, IsProgress}

-- what all of A come to follows, or is there
abbrev pub Takes : ℕ → List Prim → List Prim → ℕ → List Move → Taken → Type 0
Takes n A more i ms (Going held) = IsProgress n A more held i ms
Takes n A more i ms (Over e) = Fills n A (passed (overrun_of e) ms)
Takes n A more i ms Stopped = Unit {0}

abbrev pub UsableHeld : ℕ → ℕ → Option PathSum → Type 0
UsableHeld n count None = Unit {0}
UsableHeld n count (Some S) = Usable n count S × IsIrreducible S

abbrev pub UsableTaken : ℕ → ℕ → Taken → Type 0
UsableTaken n count (Going held) = UsableHeld n count held
UsableTaken n count (Over e) = Unit {0}
UsableTaken n count Stopped = Unit {0}

abbrev pub TakenRose : ℕ → ℕ → Taken → Type 0
TakenRose old new (Going held) = Unit {0}
TakenRose old new (Over e) = Unit {0}
TakenRose old new Stopped = Rose old new
