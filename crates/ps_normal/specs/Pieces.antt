-- What the private parts of a filling come to.
use Rattle.std.specs.Prelude.{ℕ, ◌≡◌, ◌+◌, ◌≤◌, List, [], Option, Some, None, length}
use Rattle.ps_io.specs.Counts.{Rose}
use Rattle.ps_prim.specs.declared.prims.Primitive.{Primitive as Prim}
use Rattle.ps_sum.specs.declared.sums.PathSum.{PathSum}
use Rattle.ps_rules.specs.declared.steps.Move.{Move}
use Rattle.ps_rules.specs.Rules.{IsIrreducible}
use Rattle.ps_reach.specs.Parts.{Scaled, overrun_of}
use Rattle.ps_reach.specs.Fillings.{Outcome, kept, passed, FillsFrom, Fills}
use Rattle.ps_normal.specs.declared.parts.Part.{Part}
use Rattle.ps_normal.specs.declared.parts.Part.TheVariants.{Sum, Over, Stopped}

-- with these moves, R holds of what the part comes to
abbrev pub PartIs : (Outcome → Type 0) → List Move → Part → Type 0
PartIs R ms (Sum T) = R (kept T ms)
PartIs R ms (Over e) = R (passed (overrun_of e) ms)
PartIs R ms Stopped = Unit {0}

-- it was stopped only where the count of yeses rose
abbrev pub PartRose : ℕ → ℕ → Part → Type 0
PartRose old new (Sum T) = Unit {0}
PartRose old new (Over e) = Unit {0}
PartRose old new Stopped = Rose old new

-- a sum of so many prims on n qubits, with an output for each
pub record Usable (n count : ℕ) (S : PathSum) : Type 0 where
  pub n_is : S.n ≡ n
  pub wide : length S.outs ≡ n
  pub scale : Scaled count S

-- two sums that can be put together: they have the same qubits, and stand for few prims
pub record Joinable (S1 S2 : PathSum) : Type 0 where
  pub n : ℕ
  pub before : ℕ
  pub behind : ℕ
  pub some : 1 ≤ n
  pub few : before + behind ≤ 536870912
  pub first : Usable n before S1
  pub second : Usable n behind S2

-- a sum that came of it is such a sum, and no step reduces it
abbrev pub UsablePart : ℕ → ℕ → Part → Type 0
UsablePart n count (Sum T) = Usable n count T × IsIrreducible T
UsablePart n count (Over e) = Unit {0}
UsablePart n count Stopped = Unit {0}

-- the sum of the first i prims after these moves, or none before the first: what the others come to with it, all of A come to
abbrev pub IsProgress : ℕ → List Prim → List Prim → Option PathSum → ℕ → List Move → Type 0
IsProgress n A more None i ms = (A ≡ more) × ((i ≡ 0) × (ms ≡ []))
IsProgress n A more (Some S) i ms = (o : Outcome) → FillsFrom n i S ms more o → Fills n A o

abbrev pub IsTaken : ℕ → List Prim → List Prim → ℕ → List Move → Part → Type 0
IsTaken n A more i ms (Sum T) = IsProgress n A more (Some T) i ms
IsTaken n A more i ms (Over e) = Fills n A (passed (overrun_of e) ms)
IsTaken n A more i ms Stopped = Unit {0}
