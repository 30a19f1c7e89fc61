-- The derivation of a comparison that found one linear map.
use Rattle.std.specs.Prelude.{Bool, true, false, List, [], ◌∷◌, ◌++◌, map}
use Rattle.ps_sum.specs.declared.sums.PathSum.{PathSum}
use Rattle.ps_rules.specs.declared.steps.Step.{Step}
use Rattle.ps_rules.specs.declared.steps.Move.{Move}
use Rattle.ps_rules.specs.declared.steps.Move.TheVariants as move
use Rattle.ps_steps.specs.declared.lines.Line.{Line}
use Rattle.ps_steps.specs.declared.lines.Line.TheVariants.{Head, Leaf, Id, Join, Rewrite, Overlap, End}
use Rattle.ps_steps.specs.Holding.{Holds}
use Rattle.ps_reach.specs.declared.judged.Judged.{Judged}
use Rattle.ps_reach.specs.Runs.{run_of}
use Rattle.ps_reach.specs.Findings.{IsUnit}

-- a move as the line of a side; side b is true
abbrev pub line_of : Bool → Move → Line
line_of b (move.Leaf i) = Leaf b i
line_of b move.Id = Id b
line_of b move.Join = Join
line_of b (move.Rewrite s) = Rewrite s

abbrev pub side_lines : Bool → List Move → List Line
side_lines b ms = map (line_of b) ms

abbrev pub step_lines : List Step → List Line
step_lines ss = map Rewrite ss

-- the head, the moves of side a and then of side b, the overlap and its steps, the end
abbrev pub lines_by : List Move → List Move → List Step → List Line
lines_by ms1 ms2 ss = Head 1 ∷ (side_lines false ms1 ++ (side_lines true ms2 ++ Overlap ∷ (step_lines ss ++ End ∷ [])))

-- each record's moves as they were made, the first as side a, and the steps of the comparison
abbrev pub derivation_of : Judged → List Line
derivation_of j = lines_by j.first.value.moves j.second.value.moves j.steps

-- all lines hold for the runs of the two records, and the last sum is the sum 1
pub record Derives (j : Judged) (ls : List Line) : Type 0 where
  pub last : PathSum
  pub holds : Holds j.first.value.n (run_of j.first.value.items.value) (run_of j.second.value.items.value) ls last
  pub unit : IsUnit last
