-- What reducing an overlap finds.
use Rattle.std.specs.Prelude.{◌≡◌, None}
use Rattle.ps_sum.specs.declared.sums.PathSum.{PathSum}
use Rattle.ps_sum.specs.declared.faults.Passed.{Passed}
use Rattle.ps_reach.specs.declared.mode.Mode.{Mode}
use Rattle.ps_reach.specs.Reductions.{normal, over, ReducesTo}
use Rattle.ps_reach.specs.Fillings.{overrun}
use Rattle.ps_reach.specs.Findings.{limit, Shows}
use Rattle.ps_reach.specs.Judging.{finding_of}
use Rattle.ps_normal.specs.declared.comparing.Found.{Found}

-- reducing S takes these steps and ends at a sum that shows the finding, or at one whose first step passes a limit
pub data Finds (mode : Mode) (S : PathSum) (f : Found) : Type 0 where
  shows : (T : PathSum) → ReducesTo S f.steps.items (normal T) → Shows mode T (finding_of f.verdict) → Finds mode S f
  passes : (T : PathSum) (p : Passed) → ReducesTo S f.steps.items (over T p) → finding_of f.verdict ≡ limit (overrun p 0 0 0 T None) → Finds mode S f

abbrev pub IsFound : Mode → PathSum → Found → Type 0
IsFound mode S f = Finds mode S f
