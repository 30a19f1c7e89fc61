use Rattle.std.proofs.Common.{◌≡◌, take}
use Rattle.std.specs.Prelude.{is_none}
use Rattle.std.specs.List.{list_all}
use Rattle.ps_versions.specs.Held.{Circuit}
use Rattle.ps_versions.specs.Choices.{lightest, open_of, is_done}
use Rattle.ps_versions.proofs.versions.Versions.lightest.Given as goal

abbrev pub invariant-loop-index : goal.invariant-loop-index
invariant-loop-index g l = record {
  value : l.best ≡ lightest (g.W.Weights.weight l.weights) (open_of g.R.Kept.passed l.self (take l.index l.self.circuits));
  none : is_none l.best ≡ list_all (λ (c : Circuit). list_all (is_done g.R.Kept.passed l.self) c.versions) (take l.index l.self.circuits);
}
