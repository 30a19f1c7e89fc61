use Rattle.std.proofs.Common.{◌≡◌, take, ◌&&◌}
use Rattle.std.specs.Prelude.{Some, slice_get, is_none}
use Rattle.std.specs.List.{list_all}
use Rattle.ps_versions.specs.Held.{Circuit}
use Rattle.ps_versions.specs.Choices.{lightest, lighter_of, open_from, is_done}
use Rattle.ps_versions.proofs.versions.Versions.lighten_circuit.Given as goal

abbrev pub invariant-loop-number : goal.invariant-loop-number
invariant-loop-number g l =
    (c : Circuit) → slice_get l.self.circuits l.index ≡ Some c → record {
      value : l.best ≡ lighter_of (g.W.Weights.weight l.weights) l.fn.best (lightest (g.W.Weights.weight l.weights) (open_from g.R.Kept.passed l.self c.name 1 (take l.number c.versions)));
      none : is_none l.best ≡ (is_none l.fn.best && list_all (is_done g.R.Kept.passed l.self) (take l.number c.versions));
    }
