use Rattle.ps_cut.proofs.Undoing.{inverse_within, inverse_behind, inverse_before, undo_within, undo_behind, undo_before}
use Rattle.ps_cut.proofs.laws.inverse_law.Goals as goal

pub returns : goal.returns
returns c = record {
  within = inverse_within;
  behind = inverse_behind;
  before = inverse_before;
  undo_within = undo_within;
  undo_behind = undo_behind;
  undo_before = undo_before;
}
