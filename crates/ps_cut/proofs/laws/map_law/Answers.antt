use Rattle.ps_cut.proofs.Congruence.{map_reflexive, map_symmetric, map_transitive, map_append, map_between, windows_same}
use Rattle.ps_cut.proofs.Ends.{moves_difference}
use Rattle.ps_cut.proofs.laws.map_law.Goals as goal

pub returns : goal.returns
returns c = record {
  reflexive = map_reflexive;
  symmetric = map_symmetric;
  transitive = map_transitive;
  append = map_append;
  between = map_between;
  windows = windows_same;
  difference = moves_difference;
}
