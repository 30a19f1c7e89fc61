use Rattle.ps_cut.proofs.Exchanging.{apart_swap, swap_moves, beside_swaps, disjoint_swap, pulls_front, pulls_back}
use Rattle.ps_cut.proofs.laws.order_law.Goals as goal

pub returns : goal.returns
returns c = record {
  swap = apart_swap;
  moves = swap_moves;
  beside = beside_swaps;
  disjoint = disjoint_swap;
  front = pulls_front;
  back = pulls_back;
}
