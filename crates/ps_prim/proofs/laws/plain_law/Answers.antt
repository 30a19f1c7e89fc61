use Rattle.ps_prim.proofs.Plains.{plain_empty, plain_cx, plain_turn, plain_same, plain_output_differs, plain_phase_differs}
use Rattle.ps_prim.proofs.laws.plain_law.Goals as goal

pub returns : goal.returns
returns c = record {
  empty = plain_empty;
  cx = plain_cx;
  turn = plain_turn;
  same = plain_same;
  output_differs = plain_output_differs;
  phase_differs = plain_phase_differs;
}
