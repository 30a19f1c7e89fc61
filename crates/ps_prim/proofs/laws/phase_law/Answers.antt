use Rattle.ps_prim.proofs.Different.{phase_is_turn}
use Rattle.ps_prim.proofs.Phases.{overlap_turn, overlap_no_turn, zero_is_no_turn, plain_is_turn, turn_is_plain}
use Rattle.ps_prim.proofs.laws.phase_law.Goals as goal

pub returns : goal.returns
returns c = record {
  turn = overlap_turn;
  no_turn = overlap_no_turn;
  phase = phase_is_turn;
  plain = plain_is_turn;
  own = turn_is_plain;
  zero = zero_is_no_turn;
}
