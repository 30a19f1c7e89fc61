use Rattle.ps_ring.proofs.Inners.{inner_number, inner_add_left, inner_add_right, inner_turned_both, inner_right, inner_sqrt2_left, inner_sqrt2_right, inner_one}
use Rattle.ps_ring.proofs.Squares.{inner_self, inner_none}
use Rattle.ps_ring.proofs.laws.inner_law.Goals as goal

pub returns : goal.returns
returns c = record {
  number = inner_number;
  left = inner_add_left;
  right = inner_add_right;
  turned_both = inner_turned_both;
  turned_right = inner_right;
  root_left = inner_sqrt2_left;
  root_right = inner_sqrt2_right;
  of_one = inner_one;
  own = inner_self;
  none = inner_none;
}
