use Rattle.ps_join.proofs.Only.{leaf_only, identity_only, join_only, passed_only, fits_or_passes}
use Rattle.ps_join.proofs.laws.join_law.Goals as goal

pub returns : goal.returns
returns c = record {
  leaf = leaf_only;
  identity = identity_only;
  join = join_only;
  passed = passed_only;
  fits = fits_or_passes;
}
