use Rattle.ps_cliff.proofs.JoinLaws.{joins_stay}
use Rattle.ps_cliff.proofs.LeafLaws.{leaves_are, identities_are}
use Rattle.ps_cliff.proofs.OverlapLaws.{overlaps_stay}
use Rattle.ps_cliff.proofs.StepLaws.{steps_stay}
use Rattle.ps_cliff.proofs.laws.quadratic_law.Goals as goal

pub returns : goal.returns
returns c = record {
  leaves = leaves_are;
  identities = identities_are;
  joins = joins_stay;
  steps = steps_stay;
  overlaps = overlaps_stay;
}
