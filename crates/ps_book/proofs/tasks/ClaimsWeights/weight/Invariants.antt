use Rattle.std.proofs.Common.{◌≡◌, take}
use Rattle.std.specs.Prelude.{Some, count_by}
use Rattle.ps_journal.specs.Claiming.{claims_node}
use Rattle.ps_book.proofs.tasks.ClaimsWeights.weight.Given as goal

abbrev pub invariant-loop-claim : goal.invariant-loop-claim
invariant-loop-claim l = l.count ≡ count_by (claims_node (Some l.node)) (take l.claim-index l.self.seats)
