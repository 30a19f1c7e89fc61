use Rattle.std.proofs.Common.{◌≡◌, take, ap, ◌∙◌, arith}
use Rattle.std.specs.Prelude.{Some, count_by}
use Rattle.ps_journal.specs.Claiming.{claims_node}
use Rattle.ps_book.proofs.tasks.ClaimsWeights.weight.Goals as goal

pub returns : goal.returns
returns c =
    let all : c.loop-claim.claim-index ≡ 64 = omega (arith, c.loop-claim-test.false, c.loop-claim.auto.claim-index-end) in
    c.loop-claim.invariant ∙ ap (λ n. count_by (claims_node (Some c.args.node)) (take n c.args.self.now.seats)) all
