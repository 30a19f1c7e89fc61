use Rattle.std.proofs.Common.{◌≡◌, subst, IfSome}
use Rattle.ps_reach.specs.Parts.{overrun_of}
use Rattle.ps_reach.specs.Judging.{outcome_of}
use Rattle.ps_reach.specs.Fillings.{passed}
use Rattle.ps_normal.proofs.Finding.{first_passes}
use Rattle.ps_normal.proofs.comparing.decide.Goals as goal

pub returns-in-Some : goal.returns-in-Some
returns-in-Some c = first_passes c.args.n c.args.first.now.value c.in_ok-before.before c.in-Some.evidence c.in_ok-before.ensures.filled
    (subst (λ o. IfSome o (λ e. outcome_of c.in_ok-before.before ≡ passed (overrun_of e) c.in_ok-before.before.moves)) c.in-Some.is c.in_ok-evidence.ensures)
