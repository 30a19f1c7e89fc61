use Rattle.std.proofs.Common.{ap, ◌∙◌, ◌&&◌}
use Rattle.ps_versions.specs.Choices.{lightest, lighter_of, open_at}
use Rattle.ps_versions.specs.Questions.{is_settled}
use Rattle.ps_views.specs.Fields.{held_at, passed}
use Rattle.ps_book.specs.Counts.{claims_of}
use Rattle.ps_book.proofs.service.Service.lightest_of_two.Goals as goal

pub returns-clause-value : goal.returns-clause-value
returns-clause-value c =
    let s = c.args.self.now in
    c.lightest_at.ensures.value ∙ ap (λ o. lighter_of (claims_of s.claims) o
    (lightest (claims_of s.claims) (open_at passed s.versions c.args.second.now))) c.lightest_at-best.ensures.value

pub returns-clause-none : goal.returns-clause-none
returns-clause-none c =
    let s = c.args.self.now in
    c.lightest_at.ensures.none ∙ ap (λ b. b && is_settled passed s.versions (held_at s.versions c.args.second.now)) c.lightest_at-best.ensures.none
