use Rattle.std.proofs.Common.{rules, ◌≡◌, refl, sym, subst}
use Rattle.ps_journal.specs.History.{IsLegal}
use Rattle.ps_book.specs.Books.{entries}
use Rattle.ps_sessions.specs.Lines.{AnswersLine, BreaksOff}
use Rattle.ps_sessions.proofs.TurnLemmas.{line_answered, line_broken}
use Rattle.ps_sessions.proofs.sessions.answer.Goals as goal

pub returns : goal.returns
returns g c =
    let l = c.args.line in
    let same : c.book-1.given.0 ≡ c.command.new.turns.book.now = search rules in
    record {
      lawful = subst (λ b. IsLegal (entries b)) (sym same) c.in-Ok.ensures.done.lawful;
      done =
          subst (λ b. AnswersLine l c.in-Ok.reply (entries c.args.book.now) (entries b)) (sym same)
          (line_answered l refl refl c.command.ensures.grows c.in-Ok.reply c.in-Ok.ensures.done);
      cut = tt;
    }

pub returns-in-Err : goal.returns-in-Err
returns-in-Err g c =
    let l = c.args.line in
    let same : c.book-1.given.0 ≡ c.command.new.turns.book.now = search rules in
    let cut = c.in-Err.ensures.cut in
    record {
      lawful = subst (λ b. IsLegal (entries b)) (sym same) (c.command.ensures.grows.lawful c.requires);
      done = tt;
      cut =
          subst (λ b. BreaksOff l c.in-Err.full.ticket (entries c.args.book.now) (entries b)) (sym same)
          (line_broken l refl refl c.command.ensures.grows c.in-Err.full.ticket cut (c.command.new.turns.late c.in-Err.full.ticket cut.refused));
    }
