use Rattle.std.proofs.Common.{sym, subst}
use Rattle.ps_views.specs.Stands.{Stands}
use Rattle.ps_book.specs.Services.{fields_of}
use Rattle.ps_book.proofs.Concluding.{counted_other}
use Rattle.ps_book.proofs.service.Service.count_answered.Goals as goal

pub returns-in_default : goal.returns-in_default
returns-in_default c = λ t so. subst (Stands (fields_of c.args.self.now)) (sym (counted_other c.args.reply.now c.in_default.not-Answered t)) so
