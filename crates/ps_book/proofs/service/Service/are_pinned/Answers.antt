use Rattle.std.proofs.Common.{◌&&◌, subst, ap}
use Rattle.ps_book.specs.Conclusions.{TellsOne, TellsPair}
use Rattle.ps_book.specs.Services.{fields_of}
use Rattle.ps_book.proofs.Belonging.{both_belong}
use Rattle.ps_book.proofs.service.Service.are_pinned.Goals as goal

pub returns-then-belongs-clause-both : goal.returns-then-belongs-clause-both
returns-then-belongs-clause-both c =
    let f = fields_of c.args.self.now in
    let pin = c.args.pin.now in
    subst (TellsPair f pin c.args.judged.now) (ap (λ b. b && c.belongs-then-belongs.result) c.if-belongs.true)
    (both_belong f pin c.in-Some.second c.args.judged.now c.belongs.result c.belongs-then-belongs.result c.in-Some.is
    (subst (λ r. TellsOne f pin.first r c.belongs.result) c.deref.ensures c.belongs.ensures)
    (subst (λ r. TellsOne f c.in-Some.second r c.belongs-then-belongs.result) c.deref-then-belongs.ensures c.belongs-then-belongs.ensures))
