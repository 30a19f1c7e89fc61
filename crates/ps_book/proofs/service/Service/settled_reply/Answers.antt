use Rattle.std.proofs.Common.{inl, inr}
use Rattle.ps_book.proofs.service.Service.settled_reply.Goals as goal

pub returns-in-Ok : goal.returns-in-Ok
returns-in-Ok c = inl c.in-Ok.ensures

pub returns-in-Err : goal.returns-in-Err
returns-in-Err c = inr c.plain.ensures
