use Rattle.ps_book.specs.Services.{fields_of}
use Rattle.ps_book.proofs.Journals.{opened_step, spliced_step, retired_step, pinned_step, published_step, next_step, answered_step, read_step, summed_step}
use Rattle.ps_book.proofs.service.Service.serve.Goals as goal

pub returns-in-Open : goal.returns-in-Open
returns-in-Open c t s =
    opened_step t c.args.number c.args.seat c.args.cmd.now c.open.result c.plain.result.reply (fields_of c.open.new.self) c.plain.ensures
    c.in-Open.name c.in-Open.text c.deref.result.now c.in-Open.is c.deref.ensures (c.open.ensures.leaves t s)

pub returns-in-Splice : goal.returns-in-Splice
returns-in-Splice c t s =
    let x = c.in-Splice in
    spliced_step t c.args.number c.args.seat c.args.cmd.now c.splice.result c.plain-in-Splice.result.reply
    (fields_of c.splice.new.self) c.plain-in-Splice.ensures
    x.name x.base x.from x.to x.block c.deref-in-Splice.result.now x.is c.deref-in-Splice.ensures (c.splice.ensures.leaves t s)

pub returns-in-Retire : goal.returns-in-Retire
returns-in-Retire c t s =
    retired_step t c.args.number c.args.seat c.args.cmd.now c.retire.result c.plain-in-Retire.result.reply
    (fields_of c.retire.new.self) c.plain-in-Retire.ensures
    c.in-Retire.name c.in-Retire.version c.in-Retire.is (c.retire.ensures.leaves t s)

pub returns-in-Pin : goal.returns-in-Pin
returns-in-Pin c t s =
    pinned_step t c.args.number c.args.seat c.args.cmd.now c.pin.result c.plain-in-Pin.result.reply (fields_of c.pin.new.self) c.plain-in-Pin.ensures
    c.in-Pin.first c.in-Pin.second c.in-Pin.is (c.pin.ensures.leaves t s)

pub returns-in-Next : goal.returns-in-Next
returns-in-Next c t s =
    next_step t c.args.number c.args.seat c.args.cmd.now c.next.result.reply (fields_of c.next.new.self) c.in-Next.pinned c.in-Next.is (c.next.ensures t s)

pub returns-in-Publish : goal.returns-in-Publish
returns-in-Publish c t s =
    published_step t c.args.number c.args.seat c.args.cmd.now c.publish.result c.plain-in-Publish.result.reply
    (fields_of c.publish.new.self) c.plain-in-Publish.ensures
    c.in-Publish.kept c.in-Publish.is (c.publish.ensures.leaves t s)

pub returns-in-Answer : goal.returns-in-Answer
returns-in-Answer c t s =
    answered_step t c.args.number c.args.seat c.args.cmd.now c.answer.result.reply (fields_of c.answer.new.self) c.in-Answer.outcome c.in-Answer.is
    (c.answer.ensures t s)

pub returns-in-Read : goal.returns-in-Read
returns-in-Read c t s =
    read_step t c.args.number c.args.seat c.args.cmd.now c.read.result.reply (fields_of c.read.new.self) c.in-Read.place c.in-Read.is (c.read.ensures t s)

pub returns-in-Sum : goal.returns-in-Sum
returns-in-Sum c t s =
    summed_step t c.args.number c.args.seat c.args.cmd.now c.sum.result.reply (fields_of c.sum.new.self) c.in-Sum.outcome c.in-Sum.is (c.sum.ensures t s)
