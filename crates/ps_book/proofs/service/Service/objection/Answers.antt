use Rattle.ps_book.specs.Services.{fields_of}
use Rattle.ps_book.proofs.PublishedRecords.{objects_ended, objects_filed, objects_nothing}
use Rattle.ps_book.proofs.service.Service.objection.Goals as goal

pub returns-in-Some-clause-objects : goal.returns-in-Some-clause-objects
returns-in-Some-clause-objects c = objects_ended (fields_of c.args.self.now) c.args.claim.now c.state.result c.state.ensures.told c.in-Some.entry c.in-Some.is

pub returns-in-Some-kept_at-clause-objects : goal.returns-in-Some-kept_at-clause-objects
returns-in-Some-kept_at-clause-objects c =
    objects_filed (fields_of c.args.self.now) c.args.claim.now c.state.result c.state.ensures.told (c.in-Some-kept_at.entry, c.in-Some-kept_at.field-0-1.now) c.in-None.is c.in-Some-kept_at.ensures.value

pub returns-in-None-kept_at-clause-objects : goal.returns-in-None-kept_at-clause-objects
returns-in-None-kept_at-clause-objects c = objects_nothing (fields_of c.args.self.now) c.args.claim.now c.state.result c.state.ensures.told c.in-None.is c.in-None-kept_at.ensures.value
