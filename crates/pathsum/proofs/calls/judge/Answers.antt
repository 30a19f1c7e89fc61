use Rattle.std.proofs.Common.{refl}
use Rattle.pathsum.proofs.Judging.{lacks_judged, refused_judged, work_judged, refuses_read, both_read}
use Rattle.pathsum.proofs.calls.judge.Goals as goal

pub returns-in_default : goal.returns-in_default
returns-in_default c = lacks_judged c.args.command c.args.bytes.now _ c.refused.result refl c.in_default.ensures c.refused.ensures

pub returns-in-Ok-Refuses : goal.returns-in-Ok-Refuses
returns-in-Ok-Refuses c = refused_judged c.args.command c.args.bytes.now _ _ _ _ c.in-Ok-Refuses.at c.in-Ok-Refuses.why _ c.in-Some.ensures (refuses_read _ _ _ _ c.in-Ok-Refuses.why c.in-Ok-Refuses.at c.in-Ok-Refuses.field-0-is c.in-Ok-Refuses.ensures.read) c.refused-in-Ok-Refuses.ensures

pub returns-in-Ok : goal.returns-in-Ok
returns-in-Ok c = work_judged c.args.command c.args.bytes.now _ _ _ _ c.in-Ok-Both.pair.qubits c.in-Ok-Both.pair.first c.in-Ok-Both.pair.second c.in-Ok.answer c.in-Some.ensures (both_read _ _ _ _ c.in-Ok-Both.pair c.in-Ok-Both.field-0-is c.in-Ok-Both.ensures.read) c.in-Ok.ensures
