use Rattle.std.proofs.Common.{refl}
use Rattle.ps_book.specs.Services.{fields_of}
use Rattle.ps_book.proofs.Releasing.{lives_live}
use Rattle.ps_book.proofs.Replying.{refused_first, refused_second, widths_differ, one_pinned, two_pinned}
use Rattle.ps_book.proofs.service.Service.pin.Goals as goal

pub returns-in-Err-clause-leaves : goal.returns-in-Err-clause-leaves
returns-in-Err-clause-leaves c =
    let s = c.args.self.now in
    λ t so. refused_first (fields_of s) s.sound.tabled c.args.number c.args.seat c.args.first c.args.second c.in-Err.reply t so c.in-Err.ensures.told

pub hold-requires-clause-live : goal.hold-requires-clause-live
hold-requires-clause-live c = lives_live (fields_of c.args.self.now) c.args.first c.in-Ok.qubits c.in-Ok.ensures.told

pub returns-in-None-clause-leaves : goal.returns-in-None-clause-leaves
returns-in-None-clause-leaves c =
    let s = c.args.self.now in
    λ t so. one_pinned (fields_of s) s.sound.tabled c.args.number c.args.seat c.args.first c.args.second c.hold.result t so
    (fields_of c.hold.new.self) c.hold.ensures.reply c.in-Ok.qubits c.in-None.is c.in-Ok.ensures.told (c.hold.ensures.stands t so)

pub returns-in-Err-live_at-clause-leaves : goal.returns-in-Err-live_at-clause-leaves
returns-in-Err-live_at-clause-leaves c =
    let s = c.args.self.now in
    λ t so. refused_second (fields_of s) s.sound.tabled c.args.number c.args.seat c.args.first c.args.second c.in-Err-live_at.reply t so
    c.in-Some.other c.in-Ok.qubits c.in-Some.is c.in-Ok.ensures.told c.in-Err-live_at.ensures.told

pub returns-then-qubits-others-clause-leaves : goal.returns-then-qubits-others-clause-leaves
returns-then-qubits-others-clause-leaves c =
    let s = c.args.self.now in
    λ t so. widths_differ (fields_of s) s.sound.tabled c.args.number c.args.seat c.args.first c.args.second _ t so c.in-Some.other c.in-Ok.qubits
    c.in-Ok-live_at.others c.in-Some.is c.in-Ok.ensures.told c.in-Ok-live_at.ensures.told c.if-qubits-others.true refl

pub returns-else-qubits-others-clause-leaves : goal.returns-else-qubits-others-clause-leaves
returns-else-qubits-others-clause-leaves c =
    let s = c.args.self.now in
    λ t so. two_pinned (fields_of s) s.sound.tabled c.args.number c.args.seat c.args.first c.args.second c.hold-in-Ok-live_at.result t so
    (fields_of c.hold-in-Ok-live_at.new.self) c.hold-in-Ok-live_at.ensures.reply
    c.in-Some.other c.in-Ok.qubits c.in-Ok-live_at.others c.in-Some.is c.in-Ok.ensures.told c.in-Ok-live_at.ensures.told c.if-qubits-others.false
    (c.hold-in-Ok-live_at.ensures.stands t so)
