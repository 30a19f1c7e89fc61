use Rattle.std.proofs.Common.{arith, length-drop, length-take, ◌-◌, length, drop}
use Rattle.ps_io.proofs.Known.{wrote_more, wrote_front}
use Rattle.ps_io.proofs.writing.write_all.Goals as goal

pub loop-done-preserved : goal.loop-done-preserved
loop-done-preserved g c =
    let held = g.W.Sink.held in
    let bytes = c.args.bytes.now in
    let done = c.loop-done.done in
    record {
      within = omega (arith, c.in-Ok.ensures.count, length-take (length bytes - done) (drop done bytes), length-drop done bytes);
      front = wrote_more (held c.args.sink.now) (held c.loop-done.sink) (held c.write.new.self) bytes done c.in-Ok.n c.loop-done.invariant.front c.in-Ok.ensures.taken;
      never_falls = omega (arith, c.loop-done.invariant.never_falls, c.in-Ok.ensures.never_falls);
    }

pub returns-in-Err-clause-prefix : goal.returns-in-Err-clause-prefix
returns-in-Err-clause-prefix g c =
    let held = g.W.Sink.held in
    wrote_front (held c.args.sink.now) (held c.loop-done.sink) (held c.write.new.self) c.args.bytes.now c.loop-done.done c.loop-done.invariant.within c.loop-done.invariant.front c.in-Err.ensures.prefix
