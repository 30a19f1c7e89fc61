use Rattle.std.proofs.Common.{refl}
use Rattle.qasm_expand.proofs.Machine.{open_faulty, open_frame}
use Rattle.qasm_expand.proofs.Steps.{places_at}
use Rattle.qasm_expand.proofs.bodies.opened.Goals as goal

pub returns-in-Err : goal.returns-in-Err
returns-in-Err c = open_faulty c.args.defs.now c.args.frame.now c.args.inner.now c.args.def c.requires.gate c.requires.there c.requires.some c.in-Err.stop c.as_slice.result.now c.deref.result.now c.as_slice.ensures c.deref.ensures.value c.in-Err.ensures

pub returns : goal.returns
returns c = open_frame c.args.defs.now c.args.frame.now c.args.inner.now c.args.def c.requires.gate c.requires.there c.requires.some c.requires.earlier c.requires.inner.takes _ refl refl c.as_slice.result.now c.deref.result.now c.as_slice.ensures c.deref.ensures.value c.in-Ok.ensures
    (places_at _ c.args.frame.now.places.items _ c.args.inner.now.args c.in_ok-places.places.items c.in_ok-places.ensures c.deref-2.ensures.value c.as_slice-2.ensures)
