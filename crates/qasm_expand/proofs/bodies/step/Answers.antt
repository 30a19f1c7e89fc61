use Rattle.std.proofs.Common.{◌≤◌, ◌+◌, ap, arith, length, subst, refl, Ok, get_or}
use Rattle.qasm_expand.specs.declared.frame.Frame.{Frame}
use Rattle.qasm_expand.specs.Frames.{Does}
use Rattle.qasm_expand.proofs.Steps.{body_done, step_fits, step_end, step_none, step_prim, step_body, step_off, less_one, less_body}
use Rattle.qasm_expand.proofs.bodies.step.Goals as goal

pub returns-then-body-frame-clause-steps : goal.returns-then-body-frame-clause-steps
returns-then-body-frame-clause-steps c =
    let le : length (get_or c.args.defs.now c.args.frame.def c.index-defs-frame.result).body ≤ c.args.frame.next = omega (arith, ap length c.as_slice-body.ensures) in
    step_end c.args.defs.now c.args.frame c.args.stack.now.items c.args.out.now.items (body_done c.args.defs.now c.args.frame (get_or c.args.defs.now c.args.frame.def c.index-defs-frame.result) c.requires.frame.there (ap (get_or c.args.defs.now c.args.frame.def) c.index-defs-frame.is) le)

pub outcome-requires-clause-inner : goal.outcome-requires-clause-inner
outcome-requires-clause-inner c = step_fits c.args.defs.now c.args.frame (get_or c.args.defs.now c.args.frame.def c.index-defs-frame.result) c.index-body-frame.result c.as_slice-body.result.now c.requires.sound c.requires.frame.there (ap (get_or c.args.defs.now c.args.frame.def) c.index-defs-frame.is) c.as_slice-body.ensures (omega arith) c.index-body-frame.is

pub returns-in-Err-clause-steps : goal.returns-in-Err-clause-steps
returns-in-Err-clause-steps c =
    let f' : Frame = record c.args.frame { next = c.args.frame.next + 1 } in
    step_off c.args.defs.now c.args.frame f' c.args.stack.now.items c.args.out.now.items (get_or c.args.defs.now c.args.frame.def c.index-defs-frame.result) c.index-body-frame.result c.as_slice-body.result.now c.requires.sound c.requires.frame.there (ap (get_or c.args.defs.now c.args.frame.def) c.index-defs-frame.is) c.as_slice-body.ensures (omega arith) c.index-body-frame.is refl c.args.stack.now.items c.args.out.now.items c.in-Err.fault c.in-Err.ensures

pub returns-in-Nothing-clause-less : goal.returns-in-Nothing-clause-less
returns-in-Nothing-clause-less c =
    let f' : Frame = record c.args.frame { next = c.args.frame.next + 1 } in
    less_one c.args.defs.now c.args.frame f' c.args.stack.now.items c.args.out.now.items (get_or c.args.defs.now c.args.frame.def c.index-defs-frame.result) c.index-body-frame.result c.as_slice-body.result.now c.requires.sound c.requires.frame.there (ap (get_or c.args.defs.now c.args.frame.def) c.index-defs-frame.is) c.as_slice-body.ensures (omega arith) c.index-body-frame.is refl c.push.new.self.items c.in_ok-push.ensures.items

pub returns-in-Nothing-clause-steps : goal.returns-in-Nothing-clause-steps
returns-in-Nothing-clause-steps c =
    let f' : Frame = record c.args.frame { next = c.args.frame.next + 1 } in
    step_none c.args.defs.now c.args.frame f' c.args.stack.now.items c.args.out.now.items (get_or c.args.defs.now c.args.frame.def c.index-defs-frame.result) c.index-body-frame.result c.as_slice-body.result.now c.requires.sound c.requires.frame.there (ap (get_or c.args.defs.now c.args.frame.def) c.index-defs-frame.is) c.as_slice-body.ensures (omega arith) c.index-body-frame.is refl c.push.new.self.items c.in_ok-push.ensures.items
    (subst (λ o. Does c.args.defs.now c.args.frame c.index-body-frame.result (Ok o)) c.in-Nothing.is c.in-Ok.ensures)

pub returns-in_ok-push-in-Prim-clause-less : goal.returns-in_ok-push-in-Prim-clause-less
returns-in_ok-push-in-Prim-clause-less c =
    let f' : Frame = record c.args.frame { next = c.args.frame.next + 1 } in
    less_one c.args.defs.now c.args.frame f' c.args.stack.now.items c.args.out.now.items (get_or c.args.defs.now c.args.frame.def c.index-defs-frame.result) c.index-body-frame.result c.as_slice-body.result.now c.requires.sound c.requires.frame.there (ap (get_or c.args.defs.now c.args.frame.def) c.index-defs-frame.is) c.as_slice-body.ensures (omega arith) c.index-body-frame.is refl c.push.new.self.items c.in_ok-push.ensures.items

pub returns-in_ok-push-in-Prim-clause-steps : goal.returns-in_ok-push-in-Prim-clause-steps
returns-in_ok-push-in-Prim-clause-steps c =
    let f' : Frame = record c.args.frame { next = c.args.frame.next + 1 } in
    step_prim c.args.defs.now c.args.frame f' c.args.stack.now.items c.args.out.now.items (get_or c.args.defs.now c.args.frame.def c.index-defs-frame.result) c.index-body-frame.result c.as_slice-body.result.now c.requires.sound c.requires.frame.there (ap (get_or c.args.defs.now c.args.frame.def) c.index-defs-frame.is) c.as_slice-body.ensures (omega arith) c.index-body-frame.is refl c.push.new.self.items c.push-in-Prim.new.self.items c.in-Prim.prim c.in_ok-push.ensures.items c.in_ok-push-in-Prim.ensures.items
    (subst (λ o. Does c.args.defs.now c.args.frame c.index-body-frame.result (Ok o)) c.in-Prim.is c.in-Ok.ensures)

pub returns-in_ok-push-in-Body-clause-less : goal.returns-in_ok-push-in-Body-clause-less
returns-in_ok-push-in-Body-clause-less c =
    let f' : Frame = record c.args.frame { next = c.args.frame.next + 1 } in
    less_body c.args.defs.now c.args.frame f' c.args.stack.now.items c.args.out.now.items (get_or c.args.defs.now c.args.frame.def c.index-defs-frame.result) c.index-body-frame.result c.as_slice-body.result.now c.requires.sound c.requires.frame.there (ap (get_or c.args.defs.now c.args.frame.def) c.index-defs-frame.is) c.as_slice-body.ensures (omega arith) c.index-body-frame.is refl c.push.new.self.items c.push-in-Body.new.self.items c.in-Body.inner c.in_ok-push.ensures.items c.in_ok-push-in-Body.ensures.items
    (subst (λ o. Does c.args.defs.now c.args.frame c.index-body-frame.result (Ok o)) c.in-Body.is c.in-Ok.ensures)

pub returns-in_ok-push-in-Body-clause-steps : goal.returns-in_ok-push-in-Body-clause-steps
returns-in_ok-push-in-Body-clause-steps c =
    let f' : Frame = record c.args.frame { next = c.args.frame.next + 1 } in
    step_body c.args.defs.now c.args.frame f' c.args.stack.now.items c.args.out.now.items (get_or c.args.defs.now c.args.frame.def c.index-defs-frame.result) c.index-body-frame.result c.as_slice-body.result.now c.requires.sound c.requires.frame.there (ap (get_or c.args.defs.now c.args.frame.def) c.index-defs-frame.is) c.as_slice-body.ensures (omega arith) c.index-body-frame.is refl c.push.new.self.items c.push-in-Body.new.self.items c.in-Body.inner c.in_ok-push.ensures.items c.in_ok-push-in-Body.ensures.items
    (subst (λ o. Does c.args.defs.now c.args.frame c.index-body-frame.result (Ok o)) c.in-Body.is c.in-Ok.ensures)
