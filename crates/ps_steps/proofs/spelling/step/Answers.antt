use Rattle.ps_steps.proofs.Forms.{step_elim, step_omega, step_hh, elim_none, omega_none, hh_none, step_other}
use Rattle.ps_steps.proofs.spelling.step.Goals as goal

pub returns-in_err-y0-in-Some : goal.returns-in_err-y0-in-Some
returns-in_err-y0-in-Some c = rw c.from_residual.ensures (elim_none c.args.piece.now c.in-Some.digits.now c.in-Some.ensures c.in_err-y0-in-Some.ensures)

pub returns-in_err-y0-in-Some-after : goal.returns-in_err-y0-in-Some-after
returns-in_err-y0-in-Some-after c = rw c.from_residual-in_err-y0-in-Some-after.ensures (omega_none c.args.piece.now c.in-Some-after.digits.now c.in-Some-after.ensures c.in_err-y0-in-Some-after.ensures)

pub returns-in_err-digits-in-None-after : goal.returns-in_err-digits-in-None-after
returns-in_err-digits-in-None-after c = rw c.from_residual-in_err-digits-in-None-after.ensures (step_other c.args.piece.now c.in-None.ensures c.in-None-after.ensures c.in_err-digits-in-None-after.ensures)

pub returns-in_err-y0-in-None-after : goal.returns-in_err-y0-in-None-after
returns-in_err-y0-in-None-after c = rw c.from_residual-in_err-y0-in-None-after.ensures (hh_none c.args.piece.now c.in_ok-digits-in-None-after.digits.now c.in_ok-digits-in-None-after.ensures c.in_err-y0-in-None-after.ensures)

pub returns-in_ok-y0-in-Some : goal.returns-in_ok-y0-in-Some
returns-in_ok-y0-in-Some c = step_elim c.args.piece.now c.in-Some.digits.now c.in_ok-y0-in-Some.y0 c.in-Some.ensures c.in_ok-y0-in-Some.ensures

pub returns-in_ok-y0-in-Some-after : goal.returns-in_ok-y0-in-Some-after
returns-in_ok-y0-in-Some-after c = step_omega c.args.piece.now c.in-Some-after.digits.now c.in_ok-y0-in-Some-after.y0 c.in-Some-after.ensures c.in_ok-y0-in-Some-after.ensures

pub returns-in_ok-y0-in-None-after : goal.returns-in_ok-y0-in-None-after
returns-in_ok-y0-in-None-after c = step_hh c.args.piece.now c.in_ok-digits-in-None-after.digits.now c.in_ok-y0-in-None-after.y0 c.in_ok-y0-in-None-after.y1 c.in_ok-digits-in-None-after.ensures c.in_ok-y0-in-None-after.ensures
