use Rattle.std.proofs.Common.{arith, refl}
use Rattle.ps_steps.proofs.Numbers.{read_start, read_next, read_none, read_empty, read_all}
use Rattle.ps_steps.proofs.Following.{empty, not_empty}
use Rattle.ps_steps.proofs.pieces.number.Goals as goal

pub loop-i-init : goal.loop-i-init
loop-i-init c = read_start c.args.bound c.args.text.now

pub appended-requires-clause-small : goal.appended-requires-clause-small
appended-requires-clause-small c = let b = c.loop-i.invariant.below in omega (arith, b, c.requires)

pub returns-in_err-value : goal.returns-in_err-value
returns-in_err-value c = rw c.from_residual.ensures (read_none c.args.bound c.args.text.now c.loop-i.i c.loop-i.value _ c.requires c.loop-i-test.true refl c.loop-i.invariant c.in_err-value.ensures)

pub loop-i-preserved : goal.loop-i-preserved
loop-i-preserved c = read_next c.args.bound c.args.text.now c.loop-i.i c.loop-i.value _ _ c.requires c.loop-i-test.true refl c.loop-i.invariant c.in_ok-value.ensures

pub returns-then-is_empty : goal.returns-then-is_empty
returns-then-is_empty c = read_empty c.args.bound c.args.text.now c.requires (empty _ c.is_empty.ensures c.if-is_empty.true)

pub returns-else-is_empty : goal.returns-else-is_empty
returns-else-is_empty c = read_all c.args.bound c.args.text.now c.loop-i.i c.loop-i.value (omega arith) (not_empty _ c.is_empty.ensures c.if-is_empty.false) c.loop-i.invariant
