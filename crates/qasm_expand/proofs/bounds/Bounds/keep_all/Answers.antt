use Rattle.std.proofs.Common.{drop, arith, length, ◌<◌, ◌≤◌, drop_of_length-le}
use Rattle.qasm_expand.specs.Library.{with_all}
use Rattle.qasm_expand.proofs.Keeping.{all_next, all_end}
use Rattle.qasm_expand.proofs.bounds.Bounds.keep_all.Goals as goal

pub loop-at-preserved : goal.loop-at-preserved
loop-at-preserved c =
    let h : c.loop-at.at < length c.args.others.now = omega (arith, c.loop-at-test.true, c.len-at-end.ensures) in
    all_next c.loop-at.self c.keep_at.new.self c.args.others.now c.loop-at.at (with_all c.args.self.now c.args.others.now) h c.in_ok-keep_at.ensures.bound c.loop-at.invariant

pub returns : goal.returns
returns c =
    let h : length c.args.others.now ≤ c.loop-at.at = omega (arith, c.loop-at-test.false, c.len-at-end.ensures) in
    record { bound = all_end c.loop-at.self (drop c.loop-at.at c.args.others.now) (with_all c.args.self.now c.args.others.now) (drop_of_length-le c.args.others.now h) c.loop-at.invariant }
