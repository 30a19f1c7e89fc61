use Rattle.std.proofs.Common.{arith}
use Rattle.ps_overlap.proofs.Paired.{pairing_start, pairing_more, pairing_value, small_monos, output_at}
use Rattle.ps_overlap.proofs.pairing.push_pairings.Goals as goal

pub loop-i-init : goal.loop-i-init
loop-i-init c = pairing_start c.args.lo c.args.n c.args.by c.args.first.now c.args.second.now c.args.out.now.items

pub push_moved_halves-requires-clause-small : goal.push_moved_halves-requires-clause-small
push_moved_halves-requires-clause-small c = small_monos c.args.by c.args.second.now c.loop-i.i c.index-second-i.result c.monos-in-loop-i.result.now (omega arith) c.index-second-i.is c.monos-in-loop-i.ensures.items c.requires.small

pub loop-i-preserved : goal.loop-i-preserved
loop-i-preserved c = pairing_more c.args.lo c.args.n c.args.by c.args.first.now c.args.second.now c.args.out.now.items c.loop-i.out.items c.push_halves.new.out.items c.push_moved_halves.new.out.items c.loop-i.i c.monos.result.now c.monos-in-loop-i.result.now c.var-w.result c.requires.widths c.loop-i-test.true
    (output_at c.args.first.now c.loop-i.i c.index-first-i.result c.monos.result.now c.index-first-i.is c.monos.ensures.items) (output_at c.args.second.now c.loop-i.i c.index-second-i.result c.monos-in-loop-i.result.now c.index-second-i.is c.monos-in-loop-i.ensures.items) c.var-w.ensures
    c.in_ok-push_halves.ensures.value c.in_ok-push_moved_halves.ensures.value c.in_ok-push_halves.ensures.variables c.in_ok-push_moved_halves.ensures.variables c.loop-i.invariant

pub returns-clause-value : goal.returns-clause-value
returns-clause-value c = pairing_value c.args.lo c.args.n c.args.by c.args.first.now c.args.second.now c.args.out.now.items c.loop-i.out.items c.loop-i.i c.loop-i-test.false c.loop-i.invariant

pub returns-clause-variables : goal.returns-clause-variables
returns-clause-variables c = c.loop-i.invariant.free
