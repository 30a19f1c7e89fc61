use Rattle.std.proofs.Common.{inl, inr}
use Rattle.ps_sum.proofs.TableWorths.{below_at, placing_start, placing_more, placing_end}
use Rattle.ps_probe.proofs.phases.place_in.Goals as goal
use Rattle.ps_probe.proofs.phases.place_in.Goals.{then-contains, else-contains}

pub contains-requires : goal.contains-requires
contains-requires c = below_at c.args.names.now c.loop-name.name-index c.requires.small c.loop-name-test.true

pub loop-name-init : goal.loop-name-init
loop-name-init c = placing_start c.args.names.now c.args.mono.now c.args.size c.requires.size

pub loop-name-preserved : goal.loop-name-preserved
loop-name-preserved c = placing_more c.args.names.now c.args.mono.now c.args.size c.loop-name.name-index c.loop-name.place c.if-contains.place c.loop-name.half c.contains.result c.loop-name-test.true c.contains.ensures
    (elim c.if-contains.branch [ then-contains w ↦ inl (w.if-contains.true, w.place-is) | else-contains w ↦ inr (w.if-contains.false, w.place-is) ]) c.loop-name.invariant

pub returns-clause-value : goal.returns-clause-value
returns-clause-value c = (placing_end c.args.names.now c.args.mono.now c.args.size c.loop-name.name-index c.loop-name.place c.loop-name.half c.loop-name-test.false c.loop-name.invariant).0

pub returns-clause-inside : goal.returns-clause-inside
returns-clause-inside c = (placing_end c.args.names.now c.args.mono.now c.args.size c.loop-name.name-index c.loop-name.place c.loop-name.half c.loop-name-test.false c.loop-name.invariant).1
