use Rattle.std.proofs.Common.{subst}
use Rattle.ps_probe.specs.Searching.{Searched}
use Rattle.ps_probe.proofs.Shown.{counted_left, counted_one, counted_other, few_counted}
use Rattle.ps_probe.proofs.Searches.{begun_start}
use Rattle.ps_probe.proofs.giving.counted.Goals as goal

pub overflow_add-free : goal.overflow_add-free
overflow_add-free c = few_counted c.free.result c.args.pattern.now.len c.args.sum c.requires.inputs c.free.ensures.few

pub returns-then-free-sum-gt-MOST : goal.returns-then-free-sum-gt-MOST
returns-then-free-sum-gt-MOST c = counted_left c.args.pattern.now c.args.sum c.free.result c.free.ensures.value c.requires.some c.requires.none c.if-free-sum-gt-MOST.true

pub returns-in-None : goal.returns-in-None
returns-in-None c = counted_one c.args.pattern.now c.args.sum c.free.result c.zero.result c.free.ensures.value c.requires.some c.requires.none c.if-free-sum-gt-MOST.false (subst (Searched c.args.pattern.now c.args.sum c.zero.result 0) c.in-None.is c.in_ok-first_other.ensures)

pub returns : goal.returns
returns c = counted_other c.args.pattern.now c.args.sum c.free.result c.zero.result c.in-Some.at c.free.ensures.value c.requires.some c.requires.none c.if-free-sum-gt-MOST.false (subst (Searched c.args.pattern.now c.args.sum c.zero.result 0) c.in-Some.is c.in_ok-first_other.ensures)

pub first_other-requires-clause-begun : goal.first_other-requires-clause-begun
first_other-requires-clause-begun c = begun_start c.args.pattern.now c.args.sum c.zero.result c.zero.ensures
