use Rattle.std.proofs.Common.{◌≡◌, ◌-◌, arith, sym, ◌∙◌, ap}
use Rattle.qasm_parse.specs.Formulas.{id_count}
use Rattle.qasm_parse.proofs.Counting.{count_none, count_next}
use Rattle.qasm_parse.proofs.formulas.count_ids.Goals as goal

pub loop-at-init : goal.loop-at-init
loop-at-init c = record { counted = sym (count_none c.args.sorts.now c.args.from (c.args.from - c.args.from) (omega arith)); few = omega arith; bound = omega arith }

pub loop-at-preserved : goal.loop-at-preserved
loop-at-preserved c =
    let i = c.loop-at.invariant in let one = c.count_at-count.ensures.few in
    let e = count_next c.args.sorts.now c.args.from c.loop-at.at (omega arith) in
    record { counted = omega (arith, e, i.counted, c.count_at-count.ensures.value); few = omega arith; bound = omega arith }

pub returns-clause-value : goal.returns-clause-value
returns-clause-value c = let b = c.loop-at.invariant.bound in c.loop-at.invariant.counted ∙ ap (id_count c.args.sorts.now c.args.from) (let e : c.loop-at.at - c.args.from ≡ c.args.to - c.args.from = omega arith in e)

pub returns-clause-few : goal.returns-clause-few
returns-clause-few c = let i = c.loop-at.invariant in omega (arith, i.few, i.bound)
