use Rattle.std.proofs.Common.{◌+◌, ◌∷◌, ◌∙◌, ap, sym, min, drop, arith, drop_of_length-le, List}
use Rattle.qasm_expand.specs.declared.defs.Inner.{Inner}
use Rattle.qasm_expand.specs.Tables.{body_size}
use Rattle.qasm_expand.proofs.Stepping.{dropped}
use Rattle.qasm_expand.proofs.Leading.{size_next, size_end}
use Rattle.qasm_expand.proofs.gates.body_size.Goals as goal

pub loop-inner-preserved : goal.loop-inner-preserved
loop-inner-preserved c =
    let is = c.as_slice-inner-items.result.now in let i = c.loop-inner.inner-index in let t = c.loop-inner.total in
    record {
      few = omega (arith, c.limited-total.ensures);
      counted = size_next c.args.defs.now (drop i is) (drop (i + 1) is) c.inner-item.result t c.limited-total.result (body_size c.args.defs.now is)
          (dropped is i c.inner-item.result c.loop-inner-test.true ∙ ap (λ x. x ∷ drop (i + 1) is) (sym c.inner-item.is))
          (c.limited-total.ensures ∙ ap (λ n. min (t + n) 4097) c.shape_of.ensures.size) c.loop-inner.invariant.counted;
    }

pub returns : goal.returns
returns c =
    let is = c.as_slice-inner-items.result.now in
    size_end c.args.defs.now (drop c.loop-inner.inner-index is) c.loop-inner.total (body_size c.args.defs.now is) (drop_of_length-le is c.loop-inner-test.false) c.loop-inner.invariant.few c.loop-inner.invariant.counted
    ∙ ap (λ (x : List Inner). body_size c.args.defs.now x) c.as_slice-inner-items.ensures
