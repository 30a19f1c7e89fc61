use Rattle.std.proofs.Common.{ℕ, ◌<◌, ◌≤◌, ◌-◌, subst, refl, inl, inr}
use Rattle.ps_rules.proofs.Windows.{looked_start, looked_set, looked_keep, looked_end}
use Rattle.ps_rules.proofs.looking.look_at.Goals as goal
use Rattle.ps_rules.proofs.looking.look_at.Goals.{then-base-u+then-u-base, else-base-u, else-base-u-via-then-base-u+else-u-base, else-base-u-via-else-base-u}

pub loop-place-init : goal.loop-place-init
loop-place-init c = λ outs ts p h. looked_start outs ts c.args.term.now c.args.base c.args.sights.now h

pub loop-place-preserved : goal.loop-place-preserved
loop-place-preserved c = λ outs ts p h. elim c.if-base-u.branch [
  | then-base-u+then-u-base w ↦ looked_set outs ts c.args.term.now c.args.base c.loop-place.place c.var_at-u.result (c.var_at-u.result - c.args.base) c.loop-place.sights c.if-base-u.sights w.index-sights-at.result _ w.seen-next.result p
      (subst (λ (n : ℕ). c.loop-place.place < n) c.degree-place-end.ensures c.loop-place-test.true) c.var_at-u.ensures.value w.if-base-u.true refl w.if-u-base.true refl w.sights-is
      (λ s k. w.seen-next.ensures c.var_at-u.result outs ts p s k) (c.loop-place.invariant outs ts p h)
  | else-base-u w ↦ looked_keep outs ts c.args.term.now c.args.base c.loop-place.place c.var_at-u.result c.loop-place.sights c.if-base-u.sights (subst (λ (n : ℕ). c.loop-place.place < n) c.degree-place-end.ensures c.loop-place-test.true) c.var_at-u.ensures.value
      (elim w.else-base-u.branch [ else-base-u-via-then-base-u+else-u-base w' ↦ inr w'.if-u-base.false | else-base-u-via-else-base-u w' ↦ inl w'.if-base-u.false ]) w.sights-is (c.loop-place.invariant outs ts p h)
]

pub returns : goal.returns
returns c = λ outs ts p h. looked_end outs ts c.args.term.now c.args.base c.loop-place.place c.loop-place.sights (subst (λ (n : ℕ). n ≤ c.loop-place.place) c.degree-place-end.ensures c.loop-place-test.false) (c.loop-place.invariant outs ts p h)
