use Rattle.std.proofs.Common.{subst, ℕ, ◌<◌}
use Rattle.ps_join.proofs.NamedParts.{as_start, as_more, as_end, var_below}
use Rattle.ps_join.proofs.naming.named_mono.Goals as goal

pub loop-place-init : goal.loop-place-init
loop-place-init c = as_start c.args.names.now.n c.args.names.now.m1 c.args.names.now.m2 c.args.mono.now _ c.one-out.ensures

pub of-name-requires : goal.of-name-requires
of-name-requires c = var_below c.args.mono.now c.loop-place.place c.var_at.result _ (subst (λ (n : ℕ). c.loop-place.place < n) c.degree-place-end.ensures c.loop-place-test.true) c.var_at.ensures.value c.requires

pub loop-place-preserved : goal.loop-place-preserved
loop-place-preserved c = as_more c.args.names.now.n c.args.names.now.m1 c.args.names.now.m2 c.args.mono.now c.loop-place.out _ c.var.result c.loop-place.place c.var_at.result c.of-name.result
    (subst (λ (n : ℕ). c.loop-place.place < n) c.degree-place-end.ensures c.loop-place-test.true) c.var_at.ensures.value c.of-name.ensures.value c.var.ensures c.union-out.ensures.members c.loop-place.invariant

pub returns : goal.returns
returns c = as_end c.args.names.now.n c.args.names.now.m1 c.args.names.now.m2 c.args.mono.now c.loop-place.out c.loop-place.place c.degree-place-end.result c.degree-place-end.ensures c.loop-place-test.false c.loop-place.invariant
