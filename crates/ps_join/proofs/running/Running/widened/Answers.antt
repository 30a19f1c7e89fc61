use Rattle.std.proofs.Common.{◌∙◌, subst, length, ◌<◌, ◌≤◌, [], get_or}
use Rattle.ps_join.proofs.Puts.{can_widen, put_longest, widened_named, widened_total}
use Rattle.ps_join.proofs.running.Running.widened.Goals as goal

pub widened-requires : goal.widened-requires
widened-requires c = can_widen c.self.inside.sum c.args.second.now c.args.self c.args.output c.self.inside.more c.self.inside.form c.self.inside.named c.self.view_is c.requires

pub invariant_of-result : goal.invariant_of-result
invariant_of-result c = (
  c.self.inside.form,
  (
    widened_named c.self.inside.sum c.args.second.now c.in_ok-sum.sum c.args.output c.self.inside.more c.self.inside.named c.in_ok-sum.ensures,
    (
      put_longest c.args.output c.self.inside.longest c.longest_with-longest.result c.self.inside.sum.outs c.in_ok-sum.sum.outs c.in_ok-sum.ensures.outs_are c.self.inside.few c.longest_with-longest.ensures.before
          (λ q e. subst (λ fs. length (get_or fs q []) ≤ c.longest_with-longest.result) c.polys.ensures (c.longest_with-longest.ensures.there q (c.place-place.ensures ∙ e))),
      tt,
    ),
  ),
)

pub returns : goal.returns
returns c =
    let b = widened_named c.self.inside.sum c.args.second.now c.in_ok-sum.sum c.args.output c.self.inside.more c.self.inside.named c.in_ok-sum.ensures in
    let h = widened_total c.self.inside.sum c.args.second.now c.in_ok-sum.sum c.args.self c.args.output c.self.inside.more c.self.inside.form c.self.inside.form c.self.inside.named b c.self.view_is c.in_ok-sum.ensures in
    record { n_is = h.n_is; m_is = h.m_is; k_is = h.k_is; phase_is = h.phase_is; outs_are = h.outs_are }
