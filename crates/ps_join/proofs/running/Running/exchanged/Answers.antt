use Rattle.std.proofs.Common.{refl, ap, sym, subst, length, ◌<◌, ◌≤◌, [], get_or}
use Rattle.ps_prim.specs.Amplitudes.{exchanged}
use Rattle.ps_sum.specs.declared.sums.PathSum.{PathSum}
use Rattle.ps_join.specs.Totals.{with_more}
use Rattle.ps_join.proofs.Puts.{longest_still}
use Rattle.ps_join.proofs.Totals.{behind_at, named_as, total_behind}
use Rattle.ps_join.proofs.running.Running.exchanged.Goals as goal

pub with_exchange-requires-clause-control : goal.with_exchange-requires-clause-control
with_exchange-requires-clause-control c = subst (λ k. c.args.c < k) (ap (λ (s : PathSum). length s.outs) (sym c.self.view_is)) c.requires.control

pub with_exchange-requires-clause-target : goal.with_exchange-requires-clause-target
with_exchange-requires-clause-target c = subst (λ k. c.args.t < k) (ap (λ (s : PathSum). length s.outs) (sym c.self.view_is)) c.requires.target

pub invariant_of-result : goal.invariant_of-result
invariant_of-result c =
    let s1 = c.self.inside.sum in
    let s2 = c.in_ok-sum.sum in
    let others = c.in_ok-sum.ensures.others in (
      c.self.inside.form,
      (
        named_as s1 s2 c.self.inside.more c.in_ok-sum.ensures.behind.n_is c.in_ok-sum.ensures.behind.m_is c.self.inside.named,
        (longest_still c.args.t c.self.inside.longest c.longest_with-longest.result s1.outs s2.outs c.self.inside.few c.longest_with-longest.ensures.before others (subst (λ fs. length (get_or fs c.args.t []) ≤ c.longest_with-longest.result) c.polys.ensures (c.longest_with-longest.ensures.there c.args.t refl)), tt),
      ),
    )

pub returns : goal.returns
returns c =
    let s1 = c.self.inside.sum in
    let s2 = c.in_ok-sum.sum in
    let behind = c.in_ok-sum.ensures.behind in
    let b = named_as s1 s2 c.self.inside.more behind.n_is behind.m_is c.self.inside.named in
    let h = total_behind (exchanged c.args.c c.args.t) s1 s2 c.self.inside.more c.self.inside.form c.self.inside.form c.self.inside.named b behind in
    behind_at (exchanged c.args.c c.args.t) (λ x. 0) (with_more s1 c.self.inside.more c.self.inside.form c.self.inside.named) c.args.self _ c.self.view_is
    (record { n_is = h.n_is; m_is = h.m_is; k_is = h.k_is; wide = h.wide; phase_is = h.phase_is; outs_are = h.outs_are })
