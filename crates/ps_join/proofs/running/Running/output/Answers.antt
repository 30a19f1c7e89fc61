use Rattle.std.proofs.Common.{◌∙◌, ap, sym, subst, length, ◌<◌, [], get_or}
use Rattle.std.proofs.lemmas.List.{get_or_default}
use Rattle.ps_sum.specs.declared.sums.PathSum.{PathSum}
use Rattle.ps_join.proofs.running.Running.output.Goals as goal

pub bounds-polys-q : goal.bounds-polys-q
bounds-polys-q c = subst (λ k. c.args.q < k) (ap (λ (s : PathSum). length s.outs) (sym c.self.view_is) ∙ ap length (sym c.polys.ensures)) c.requires

pub returns : goal.returns
returns c =
    let e = c.polys.ensures ∙ ap (λ (s : PathSum). s.outs) c.self.view_is in
    c.index-polys-q.is ∙ ap (λ o. get_or o c.args.q c.index-polys-q.result) e ∙ get_or_default c.args.self.now.outs c.args.q c.index-polys-q.result [] c.requires
