use Rattle.std.proofs.Common.{◌∙◌, refl, sym, rules}
use mir.Syntax.{w32}
use mir.Val.{SFits}
use Rattle.ps_join.proofs.Merging.{one_k}
use Rattle.ps_join.proofs.Totals.{total_none, total_only}
use Rattle.ps_join.proofs.running.Running.settled.Goals as goal

pub returns-then-count-eq0 : goal.returns-then-count-eq0
returns-then-count-eq0 c = total_none c.self.inside.sum c.self.inside.more c.self.inside.form c.self.inside.named (sym c.count.ensures ∙ c.if-count-eq0.true) ∙ c.self.view_is

pub returns : goal.returns
returns c =
    let f : SFits w32 c.self.inside.sum.k = search rules in
    total_only c.self.inside.sum _ c.self.inside.more c.self.inside.form c.self.inside.named refl refl (one_k c.self.inside.sum.k f) refl c.in_ok-add_to.ensures.value ∙ c.self.view_is
