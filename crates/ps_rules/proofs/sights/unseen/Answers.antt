use Rattle.std.proofs.Common.{[], sym, ◌∙◌, subst}
use Rattle.ps_rules.specs.declared.sights.Kind.{Kind}
use Rattle.ps_rules.specs.Sights.{SeenAs}
use Rattle.ps_rules.proofs.Seeing.{unseen_free, spoken_spoilt}
use Rattle.ps_rules.proofs.sights.unseen.Goals as goal
use Rattle.ps_rules.proofs.sights.unseen.Goals.{then-spoken, else-spoken}

pub returns : goal.returns
returns c = λ v outs e. elim c.if-spoken.branch [
  | then-spoken w ↦ subst (λ (k : Kind). SeenAs k v outs [] c.one.result c.one-2.result) (sym w.result-is) (spoken_spoilt v outs [] (sym e ∙ w.if-spoken.true))
  | else-spoken w ↦ subst (λ (k : Kind). SeenAs k v outs [] c.one.result c.one-2.result) (sym w.result-is) (unseen_free v outs c.one.result c.one-2.result (sym e ∙ w.if-spoken.false) c.one.ensures c.one-2.ensures)
]
