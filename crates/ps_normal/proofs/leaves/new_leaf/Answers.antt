use Rattle.std.proofs.Common.{◌∙◌, ap, refl}
use Rattle.std.specs.declared.alloc.Global.{Global}
use Rattle.std.specs.declared.sync.Arc.{Arc}
use Rattle.ps_sum.specs.declared.sums.PathSum.{PathSum}
use Rattle.ps_normal.proofs.Tables.{kept_made}
use Rattle.ps_normal.proofs.leaves.new_leaf.Goals as goal

pub returns-in_ok-from_slice-in-Sum-clause-kept : goal.returns-in_ok-from_slice-in-Sum-clause-kept
returns-in_ok-from_slice-in-Sum-clause-kept g c = (
  refl,
  kept_made c.args.n c.args.prim.now c.in_ok-sum.field-0 c.in-Sum.sum c.leaf_part.new.steps.items _ c.in-Sum.is (ap (λ (a : Arc PathSum Global). a.value) c.of.ensures ∙ c.in_ok-new-in-Sum.ensures.ok ∙ c.in_ok-settled-in-Sum.ensures)
      (c.in_ok-from_slice-in-Sum.ensures.items ∙ c.deref.ensures.value) c.in_ok-sum.ensures.reduced c.in_ok-sum.ensures.usable,
)
