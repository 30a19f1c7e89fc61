use Rattle.std.proofs.Common.{sym, ap, ◌∙◌, arith}
use Rattle.std.proofs.lemmas.Bool.{false≢true}
use Rattle.ps_prim.specs.declared.items.Item.{Item as AnItem}
use Rattle.ps_reach.specs.Runs.{prims_of}
use Rattle.ps_views.specs.Views.{items_in}
use Rattle.ps_book.proofs.ItemRuns.{same_at}
use Rattle.ps_book.proofs.service.Service.is_leaf.Goals as goal

pub returns-then-not-same_item : goal.returns-then-not-same_item
returns-then-not-same_item c = (
  λ e. absurd (false≢true e),
  λ same.
      let xs = c.args.items.now in
      let at =
      same_at (items_in c.args.self.now.items.items) xs c.args.numbers.now c.loop-i.i c.index-items-i.result 0
      (omega (arith, c.if-numbers-items.false, c.loop-i-test.true)) c.loop-i-test.true same in
      sym c.if-not-same_item.true
      ∙ c.same_item.ensures.1
      (ap (λ (x : AnItem). x.prims) c.deref.ensures ∙ c.item.ensures ∙ sym at ∙ sym (ap prims_of c.index-items-i.is)
      ∙ sym (ap (λ (x : AnItem). x.prims) c.deref-in-loop-i.ensures)),
)
