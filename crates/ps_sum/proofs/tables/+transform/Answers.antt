use Rattle.std.proofs.Common.{rules, ◌≡◌, ◌∙◌, ◌+◌, ◌-◌, ◌^◌, ◌%◌, arith, ap, sym, length, refl, inl, inr}
use Rattle.ps_sum.proofs.TableWorths.{half_size, transformed, transformed_one, one_word, reduced_sum}
use Rattle.ps_sum.proofs.tables.+transform.Goals as goal
use Rattle.ps_sum.proofs.tables.+transform.Goals.{then-table-eq1, else-table-eq1}

pub returns-then-count-eq0 : goal.returns-then-count-eq0
returns-then-count-eq0 t c = transformed_one c.args.count c.args.by c.args.table.now _ c.if-count-eq0.true (one_word c.args.count c.args.by c.if-table-eq1.table c.args.table.now c.if-count-eq0.true c.requires
    (elim c.if-table-eq1.branch [ then-table-eq1 w ↦ inl (w.if-table-eq1.true, w.table-is) | else-table-eq1 w ↦ inr (w.if-table-eq1.false, w.table-is) ]))

pub add_words-requires : goal.add_words-requires
add_words-requires t c = let h = half_size c.args.count c.args.table.now c.split_at_mut-low.result.0.now c.split_at_mut-low.result.1.now c.if-count-eq0.false c.requires c.split_at_mut-low.ensures.front_len c.split_at_mut-low.ensures.back_len in h.0 ∙ sym h.1

pub transform-requires : goal.transform-requires
transform-requires t c = let h = half_size c.args.count c.args.table.now c.split_at_mut-low.result.0.now c.split_at_mut-low.result.1.now c.if-count-eq0.false c.requires c.split_at_mut-low.ensures.front_len c.split_at_mut-low.ensures.back_len in (search rules, h.0)

pub transform-requires-2 : goal.transform-requires-2
transform-requires-2 t c = let h = half_size c.args.count c.args.table.now c.split_at_mut-low.result.0.now c.split_at_mut-low.result.1.now c.if-count-eq0.false c.requires c.split_at_mut-low.ensures.front_len c.split_at_mut-low.ensures.back_len in (search rules, c.add_words.auto.high ∙ h.1)

pub take_words-requires : goal.take_words-requires
take_words-requires t c = let h = half_size c.args.count c.args.table.now c.split_at_mut-low.result.0.now c.split_at_mut-low.result.1.now c.if-count-eq0.false c.requires c.split_at_mut-low.ensures.front_len c.split_at_mut-low.ensures.back_len in c.transform.auto.table ∙ h.0 ∙ sym h.1 ∙ sym c.add_words.auto.high ∙ sym c.transform-2.auto.table

pub returns : goal.returns
returns t c = transformed c.args.count c.args.by c.args.table.now c.split_at_mut-low.result.0.now c.split_at_mut-low.result.1.now c.add_words.new.high c.transform.new.table c.transform-2.new.table c.take_words.new.high _ c.if-count-eq0.false c.requires
    c.split_at_mut-low.ensures.value c.split_at_mut-low.ensures.front_len (λ i. reduced_sum _ _ (c.add_words.ensures i)) c.transform.ensures c.transform-2.ensures c.take_words.ensures c.transform.auto.table refl
