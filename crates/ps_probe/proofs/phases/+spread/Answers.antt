use Rattle.std.proofs.Common.{rules, ◌∙◌, sym, refl}
use Rattle.ps_sum.proofs.TableWorths.{half_size}
use Rattle.ps_probe.proofs.Tables.{spread_one, spread_more}
use Rattle.ps_probe.proofs.phases.+spread.Goals as goal

pub returns-then-count-eq0 : goal.returns-then-count-eq0
returns-then-count-eq0 t c = spread_one c.args.count c.args.table.now _ c.if-count-eq0.true c.requires refl

pub add_words-requires : goal.add_words-requires
add_words-requires t c = let h = half_size c.args.count c.args.table.now c.split_at_mut-low.result.0.now c.split_at_mut-low.result.1.now c.if-count-eq0.false c.requires c.split_at_mut-low.ensures.front_len c.split_at_mut-low.ensures.back_len in h.0 ∙ sym h.1

pub spread-requires : goal.spread-requires
spread-requires t c = let h = half_size c.args.count c.args.table.now c.split_at_mut-low.result.0.now c.split_at_mut-low.result.1.now c.if-count-eq0.false c.requires c.split_at_mut-low.ensures.front_len c.split_at_mut-low.ensures.back_len in (search rules, h.0)

pub spread-requires-2 : goal.spread-requires-2
spread-requires-2 t c = let h = half_size c.args.count c.args.table.now c.split_at_mut-low.result.0.now c.split_at_mut-low.result.1.now c.if-count-eq0.false c.requires c.split_at_mut-low.ensures.front_len c.split_at_mut-low.ensures.back_len in (search rules, c.add_words.auto.high ∙ h.1)

pub returns : goal.returns
returns t c = let h = half_size c.args.count c.args.table.now c.split_at_mut-low.result.0.now c.split_at_mut-low.result.1.now c.if-count-eq0.false c.requires c.split_at_mut-low.ensures.front_len c.split_at_mut-low.ensures.back_len in
    spread_more c.args.count c.args.table.now c.split_at_mut-low.result.0.now c.split_at_mut-low.result.1.now c.add_words.new.high c.spread.new.table c.spread-2.new.table _ c.if-count-eq0.false
    c.split_at_mut-low.ensures.value h.0 c.add_words.ensures c.spread.ensures c.spread-2.ensures refl
