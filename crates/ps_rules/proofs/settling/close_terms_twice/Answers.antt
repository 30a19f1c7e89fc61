use Rattle.std.proofs.Common.{◌<◌, ◌≤◌, ℕ, sym, ◌∙◌, ap, subst, vec_items}
use Rattle.ps_phase.specs.declared.terms.Term.{Term}
use Rattle.ps_mono.specs.Sets.{stands}
use Rattle.ps_rules.specs.Closing.{closed_mono}
use Rattle.ps_rules.proofs.Moved.{moved_set}
use Rattle.ps_rules.proofs.Twice.{twice_start, twice_keep, twice_pass, twice_end, twice_moved, twice_below, apart_high, apart_low, name_is, pair_is}
use Rattle.ps_rules.proofs.settling.close_terms_twice.Goals as goal
use Rattle.ps_rules.proofs.settling.close_terms_twice.Goals.{then-is_apart, else-is_apart}

pub loop-i-init : goal.loop-i-init
loop-i-init c = twice_start c.args.low.gone c.args.high.gone c.args.terms.now.items

pub close_twice-requires-clause-high : goal.close_twice-requires-clause-high
close_twice-requires-clause-high c =
    let m = twice_moved c.args.low.gone c.args.high.gone c.args.terms.now.items c.loop-i.terms.items c.move_term.new.terms.items c.loop-i.i c.loop-i.kept c.index.result.now c.index_mut.result.now (subst (λ (n : ℕ). c.loop-i.i < n) (c.len-i-end.ensures ∙ c.args.terms.now.ok.0 ∙ sym c.loop-i.invariant.size) c.loop-i-test.true) c.index.ensures c.move_term.ensures c.index_mut.ensures.value c.loop-i.invariant in
    name_is _ _ _ c.of-pair.ensures.high (ap (λ (t : Term). stands c.args.high.gone t.mono) m.same ∙ apart_high _ _ (sym c.is_apart.ensures ∙ c.if-is_apart.true))

pub close_twice-requires-clause-low : goal.close_twice-requires-clause-low
close_twice-requires-clause-low c =
    let m = twice_moved c.args.low.gone c.args.high.gone c.args.terms.now.items c.loop-i.terms.items c.move_term.new.terms.items c.loop-i.i c.loop-i.kept c.index.result.now c.index_mut.result.now (subst (λ (n : ℕ). c.loop-i.i < n) (c.len-i-end.ensures ∙ c.args.terms.now.ok.0 ∙ sym c.loop-i.invariant.size) c.loop-i-test.true) c.index.ensures c.move_term.ensures c.index_mut.ensures.value c.loop-i.invariant in
    name_is _ _ _ c.of-pair.ensures.low (ap (λ (t : Term). stands c.args.low.gone t.mono) m.same ∙ apart_low _ _ (sym c.is_apart.ensures ∙ c.if-is_apart.true))

pub close_twice-requires-clause-below : goal.close_twice-requires-clause-below
close_twice-requires-clause-below c w h = twice_below c.args.low.gone c.args.high.gone w c.args.terms.now.items c.loop-i.terms.items c.move_term.new.terms.items c.loop-i.i c.loop-i.kept c.index.result.now c.index_mut.result.now (subst (λ (n : ℕ). c.loop-i.i < n) (c.len-i-end.ensures ∙ c.args.terms.now.ok.0 ∙ sym c.loop-i.invariant.size) c.loop-i-test.true) c.index.ensures c.move_term.ensures c.index_mut.ensures.value (c.requires.below w (subst (λ (n : ℕ). n ≤ w) c.of-pair.ensures.names h)) c.loop-i.invariant

pub loop-i-preserved : goal.loop-i-preserved
loop-i-preserved c =
    let l = subst (λ (n : ℕ). c.loop-i.i < n) (c.len-i-end.ensures ∙ c.args.terms.now.ok.0 ∙ sym c.loop-i.invariant.size) c.loop-i-test.true in
    elim c.if-is_apart.branch [
      | then-is_apart w ↦
          let m = twice_moved c.args.low.gone c.args.high.gone c.args.terms.now.items c.loop-i.terms.items w.move_term.new.terms.items c.loop-i.i c.loop-i.kept c.index.result.now w.index_mut.result.now l c.index.ensures w.move_term.ensures w.index_mut.ensures.value c.loop-i.invariant in
          twice_keep c.args.low.gone c.args.high.gone c.args.terms.now.items c.loop-i.terms.items c.if-is_apart.terms.items c.loop-i.i c.loop-i.kept c.if-is_apart.kept c.index.result.now w.close_twice.new.mono c.is_apart.result c.requires.order l c.index.ensures c.is_apart.ensures w.if-is_apart.true (pair_is c.of-pair.result.low c.of-pair.result.high c.args.low.gone c.args.high.gone _ _ c.of-pair.ensures.low c.of-pair.ensures.high w.close_twice.ensures ∙ ap (λ (t : Term). closed_mono c.args.low.gone (closed_mono c.args.high.gone t.mono)) m.same) w.kept-is
          (moved_set c.loop-i.i c.loop-i.kept c.index.result.now w.index_mut.result.now w.close_twice.new.mono c.loop-i.terms.items w.move_term.new.terms.items c.if-is_apart.terms.items m (ap vec_items w.terms-is)) c.loop-i.invariant
      | else-is_apart w ↦ twice_pass c.args.low.gone c.args.high.gone c.args.terms.now.items c.loop-i.terms.items c.if-is_apart.terms.items c.loop-i.i c.loop-i.kept c.if-is_apart.kept c.index.result.now c.is_apart.result c.requires.order l c.index.ensures c.is_apart.ensures w.if-is_apart.false w.kept-is (ap vec_items w.terms-is) c.loop-i.invariant
    ]

pub returns : goal.returns
returns c = c.truncate.ensures.items ∙ twice_end c.args.low.gone c.args.high.gone c.args.terms.now.items c.loop-i.terms.items c.loop-i.i c.loop-i.kept (subst (λ (n : ℕ). n ≤ c.loop-i.i) (c.len-i-end.ensures ∙ c.args.terms.now.ok.0) c.loop-i-test.false) c.loop-i.invariant
