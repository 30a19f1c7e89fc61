use Rattle.std.proofs.Common.{◌<◌, ◌≤◌, ℕ, sym, ◌∙◌, ap, subst, vec_items}
use Rattle.ps_phase.specs.declared.terms.Term.{Term}
use Rattle.ps_rules.specs.Closing.{closed_mono}
use Rattle.ps_rules.proofs.Closes.{settling_start, settling_keep, settling_skip, settling_end, settling_moved, settling_below}
use Rattle.ps_rules.proofs.Moved.{moved_set}
use Rattle.ps_rules.proofs.settling.close_terms.Goals as goal
use Rattle.ps_rules.proofs.settling.close_terms.Goals.{then-not-meets, else-not-meets}

pub loop-i-init : goal.loop-i-init
loop-i-init c = settling_start c.args.closing.gone c.args.terms.now.items

pub close_mono-requires-clause-below : goal.close_mono-requires-clause-below
close_mono-requires-clause-below c w h = settling_below c.args.closing.gone w c.args.terms.now.items c.loop-i.terms.items c.move_term.new.terms.items c.loop-i.i c.loop-i.kept c.index.result.now c.index_mut.result.now (subst (λ (n : ℕ). c.loop-i.i < n) (c.len-i-end.ensures ∙ c.args.terms.now.ok.0 ∙ sym c.loop-i.invariant.size) c.loop-i-test.true) c.index.ensures c.move_term.ensures c.index_mut.ensures.value (c.requires w h) c.loop-i.invariant

pub loop-i-preserved : goal.loop-i-preserved
loop-i-preserved c =
    let l = subst (λ (n : ℕ). c.loop-i.i < n) (c.len-i-end.ensures ∙ c.args.terms.now.ok.0 ∙ sym c.loop-i.invariant.size) c.loop-i-test.true in
    elim c.if-not-meets.branch [
      | then-not-meets w ↦
          let m = settling_moved c.args.closing.gone c.args.terms.now.items c.loop-i.terms.items w.move_term.new.terms.items c.loop-i.i c.loop-i.kept c.index.result.now w.index_mut.result.now l c.index.ensures w.move_term.ensures w.index_mut.ensures.value c.loop-i.invariant in
          settling_keep c.args.closing.gone c.args.terms.now.items c.loop-i.terms.items c.if-not-meets.terms.items c.loop-i.i c.loop-i.kept c.if-not-meets.kept c.index.result.now w.close_mono.new.mono l c.index.ensures (sym c.meets.ensures ∙ w.if-not-meets.true) (w.close_mono.ensures ∙ ap (λ (t : Term). closed_mono c.args.closing.gone t.mono) m.same) w.kept-is
          (moved_set c.loop-i.i c.loop-i.kept c.index.result.now w.index_mut.result.now w.close_mono.new.mono c.loop-i.terms.items w.move_term.new.terms.items c.if-not-meets.terms.items m (ap vec_items w.terms-is)) c.loop-i.invariant
      | else-not-meets w ↦ settling_skip c.args.closing.gone c.args.terms.now.items c.loop-i.terms.items c.if-not-meets.terms.items c.loop-i.i c.loop-i.kept c.if-not-meets.kept c.index.result.now l c.index.ensures (sym c.meets.ensures ∙ w.if-not-meets.false) w.kept-is (ap vec_items w.terms-is) c.loop-i.invariant
    ]

pub returns : goal.returns
returns c = c.truncate.ensures.items ∙ settling_end c.args.closing.gone c.args.terms.now.items c.loop-i.terms.items c.loop-i.i c.loop-i.kept (subst (λ (n : ℕ). n ≤ c.loop-i.i) (c.len-i-end.ensures ∙ c.args.terms.now.ok.0) c.loop-i-test.false) c.loop-i.invariant
