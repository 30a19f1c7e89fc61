use Rattle.std.proofs.Common.{◌≡◌, ◌∙◌, sym}
use Rattle.std.proofs.lemmas.Bool.Decides.{Decides-eqb}
use Rattle.std.proofs.lemmas.Slice.Eq.{slice_eq-Decides}
use Rattle.ps_steps.proofs.Lacking.{not_both}
use Rattle.ps_steps.proofs.Forms.{spells_head, spells_id_a, spells_id_b, spells_join, spells_overlap, spells_end, no_word}
use Rattle.ps_steps.proofs.spelling.word.Goals as goal

pub returns-then-eq : goal.returns-then-eq
returns-then-eq c = spells_head c.args.piece.now ((slice_eq-Decides Decides-eqb c.args.piece.now c.as_slice.result.now c.eq.result c.eq.ensures).0 c.if-eq.true ∙ c.as_slice.ensures)

pub returns-then-eq-2 : goal.returns-then-eq-2
returns-then-eq-2 c = spells_id_a c.args.piece.now ((slice_eq-Decides Decides-eqb c.args.piece.now c.as_slice-else-eq.result.now c.eq-else-eq.result c.eq-else-eq.ensures).0 c.if-eq-2.true ∙ c.as_slice-else-eq.ensures)

pub returns-then-eq-3 : goal.returns-then-eq-3
returns-then-eq-3 c = spells_id_b c.args.piece.now ((slice_eq-Decides Decides-eqb c.args.piece.now c.as_slice-else-eq-2.result.now c.eq-else-eq-2.result c.eq-else-eq-2.ensures).0 c.if-eq-3.true ∙ c.as_slice-else-eq-2.ensures)

pub returns-then-eq-4 : goal.returns-then-eq-4
returns-then-eq-4 c = spells_join c.args.piece.now ((slice_eq-Decides Decides-eqb c.args.piece.now c.as_slice-else-eq-3.result.now c.eq-else-eq-3.result c.eq-else-eq-3.ensures).0 c.if-eq-4.true ∙ c.as_slice-else-eq-3.ensures)

pub returns-then-eq-5 : goal.returns-then-eq-5
returns-then-eq-5 c = spells_overlap c.args.piece.now ((slice_eq-Decides Decides-eqb c.args.piece.now c.as_slice-else-eq-4.result.now c.eq-else-eq-4.result c.eq-else-eq-4.ensures).0 c.if-eq-5.true ∙ c.as_slice-else-eq-4.ensures)

pub returns-then-eq-6 : goal.returns-then-eq-6
returns-then-eq-6 c = spells_end c.args.piece.now ((slice_eq-Decides Decides-eqb c.args.piece.now c.as_slice-else-eq-5.result.now c.eq-else-eq-5.result c.eq-else-eq-5.ensures).0 c.if-eq-6.true ∙ c.as_slice-else-eq-5.ensures)

pub returns-else-eq-6 : goal.returns-else-eq-6
returns-else-eq-6 c = no_word c.args.piece.now
    (λ e. not_both c.eq.result ((slice_eq-Decides Decides-eqb c.args.piece.now c.as_slice.result.now c.eq.result c.eq.ensures).1 (e ∙ sym c.as_slice.ensures)) c.if-eq.false)
    (λ e. not_both c.eq-else-eq.result ((slice_eq-Decides Decides-eqb c.args.piece.now c.as_slice-else-eq.result.now c.eq-else-eq.result c.eq-else-eq.ensures).1 (e ∙ sym c.as_slice-else-eq.ensures)) c.if-eq-2.false)
    (λ e. not_both c.eq-else-eq-2.result ((slice_eq-Decides Decides-eqb c.args.piece.now c.as_slice-else-eq-2.result.now c.eq-else-eq-2.result c.eq-else-eq-2.ensures).1 (e ∙ sym c.as_slice-else-eq-2.ensures)) c.if-eq-3.false)
    (λ e. not_both c.eq-else-eq-3.result ((slice_eq-Decides Decides-eqb c.args.piece.now c.as_slice-else-eq-3.result.now c.eq-else-eq-3.result c.eq-else-eq-3.ensures).1 (e ∙ sym c.as_slice-else-eq-3.ensures)) c.if-eq-4.false)
    (λ e. not_both c.eq-else-eq-4.result ((slice_eq-Decides Decides-eqb c.args.piece.now c.as_slice-else-eq-4.result.now c.eq-else-eq-4.result c.eq-else-eq-4.ensures).1 (e ∙ sym c.as_slice-else-eq-4.ensures)) c.if-eq-5.false)
    (λ e. not_both c.eq-else-eq-5.result ((slice_eq-Decides Decides-eqb c.args.piece.now c.as_slice-else-eq-5.result.now c.eq-else-eq-5.result c.eq-else-eq-5.ensures).1 (e ∙ sym c.as_slice-else-eq-5.ensures)) c.if-eq-6.false)
