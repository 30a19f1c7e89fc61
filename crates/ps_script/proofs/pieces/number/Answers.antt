use Rattle.std.proofs.Common.{◌∙◌}
use Rattle.std.proofs.lemmas.Bool.Decides.{Decides-eqb}
use Rattle.std.proofs.lemmas.Slice.Eq.{slice_eq-Decides}
use Rattle.ps_script.proofs.WordLemmas.{number_none, not_both}
use Rattle.ps_script.proofs.pieces.number.Goals as goal

pub returns-else-eq : goal.returns-else-eq
returns-else-eq c =
    let written = c.as_bytes.ensures.value ∙ c.format.ensures.text in
    number_none c.args.bytes.now c.digits_value-value.result c.digits_value-value.ensures
    (λ e. not_both c.eq.result ((slice_eq-Decides Decides-eqb c.as_bytes.result.now c.args.bytes.now c.eq.result c.eq.ensures).1 (written ∙ e)) c.if-eq.false)
