use Rattle.std.proofs.Common.{◌^◌, ◌/◌, ap, ◌∙◌, ℕ, Vec, Global}
use Rattle.ps_sum.proofs.Texting.{below_is}
use Rattle.ps_reply.proofs.Phases.{fraction_told}
use Rattle.ps_reply.proofs.verdicts.phase_text.Goals as goal

pub returns : goal.returns
returns c =
    let p = c.power-power.result in
    ap (λ (v : Vec ℕ Global). v.items) c.into_bytes.ensures.value
    ∙ fraction_told c.args.phase p (c.units-2.result / 2 ^ p) _ _ (record { at_most = c.power-power.ensures.at_most; divides = c.power-power.ensures.divides; greatest = c.power-power.ensures.greatest })
    (ap (λ u. u / 2 ^ p) c.units-2.ensures) (below_is p) (λ z. c.if-units-eq0.false (c.units.ensures ∙ z)) c.in_ok-text.ensures.ok
