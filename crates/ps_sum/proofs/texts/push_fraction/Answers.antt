use Rattle.std.proofs.Common.{◌^◌, ◌/◌, ap}
use Rattle.std.proofs.lemmas.Result.{on_ok_weaker}
use Rattle.std.specs.String.{string_bytes}
use Rattle.ps_sum.proofs.Texting.{fraction_is, below_is}
use Rattle.ps_sum.proofs.texts.push_fraction.Goals as goal

pub returns : goal.returns
returns c =
    let p = c.power-power.result in
    on_ok_weaker c.write.result (fraction_is c.args.phase p (c.units.result / 2 ^ p) _ (string_bytes c.args.text.now) (string_bytes c.write.new.self)
    (record { at_most = c.power-power.ensures.at_most; divides = c.power-power.ensures.divides; greatest = c.power-power.ensures.greatest }) (ap (λ u. u / 2 ^ p) c.units.ensures) (below_is p)) c.write.ensures.bytes
