use Rattle.std.proofs.Common.{ap, nat_eq}
use Rattle.ps_mono.specs.Sets.{is_set}
use Rattle.std.proofs.lemmas.Nat.Bits.{shr_and_one}
use Rattle.ps_probe.proofs.pattern.Pattern.is_one.Goals as goal

pub returns : goal.returns
unfolding is_set
returns c = ap (λ b. nat_eq b 1) (shr_and_one c.args.self.now.ones c.args.i)
