use Rattle.std.proofs.Common.{arith}
use Rattle.ps_join.proofs.Merging.{chain_fault}
use Rattle.ps_join.proofs.joins.replaced_parts.Goals as goal

pub returns-in-Err-replaced_outputs-clause-passed : goal.returns-in-Err-replaced_outputs-clause-passed
returns-in-Err-replaced_outputs-clause-passed c =
    chain_fault c.args.first.now c.args.second.now _ _ _ _ _ _ c.of_sums-names.ensures.n c.of_sums-names.ensures.m1 c.of_sums-names.ensures.m2 c.polys-outs.ensures c.polys-polys.ensures (omega (arith, c.if-variables-gt-MOST_VARIABLES.false)) c.in-Ok.ensures.fits c.in-Err-replaced_outputs.ensures.over
