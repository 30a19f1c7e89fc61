use Rattle.std.proofs.Common.{◌∙◌, arith, sym, subst}
use Rattle.std.proofs.lemmas.List.{take_all}
use Rattle.ps_mono.specs.Sets.{Below}
use Rattle.ps_mono.proofs.Laws.{set_all_below}
use Rattle.ps_sum.proofs.tabling.names_of.Goals as goal

pub returns-clause-small : goal.returns-clause-small
returns-clause-small c = subst (Below 512) (sym (c.loop-place.invariant ∙ take_all c.loop-place.place c.args.mono.now (omega (arith, c.degree-place-end.ensures, c.loop-place-test.false)))) (set_all_below c.args.mono.now c.known.ensures)
