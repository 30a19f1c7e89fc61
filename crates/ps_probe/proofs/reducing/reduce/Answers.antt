use Rattle.std.proofs.Common.{[], ◌++◌, ◌∷◌, subst}
use Rattle.std.specs.Prelude.{IfSome}
use Rattle.ps_rules.specs.Rules.{FirstStep}
use Rattle.ps_reach.specs.Reductions.{rest}
use Rattle.ps_reach.proofs.Reducing.{reduces_more}
use Rattle.ps_normal.proofs.Floors.{applied_floor}
use Rattle.ps_probe.proofs.reducing.reduce.Goals as goal

pub reducing-init : goal.reducing-init
reducing-init c = record { reached = ([], rest); floor = c.requires.floor }

pub reducing-preserved : goal.reducing-preserved
reducing-preserved c = record {
  reached = (c.reducing.invariant.reached.0 ++ c.in-Some.step ∷ [], reduces_more c.in-Some.step c.reducing.invariant.reached.1 (subst (λ o. IfSome o (λ s. FirstStep c.reducing.current s)) c.in-Some.is c.find.ensures.first) c.in-Ok.ensures.fits c.in-Ok.ensures.sum);
  floor = applied_floor c.reducing.current c.in-Ok.reduced c.in-Some.step c.in-Ok.ensures.sum c.reducing.invariant.floor;
}
