use Rattle.std.proofs.Common.{ℕ, Bool, ◌||◌, take}
use Rattle.ps_bool.specs.Polys.{occurs}
use Rattle.ps_rules.specs.Sights.{IsFresh, EachSight}
use Rattle.ps_rules.proofs.looking.mark_poly.Given as goal

abbrev pub invariant-loop-mono : goal.invariant-loop-mono
invariant-loop-mono l = (p : ℕ → Bool) → EachSight (λ v s. IsFresh (p v) s) l.base l.fn.sights → EachSight (λ v s. IsFresh (p v || occurs v (take l.mono-index l.mono-items)) s) l.base l.sights
