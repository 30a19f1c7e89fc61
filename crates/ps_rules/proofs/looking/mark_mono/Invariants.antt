use Rattle.std.proofs.Common.{ℕ, Bool, ◌||◌, take}
use Rattle.ps_mono.specs.Sets.{stands}
use Rattle.ps_rules.specs.Sights.{IsFresh, EachSight}
use Rattle.ps_rules.proofs.looking.mark_mono.Given as goal

abbrev pub invariant-loop-place : goal.invariant-loop-place
invariant-loop-place l = (p : ℕ → Bool) → EachSight (λ v s. IsFresh (p v) s) l.base l.fn.sights → EachSight (λ v s. IsFresh (p v || stands v (take l.place l.mono)) s) l.base l.sights
