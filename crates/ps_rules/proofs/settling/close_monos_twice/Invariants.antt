use Rattle.std.proofs.Common.{◌≡◌}
use Rattle.ps_rules.specs.Closing.{closed_mono}
use Rattle.ps_rules.proofs.Mapped.{so_far}
use Rattle.ps_rules.proofs.settling.close_monos_twice.Given as goal

abbrev pub invariant-loop-mono : goal.invariant-loop-mono
invariant-loop-mono l = l.mono-items ≡ so_far (λ m. closed_mono l.fn.low.gone (closed_mono l.fn.high.gone m)) l.fn.monos.items l.mono-index
