use Rattle.std.proofs.Common.{◌≡◌}
use Rattle.ps_mono.specs.Sets.{vars}
use Rattle.ps_mono.specs.Keys.{key_behind, order_key}
use Rattle.ps_mono.proofs.KeyOrders.{from_place}
use Rattle.ps_mono.proofs.mono.Mono.order_key.Given as goal

abbrev pub invariant-loop-i : goal.invariant-loop-i
invariant-loop-i l = key_behind l.key (from_place l.self-inside.words l.i) ≡ order_key (vars l.self-inside.words)
