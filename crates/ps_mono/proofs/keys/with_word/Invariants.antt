use Rattle.std.proofs.Common.{◌≡◌, ◌<◌, ◌^◌}
use Rattle.ps_mono.specs.Keys.{key_behind, from_word}
use Rattle.ps_mono.proofs.keys.with_word.Given as goal

abbrev pub invariant-loop-rest : goal.invariant-loop-rest
invariant-loop-rest l = record { small : l.rest < 2 ^ 64; same : key_behind l.key (from_word l.start l.rest) ≡ key_behind l.fn.key (from_word l.start l.word) }

abbrev pub decreases-loop-rest : goal.decreases-loop-rest
decreases-loop-rest l = l.rest
