use Rattle.std.proofs.Common.{◌≡◌, ℕ, ◌<◌, get_or, bit_or}
use Rattle.ps_mono.specs.Sets.{Fits8}
use Rattle.ps_mono.proofs.words.joined_words.Given as goal

abbrev pub invariant-loop-i : goal.invariant-loop-i
invariant-loop-i l = record { fits : Fits8 l.words; done : (k : ℕ) → k < l.i → get_or l.words k 0 ≡ bit_or (get_or l.xs k 0) (get_or l.ys k 0) }
