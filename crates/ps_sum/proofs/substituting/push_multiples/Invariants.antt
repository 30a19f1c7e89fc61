use Rattle.std.proofs.Common.{◌≤◌, ◌+◌, length, vec_len, vec_capacity}
use Rattle.ps_sum.proofs.Substitutes.{Multiplied}
use Rattle.ps_sum.proofs.substituting.push_multiples.Given as goal

abbrev pub invariant-loop-term : goal.invariant-loop-term
invariant-loop-term l = record { sum : Multiplied l.mono l.terms l.term-index l.fn.out.items l.out.items; room : vec_len l.out + length l.terms ≤ vec_capacity l.out + l.term-index }
