-- How large records and comparisons are.
use Rattle.std.specs.Prelude.{ℕ, ◌+◌, Option, Some, None, length}
use Rattle.ps_sum.specs.declared.sums.PathSum.{PathSum}
use Rattle.ps_sum.specs.Outs.{size_of}
use Rattle.ps_reach.specs.declared.evidence.Evidence.{Evidence}
use Rattle.ps_reach.specs.declared.evidence.Body.{Body}
use Rattle.ps_reach.specs.declared.evidence.Body.TheVariants.{Sum, Passed}
use Rattle.ps_reach.specs.declared.record.Record.{Record}
use Rattle.ps_reach.specs.declared.judged.Judged.{Judged}
use Rattle.ps_reach.specs.declared.verdict.Verdict.{Verdict}
use Rattle.ps_reach.specs.declared.verdict.Verdict.TheVariants as verdict
use Rattle.ps_reach.specs.Parts.{held}

abbrev pub sum_size : PathSum → ℕ
sum_size S = size_of S.phase S.outs

abbrev pub second_size : Option PathSum → ℕ
second_size None = 0
second_size (Some S) = sum_size S

abbrev pub evidence_size : Evidence → ℕ
evidence_size e = sum_size e.first.value + second_size (held e.second)

abbrev pub body_size : Body → ℕ
body_size (Sum s) = sum_size s.value
body_size (Passed e) = evidence_size e

-- the terms and monomials of the sums, and the moves
abbrev pub record_size : Record → ℕ
record_size r = body_size r.body + length r.moves

abbrev pub verdict_size : Verdict → ℕ
verdict_size verdict.Yes = 0
verdict_size (verdict.YesPhase phase) = 0
verdict_size (verdict.No bits) = 0
verdict_size (verdict.NoPair first second) = 0
verdict_size (verdict.Stuck S) = sum_size S
verdict_size (verdict.Passed e) = evidence_size e

-- the steps, and the terms and monomials of the sums
abbrev pub judged_size : Judged → ℕ
judged_size j = verdict_size j.verdict + length j.steps
