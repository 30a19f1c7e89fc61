-- The text of verdicts and of limits.
use Rattle.std.specs.Prelude.{ℕ, zero, suc, Bool, true, false, List, ◌++◌, codes, decimal, map}
use Rattle.ps_overlap.specs.Overlapping.{point}
use Rattle.ps_sum.specs.declared.faults.What.{What}
use Rattle.ps_sum.specs.declared.faults.What.TheVariants.{Terms, Variables}
use Rattle.ps_sum.specs.declared.faults.Passed.{Passed as Limit}
use Rattle.ps_sum.specs.Texts.{fraction_text, sum_text}
use Rattle.ps_reach.specs.declared.verdict.Verdict.{Verdict}
use Rattle.ps_reach.specs.declared.verdict.Verdict.TheVariants.{Yes, YesPhase, No, NoPair, Stuck, Passed}

-- the byte of a truth value
abbrev pub bit_code : Bool → ℕ
bit_code true = 49
bit_code false = 48

-- a basis input of n qubits, qubit 0 first
abbrev pub input_text : ℕ → List ℕ → List ℕ
input_text n bits = map bit_code (point n bits)

abbrev pub what_text : What → List ℕ
what_text Terms = codes "terms "
what_text Variables = codes "variables "

-- what a limit is put on, and how many there were
abbrev pub limit_text : Limit → List ℕ
limit_text limit = what_text limit.what ++ decimal limit.count

-- a phase as a part of a turn: `0`, or a fraction in lowest terms
abbrev pub turn_text : ℕ → List ℕ
turn_text zero = codes "0"
turn_text (suc units) = fraction_text (suc units)

-- the verdict on two circuits of n qubits
abbrev pub verdict_text : ℕ → Verdict → List ℕ
verdict_text n Yes = codes "yes"
verdict_text n (YesPhase phase) = codes "yes phase " ++ turn_text phase
verdict_text n (No at) = codes "no " ++ input_text n at
verdict_text n (NoPair first second) = codes "no " ++ input_text n first ++ codes " " ++ input_text n second
verdict_text n (Stuck sum) = codes "unknown stuck " ++ sum_text sum
verdict_text n (Passed evidence) = codes "unknown passed " ++ limit_text evidence.passed
