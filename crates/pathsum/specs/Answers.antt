-- What the program can answer: the exit status and the bytes of each answer.
use Rattle.std.specs.Prelude.{ℕ, zero, suc, List, ◌++◌, codes, decimal, map}
use Rattle.ps_overlap.specs.Overlapping.{point}
use Rattle.ps_sum.specs.declared.faults.What.{What}
use Rattle.ps_sum.specs.declared.faults.What.TheVariants.{Terms, Variables}
use Rattle.ps_sum.specs.declared.faults.Passed.{Passed as Limit}
use Rattle.ps_sum.specs.Texts.{sum_text, fraction_text}
use Rattle.ps_steps.specs.Texts.{derivation_text}
use Rattle.ps_replay.specs.declared.replayed.Why.{Why}
use Rattle.ps_replay.specs.declared.replayed.Why.TheVariants as why
use Rattle.pathsum.specs.declared.answer.Answer.{Answer}
use Rattle.pathsum.specs.declared.answer.Answer.TheVariants.{Yes, Proof, YesPhase, No, NoPair, NoBehind, Stuck, Passed, Accepted, Rejected, Left, Refused, Words, Read, TooLong, Memory}
use Rattle.pathsum.specs.Inputs.{bit_code}
use Rattle.pathsum.specs.Names.{refusal_name}

abbrev pub status_of : Answer → ℕ
status_of Yes = 0
status_of (Proof derivation) = 0
status_of (YesPhase phase) = 0
status_of (No input) = 1
status_of (NoPair first second) = 1
status_of (NoBehind input front) = 1
status_of (Stuck sum) = 2
status_of (Passed limit) = 2
status_of Accepted = 0
status_of (Rejected line why) = 1
status_of (Left sum) = 2
status_of (Refused why line column) = 65
status_of Words = 64
status_of Read = 66
status_of TooLong = 68
status_of Memory = 70

-- a phase as a part of a turn: `0`, or a fraction in lowest terms
abbrev pub turn_text : ℕ → List ℕ
turn_text zero = codes "0"
turn_text (suc units) = fraction_text (suc units)

abbrev pub what_words : What → List ℕ
what_words Terms = codes "unknown passed terms "
what_words Variables = codes "unknown passed variables "

abbrev pub limit_words : Limit → List ℕ
limit_words limit = what_words limit.what ++ decimal limit.count

abbrev pub why_words : Why → List ℕ
why_words why.Form = codes "Form"
why_words why.Cut = codes "Cut"
why_words why.Order = codes "Order"
why_words why.Redex = codes "Redex"
why_words why.Limit = codes "Limit"

-- what is printed: a line with its line feed, or the lines of a derivation, each with its own
abbrev pub text_of : Answer → List ℕ
text_of Yes = codes "yes\n"
text_of (Proof derivation) = derivation_text derivation
text_of (YesPhase phase) = codes "yes phase " ++ turn_text phase ++ codes "\n"
text_of (NoPair first second) = codes "no " ++ map bit_code (point first.qubits first.at) ++ codes " " ++ map bit_code (point second.qubits second.at) ++ codes "\n"
text_of (No input) = codes "no " ++ map bit_code (point input.qubits input.at) ++ codes "\n"
text_of (NoBehind input front) = codes "no " ++ map bit_code (point input.qubits input.at) ++ codes " behind " ++ decimal front ++ codes "\n"
text_of (Stuck sum) = codes "unknown stuck " ++ sum_text sum ++ codes "\n"
text_of (Passed limit) = limit_words limit ++ codes "\n"
text_of Accepted = codes "accepted\n"
text_of (Rejected line why) = codes "rejected " ++ decimal line ++ codes " " ++ why_words why ++ codes "\n"
text_of (Left sum) = codes "left " ++ sum_text sum ++ codes "\n"
text_of (Refused why line column) = codes "input " ++ refusal_name why ++ codes " " ++ decimal line ++ codes ":" ++ decimal column ++ codes "\n"
text_of Words = codes "words\n"
text_of Read = codes "read\n"
text_of TooLong = codes "too long\n"
text_of Memory = codes "memory\n"
