-- The text of replies.
use Rattle.std.specs.Prelude.{ℕ, Bool, true, false, List, [], ◌∷◌, ◌++◌, length, codes, decimal}
use Rattle.std.specs.List.{flat_map}
use Rattle.ps_sum.specs.Texts.{sum_text}
use Rattle.ps_steps.specs.declared.lines.Line.{Line}
use Rattle.ps_steps.specs.Texts.{line_text}
use Rattle.ps_reach.specs.declared.evidence.Body.{Body}
use Rattle.ps_reach.specs.declared.evidence.Body.TheVariants.{Sum, Passed}
use Rattle.ps_reach.specs.declared.judged.Judged.{Judged}
use Rattle.ps_reach.specs.declared.verdict.Verdict.{Verdict}
use Rattle.ps_reach.specs.declared.verdict.Verdict.TheVariants.{Yes}
use Rattle.ps_normal.specs.Deriving.{derivation_of}
use Rattle.ps_journal.specs.declared.replies.Reply.{Reply}
use Rattle.ps_journal.specs.declared.replies.Reply.TheVariants as reply
use Rattle.ps_reply.specs.Names.{fault_name}
use Rattle.ps_reply.specs.Verdicts.{limit_text, verdict_text}
use Rattle.ps_reply.specs.Items.{item_lines}

-- what a version comes to
abbrev pub body_text : Body → List ℕ
body_text (Sum sum) = codes "sum " ++ sum_text sum.value
body_text (Passed evidence) = codes "sum passed " ++ limit_text evidence.passed

-- each line of a derivation, with its LF in front
abbrev pub next_line : Line → List ℕ
next_line l = 10 ∷ line_text l

abbrev pub derivation_lines : List Line → List ℕ
derivation_lines ls = flat_map next_line ls

-- a derivation, with the number of its lines
abbrev pub proof_text : List Line → List ℕ
proof_text ls = codes "proof " ++ decimal (length ls) ++ derivation_lines ls

-- a yes as it stands or with its derivation
abbrev pub answered_yes : Judged → Bool → List ℕ
answered_yes j false = codes "yes"
answered_yes j true = proof_text (derivation_of j)

-- the answer to a question about two versions
abbrev pub answered_with : Judged → Bool → Verdict → List ℕ
answered_with j proof Yes = answered_yes j proof
answered_with j proof v = verdict_text j.first.value.n v

-- Replies that end no command have no text.
abbrev pub reply_text : Reply → List ℕ
reply_text (reply.Opened missing) = codes "opened 1 missing " ++ decimal missing
reply_text (reply.Committed version missing) = codes "committed " ++ decimal version ++ codes " missing " ++ decimal missing
reply_text (reply.Retired claims) = codes "retired"
reply_text (reply.Answered judged proof) = answered_with judged proof judged.verdict
reply_text (reply.Shown items) = codes "shown " ++ decimal (length items) ++ item_lines items
reply_text (reply.SumIs kept) = body_text kept.body
reply_text (reply.NameTaken entry) = codes "name taken " ++ decimal entry
reply_text reply.CircuitsFull = codes "circuits full"
reply_text (reply.Bad name line column) = codes "bad " ++ fault_name name ++ codes " " ++ decimal line ++ codes ":" ++ decimal column
reply_text reply.NoCircuit = codes "no circuit"
reply_text (reply.NoVersion latest) = codes "no version " ++ decimal latest
reply_text (reply.WasRetired entry) = codes "was retired " ++ decimal entry
reply_text reply.IsLatest = codes "latest"
reply_text (reply.Stale latest) = codes "stale " ++ decimal latest
reply_text (reply.Span length) = codes "span " ++ decimal length
reply_text (reply.TooLong length) = codes "too long " ++ decimal length
reply_text reply.Nothing = codes "nothing"
reply_text (reply.Widths first second) = codes "widths " ++ decimal first ++ codes " " ++ decimal second
reply_text reply.NoPin = codes "no pin"
reply_text reply.OtherRun = codes "other run"
reply_text (reply.NoRoom total) = codes "no room " ++ decimal total
reply_text reply.NotCrowded = codes "not crowded"
reply_text (reply.Unsettled missing) = codes "unsettled " ++ decimal missing
reply_text reply.Memory = codes "memory"
reply_text _ = []
