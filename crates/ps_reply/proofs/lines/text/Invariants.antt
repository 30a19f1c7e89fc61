use Rattle.std.proofs.Common.{◌≡◌, take}
use Rattle.ps_reply.specs.Lines.{journal_text}
use Rattle.ps_reply.proofs.lines.text.Given as goal

abbrev pub invariant-loop-entry : goal.invariant-loop-entry
invariant-loop-entry l = l.text.items ≡ journal_text (take l.entry-index l.fn.journal)
