use Rattle.std.proofs.Common.{◌≡◌, take}
use Rattle.std.specs.String.{string_bytes}
use Rattle.ps_steps.specs.Texts.{lines_text}
use Rattle.ps_steps.proofs.writing.text.Given as goal

abbrev pub invariant-loop-line : goal.invariant-loop-line
invariant-loop-line l = string_bytes l.text ≡ lines_text (take l.line-index l.lines)
