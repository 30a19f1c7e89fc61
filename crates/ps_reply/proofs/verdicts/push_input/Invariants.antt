use Rattle.std.proofs.Common.{◌≡◌, ◌++◌}
use Rattle.ps_reply.specs.Verdicts.{input_text}
use Rattle.ps_reply.proofs.verdicts.push_input.Given as goal

abbrev pub invariant-loop-v : goal.invariant-loop-v
invariant-loop-v l = l.text.items ≡ l.fn.text.items ++ input_text l.v l.at
