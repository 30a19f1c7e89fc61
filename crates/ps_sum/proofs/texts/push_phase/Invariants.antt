use Rattle.std.proofs.Common.{◌≡◌, ◌++◌, take, codes}
use Rattle.std.specs.String.{string_bytes}
use Rattle.ps_sum.specs.Texts.{joined, term_text}
use Rattle.ps_sum.proofs.texts.push_phase.Given as goal

abbrev pub invariant-loop-place : goal.invariant-loop-place
invariant-loop-place l = string_bytes l.text ≡ string_bytes l.fn.text ++ joined (codes "+") (term_text l.n) (take l.place l.terms)
