use Rattle.std.proofs.Common.{◌≡◌, ◌∙◌, ap, length, vec_items}
use Rattle.std.specs.String.{string_bytes}
use Rattle.ps_steps.specs.Texts.{lines_text}
use Rattle.ps_reply.proofs.Derivations.{proof_written}
use Rattle.ps_reply.proofs.replies.proof_text.Goals as goal

pub returns : goal.returns
returns c =
    proof_written _ _ _ _ c.deref.result.now c.without_end.result.now _
    (ap length (c.as_slice.ensures ∙ c.in_ok-derivation.ensures.lines))
    (ap vec_items c.into_bytes-text.ensures.value ∙ c.in_ok-format.ensures.ok)
    (c.deref.ensures.value ∙ c.in_ok-lines.ensures.bytes ∙ ap lines_text c.in_ok-derivation.ensures.lines)
    c.without_end.ensures
    c.in_ok-extend_from_slice.ensures.items
