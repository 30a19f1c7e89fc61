use Rattle.std.proofs.Common.{◌∙◌}
use Rattle.std.specs.String.{string_bytes}
use Rattle.ps_sum.proofs.Summing.{text_is, bytes_are, shown_head}
use Rattle.ps_sum.proofs.sums.PathSum.text.Goals as goal

pub returns : goal.returns
returns c =
    bytes_are c.into_bytes.result c.push_outs.new.text c.into_bytes.ensures.value
    ∙ text_is c.args.self.now (string_bytes c.in_ok-text.text) (string_bytes c.push_phase.new.text) (string_bytes c.push_str.new.self) (string_bytes c.push_outs.new.text) c.terms.result.now c.polys.result.now (c.in_ok-text.ensures.ok ∙ shown_head c.args.self.now) c.terms.ensures.value c.polys.ensures
    c.in_ok-push_phase.ensures c.in_ok-push_str.ensures.bytes c.in_ok-push_outs.ensures
