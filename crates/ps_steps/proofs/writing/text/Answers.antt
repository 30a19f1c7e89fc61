use Rattle.std.proofs.Common.{◌∙◌, ap, arith, refl}
use Rattle.std.specs.String.{string_bytes}
use Rattle.ps_steps.specs.Texts.{lines_text}
use Rattle.ps_steps.proofs.Written.{write_start, write_next, write_all, bytes_are}
use Rattle.ps_steps.proofs.writing.text.Goals as goal

pub loop-line-init : goal.loop-line-init
loop-line-init c = c.new-text.ensures.bytes ∙ write_start c.as_slice-lines.result.now

pub loop-line-preserved : goal.loop-line-preserved
loop-line-preserved c = write_next c.as_slice-lines.result.now c.loop-line.line-index _ _ (string_bytes c.loop-line.text) (string_bytes c.push_line.new.text) c.loop-line-test.true c.in_ok-push_line.ensures refl c.loop-line.invariant

pub returns-clause-bytes : goal.returns-clause-bytes
returns-clause-bytes c = bytes_are c.into_bytes.result c.loop-line.text c.into_bytes.ensures.value ∙ write_all c.as_slice-lines.result.now c.loop-line.line-index (string_bytes c.loop-line.text) (omega arith) c.loop-line.invariant ∙ ap lines_text c.as_slice-lines.ensures

pub returns-clause-reads : goal.returns-clause-reads
returns-clause-reads c = record {
  form = c.args.derivation.now.form;
  spelled = bytes_are c.into_bytes.result c.loop-line.text c.into_bytes.ensures.value ∙ write_all c.as_slice-lines.result.now c.loop-line.line-index (string_bytes c.loop-line.text) (omega arith) c.loop-line.invariant ∙ ap lines_text c.as_slice-lines.ensures;
}
