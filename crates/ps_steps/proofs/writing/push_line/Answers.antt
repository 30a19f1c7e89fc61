use Rattle.std.proofs.Common.{◌∙◌, ap, true, false}
use Rattle.std.proofs.lemmas.Result.{on_ok_weaker}
use Rattle.std.specs.String.{string_bytes}
use Rattle.ps_steps.specs.declared.lines.Line.TheVariants.{Id, Join, Rewrite, Overlap, End}
use Rattle.ps_steps.proofs.Written.{pushed, as_line, head_written, id_a_written, id_b_written, join_written, overlap_written, end_written, rewrite_written}
use Rattle.ps_steps.proofs.writing.push_line.Goals as goal

pub returns-in-Head : goal.returns-in-Head
returns-in-Head c = on_ok_weaker c.write.result (head_written c.in-Head.form (string_bytes c.args.text.now) (string_bytes c.write.new.self) c.args.line c.in-Head.is) c.write.ensures.bytes

pub returns-in-Id-true : goal.returns-in-Id-true
returns-in-Id-true c =
    let old = string_bytes c.args.text.now in let new = string_bytes c.push_str.new.self in
    on_ok_weaker c.push_str.result (λ e. as_line c.args.line (Id true) old new (c.in-Id-true.is ∙ ap Id c.in-Id-true.b-test) (id_b_written old new e)) (pushed c.push_str.result _ _ _ c.push_str.ensures.bytes)

pub returns-in-Id-false : goal.returns-in-Id-false
returns-in-Id-false c =
    let old = string_bytes c.args.text.now in let new = string_bytes c.push_str-in-Id-false.new.self in
    on_ok_weaker c.push_str-in-Id-false.result (λ e. as_line c.args.line (Id false) old new (c.in-Id-false.is ∙ ap Id c.in-Id-false.b-test) (id_a_written old new e)) (pushed c.push_str-in-Id-false.result _ _ _ c.push_str-in-Id-false.ensures.bytes)

pub returns-in-Join : goal.returns-in-Join
returns-in-Join c =
    let old = string_bytes c.args.text.now in let new = string_bytes c.push_str-in-Join.new.self in
    on_ok_weaker c.push_str-in-Join.result (λ e. as_line c.args.line Join old new c.in-Join.is (join_written old new e)) (pushed c.push_str-in-Join.result _ _ _ c.push_str-in-Join.ensures.bytes)

pub returns-in-Rewrite : goal.returns-in-Rewrite
returns-in-Rewrite c =
    let old = string_bytes c.args.text.now in let new = string_bytes c.push_step.new.text in
    on_ok_weaker c.push_step.result (λ e. as_line c.args.line (Rewrite c.in-Rewrite.step) old new c.in-Rewrite.is (rewrite_written c.in-Rewrite.step old new e)) c.push_step.ensures

pub returns-in-Overlap : goal.returns-in-Overlap
returns-in-Overlap c =
    let old = string_bytes c.args.text.now in let new = string_bytes c.push_str-in-Overlap.new.self in
    on_ok_weaker c.push_str-in-Overlap.result (λ e. as_line c.args.line Overlap old new c.in-Overlap.is (overlap_written old new e)) (pushed c.push_str-in-Overlap.result _ _ _ c.push_str-in-Overlap.ensures.bytes)

pub returns-in-End : goal.returns-in-End
returns-in-End c =
    let old = string_bytes c.args.text.now in let new = string_bytes c.push_str-in-End.new.self in
    on_ok_weaker c.push_str-in-End.result (λ e. as_line c.args.line End old new c.in-End.is (end_written old new e)) (pushed c.push_str-in-End.result _ _ _ c.push_str-in-End.ensures.bytes)
