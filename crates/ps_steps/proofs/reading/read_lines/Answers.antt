use Rattle.std.proofs.Common.{◌∙◌, ap, nat_eq}
use Rattle.ps_steps.specs.Texts.{lines_of}
use Rattle.ps_steps.proofs.Following.{reads_start, wrong_here, next_reads, next_text, whole_now, few_next, few_equal, ending}
use Rattle.ps_steps.proofs.reading.read_lines.Goals as goal

pub loop-parts-init : goal.loop-parts-init
loop-parts-init c = reads_start c.args.text.now c.new-lines.result.items c.new-lines.ensures.items

pub number-requires : goal.number-requires
number-requires c = few_equal c.args.text.now c.loop-parts.lines.items c.deref.result.now c.loop-parts.rest.now c.loop-parts.invariant c.deref.ensures.value c.requires

pub number-requires-in-None-standing : goal.number-requires-in-None-standing
number-requires-in-None-standing c = few_equal c.args.text.now c.loop-parts.lines.items c.deref-in-None-standing.result.now c.loop-parts.rest.now c.loop-parts.invariant c.deref-in-None-standing.ensures.value c.requires

pub returns-in-None-standing : goal.returns-in-None-standing
returns-in-None-standing c =
    wrong_here c.args.text.now c.loop-parts.lines.items c.deref-in-None-standing.result.now c.loop-parts.rest.now c.in-Some.parts.piece.now c.in-Some.parts.rest.now c.is_empty.result c.number-in-None-standing.result c.loop-parts.invariant c.in-Some.ensures (c.is_empty.ensures ∙ ap (λ n. nat_eq n 0) c.loop-parts.lines.ok.0) c.in-None-standing.ensures
    c.deref-in-None-standing.ensures.value c.number-in-None-standing.ensures

pub ended-requires-clause-form : goal.ended-requires-clause-form
ended-requires-clause-form c =
    whole_now c.args.text.now c.loop-parts.lines.items c.push.new.self.items c.loop-parts.rest.now c.in-Some.parts.piece.now c.is_empty.result c.is_end.result c.in-Some-standing.line c.loop-parts.invariant (c.is_empty.ensures ∙ ap (λ n. nat_eq n 0) c.loop-parts.lines.ok.0) c.in-Some-standing.ensures c.in_ok-push.ensures.items c.is_end.ensures c.if-is_end.true

pub ended-requires-clause-few : goal.ended-requires-clause-few
ended-requires-clause-few c =
    few_next c.args.text.now c.loop-parts.lines.items c.push.new.self.items c.loop-parts.rest.now c.in-Some.parts.piece.now c.in-Some.parts.rest.now c.is_empty.result c.in-Some-standing.line c.loop-parts.invariant c.in-Some.ensures c.in-Some-standing.ensures c.in_ok-push.ensures.items c.requires

pub returns-then-is_end : goal.returns-then-is_end
returns-then-is_end c =
    ending c.args.text.now c.push.new.self.items c.in-Some.parts.rest.now (lines_of c.ended.result)
    (whole_now c.args.text.now c.loop-parts.lines.items c.push.new.self.items c.loop-parts.rest.now c.in-Some.parts.piece.now c.is_empty.result c.is_end.result c.in-Some-standing.line c.loop-parts.invariant (c.is_empty.ensures ∙ ap (λ n. nat_eq n 0) c.loop-parts.lines.ok.0) c.in-Some-standing.ensures c.in_ok-push.ensures.items c.is_end.ensures c.if-is_end.true)
    (next_text c.args.text.now c.loop-parts.lines.items c.push.new.self.items c.loop-parts.rest.now c.in-Some.parts.piece.now c.in-Some.parts.rest.now c.is_empty.result c.in-Some-standing.line c.loop-parts.invariant c.in-Some.ensures c.in-Some-standing.ensures c.in_ok-push.ensures.items) c.ended.ensures

pub loop-parts-preserved : goal.loop-parts-preserved
loop-parts-preserved c =
    next_reads c.args.text.now c.loop-parts.lines.items c.push.new.self.items c.loop-parts.rest.now c.in-Some.parts.piece.now c.in-Some.parts.rest.now c.is_empty.result c.is_end.result c.in-Some-standing.line c.loop-parts.invariant c.in-Some.ensures (c.is_empty.ensures ∙ ap (λ n. nat_eq n 0) c.loop-parts.lines.ok.0) c.in-Some-standing.ensures c.in_ok-push.ensures.items c.is_end.ensures c.if-is_end.false
