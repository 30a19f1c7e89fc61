use Rattle.std.proofs.Common.{codes}
use Rattle.std.proofs.lemmas.Result.{on_ok_weaker}
use Rattle.std.specs.String.{string_bytes}
use Rattle.ps_sum.specs.Texts.{term_text}
use Rattle.ps_sum.proofs.Texting.{joined_start, term_next, joined_end, some_terms, no_terms, pushed, empty, not_empty}
use Rattle.ps_sum.proofs.texts.push_phase.Goals as goal

pub returns-then-is_empty : goal.returns-then-is_empty
returns-then-is_empty c = on_ok_weaker c.push_str.result (no_terms c.args.n c.args.terms.now (string_bytes c.args.text.now) (string_bytes c.push_str.new.self) (empty _ c.is_empty.ensures c.if-is_empty.true)) (pushed c.push_str.result _ _ _ c.push_str.ensures.bytes)

pub loop-place-init : goal.loop-place-init
loop-place-init c = joined_start (codes "+") (term_text c.args.n) c.args.terms.now (string_bytes c.args.text.now)

pub loop-place-preserved : goal.loop-place-preserved
loop-place-preserved c = term_next c.args.n c.args.terms.now (string_bytes c.args.text.now) (string_bytes c.loop-place.text) (string_bytes c.push_mark.new.text) (string_bytes c.push_fraction.new.text) (string_bytes c.push_factor.new.text) c.loop-place.place c.index-terms-place.result c.loop-place-test.true
    c.index-terms-place.is c.in_ok-push_mark.ensures c.in_ok-push_fraction.ensures c.in_ok-push_factor.ensures c.loop-place.invariant

pub returns : goal.returns
returns c = some_terms c.args.n c.args.terms.now (string_bytes c.args.text.now) (string_bytes c.loop-place.text) (not_empty _ c.is_empty.ensures c.if-is_empty.false) (joined_end (codes "+") (term_text c.args.n) c.args.terms.now (string_bytes c.args.text.now) (string_bytes c.loop-place.text) c.loop-place.place c.loop-place-test.false c.loop-place.invariant)
