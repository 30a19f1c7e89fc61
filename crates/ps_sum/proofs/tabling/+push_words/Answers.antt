use Rattle.std.proofs.Common.{◌/◌}
use Rattle.std.proofs.lemmas.Result.{on_ok_weaker}
use Rattle.ps_sum.proofs.TableWorths.{words_value, words_free, word_value, word_free, no_words, half_words}
use Rattle.ps_sum.proofs.tabling.+push_words.Goals as goal

pub returns-then-is_zero-clause-value : goal.returns-then-is_zero-clause-value
returns-then-is_zero-clause-value t c = no_words c.args.base.now c.args.names.now c.args.table.now c.args.from c.args.size c.args.out.now.items c.requires.size (c.is_zero.ensures c.if-is_zero.true)

pub returns-in_ok-push-in-None-clause-value : goal.returns-in_ok-push-in-None-clause-value
returns-in_ok-push-in-None-clause-value t c = word_value c.args.base.now c.args.names.now c.args.table.now c.args.from c.of.result c.args.out.now.items _ c.in-None.ensures.cases c.of.ensures c.in_ok-push-in-None.ensures.items

pub returns-in_ok-push-in-None-clause-variables : goal.returns-in_ok-push-in-None-clause-variables
returns-in_ok-push-in-None-clause-variables t c v s n o = word_free c.args.base.now c.of.result c.args.out.now.items _ c.in_ok-push-in-None.ensures.items v s o

pub returns-in_ok-push_words-in-Some-clause-value : goal.returns-in_ok-push_words-in-Some-clause-value
returns-in_ok-push_words-in-Some-clause-value t c = on_ok_weaker c.push_words-in-Some.result
    (λ g. words_value c.args.base.now c.union-more.result c.var.result c.args.names.now c.in-Some.rest.now c.args.table.now c.in-Some.name.now c.args.from (c.args.size / 2) c.args.out.now.items c.push_words.new.out.items c.push_words-in-Some.new.out.items
    c.in-Some.ensures.cases.0 (half_words c.args.size c.in-Some.name.now c.args.names.now c.in-Some.rest.now c.requires.size c.in-Some.ensures.cases.0) c.var.ensures c.union-more.ensures.members c.in_ok-push_words-in-Some.ensures.value g)
    c.push_words-in-Some.ensures.value

pub returns-in_ok-push_words-in-Some-clause-variables : goal.returns-in_ok-push_words-in-Some-clause-variables
returns-in_ok-push_words-in-Some-clause-variables t c = on_ok_weaker c.push_words-in-Some.result
    (λ g. words_free c.args.base.now c.union-more.result c.var.result c.args.names.now c.in-Some.rest.now c.in-Some.name.now c.args.out.now.items c.push_words.new.out.items c.push_words-in-Some.new.out.items
    c.in-Some.ensures.cases.0 c.var.ensures c.union-more.ensures.members c.in_ok-push_words-in-Some.ensures.variables g)
    c.push_words-in-Some.ensures.variables
