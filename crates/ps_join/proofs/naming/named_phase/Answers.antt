use Rattle.ps_join.proofs.NamedParts.{terms_start, terms_more, terms_named, terms_free, term_below}
use Rattle.ps_join.proofs.naming.named_phase.Goals as goal

pub loop-term-init : goal.loop-term-init
loop-term-init c = terms_start c.args.names.now.n c.args.names.now.m1 c.args.names.now.m2 _ _ c.new-terms.ensures.items

pub named_mono-requires : goal.named_mono-requires
named_mono-requires c = term_below _ c.args.poly.now c.loop-term.term-index _ c.term-item.result c.terms-term-items.ensures.value c.loop-term-test.true c.term-item.is c.requires

pub loop-term-preserved : goal.loop-term-preserved
loop-term-preserved c = terms_more c.args.names.now.n c.args.names.now.m1 c.args.names.now.m2 _ c.loop-term.terms.items _ c.loop-term.term-index c.term-item.result c.named_mono.result c.loop-term-test.true c.term-item.is c.named_mono.ensures c.in_ok-push.ensures.items c.loop-term.invariant

pub returns-clause-named : goal.returns-clause-named
returns-clause-named c = terms_named c.args.names.now.n c.args.names.now.m1 c.args.names.now.m2 c.args.poly.now _ c.loop-term.terms.items _ c.loop-term.term-index c.terms-term-items.ensures.value c.loop-term-test.false c.loop-term.invariant c.in_ok-named.ensures.value c.in_ok-named.ensures.form

pub returns-clause-variables : goal.returns-clause-variables
returns-clause-variables c = terms_free c.args.names.now.n c.args.names.now.m1 c.args.names.now.m2 c.args.poly.now _ c.loop-term.terms.items _ c.loop-term.term-index c.terms-term-items.ensures.value c.loop-term.invariant c.in_ok-named.ensures.variables
