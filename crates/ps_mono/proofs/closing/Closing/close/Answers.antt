use Rattle.std.proofs.Common.{◌+◌, ◌/◌, arith}
use Rattle.ps_mono.proofs.Calls.{form_vars}
use Rattle.ps_mono.proofs.Closings.{empty_past, closed_stands, closed_counted}
use Rattle.ps_mono.proofs.closing.Closing.close.Goals as goal

pub close_words-requires-clause-empty : goal.close_words-requires-clause-empty
close_words-requires-clause-empty c = λ k h. empty_past c.mono.inside.words c.args.mono.now c.args.self.names ((c.args.self.names + 63) / 64) k c.mono.invariant.fits c.mono.view_is c.requires.below (omega arith) h

pub invariant_of-mono : goal.invariant_of-mono
invariant_of-mono c = closed_counted _ _ _ _ c.args.self.gone c.mono.invariant c.mono.view_is (let h = c.args.self.inside in let k = c.args.self.small in omega arith) c.requires.apart c.close_words.ensures.fits c.close_words.ensures.bits

pub returns-clause-members : goal.returns-clause-members
returns-clause-members c = closed_stands _ _ _ c.args.self.gone c.mono.invariant.fits c.mono.view_is (let h = c.args.self.inside in let k = c.args.self.small in omega arith) c.close_words.ensures.bits

pub returns-clause-form : goal.returns-clause-form
returns-clause-form c = form_vars _
