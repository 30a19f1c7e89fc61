use Rattle.std.proofs.Common.{ℕ, ◌+◌, ◌/◌, ◌∙◌, ap, arith}
use Rattle.ps_mono.specs.Sets.{stands}
use Rattle.ps_mono.specs.Names.{opened}
use Rattle.ps_mono.proofs.Calls.{form_vars}
use Rattle.ps_mono.proofs.Closings.{empty_past}
use Rattle.ps_mono.proofs.Pairs.{pair_stands, pair_counted}
use Rattle.ps_mono.proofs.closing.ClosingPair.close.Goals as goal

pub close_twice-requires-clause-empty : goal.close_twice-requires-clause-empty
close_twice-requires-clause-empty c = λ k h. empty_past c.mono.inside.words c.args.mono.now c.args.self.now.names ((c.args.self.now.names + 63) / 64) k c.mono.invariant.fits c.mono.view_is c.requires.below (omega arith) h

pub invariant_of-mono : goal.invariant_of-mono
invariant_of-mono c =
    let s = c.args.self.now in
    pair_counted _ _ _ _ s.low s.last c.mono.invariant c.mono.view_is (let h = s.order in let k = s.before in omega arith) (let h = s.inside in let k = s.small in let l = s.before in omega arith) c.requires.low (ap (λ (v : ℕ). stands v c.args.mono.now) s.before ∙ c.requires.high)
    c.close_twice.ensures.fits c.close_twice.ensures.bits

pub returns-clause-members : goal.returns-clause-members
returns-clause-members c w =
    let s = c.args.self.now in
    pair_stands _ _ _ s.low s.last c.mono.invariant.fits c.mono.view_is (let h = s.order in let k = s.before in omega arith) (let h = s.inside in let k = s.small in let l = s.before in omega arith) c.close_twice.ensures.bits w
    ∙ ap (λ (v : ℕ). stands (opened v (opened s.low w)) c.args.mono.now) s.before

pub returns-clause-form : goal.returns-clause-form
returns-clause-form c = form_vars _
