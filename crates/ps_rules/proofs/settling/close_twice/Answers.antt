use Rattle.std.proofs.Common.{◌∙◌, sym}
use Rattle.ps_mono.specs.Lists.{same_set}
use Rattle.ps_rules.specs.Closing.{closed_mono}
use Rattle.ps_rules.proofs.Twice.{stands_twice, set_twice}
use Rattle.ps_rules.proofs.settling.close_twice.Goals as goal

pub returns : goal.returns
returns c =
    let p = c.args.pair.now in
    same_set c.close.new.mono (closed_mono p.low (closed_mono p.high c.args.mono.now)) c.close.ensures.form (set_twice p.low p.high c.args.mono.now p.order c.requires.low c.requires.high c.known.ensures)
    (λ w. c.close.ensures.members w ∙ sym (stands_twice p.low p.high w c.args.mono.now p.order c.requires.low c.requires.high))
