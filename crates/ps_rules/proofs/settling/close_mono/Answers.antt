use Rattle.std.proofs.Common.{◌∙◌, sym}
use Rattle.ps_mono.specs.Lists.{same_set}
use Rattle.ps_rules.specs.Closing.{closed_mono}
use Rattle.ps_rules.proofs.Closes.{stands_closed, set_closed}
use Rattle.ps_rules.proofs.settling.close_mono.Goals as goal

pub returns : goal.returns
returns c = same_set c.close.new.mono (closed_mono c.args.closing.gone c.args.mono.now) c.close.ensures.form (set_closed c.args.closing.gone c.args.mono.now c.requires.apart c.known.ensures)
    (λ w. c.close.ensures.members w ∙ sym (stands_closed c.args.closing.gone w c.args.mono.now c.requires.apart))
