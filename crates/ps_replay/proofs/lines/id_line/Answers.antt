use Rattle.ps_replay.proofs.Stacking.{ident_does}
use Rattle.ps_replay.proofs.lines.id_line.Goals as goal

pub returns : goal.returns
returns c = λ A B. ident_does c.args.n A B c.args.b c.in_ok-sum.sum c.args.held.now.items c.push.new.self.items c.in_ok-sum.ensures.sum c.in_ok-push.ensures.items
