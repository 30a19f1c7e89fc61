use Rattle.ps_local.proofs.Parting.{turned_back_map}
use Rattle.ps_local.proofs.middles.turned_back.Goals as goal

pub returns : goal.returns
returns c = turned_back_map c.args.items.items c.reverse.new.self.items c.from_vec.result c.from_vec.ensures c.reverse.ensures.items
