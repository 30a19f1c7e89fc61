use Rattle.std.proofs.Common.{List, ap, ◌∙◌, ◌-◌, reverse, arith}
use Rattle.std.specs.declared.sync.Arc.{Arc}
use Rattle.std.specs.declared.alloc.Global.{Global}
use Rattle.ps_prim.specs.declared.items.Item.{Item}
use Rattle.ps_local.proofs.Parting.{from_back_map}
use Rattle.ps_local.proofs.middles.turned.Goals as goal

pub returns : goal.returns
returns c = from_back_map c.args.items.items c.reverse.new.self.items (c.len.result - c.args.back) c.args.back (omega arith) (c.reverse.ensures.items ∙ ap (λ (l : List (Arc Item Global)). reverse l) c.truncate.ensures.items)
