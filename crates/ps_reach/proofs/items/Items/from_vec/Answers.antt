use Rattle.ps_reach.proofs.Itemising.{all_items}
use Rattle.ps_reach.proofs.items.Items.from_vec.Goals as goal

pub invariant_of-result : goal.invariant_of-result
invariant_of-result c = all_items c.args.list.items
