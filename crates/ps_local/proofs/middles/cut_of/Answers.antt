use Rattle.ps_local.proofs.Parting.{cut_made}
use Rattle.ps_local.proofs.middles.cut_of.Goals as goal

pub returns : goal.returns
returns c =
    let f = c.in_ok-fronts.ensures in
    let b = c.in_ok-backs.ensures in
    cut_made c.as_slice-first.result.now c.as_slice-second.result.now c.in_ok-fronts.fronts.first.items c.in_ok-fronts.fronts.second.items c.deref.result.now c.deref-2.result.now c.turned-before.result.items
    c.turned-behind.result.items c.deref-3.result.now c.deref-4.result.now c.in_ok-backs.backs.first.items c.in_ok-backs.backs.second.items c.args.first.now c.args.second.now c.common_front-front.result
    c.in_ok-fronts.fronts.count c.common_back-back.result c.in_ok-backs.backs.count c.turned_back.result c.turned_back-2.result c.as_slice-first.ensures.value c.as_slice-second.ensures.value c.common_front-front.ensures f.split
    c.deref.ensures.value c.deref-2.ensures.value c.common_back-back.ensures c.turned-before.ensures c.turned-behind.ensures c.deref-3.ensures.value c.deref-4.ensures.value b.split c.turned_back.ensures c.turned_back-2.ensures
