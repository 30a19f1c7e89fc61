use Rattle.std.proofs.Common.{◌∙◌, ap, length}
use Rattle.ps_mono.proofs.Calls.{form_is}
use Rattle.ps_mono.proofs.LowOrders.{low_key_is, low_key_cmp}
use Rattle.ps_mono.proofs.mono.Mono.low_key.Goals as goal

pub returns-clause-value : goal.returns-clause-value
returns-clause-value c = low_key_is c.self.inside.words _ c.self.inside.degree _ _ _ _ _ c.self.view_is (c.self.invariant.counted ∙ ap length c.self.view_is) (form_is _ _ c.self.view_is) c.requires c.mirrored-first.ensures c.mirrored.ensures c.from.ensures c.from-2.ensures c.from-3.ensures

pub returns-clause-order : goal.returns-clause-order
returns-clause-order c = λ m s h. low_key_cmp _ _ m (low_key_is c.self.inside.words _ c.self.inside.degree _ _ _ _ _ c.self.view_is (c.self.invariant.counted ∙ ap length c.self.view_is) (form_is _ _ c.self.view_is) c.requires c.mirrored-first.ensures c.mirrored.ensures c.from.ensures c.from-2.ensures c.from-3.ensures) (form_is _ _ c.self.view_is) c.requires s h
