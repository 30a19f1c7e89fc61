use Rattle.std.proofs.Common.{arith, refl, ◌∙◌, ap}
use Rattle.ps_mono.specs.Keys.{order_key}
use Rattle.ps_mono.proofs.Calls.{form_is}
use Rattle.ps_mono.proofs.KeyOrders.{key_of, key_is, place_start, place_next, place_end, place_fits}
use Rattle.ps_mono.proofs.mono.Mono.order_key.Goals as goal

pub returns-then-self-gt-MOST_IN_KEY-clause-value :
    goal.returns-then-self-gt-MOST_IN_KEY-clause-value
returns-then-self-gt-MOST_IN_KEY-clause-value c = key_of _ _ _ c.self.view_is c.self.invariant.counted (omega (arith, c.if-self-gt-MOST_IN_KEY.true))

pub loop-i-init : goal.loop-i-init
loop-i-init c = place_start _ _ _ refl (c.from-key.ensures ∙ c.self.invariant.counted) (omega (arith, c.from-key.ensures, c.if-self-gt-MOST_IN_KEY.false))

pub with_word-key-requires : goal.with_word-key-requires
with_word-key-requires c = place_fits c.self.inside.words _ c.loop-i.i c.loop-i.key c.loop-i-test.true (omega (arith, c.self.invariant.counted, c.if-self-gt-MOST_IN_KEY.false)) (form_is _ _ refl) c.loop-i.invariant

pub loop-i-preserved : goal.loop-i-preserved
loop-i-preserved c = place_next c.self.inside.words c.loop-i.i c.loop-i.key _ _ c.loop-i-test.true c.with_word-key.ensures c.loop-i.invariant

pub returns-clause-value : goal.returns-clause-value
returns-clause-value c = place_end c.self.inside.words c.loop-i.i c.loop-i.key _ c.loop-i-test.false c.loop-i.invariant ∙ ap order_key c.self.view_is

pub returns-clause-order : goal.returns-clause-order
returns-clause-order c = λ h m s l. key_is _ _ m (place_end c.self.inside.words c.loop-i.i c.loop-i.key _ c.loop-i-test.false c.loop-i.invariant ∙ ap order_key c.self.view_is) h l (form_is _ _ c.self.view_is) s
