use Rattle.std.proofs.Common.{rules, subst}
use Rattle.std.proofs.lemmas.Fn.{always_returns_same}
use Rattle.ps_mono.specs.Keys.{order_key}
use Rattle.ps_phase.specs.Short.{AllShort}
use Rattle.ps_phase.proofs.Keyed.{sorted_keys}
use Rattle.ps_phase.proofs.sorting.sorted_by_keys.Goals as goal

pub returns-in-Ok-clause-sorted : goal.returns-in-Ok-clause-sorted
returns-in-Ok-clause-sorted c = λ t. sorted_keys _ _ c.sort_by_cached_key.ensures.permutation (subst AllShort c.deref.ensures.value (c.are_short.ensures c.if-not-are_short.false))
    (c.in-Ok.ensures.sorted (λ t. order_key t.mono) (always_returns_same _ _ _ (λ a r q k. search rules)))
