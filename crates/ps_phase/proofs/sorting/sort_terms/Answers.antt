use Rattle.std.proofs.Common.{rules}
use Rattle.std.proofs.lemmas.Fn.{always_returns_same}
use Rattle.std.proofs.lemmas.List.Sorted.{ranks_by, IsPermutation-trans}
use Rattle.ps_mono.proofs.Orders.{mono_total}
use Rattle.ps_phase.proofs.Combining.{falls}
use Rattle.ps_phase.proofs.sorting.sort_terms.Goals as goal

pub returns-then-not-sorted_by_keys-clause-permutation :
    goal.returns-then-not-sorted_by_keys-clause-permutation
returns-then-not-sorted_by_keys-clause-permutation c = IsPermutation-trans _ _ _ c.sorted_by_keys.ensures.permutation c.sort_unstable_by.ensures.permutation

pub returns-then-not-sorted_by_keys-clause-sorted :
    goal.returns-then-not-sorted_by_keys-clause-sorted
returns-then-not-sorted_by_keys-clause-sorted c = c.sort_unstable_by.ensures.sorted falls (ranks_by mono_total (λ t. t.mono)) (always_returns_same _ _ _ (λ a r q k. search rules))
