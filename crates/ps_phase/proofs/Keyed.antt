-- Terms that were sorted by the keys of their monomials.
use Rattle.std.proofs.Common.{◌≡◌, ◌+◌, ap, sym, ◌∙◌, arith, ◌≤◌, List, length, get_or, nat_cmp, false}
use Rattle.std.specs.Ordering.{is_lt}
use Rattle.std.specs.Prelude.{IsPermutation, IsSortedByKey}
use Rattle.std.proofs.lemmas.List.Sorted.{All-permutation}
use Rattle.ps_mono.specs.Sets.{mono_cmp, IsVarSet}
use Rattle.ps_mono.specs.Keys.{order_key}
use Rattle.ps_mono.proofs.KeyOrders.{key_cmp}
use Rattle.ps_phase.specs.declared.terms.Term.{Term}
use Rattle.ps_phase.specs.Short.{AllShort}

in_order : (x y : Term) → IsVarSet x.mono × (length x.mono ≤ 6) → IsVarSet y.mono × (length y.mono ≤ 6) → is_lt (nat_cmp (order_key x.mono) (order_key y.mono)) ≡ false → is_lt (mono_cmp x.mono y.mono) ≡ false
in_order x y a b e = ap is_lt (sym (key_cmp x.mono y.mono a.1 b.1 a.0 b.0)) ∙ e

pub sorted_keys : (xs ys : List Term) → IsPermutation xs ys → AllShort xs → IsSortedByKey (λ (t : Term). order_key t.mono) nat_cmp ys → IsSortedByKey (λ (t : Term). t.mono) mono_cmp ys
sorted_keys xs ys p s h k d a b =
    let all : AllShort ys = All-permutation (λ (t : Term). IsVarSet t.mono × (length t.mono ≤ 6)) xs ys p s in
    in_order (get_or ys (k + 1) d) (get_or ys k d) (all (k + 1) d (omega arith)) (all k d (omega arith)) (h k d a b)
