-- Sums over views, and what a change of one view leaves of them.
use Rattle.std.proofs.Common.{◌≡◌, ℕ, zero, suc, ◌+◌, ◌-◌, ◌≤◌, true, false, cond, List, [], ◌∷◌, ◌++◌, length, set, Option, Some, None, sym, ap, arith}
use mathlib.Core.Option.{some, some-injective, some-ne-none}
use lib.ListN.{get_elem?}
use Rattle.ps_desk.specs.declared.view.View.{View}
use Rattle.ps_desk.specs.declared.view.Ended.{Ended}
use Rattle.ps_desk.specs.Rule.{total, refusal, refusals, parts}

module _ {V : Type 0} (f : V → ℕ) where
  pub total_set : (l : List V) (i : ℕ) (v w : V) → get_elem? l i ≡ some v → total f (set l i w) + f v ≡ total f l + f w
  total_set [] i v w e = absurd (some-ne-none v (sym e))
  total_set (x ∷ xs) zero v w e = let same : f x ≡ f v = ap f (some-injective x v e) in omega arith
  total_set (x ∷ xs) (suc i) v w e = let rest = total_set xs i v w e in omega arith

  pub total_append : (l m : List V) → total f (l ++ m) ≡ total f l + total f m
  total_append [] m = omega arith
  total_append (x ∷ xs) m = let rest = total_append xs m in omega arith

module _ {V : Type 0} (f g : V → ℕ) (below : (v : V) → f v ≤ g v) where
  pub total_below : (l : List V) → total f l ≤ total g l
  total_below [] = omega arith
  total_below (x ∷ xs) = let one = below x in let rest = total_below xs in omega arith

refusal_below : (r : Option ℕ) → refusal r ≤ 1
refusal_below None = omega arith
refusal_below (Some t) = omega arith

ended_below : {C R : Type 0} (es : List (Ended C R)) → total (λ e. refusal e.refused) es ≤ length es
ended_below [] = omega arith
ended_below (e ∷ es) = let one = refusal_below e.refused in let rest = ended_below es in omega arith

-- A view names at most as many refused tickets as numbers.
pub refusals_below : {C R : Type 0} (v : View C R) → refusals v ≤ parts v
refusals_below v =
    let own = refusal_below v.refused in
    let others = ended_below v.ended in
    elim v.live as (λ l. cond l (refusal v.refused + total (λ e. refusal e.refused) v.ended) 0 ≤ cond l (1 + (v.end - v.next) + length v.ended) 0)
    [ true ↦ omega arith | false ↦ omega arith ]
