-- What is ready may be stored at.
use Rattle.std.proofs.Common.{◌≡◌, ℕ, ◌<◌, List, length, refl, sym, ap, ◌∙◌, Bool, true, false, not, ◌&&◌}
use Rattle.std.specs.Prelude.{Option, Some, None, IfSome, is_none}
use Rattle.seg_tree.specs.Trees.{Tree, leaf, branch, name_of}
use Rattle.seg_tree.specs.Table.{tree}
use Rattle.ps_versions.specs.Held.{Held}
use Rattle.ps_versions.specs.Records.{record_at, HasSumIn, HasSumAt, ChildrenHaveSums}
use Rattle.ps_versions.specs.Questions.{is_sum, kept_by, lacks, lacks_by, has_sum, sides_have_sums, is_ready, IsStorable, FindsStorable}
use Rattle.ps_versions.specs.Walks.{start, outcome}
use Rattle.ps_versions.specs.declared.walks.Walk.{Walk}
use Rattle.ps_versions.specs.declared.walks.Walk.TheVariants.{Seeking, Looking, Found}

and_both : (a b : Bool) → (a && b) ≡ true → (a ≡ true) × (b ≡ true)
and_both true true e = (refl, refl)
and_both true false e = cc
and_both false b e = cc

not_so : (b : Bool) → not b ≡ true → b ≡ false
not_so true e = cc
not_so false e = refl

none_of : {A : Type 0} (o : Option A) → is_none o ≡ true → o ≡ None
none_of None e = refl
none_of (Some x) e = cc

module _ {R : Type 0} (passed : R → Bool) where
  sum_in : (o : Option (ℕ × R)) → is_sum passed o ≡ true → HasSumIn passed o
  sum_in None e = cc
  sum_in (Some r) e = not_so (passed r.1) e

  sum_at : (kept : List (Option (ℕ × R))) (name : Option ℕ) → is_sum passed (kept_by kept name) ≡ true → HasSumAt passed kept name
  sum_at kept None e = cc
  sum_at kept (Some k) e = sum_in (record_at kept k) e

  sides : (kept : List (Option (ℕ × R))) (t : Tree ℕ) → sides_have_sums kept passed t ≡ true → ChildrenHaveSums passed kept t
  sides kept (leaf name items) e = tt
  sides kept (branch name left right) e =
      let both = and_both (has_sum kept passed left) (has_sum kept passed right) e in
      (sum_at kept (name_of left) both.0, sum_at kept (name_of right) both.1)

  pub ready_storable : (h : Held R) (k : ℕ) → k < length h.nodes → name_of (tree h.nodes k) ≡ Some k → is_ready h.kept passed (tree h.nodes k) ≡ true → IsStorable passed h k
  ready_storable h k near name e =
      let both = and_both (lacks h.kept (tree h.nodes k)) (sides_have_sums h.kept passed (tree h.nodes k)) e in
      record { there = near; free = none_of (record_at h.kept k) (ap (lacks_by h.kept) (sym name) ∙ both.0); ready = sides h.kept (tree h.nodes k) both.1 }

  pub start_storable : (h : Held R) (after : Option ℕ) → FindsStorable passed h (start after)
  start_storable h None = tt
  start_storable h (Some k) = tt

  pub found_storable : (h : Held R) (w : Walk) → FindsStorable passed h w → IfSome (outcome w) (IsStorable passed h)
  found_storable h (Seeking k) s = tt
  found_storable h Looking s = tt
  found_storable h (Found k) s = s
