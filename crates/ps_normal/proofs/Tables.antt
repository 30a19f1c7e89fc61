-- Leaves that are kept in a table.
use Rattle.std.proofs.Common.{◌≡◌, ℕ, zero, suc, ◌<◌, ap, sym, ◌∙◌, subst, arith, Option, Some, None, List, [], ◌∷◌, ◌++◌, length, set, get_or}
use Rattle.std.specs.declared.boxed.Box.{Box}
use Rattle.std.specs.declared.alloc.Global.{Global}
use Rattle.ps_prim.specs.declared.prims.Primitive.{Primitive as Prim}
use Rattle.ps_sum.specs.declared.sums.PathSum.{PathSum}
use Rattle.ps_rules.specs.declared.steps.Step.{Step}
use Rattle.ps_rules.specs.declared.steps.Move.{Move}
use Rattle.ps_rules.specs.declared.steps.Move.TheVariants.{Leaf}
use Rattle.ps_reach.specs.Reductions.{normal, ReducesTo}
use Rattle.ps_reach.specs.Fillings.{kept, Leaves, leaf_reduces, rewrites, with_leaf}
use Rattle.ps_normal.specs.declared.kept.Kept.{Kept}
use Rattle.ps_normal.specs.declared.parts.Part.{Part}
use Rattle.ps_normal.specs.declared.parts.Part.TheVariants as part
use Rattle.ps_normal.specs.Pieces.{Usable, UsablePart}
use Rattle.ps_normal.specs.Keeping.{IsReducedLeaf, IsKept, IsSlot, IsTable}

-- ---- slots
table_get : (n : ℕ) (slots : List (Option (Box Kept Global))) (i : ℕ) (slot : Option (Box Kept Global)) → IsTable n slots → i < length slots → slot ≡ get_or slots i slot → IsSlot n slot
table_get n [] i slot t h e = absurd (omega arith)
table_get n (s ∷ slots) zero slot t h e = subst (IsSlot n) (sym e) t.0
table_get n (s ∷ slots) (suc i) slot t h e = table_get n slots i slot t.1 (omega arith) e

pub kept_found : (n : ℕ) (slots : List (Option (Box Kept Global))) (i : ℕ) (slot : Option (Box Kept Global)) (b : Box Kept Global) (g : Prim) (k q : Kept) → IsTable n slots → i < length slots → slot ≡ get_or slots i slot → slot ≡ Some b → k ≡ b.value → q ≡ b.value → q.prim ≡ g
    → IsKept n g k
kept_found n slots i slot b g k q t h e s ek eq p =
    let w : IsKept n b.value.prim b.value = subst (IsSlot n) s (table_get n slots i slot t h e) in
    subst (IsKept n g) (sym ek) (subst (λ x. IsKept n x b.value) (sym (ap (λ (x : Kept). x.prim) eq) ∙ p) w)

pub table_push : (n : ℕ) (slots : List (Option (Box Kept Global))) → IsTable n slots → IsTable n (slots ++ None ∷ [])
table_push n [] t = (tt, tt)
table_push n (s ∷ slots) t = (t.0, table_push n slots t.1)

pub table_set : (n : ℕ) (slots : List (Option (Box Kept Global))) (i : ℕ) (b : Box Kept Global) → IsTable n slots → IsKept n b.value.prim b.value → IsTable n (set slots i (Some b))
table_set n [] i b t w = tt
table_set n (s ∷ slots) zero b t w = (w, t.1)
table_set n (s ∷ slots) (suc i) b t w = (t.0, table_set n slots i b t.1 w)

-- ---- what is kept
pub kept_made : (n : ℕ) (g : Prim) (p : Part) (T : PathSum) (ss : List Step) (k : Kept) → p ≡ part.Sum T → k.gate.sum.value ≡ T → k.steps.items ≡ ss → IsReducedLeaf n g ss p → UsablePart n 1 p → IsKept n g k
kept_made n g p T ss k ep es eq r u =
    let q : IsReducedLeaf n g ss (part.Sum T) = subst (IsReducedLeaf n g ss) ep r in
    record {
      made = q.0;
      is_leaf = q.1.0;
      reduces = subst (λ x. ReducesTo q.0 k.steps.items (normal x)) (sym es) (subst (λ x. ReducesTo q.0 x (normal T)) (sym eq) q.1.1);
      usable = subst (Usable n 1) (sym es) (subst (UsablePart n 1) ep u).0;
    }

pub leaf_again : (n i : ℕ) (g : Prim) (k : Kept) (qs : List Step) (ms ms' : List Move) → IsKept n g k → qs ≡ k.steps.items → ms' ≡ ms ++ Leaf i ∷ rewrites qs → Leaves n i g ms (kept k.gate.sum.value ms')
leaf_again n i g k qs ms ms' w eq m =
    let e : ms' ≡ with_leaf ms i k.steps.items = m ∙ ap (λ x. ms ++ Leaf i ∷ rewrites x) eq in
    subst (λ x. Leaves n i g ms (kept k.gate.sum.value x)) (sym e) (leaf_reduces w.is_leaf w.reduces)
