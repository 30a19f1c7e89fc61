-- Windows of two lists of items, as the code finds and compares them.
use Rattle.std.proofs.Common.{◌≡◌, ℕ, ◌+◌, ◌-◌, subst, List, length, take, drop, map, Option, Some, IfSome}
use Rattle.std.specs.declared.sync.Arc.{Arc}
use Rattle.std.specs.declared.alloc.Global.{Global}
use Rattle.ps_prim.specs.declared.items.Item.{Item}
use Rattle.ps_prim.specs.declared.prims.Primitive.{Primitive as Prim}
use Rattle.ps_reach.specs.Runs.{prims_of}
use Rattle.ps_reach.specs.declared.mode.Mode.TheVariants.{Exact}
use Rattle.ps_normal.specs.declared.decision.Decision.{Decision}
use Rattle.ps_normal.specs.Comparing.{IsDecision}
use Rattle.ps_local.specs.declared.places.Places.{Places}
use Rattle.ps_local.specs.Windows.{AreWindows, AreWindowsTo, IsNextWindow}
use Rattle.ps_local.proofs.Windowing.{to_window}

-- past a window that was found behind the places
pub to_found : (n : ℕ) (L K : List (Arc Item Global)) (p q : Places) (found : Option Places) → found ≡ Some q
    → IfSome found (IsNextWindow n (map prims_of (take (length L - p.first) (drop p.first L))) (map prims_of (take (length K - p.second) (drop p.second K)))) → AreWindowsTo n (map prims_of L) (map prims_of K) p
    → AreWindowsTo n (map prims_of L) (map prims_of K) (record { first = p.first + q.first; second = p.second + q.second })
to_found n L K p q found e h w =
    to_window n L K p q
    (subst (λ (o : Option Places). IfSome o (IsNextWindow n (map prims_of (take (length L - p.first) (drop p.first L))) (map prims_of (take (length K - p.second) (drop p.second K))))) e h) w

-- ---- of lists that are the same
pub decided_lists : (n : ℕ) (M N M' N' : List (List Prim)) (d : Decision) → M' ≡ M → N' ≡ N → IsDecision n M' N' Exact d → IsDecision n M N Exact d
decided_lists n M N M' N' d e f h = subst (λ (B : List (List Prim)). IsDecision n M B Exact d) f (subst (λ (A : List (List Prim)). IsDecision n A N' Exact d) e h)

pub windowed_lists : (n : ℕ) (M N M' N' : List (List Prim)) → M' ≡ M → N' ≡ N → AreWindows n M' N' → AreWindows n M N
windowed_lists n M N M' N' e f h = subst (λ (B : List (List Prim)). AreWindows n M B) f (subst (λ (A : List (List Prim)). AreWindows n A N') e h)
