-- Windows side by side: one more of them, and what they tell of the lists.
use Rattle.std.proofs.Common.{◌≡◌, ℕ, ◌+◌, ◌-◌, ◌≤◌, min, refl, ap, ap₂, sym, ◌∙◌, subst, arith, List, [], ◌∷◌, ◌++◌, length, take, drop, map, append_assoc, append-nil, inl}
use Rattle.std.proofs.lemmas.List.{take-append-drop, take-take, drop-take, take_rest, take_all, take-map, drop-map, length-drop, length-take, length-map}
use Rattle.std.specs.declared.sync.Arc.{Arc}
use Rattle.std.specs.declared.alloc.Global.{Global}
use Rattle.ps_prim.specs.declared.items.Item.{Item}
use Rattle.ps_prim.specs.declared.prims.Primitive.{Primitive as Prim}
use Rattle.ps_prim.specs.Maps.{SameMap}
use Rattle.ps_rules.specs.declared.steps.Step.{Step}
use Rattle.ps_reach.specs.Runs.{prims_of, run_of}
use Rattle.ps_reach.specs.Findings.{Finding, yes, IsJustified}
use Rattle.ps_reach.specs.declared.mode.Mode.TheVariants.{Exact}
use Rattle.ps_normal.specs.declared.decision.Decision.{Decision}
use Rattle.ps_normal.specs.declared.decision.Decision.TheVariants as decision
use Rattle.ps_normal.specs.Comparing.{Settles, early, both, IsDecision}
use Rattle.ps_normal.specs.Fillings.{CanRun}
use Rattle.ps_cut.proofs.Congruence.{map_reflexive, map_append}
use Rattle.ps_local.specs.declared.places.Places.{Places}
use Rattle.ps_local.specs.Cuts.{IsFront}
use Rattle.ps_local.specs.Local.{decided_as}
use Rattle.ps_local.specs.LocalLaws.{WindowsTell}
use Rattle.ps_local.specs.Windows.{Window, firsts, seconds, IsSettled, equal, compared, AllSettled, AreWindows, IsUnknown, IsWindowed, AreIn, AreWindowsTo, IsNextWindow}
use Rattle.ps_local.proofs.Runs.{run_append}
use Rattle.ps_local.proofs.Pieces.{within_parts}

-- ---- one window more
pub windows_none : (n : ℕ) → AreWindows n [] []
windows_none n = record { windows = []; first = refl; second = refl; settled = tt }

firsts_more : (ws : List Window) (w : Window) → firsts (ws ++ w ∷ []) ≡ firsts ws ++ w.first
firsts_more [] w = append-nil w.first
firsts_more (v ∷ ws) w = ap (λ (xs : List (List Prim)). v.first ++ xs) (firsts_more ws w) ∙ sym (append_assoc v.first (firsts ws) w.first)

seconds_more : (ws : List Window) (w : Window) → seconds (ws ++ w ∷ []) ≡ seconds ws ++ w.second
seconds_more [] w = append-nil w.second
seconds_more (v ∷ ws) w = ap (λ (xs : List (List Prim)). v.second ++ xs) (seconds_more ws w) ∙ sym (append_assoc v.second (seconds ws) w.second)

all_more : (n : ℕ) (ws : List Window) (w : Window) → AllSettled n ws → IsSettled n w.first w.second → AllSettled n (ws ++ w ∷ [])
all_more n [] w h s = (s, tt)
all_more n (v ∷ ws) w h s = (h.0, all_more n ws w h.1 s)

pub windows_more : (n : ℕ) (M N A B : List (List Prim)) → AreWindows n M N → IsSettled n A B → AreWindows n (M ++ A) (N ++ B)
windows_more n M N A B h s =
    let w : Window = record { first = A; second = B } in
    record {
      windows = h.windows ++ w ∷ [];
      first = ap (λ (X : List (List Prim)). X ++ A) h.first ∙ sym (firsts_more h.windows w);
      second = ap (λ (X : List (List Prim)). X ++ B) h.second ∙ sym (seconds_more h.windows w);
      settled = all_more n h.windows w h.settled s;
    }

-- ---- what windows tell
pub settled_justified : (n : ℕ) (A B : List Prim) {ss : List Step} {f : Finding} → Settles n A B Exact ss f → IsJustified n A B Exact f
settled_justified n A B (early {e = e} p) = inl p.over
settled_justified n A B (both d) = d.justified

settled_same : (n : ℕ) (M N : List (List Prim)) → IsSettled n M N → SameMap n (run_of M) (run_of N)
settled_same n M N (equal e) = subst (λ (L : List (List Prim)). SameMap n (run_of M) (run_of L)) e (map_reflexive n (run_of M))
settled_same n M N (compared d) = let j = settled_justified n (run_of M) (run_of N) d in j.1

all_same : (n : ℕ) (ws : List Window) → AllSettled n ws → SameMap n (run_of (firsts ws)) (run_of (seconds ws))
all_same n [] h = map_reflexive n (run_of [])
all_same n (w ∷ ws) h =
    subst (λ (A : List Prim). SameMap n A (run_of (w.second ++ seconds ws))) (sym (run_append w.first (firsts ws)))
    (subst (λ (B : List Prim). SameMap n (run_of w.first ++ run_of (firsts ws)) B) (sym (run_append w.second (seconds ws)))
    (map_append n (run_of w.first) (run_of w.second) (run_of (firsts ws)) (run_of (seconds ws)) (settled_same n w.first w.second h.0) (all_same n ws h.1)))

pub windows_tell : WindowsTell
windows_tell n M N h =
    subst (λ (A : List (List Prim)). SameMap n (run_of A) (run_of N)) (sym h.first)
    (subst (λ (B : List (List Prim)). SameMap n (run_of (firsts h.windows)) (run_of B)) (sym h.second) (all_same n h.windows h.settled))

-- ---- a decision
pub record Settled (n : ℕ) (M N : List (List Prim)) (f : Finding) : Type 0 where
  pub steps : List Step
  pub settles : Settles n (run_of M) (run_of N) Exact steps f

pub decision_settles : (n : ℕ) (M N : List (List Prim)) (d : Decision) → IsDecision n M N Exact d → Settled n M N (decided_as d)
decision_settles n M N (decision.Judged j) h = record { steps = j.steps; settles = both h.decided }
decision_settles n M N (decision.Passed e) h = record { steps = []; settles = early h }

pub window_settled : (n : ℕ) (M N : List (List Prim)) (d : Decision) → IsDecision n M N Exact d → decided_as d ≡ yes → IsSettled n M N
window_settled n M N d h e = let s = decision_settles n M N d h in compared (subst (Settles n (run_of M) (run_of N) Exact s.steps) e s.settles)

pub lists_windowed : (n : ℕ) (M N : List (List Prim)) (d : Decision) → IsDecision n M N Exact d → IsUnknown (decided_as d) → AreWindows n M N → IsWindowed n M N
lists_windowed n M N d h u w = let s = decision_settles n M N d h in record { steps = s.steps; finding = decided_as d; whole = s.settles; unknown = u; windows = w }

-- ---- places
take_add : {X : Type 0} (i k : ℕ) (L : List X) → take (i + k) L ≡ take i L ++ take k (drop i L)
take_add i k L = sym (take-append-drop i (take (i + k) L)) ∙ ap₂ (λ x y. x ++ y) (take-take i (i + k) L (omega arith)) (drop-take i k L)

-- the items behind a place, as the code has them
pub tail_is : (L : List (Arc Item Global)) (i : ℕ) → map prims_of (take (length L - i) (drop i L)) ≡ drop i (map prims_of L)
tail_is L i = ap (map prims_of) (take_rest L i) ∙ sym (drop-map prims_of i L)

-- one window more behind these places
to_more : (n : ℕ) (I K : List (List Prim)) (p : Places) (a b : ℕ) → p.first + a ≤ length I → p.second + b ≤ length K → IsSettled n (take a (drop p.first I)) (take b (drop p.second K)) → AreWindowsTo n I K p
    → AreWindowsTo n I K (record { first = p.first + a; second = p.second + b })
to_more n I K p a b h k s w = record {
  places = record { first = h; second = k };
  windows = subst (λ (M : List (List Prim)). AreWindows n M (take (p.second + b) K)) (sym (take_add p.first a I))
      (subst (λ (N : List (List Prim)). AreWindows n (take p.first I ++ take a (drop p.first I)) N) (sym (take_add p.second b K)) (windows_more n _ _ _ _ w.windows s));
}

pub to_none : (n : ℕ) (I K : List (List Prim)) (p : Places) → p.first ≡ 0 → p.second ≡ 0 → AreWindowsTo n I K p
to_none n I K p e f = record {
  places = record { first = omega arith; second = omega arith };
  windows = subst (λ (i : ℕ). AreWindows n (take i I) (take p.second K)) (sym e) (subst (λ (i : ℕ). AreWindows n [] (take i K)) (sym f) (windows_none n));
}

pub to_all : (n : ℕ) (I K : List (List Prim)) (p : Places) → p.first ≡ length I → p.second ≡ length K → AreWindowsTo n I K p → AreWindows n I K
to_all n I K p e f w =
    subst (λ (M : List (List Prim)). AreWindows n M K) (take_all p.first I (omega arith)) (subst (λ (N : List (List Prim)). AreWindows n (take p.first I) N) (take_all p.second K (omega arith)) w.windows)

-- the items behind the places
fits : (I : List (List Prim)) (i a : ℕ) → i ≤ length I → a ≤ length (drop i I) → i + a ≤ length I
fits I i a h k = let e = length-drop i I in omega arith

pub to_equal : (n : ℕ) (L K : List (Arc Item Global)) (p : Places) (k : ℕ) → AreIn (map prims_of L) (map prims_of K) p
    → IsFront (map prims_of (take (length L - p.first) (drop p.first L))) (map prims_of (take (length K - p.second) (drop p.second K))) k → AreWindowsTo n (map prims_of L) (map prims_of K) p
    → AreWindowsTo n (map prims_of L) (map prims_of K) (record { first = p.first + k; second = p.second + k })
to_equal n L K p k i f w =
    let g : IsFront (drop p.first (map prims_of L)) (drop p.second (map prims_of K)) k =
    subst (λ A. IsFront A (drop p.second (map prims_of K)) k) (tail_is L p.first) (subst (λ B. IsFront (map prims_of (take (length L - p.first) (drop p.first L))) B k) (tail_is K p.second) f) in
    to_more n (map prims_of L) (map prims_of K) p k k (fits _ p.first k i.first g.first) (fits _ p.second k i.second g.second) (equal g.same) w

pub to_window : (n : ℕ) (L K : List (Arc Item Global)) (p q : Places)
    → IsNextWindow n (map prims_of (take (length L - p.first) (drop p.first L))) (map prims_of (take (length K - p.second) (drop p.second K))) q → AreWindowsTo n (map prims_of L) (map prims_of K) p
    → AreWindowsTo n (map prims_of L) (map prims_of K) (record { first = p.first + q.first; second = p.second + q.second })
to_window n L K p q f w =
    let g : IsNextWindow n (drop p.first (map prims_of L)) (drop p.second (map prims_of K)) q =
    subst (λ A. IsNextWindow n A (drop p.second (map prims_of K)) q) (tail_is L p.first) (subst (λ B. IsNextWindow n (map prims_of (take (length L - p.first) (drop p.first L))) B q) (tail_is K p.second) f) in
    to_more n (map prims_of L) (map prims_of K) p q.first q.second (fits _ p.first q.first w.places.first g.places.first) (fits _ p.second q.second w.places.second g.places.second) g.settled w

-- ---- what is decided of parts
fewer_first : (M : List (List Prim)) (k : ℕ) → length (take k M) ≤ length M
fewer_first M k = let a = length-take k M in omega arith

fewer_rest : (M : List (List Prim)) (k : ℕ) → length (drop k M) ≤ length M
fewer_rest M k = let a = length-drop k M in omega arith

pub can_first : (n : ℕ) (L : List (Arc Item Global)) (k : ℕ) → CanRun n (map prims_of L) → CanRun n (map prims_of (take k L))
can_first n L k r = subst (CanRun n) (take-map prims_of k L) (record {
  few = (let f = fewer_first (map prims_of L) k in let g = r.few in omega arith);
  within = (within_parts n (map prims_of L) k r.within).0;
})

pub can_rest : (n : ℕ) (L : List (Arc Item Global)) (k : ℕ) → CanRun n (map prims_of L) → CanRun n (map prims_of (take (length L - k) (drop k L)))
can_rest n L k r = subst (CanRun n) (sym (tail_is L k)) (record {
  few = (let f = fewer_rest (map prims_of L) k in let g = r.few in omega arith);
  within = (within_parts n (map prims_of L) k r.within).1;
})

pub next_settled : (n : ℕ) (L K : List (Arc Item Global)) (p : Places) (d : Decision) → AreIn (map prims_of L) (map prims_of K) p → IsDecision n (map prims_of (take p.first L)) (map prims_of (take p.second K)) Exact d → decided_as d ≡ yes
    → IsNextWindow n (map prims_of L) (map prims_of K) p
next_settled n L K p d i h e = record {
  places = i;
  settled = subst (λ M. IsSettled n M (take p.second (map prims_of K))) (sym (take-map prims_of p.first L))
      (subst (λ N. IsSettled n (map prims_of (take p.first L)) N) (sym (take-map prims_of p.second K)) (window_settled n _ _ d h e));
}
