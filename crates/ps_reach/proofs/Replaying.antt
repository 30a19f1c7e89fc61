-- What replaying moves does to longer lists of prims and larger stacks.
use Rattle.std.proofs.Common.{◌≡◌, ℕ, zero, suc, ◌+◌, ◌<◌, refl, ap, ap₂, sym, ◌∙◌, subst, arith, List, [], ◌∷◌, ◌++◌, map, length, get_or}
use Rattle.ps_prim.specs.declared.prims.Primitive.{Primitive as Prim}
use Rattle.ps_sum.specs.declared.sums.PathSum.{PathSum}
use Rattle.ps_rules.specs.declared.steps.Step.{Step}
use Rattle.ps_rules.specs.declared.steps.Move.{Move}
use Rattle.ps_rules.specs.declared.steps.Move.TheVariants as move
use Rattle.ps_reach.specs.Reductions.{Reduces, rest, step}
use Rattle.ps_reach.specs.Replays.{Run, none, span, Meets, left_none, right_none, adjoin, Entry, entry, Replays, done, leaf, ident, join, rewrite, whole_run, Reaches}
use Rattle.ps_reach.specs.Fillings.{rewrites, raised}

pub replays_more : {n : ℕ} {A : List Prim} {es fs hs : List Entry} {ms ks : List Move} → Replays n A es ms fs → Replays n A fs ks hs → Replays n A es (ms ++ ks) hs
replays_more done k = k
replays_more (leaf h e l r) k = leaf h e l (replays_more r k)
replays_more (ident i r) k = ident i (replays_more r k)
replays_more (join m f j r) k = join m f j (replays_more r k)
replays_more (rewrite f t a r) k = rewrite f t a (replays_more r k)

pub replays_rewrites : {n : ℕ} {A : List Prim} {es : List Entry} {S T : PathSum} {ss : List Step} (r : Run) → Reduces S ss T → Replays n A (entry r S ∷ es) (rewrites ss) (entry r T ∷ es)
replays_rewrites r rest = done
replays_rewrites r (step f t a k) = rewrite f t a (replays_rewrites r k)

-- ---- runs further on
pub moved : ℕ → Run → Run
moved by none = none
moved by (span from to) = span (from + by) (to + by)

entry_moved : ℕ → Entry → Entry
entry_moved by e = entry (moved by e.run) e.sum

meets_moved : {r1 r2 r : Run} (by : ℕ) → Meets r1 r2 r → Meets (moved by r1) (moved by r2) (moved by r)
unfolding moved
meets_moved by left_none = left_none
meets_moved by right_none = right_none
meets_moved by adjoin = adjoin

-- the list A inside another, behind `by` prims
record Inside (A B : List Prim) (by : ℕ) : Type 0 where
  there : (i : ℕ) (g : Prim) → i < length A → g ≡ get_or A i g → (i + by < length B) × (g ≡ get_or B (i + by) g)

replays_inside : {n : ℕ} {A B : List Prim} {es fs : List Entry} {ms : List Move} (by : ℕ) (under : List Entry) → Inside A B by → Replays n A es ms fs
    → Replays n B (map (entry_moved by) es ++ under) (map (raised by) ms) (map (entry_moved by) fs ++ under)
unfolding entry_moved moved
replays_inside by under w done = done
replays_inside {n} {A} {B} {es} {fs} by under w (leaf {ms = ms} {i = i} {g = g} {S = S} h e l r) =
    let t = w.there i g h e in
    let p : i + 1 + by ≡ i + by + 1 = omega arith in
    leaf t.0 t.1 l (subst (λ k. Replays n B (entry (span (i + by) k) S ∷ (map (entry_moved by) es ++ under)) (map (raised by) ms) (map (entry_moved by) fs ++ under)) p (replays_inside by under w r))
replays_inside by under w (ident i r) = ident i (replays_inside by under w r)
replays_inside by under w (join m f j r) = join (meets_moved by m) f j (replays_inside by under w r)
replays_inside by under w (rewrite f t a r) = rewrite f t a (replays_inside by under w r)

-- ---- two lists one after the other
get_front : (A B : List Prim) (i : ℕ) (g : Prim) → i < length A → get_or (A ++ B) i g ≡ get_or A i g
get_front [] B i g h = absurd (omega arith)
get_front (a ∷ A) B zero g h = refl
get_front (a ∷ A) B (suc i) g h = get_front A B i g (omega arith)

get_behind : (A B : List Prim) (i : ℕ) (g : Prim) → get_or (A ++ B) (i + length A) g ≡ get_or B i g
get_behind [] B i g = ap (λ k. get_or B k g) (omega arith)
get_behind (a ∷ A) B i g =
    let e : i + suc (length A) ≡ suc (i + length A) = omega arith in
    ap (λ k. get_or (a ∷ (A ++ B)) k g) e ∙ get_behind A B i g

pub length_both : (A B : List Prim) → length (A ++ B) ≡ length A + length B
length_both [] B = omega arith
length_both (a ∷ A) B = omega (arith, length_both A B)

front_inside : (A B : List Prim) → Inside A (A ++ B) 0
front_inside A B = record {
  there = λ i g h e.
      let z : i ≡ i + 0 = omega arith in
      (omega (arith, h, length_both A B), e ∙ sym (get_front A B i g h) ∙ ap (λ k. get_or (A ++ B) k g) z);
}

back_inside : (A B : List Prim) → Inside B (A ++ B) (length A)
back_inside A B = record { there = λ i g h e. (omega (arith, h, length_both A B), e ∙ sym (get_behind A B i g)) }

not_raised : (ms : List Move) → map (raised 0) ms ≡ ms
not_raised [] = refl
not_raised (move.Leaf i ∷ ms) = ap₂ (λ (x : Move) (xs : List Move). x ∷ xs) (ap move.Leaf (omega arith)) (not_raised ms)
not_raised (move.Id ∷ ms) = ap (λ xs. move.Id ∷ xs) (not_raised ms)
not_raised (move.Join ∷ ms) = ap (λ xs. move.Join ∷ xs) (not_raised ms)
not_raised (move.Rewrite s ∷ ms) = ap (λ xs. move.Rewrite s ∷ xs) (not_raised ms)

not_moved : (r : Run) → moved 0 r ≡ r
unfolding moved
not_moved none = refl
not_moved (span from to) = ap₂ span (omega arith) (omega arith)

whole_behind : (A B : List Prim) → Meets (whole_run A) (moved (length A) (whole_run B)) (whole_run (A ++ B))
unfolding moved
whole_behind [] [] = left_none
whole_behind [] (b ∷ B) =
    let e : length (b ∷ B) + 0 ≡ length (b ∷ B) = omega arith in
    subst (λ k. Meets none (span 0 k) (span 0 (length (b ∷ B)))) (sym e) left_none
whole_behind (a ∷ A) [] =
    let e : length (a ∷ A) ≡ length (a ∷ (A ++ [])) = omega (arith, length_both (a ∷ A) []) in
    subst (λ k. Meets (span 0 (length (a ∷ A))) none (span 0 k)) e right_none
whole_behind (a ∷ A) (b ∷ B) =
    let z : 0 + length (a ∷ A) ≡ length (a ∷ A) = omega arith in
    let e : length (b ∷ B) + length (a ∷ A) ≡ length (a ∷ (A ++ b ∷ B)) = omega (arith, length_both (a ∷ A) (b ∷ B)) in
    subst (λ k. Meets (span 0 (length (a ∷ A))) (span k (length (b ∷ B) + length (a ∷ A))) (span 0 (length (a ∷ (A ++ b ∷ B))))) (sym z)
    (subst (λ k. Meets (span 0 (length (a ∷ A))) (span (length (a ∷ A)) (length (b ∷ B) + length (a ∷ A))) (span 0 k)) e adjoin)

-- the moves of the first, and then those of the second with the places of its leaves raised, leave both sums on the stack
pub reaches_both : {n : ℕ} (A B : List Prim) {ms ks : List Move} {S T : PathSum} → Reaches n A ms S → Reaches n B ks T
    → Replays n (A ++ B) [] (ms ++ map (raised (length A)) ks) (entry (moved (length A) (whole_run B)) T ∷ entry (whole_run A) S ∷ [])
unfolding entry_moved
reaches_both {n} A B {ms} {ks} {S} {T} h k =
    replays_more
    (subst (λ r. Replays n (A ++ B) [] ms (entry r S ∷ [])) (not_moved (whole_run A)) (subst (λ q. Replays n (A ++ B) [] q (entry (moved 0 (whole_run A)) S ∷ [])) (not_raised ms) (replays_inside 0 [] (front_inside A B) h)))
    (replays_inside (length A) (entry (whole_run A) S ∷ []) (back_inside A B) k)

pub runs_meet : (A B : List Prim) → Meets (whole_run A) (moved (length A) (whole_run B)) (whole_run (A ++ B))
runs_meet = whole_behind
