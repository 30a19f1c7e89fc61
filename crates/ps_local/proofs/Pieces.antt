-- Lists of items that are cut, as lists of prims.
use Rattle.std.proofs.Common.{◌≡◌, ℕ, ◌-◌, ◌≤◌, refl, ap, ap₂, sym, ◌∙◌, arith, subst, List, [], ◌∷◌, ◌++◌, length, take, drop, reverse, append_assoc, append-nil, take-append-drop}
use Rattle.std.proofs.lemmas.List.{length-take, length-drop, length-reverse, reverse-reverse}
use Rattle.ps_prim.specs.declared.prims.Primitive.{Primitive as Prim}
use Rattle.ps_prim.specs.Maps.{AllWithin, SameMap}
use Rattle.ps_reach.specs.Runs.{run_of}
use Rattle.ps_reach.proofs.Denoting.{within_first, within_second, within_both}
use Rattle.ps_cut.specs.Ends.{SharesEnds}
use Rattle.ps_cut.proofs.Congruence.{map_reflexive, map_transitive, map_append}
use Rattle.ps_cut.proofs.Ends.{ends_same, ends_tell}
use Rattle.ps_local.specs.declared.cut.Cut.{Cut}
use Rattle.ps_local.specs.Exchanges.{Fronts}
use Rattle.ps_local.specs.Cuts.{IsCut}
use Rattle.ps_local.specs.LocalLaws.{MiddlesRun, MiddlesSame, MiddlesTell}
use Rattle.ps_local.proofs.Runs.{run_append, backwards, backwards_is, within_backwards, within_forwards}
use Rattle.ps_local.proofs.Fronting.{fronts_first, fronts_second, backs_first, backs_second, fronts_within, left_within, fronts_length}

-- ---- one list
parts : (I : List (List Prim)) (k : ℕ) → run_of I ≡ run_of (take k I) ++ run_of (drop k I)
parts I k = ap run_of (sym (take-append-drop k I)) ∙ run_append (take k I) (drop k I)

-- A is P and D, which is the map of F and R; R is X and B, and X the map of C and S
whole_map : (n : ℕ) (A P D F R X B C S : List Prim) → A ≡ P ++ D → SameMap n D (F ++ R) → R ≡ X ++ B → SameMap n X (C ++ S) → SameMap n A ((P ++ F) ++ (C ++ (S ++ B)))
whole_map n A P D F R X B C S a d r x =
    let behind : SameMap n (X ++ B) ((C ++ S) ++ B) = map_append n X (C ++ S) B B x (map_reflexive n B) in
    let rest : SameMap n R (C ++ (S ++ B)) = subst (λ Y. SameMap n Y (C ++ (S ++ B))) (sym r) (subst (SameMap n (X ++ B)) (append_assoc C S B) behind) in
    let all : SameMap n D (F ++ (C ++ (S ++ B))) = map_transitive n D (F ++ R) (F ++ (C ++ (S ++ B))) d (map_append n F F R (C ++ (S ++ B)) (map_reflexive n F) rest) in
    subst (λ Y. SameMap n Y ((P ++ F) ++ (C ++ (S ++ B)))) (sym a) (subst (SameMap n (P ++ D)) (sym (append_assoc P F (C ++ (S ++ B)))) (map_append n P P D (F ++ (C ++ (S ++ B))) (map_reflexive n P) all))

-- forwards and backwards
run_reverse : (L : List (List Prim)) → backwards (reverse L) ≡ run_of L
run_reverse L = sym (backwards_is (reverse L)) ∙ ap run_of (reverse-reverse L)

split_first : (n : ℕ) {I K F M N : List (List Prim)} → Fronts [] I K F M N → SameMap n (run_of I) (run_of F ++ run_of M)
unfolding run_of
split_first n r = fronts_first n r

-- the back of the first list, which was read backwards
back_first : (n : ℕ) (X C : List (List Prim)) {K F N : List (List Prim)} → Fronts [] (reverse X) K F (reverse C) N → SameMap n (run_of X) (run_of C ++ backwards F)
unfolding backwards
back_first n X C {F = F} r =
    subst (λ A. SameMap n A (run_of C ++ backwards F)) (append-nil (backwards (reverse X)) ∙ run_reverse X)
    (subst (λ B. SameMap n (backwards (reverse X) ++ []) (B ++ backwards F)) (append-nil (backwards (reverse C)) ∙ run_reverse C) (backs_first n r))

-- and that of the second
back_second : (n : ℕ) (X C : List (List Prim)) {I F M : List (List Prim)} → Fronts [] I (reverse X) F M (reverse C) → SameMap n (run_of X) (run_of C ++ backwards F)
back_second n X C {F = F} r = subst (λ A. SameMap n A (run_of C ++ backwards F)) (run_reverse X) (subst (λ B. SameMap n (backwards (reverse X)) (B ++ backwards F)) (run_reverse C) (backs_second n r))

-- ---- two lists that are cut
-- the prims of the front and of the back
front_of : (I K : List (List Prim)) (c : Cut) → IsCut I K c → List Prim
front_of I K c h = run_of (take h.equal_front I) ++ run_of h.front_split.items

back_of : (I K : List (List Prim)) (c : Cut) → IsCut I K c → List Prim
back_of I K c h = backwards h.back_split.items ++ run_of (drop (length h.first_left - h.equal_back) h.first_left)

first_map : (n : ℕ) (I K : List (List Prim)) (c : Cut) (h : IsCut I K c) → SameMap n (run_of I) (front_of I K c h ++ (run_of c.first ++ back_of I K c h))
unfolding front_of back_of
first_map n I K c h =
    let k = length h.first_left - h.equal_back in
    whole_map n (run_of I) (run_of (take h.equal_front I)) (run_of (drop h.equal_front I)) (run_of h.front_split.items) (run_of h.first_left) (run_of (take k h.first_left)) (run_of (drop k h.first_left)) (run_of c.first) (backwards h.back_split.items)
    (parts I h.equal_front) (split_first n h.front_split.fronts) (parts h.first_left k) (back_first n (take k h.first_left) c.first h.back_split.fronts)

second_map : (n : ℕ) (I K : List (List Prim)) (c : Cut) (h : IsCut I K c) → SameMap n (run_of K) (front_of I K c h ++ (run_of c.second ++ back_of I K c h))
unfolding front_of back_of
second_map n I K c h =
    let k = length h.second_left - h.equal_back in
    whole_map n (run_of K) (run_of (take h.equal_front I)) (run_of (drop h.equal_front K)) (run_of h.front_split.items) (run_of h.second_left) (run_of (take k h.second_left)) (run_of (drop (length h.first_left - h.equal_back) h.first_left)) (run_of c.second) (backwards h.back_split.items)
    (parts K h.equal_front ∙ ap (λ (P : List (List Prim)). run_of P ++ run_of (drop h.equal_front K)) (sym h.is_front.same)) (fronts_second n h.front_split.fronts)
    (parts h.second_left k ∙ ap (λ (B : List (List Prim)). run_of (take k h.second_left) ++ run_of B) (sym h.is_back.same)) (back_second n (take k h.second_left) c.second h.back_split.fronts)

shares_ends : (n : ℕ) (I K : List (List Prim)) (c : Cut) (h : IsCut I K c) → SharesEnds n (run_of I) (run_of K) (front_of I K c h) (run_of c.first) (run_of c.second) (back_of I K c h)
shares_ends n I K c h = record { first = first_map n I K c h; second = second_map n I K c h }

-- ---- qubits
pub within_parts : (n : ℕ) (I : List (List Prim)) (k : ℕ) → AllWithin n (run_of I) → AllWithin n (run_of (take k I)) × AllWithin n (run_of (drop k I))
within_parts n I k w = let v = subst (AllWithin n) (parts I k) w in (within_first n (run_of (take k I)) _ v, within_second n (run_of (take k I)) _ v)

within_reverse : (n : ℕ) (L : List (List Prim)) → AllWithin n (run_of L) → AllWithin n (run_of (reverse L))
within_reverse n L w = subst (AllWithin n) (sym (backwards_is L)) (within_backwards n L w)

within_back : (n : ℕ) (L : List (List Prim)) → AllWithin n (run_of (reverse L)) → AllWithin n (run_of L)
within_back n L w = within_forwards n L (subst (AllWithin n) (backwards_is L) w)

record AreWithin (n : ℕ) (I K : List (List Prim)) (c : Cut) (h : IsCut I K c) : Type 0 where
  front : AllWithin n (front_of I K c h)
  back : AllWithin n (back_of I K c h)
  middle : AllWithin n (run_of c.first)

are_within : (n : ℕ) (I K : List (List Prim)) (c : Cut) (h : IsCut I K c) → AllWithin n (run_of I) → AreWithin n I K c h
unfolding front_of back_of
are_within n I K c h w =
    let k = length h.first_left - h.equal_back in
    let a = within_parts n I h.equal_front w in
    let f = fronts_within n h.front_split.fronts a.1 in
    let b = within_parts n h.first_left k f.1 in
    let s = fronts_within n h.back_split.fronts (within_reverse n (take k h.first_left) b.0) in
    record {
      front = within_both n (run_of (take h.equal_front I)) _ a.0 f.0;
      back = within_both n (backwards h.back_split.items) _ (within_backwards n h.back_split.items s.0) b.1;
      middle = within_back n c.first s.1;
    }

second_within : (n : ℕ) (I K : List (List Prim)) (c : Cut) (h : IsCut I K c) → AllWithin n (run_of K) → AllWithin n (run_of c.second)
second_within n I K c h w =
    let k = length h.second_left - h.equal_back in
    let a = within_parts n K h.equal_front w in
    let b = within_parts n h.second_left k (left_within n h.front_split.fronts a.1) in
    within_back n c.second (left_within n h.back_split.fronts (within_reverse n (take k h.second_left) b.0))

-- ---- lengths
fewer : (L : List (List Prim)) (k : ℕ) → (length (take k L) ≤ length L) × (length (drop k L) ≤ length L)
fewer L k = let a = length-take k L in let b = length-drop k L in (omega arith, omega arith)

first_few : (I K : List (List Prim)) (c : Cut) → IsCut I K c → length c.first ≤ length I
first_few I K c h =
    let k = length h.first_left - h.equal_back in
    let a = fewer I h.equal_front in
    let f = fronts_length h.front_split.fronts in
    let b = fewer h.first_left k in
    let s = fronts_length h.back_split.fronts in
    let x = length-reverse (take k h.first_left) in
    let y = length-reverse c.first in
    omega (arith, a.1, f.0, b.0, s.0, x, y)

second_few : (I K : List (List Prim)) (c : Cut) → IsCut I K c → length c.second ≤ length K
second_few I K c h =
    let k = length h.second_left - h.equal_back in
    let a = fewer K h.equal_front in
    let f = fronts_length h.front_split.fronts in
    let b = fewer h.second_left k in
    let s = fronts_length h.back_split.fronts in
    let x = length-reverse (take k h.second_left) in
    let y = length-reverse c.second in
    omega (arith, a.1, f.1, b.0, s.1, x, y)

-- ---- without a front
nothing_in : (L : List (List Prim)) → length L ≡ 0 → L ≡ []
nothing_in [] e = refl
nothing_in (g ∷ L) e = absurd (omega arith)

no_front : (I K : List (List Prim)) (c : Cut) (h : IsCut I K c) → c.front ≡ 0 → front_of I K c h ≡ []
unfolding front_of run_of
no_front I K c h z =
    let f = h.front in
    let m = h.front_split.counted in
    let e : h.equal_front ≡ 0 = omega arith in
    let i : length h.front_split.items ≡ 0 = omega arith in
    ap₂ (λ k (L : List (List Prim)). run_of (take k I) ++ run_of L) e (nothing_in h.front_split.items i)

-- ---- what the cut tells
-- the lists have a front and a back in common, which are on the lists' qubits
pub record Shared (n : ℕ) (I K : List (List Prim)) (c : Cut) : Type 0 where
  pub front : List Prim
  pub back : List Prim
  pub ends : SharesEnds n (run_of I) (run_of K) front (run_of c.first) (run_of c.second) back
  pub within : AllWithin n (run_of I) → AllWithin n front × AllWithin n back
  pub none : c.front ≡ 0 → front ≡ []

pub shared_ends : (n : ℕ) (I K : List (List Prim)) (c : Cut) → IsCut I K c → Shared n I K c
shared_ends n I K c h = record {
  front = front_of I K c h;
  back = back_of I K c h;
  ends = shares_ends n I K c h;
  within = λ w. (let a = are_within n I K c h w in (a.front, a.back));
  none = no_front I K c h;
}

pub middles_run : MiddlesRun
middles_run n I K c h a b = (
  record { few = (let l = first_few I K c h in let f = a.few in omega arith); within = (let w = are_within n I K c h a.within in w.middle) },
  record { few = (let l = second_few I K c h in let f = b.few in omega arith); within = second_within n I K c h b.within },
)

pub middles_same : MiddlesSame
middles_same n I K c h s = let e = shared_ends n I K c h in ends_same n _ _ e.front _ _ e.back e.ends s

pub middles_tell : MiddlesTell
middles_tell n I K c h w s = let e = shared_ends n I K c h in let v = e.within w in ends_tell n _ _ e.front _ _ e.back e.ends v.0 v.1 s
