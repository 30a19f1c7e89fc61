-- One more item that two lists have in common, in front or at the back.
use Rattle.std.proofs.Common.{◌≡◌, ℕ, ◌+◌, ◌-◌, ◌<◌, ap, ap₂, sym, ◌∙◌, arith, subst, List, [], ◌∷◌, ◌++◌, length, get_or, take, drop, reverse, map, refl, ◌≤◌}
use Rattle.std.proofs.lemmas.List.{get_or-map, length-map, take-map, drop-map, map-append, reverse-append, reverse-reverse, take_more_same, take_all, length-drop, drop_more}
use Rattle.std.specs.declared.sync.Arc.{Arc}
use Rattle.std.specs.declared.alloc.Global.{Global}
use Rattle.ps_prim.specs.declared.prims.Primitive.{Primitive as Prim}
use Rattle.ps_prim.specs.declared.items.Item.{Item}
use Rattle.ps_reach.specs.Runs.{prims_of}
use Rattle.ps_local.specs.Cuts.{IsFront, IsBack, from_back, IsCut}
use Rattle.ps_local.specs.Exchanges.{IsSplit}
use Rattle.ps_local.proofs.Fronting.{fronts_count}

pub at_place : (L : List (Arc Item Global)) (i : ℕ) (a : Arc Item Global) → i < length L → a ≡ get_or L i a → get_or (map prims_of L) i [] ≡ prims_of a
at_place L i a h e = get_or-map prims_of L i a [] h ∙ ap prims_of (sym e)

pub front_more : (L K : List (Arc Item Global)) (i : ℕ) (a b : Arc Item Global) → i < length L → i < length K → a ≡ get_or L i a → b ≡ get_or K i b → prims_of a ≡ prims_of b
    → take i (map prims_of L) ≡ take i (map prims_of K) → take (i + 1) (map prims_of L) ≡ take (i + 1) (map prims_of K)
front_more L K i a b h k ea eb e r =
    take_more_same (map prims_of L) (map prims_of K) i [] (omega (arith, length-map L prims_of)) (omega (arith, length-map K prims_of)) r (at_place L i a h ea ∙ e ∙ sym (at_place K i b k eb))

back_next : (L : List (Arc Item Global)) (i : ℕ) (a : Arc Item Global) → i < length L → a ≡ get_or L (length L - 1 - i) a → drop (length L - (i + 1)) (map prims_of L) ≡ prims_of a ∷ drop (length L - i) (map prims_of L)
back_next L i a h e =
    let m : length L - (i + 1) ≡ length L - 1 - i = omega arith in
    let s : length L - 1 - i + 1 ≡ length L - i = omega arith in
    ap (λ k. drop k (map prims_of L)) m ∙ drop_more (map prims_of L) (length L - 1 - i) [] (omega (arith, length-map L prims_of))
    ∙ ap₂ (λ x k. x ∷ drop k (map prims_of L)) (at_place L (length L - 1 - i) a (omega arith) e) s

pub back_more : (L K : List (Arc Item Global)) (i : ℕ) (a b : Arc Item Global) → i < length L → i < length K → a ≡ get_or L (length L - 1 - i) a → b ≡ get_or K (length K - 1 - i) b → prims_of a ≡ prims_of b
    → drop (length L - i) (map prims_of L) ≡ drop (length K - i) (map prims_of K) → drop (length L - (i + 1)) (map prims_of L) ≡ drop (length K - (i + 1)) (map prims_of K)
back_more L K i a b h k ea eb e r = back_next L i a h ea ∙ ap₂ (λ (x : List Prim) (xs : List (List Prim)). x ∷ xs) e r ∙ sym (back_next K i b k eb)

-- ---- the cut
map_reverse : (L : List (Arc Item Global)) → map prims_of (reverse L) ≡ reverse (map prims_of L)
map_reverse [] = refl
map_reverse (a ∷ L) =
    ap (map prims_of) (reverse-append (a ∷ []) L) ∙ map-append prims_of (reverse L) (a ∷ []) ∙ ap (λ (xs : List (List Prim)). xs ++ prims_of a ∷ []) (map_reverse L) ∙ sym (reverse-append (prims_of a ∷ []) (map prims_of L))

pub turned_back_map : (L items : List (Arc Item Global)) (x : List (List Prim)) → x ≡ map prims_of items → items ≡ reverse L → reverse x ≡ map prims_of L
turned_back_map L items x e f = ap (λ (xs : List (List Prim)). reverse xs) (e ∙ ap (map prims_of) f ∙ map_reverse L) ∙ reverse-reverse (map prims_of L)

pub from_back_map : (L items : List (Arc Item Global)) (k back : ℕ) → k ≡ length L - back → items ≡ reverse (take k L) → map prims_of items ≡ from_back (map prims_of L) back
from_back_map L items k back e f =
    ap (map prims_of) f ∙ map_reverse (take k L) ∙ ap (λ (xs : List (List Prim)). reverse xs) (sym (take-map prims_of k L) ∙ ap (λ j. take j (map prims_of L)) (e ∙ ap (λ j. j - back) (sym (length-map L prims_of))))

pub cut_found : (L K : List (Arc Item Global)) (I J : List (List Prim)) (front moved back turned : ℕ) (M N X Y : List (Arc Item Global)) (x y : List (List Prim)) → map prims_of L ≡ I → map prims_of K ≡ J
    → IsFront (map prims_of L) (map prims_of K) front → IsSplit (map prims_of (drop front L)) (map prims_of (drop front K)) moved (map prims_of M) (map prims_of N)
    → IsBack (map prims_of M) (map prims_of N) 0 back → IsSplit (from_back (map prims_of M) back) (from_back (map prims_of N) back) turned (map prims_of X) (map prims_of Y)
    → reverse x ≡ map prims_of X → reverse y ≡ map prims_of Y → IsCut I J (record { front = front + moved; back = back + turned; first = x; second = y })
cut_found L K I J front moved back turned M N X Y x y i j f s b t u v =
    subst (λ A. IsCut A J (record { front = front + moved; back = back + turned; first = x; second = y })) i
    (subst (λ B. IsCut (map prims_of L) B (record { front = front + moved; back = back + turned; first = x; second = y })) j (record {
      equal_front = front;
      is_front = f;
      moved_front = moved;
      first_left = map prims_of M;
      second_left = map prims_of N;
      front_split = subst (λ A. IsSplit A (drop front (map prims_of K)) moved (map prims_of M) (map prims_of N)) (sym (drop-map prims_of front L))
          (subst (λ B. IsSplit (map prims_of (drop front L)) B moved (map prims_of M) (map prims_of N)) (sym (drop-map prims_of front K)) s);
      equal_back = back;
      is_back = b;
      moved_back = turned;
      back_split = subst (λ A. IsSplit (from_back (map prims_of M) back) (from_back (map prims_of N) back) turned A (reverse y)) (sym u)
          (subst (λ B. IsSplit (from_back (map prims_of M) back) (from_back (map prims_of N) back) turned (map prims_of X) B) (sym v) t);
      front = refl;
      back = refl;
    }))

-- a front is no longer than the list
pub split_few : (I K M N : List (List Prim)) (count : ℕ) → IsSplit I K count M N → count ≤ length I
split_few I K M N count s = let e = s.counted in let l = fronts_count s.fronts in omega arith

-- ---- from the code's slices and vectors
all_behind : (L : List (Arc Item Global)) (m : ℕ) → take (length L - m) (drop m L) ≡ drop m L
all_behind L m = take_all (length L - m) (drop m L) (let l = length-drop m L in omega arith)

pub cut_made : (L K M N M' N' Z W Z' W' X Y : List (Arc Item Global)) (I J : List (List Prim)) (front moved back turned : ℕ) (x y : List (List Prim)) → map prims_of L ≡ I → map prims_of K ≡ J
    → IsFront (map prims_of L) (map prims_of K) front
    → IsSplit (map prims_of (take (length L - front) (drop front L))) (map prims_of (take (length K - front) (drop front K))) moved (map prims_of M) (map prims_of N)
    → M' ≡ M → N' ≡ N → IsBack (map prims_of M') (map prims_of N') 0 back → map prims_of Z ≡ from_back (map prims_of M) back → map prims_of W ≡ from_back (map prims_of N) back → Z' ≡ Z → W' ≡ W
    → IsSplit (map prims_of Z') (map prims_of W') turned (map prims_of X) (map prims_of Y) → reverse x ≡ map prims_of X → reverse y ≡ map prims_of Y
    → IsCut I J (record { front = front + moved; back = back + turned; first = x; second = y })
cut_made L K M N M' N' Z W Z' W' X Y I J front moved back turned x y i j f s m n b z w z' w' t u v =
    cut_found L K I J front moved back turned M N X Y x y i j f
    (subst (λ A. IsSplit A (map prims_of (drop front K)) moved (map prims_of M) (map prims_of N)) (ap (map prims_of) (all_behind L front))
    (subst (λ B. IsSplit (map prims_of (take (length L - front) (drop front L))) B moved (map prims_of M) (map prims_of N)) (ap (map prims_of) (all_behind K front)) s))
    (subst (λ (A : List (Arc Item Global)). IsBack (map prims_of A) (map prims_of N) 0 back) m (subst (λ (B : List (Arc Item Global)). IsBack (map prims_of M') (map prims_of B) 0 back) n b))
    (subst (λ A. IsSplit A (from_back (map prims_of N) back) turned (map prims_of X) (map prims_of Y)) (ap (map prims_of) z' ∙ z)
    (subst (λ B. IsSplit (map prims_of Z') B turned (map prims_of X) (map prims_of Y)) (ap (map prims_of) w' ∙ w) t)) u v
