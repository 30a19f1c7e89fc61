-- The front of two lists, taken off item by item.
use Rattle.std.proofs.Common.{◌≡◌, ℕ, ◌+◌, ◌<◌, ◌≤◌, refl, ap, sym, ◌∙◌, subst, arith, Bool, false, List, [], ◌∷◌, ◌++◌, length, get_or, drop, map, append_assoc, append-nil, bit_or, replicate}
use Rattle.std.proofs.lemmas.List.{drop_more, length-append, length-map, map-append}
use Rattle.std.proofs.Math.ListN.{drop_of_length-le}
use Rattle.std.specs.declared.sync.Arc.{Arc}
use Rattle.std.specs.declared.alloc.Global.{Global}
use Rattle.ps_prim.specs.declared.items.Item.{Item}
use Rattle.ps_prim.specs.declared.prims.Primitive.{Primitive as Prim}
use Rattle.ps_reach.specs.Runs.{prims_of, run_of}
use Rattle.ps_local.specs.Qubits.{IsMask}
use Rattle.ps_local.specs.Exchanges.{IsNext, Fronts, ended, goes, remains, Comes, IsSplit}
use Rattle.ps_local.specs.Wires.{kept}
use Rattle.ps_local.proofs.Parting.{at_place}
use Rattle.ps_local.proofs.Runs.{run_push}
use Rattle.ps_local.proofs.Masks.{mask_none, mask_both}
use Rattle.ps_local.proofs.Keeping.{kept_none}

-- the first i items of I are done: some came to the front, those stay, and this is left of K; whatever the others come to completes it
pub record IsSplitTo (I K : List (List Prim)) (i count : ℕ) (stays rest : List (List Prim)) : Type 0 where
  pub items : List (List Prim)
  pub counted : count ≡ length items
  pub whole : (F M N : List (List Prim)) → Fronts stays (drop i I) rest F M N → Fronts [] I K (items ++ F) (stays ++ M) N

pub split_none : (I K stays rest : List (List Prim)) → stays ≡ [] → rest ≡ K → IsSplitTo I K 0 0 stays rest
split_none I K stays rest e f = subst (λ s. IsSplitTo I K 0 0 s rest) (sym e) (subst (IsSplitTo I K 0 0 []) (sym f) (record { items = []; counted = refl; whole = λ F M N r. r }))

pub split_goes : (I K : List (List Prim)) (i count more : ℕ) (stays rest left : List (List Prim)) (g : List Prim) → i < length I → get_or I i [] ≡ g → more ≡ count + 1 → IsNext stays g rest left → IsSplitTo I K i count stays rest
    → IsSplitTo I K (i + 1) more stays left
split_goes I K i count more stays rest left g h e m x s = record {
  items = s.items ++ g ∷ [];
  counted = m ∙ ap (λ k. k + 1) s.counted ∙ sym (length-append s.items (g ∷ []));
  whole = λ F M N r.
      subst (λ X. Fronts [] I K X (stays ++ M) N) (sym (append_assoc s.items (g ∷ []) F))
      (s.whole (g ∷ F) M N (subst (λ L. Fronts stays L rest (g ∷ F) M N) (sym (drop_more I i [] h ∙ ap (λ (y : List Prim). y ∷ drop (i + 1) I) e)) (goes x r)));
}

pub split_stays : (I K : List (List Prim)) (i count : ℕ) (stays more rest : List (List Prim)) (g : List Prim) → i < length I → get_or I i [] ≡ g → more ≡ stays ++ g ∷ [] → ((left : List (List Prim)) → ¬ (IsNext stays g rest left))
    → IsSplitTo I K i count stays rest → IsSplitTo I K (i + 1) count more rest
split_stays I K i count stays more rest g h e m x s = subst (λ t. IsSplitTo I K (i + 1) count t rest) (sym m) (record {
  items = s.items;
  counted = s.counted;
  whole = λ F M N r.
      subst (λ X. Fronts [] I K (s.items ++ F) X N) (sym (append_assoc stays (g ∷ []) M))
      (s.whole F (g ∷ M) N (subst (λ L. Fronts stays L rest F (g ∷ M) N) (sym (drop_more I i [] h ∙ ap (λ (y : List Prim). y ∷ drop (i + 1) I) e)) (remains x r)));
})

pub split_all : (I K : List (List Prim)) (i count : ℕ) (stays rest : List (List Prim)) → length I ≤ i → IsSplitTo I K i count stays rest → IsSplit I K count stays rest
split_all I K i count stays rest h s = record {
  items = s.items;
  fronts = subst (λ X. Fronts [] I K X stays rest) (append-nil s.items)
      (subst (λ X. Fronts [] I K (s.items ++ []) X rest) (append-nil stays) (s.whole [] [] rest (subst (λ L. Fronts stays L rest [] [] rest) (sym (drop_of_length-le I h)) ended)));
  counted = s.counted;
}

-- ---- of shared items
-- the first list's item comes to the front
pub item_goes : (L list same : List (Arc Item Global)) (K : List (List Prim)) (i count more : ℕ) (rest left : List (List Prim)) (a : Arc Item Global) → i < length L → a ≡ get_or L i a → more ≡ count + 1 → same ≡ list
    → IsNext (map prims_of list) (prims_of a) rest left → IsSplitTo (map prims_of L) K i count (map prims_of list) rest → IsSplitTo (map prims_of L) K (i + 1) more (map prims_of same) left
item_goes L list same K i count more rest left a h e m q x s =
    subst (λ (l : List (Arc Item Global)). IsSplitTo (map prims_of L) K (i + 1) more (map prims_of l) left) (sym q)
    (split_goes (map prims_of L) K i count more (map prims_of list) rest left (prims_of a) (omega (arith, length-map L prims_of)) (at_place L i a h e) m x s)

-- or stays
pub item_stays : (L list more : List (Arc Item Global)) (K : List (List Prim)) (i count same : ℕ) (rest left : List (List Prim)) (a b : Arc Item Global) → i < length L → a ≡ get_or L i a → same ≡ count → prims_of b ≡ prims_of a → more ≡ list ++ b ∷ []
    → Comes false (map prims_of list) (prims_of a) rest left → IsSplitTo (map prims_of L) K i count (map prims_of list) rest → IsSplitTo (map prims_of L) K (i + 1) same (map prims_of more) left
item_stays L list more K i count same rest left a b h e q p m x s =
    subst (λ k. IsSplitTo (map prims_of L) K (i + 1) k (map prims_of more) left) (sym q) (subst (IsSplitTo (map prims_of L) K (i + 1) count (map prims_of more)) (sym x.0)
    (split_stays (map prims_of L) K i count (map prims_of list) (map prims_of more) rest (prims_of a) (omega (arith, length-map L prims_of)) (at_place L i a h e)
    (ap (map prims_of) m ∙ map-append prims_of list (b ∷ []) ∙ ap (λ (y : List Prim). map prims_of list ++ y ∷ []) p) x.1 s))

-- what was found of the item itself
pub comes_shared : (b : Bool) (stays rest left : List (List Prim)) (g h : List Prim) → g ≡ h → Comes b stays g rest left → Comes b stays h rest left
comes_shared b stays rest left g h e x = subst (λ k. Comes b stays k rest left) e x

-- the qubits of the items that stay are blocked
pub blocked_none : (list : List (Arc Item Global)) → list ≡ [] → IsMask 0 (run_of (map prims_of list))
unfolding run_of
blocked_none list e = subst (λ (l : List (Arc Item Global)). IsMask 0 (run_of (map prims_of l))) (sym e) mask_none

pub blocked_same : (list same : List (Arc Item Global)) (blocked mask : ℕ) → same ≡ list → mask ≡ blocked → IsMask blocked (run_of (map prims_of list)) → IsMask mask (run_of (map prims_of same))
blocked_same list same blocked mask e f w = subst (λ m. IsMask m (run_of (map prims_of same))) (sym f) (subst (λ (l : List (Arc Item Global)). IsMask blocked (run_of (map prims_of l))) (sym e) w)

pub blocked_more : (list more : List (Arc Item Global)) (a b : Arc Item Global) (A : List Prim) (blocked mask now : ℕ) → prims_of b ≡ prims_of a → more ≡ list ++ b ∷ [] → A ≡ prims_of a → IsMask mask A → now ≡ bit_or blocked mask
    → IsMask blocked (run_of (map prims_of list)) → IsMask now (run_of (map prims_of more))
blocked_more list more a b A blocked mask now p m q x f w =
    subst (λ k. IsMask k (run_of (map prims_of more))) (sym f)
    (subst (IsMask (bit_or blocked mask))
    (sym (ap (λ (l : List (Arc Item Global)). run_of (map prims_of l)) m ∙ ap run_of (map-append prims_of list (b ∷ []) ∙ ap (λ (y : List Prim). map prims_of list ++ y ∷ []) p) ∙ run_push (map prims_of list) (prims_of a)))
    (mask_both blocked mask (run_of (map prims_of list)) (prims_of a) w (subst (IsMask mask) q x)))

pub kept_first : (out : List Bool) (K : List (Arc Item Global)) → out ≡ replicate (length K) false → kept out (map prims_of K) ≡ map prims_of K
kept_first out K e = ap (λ o. kept o (map prims_of K)) e ∙ kept_none (map prims_of K) (length K) (length-map K prims_of)

-- ---- the end
pub split_done : (L K list second : List (Arc Item Global)) (out now : List Bool) (i count : ℕ) → length L ≤ i → now ≡ out → map prims_of second ≡ kept now (map prims_of K)
    → IsSplitTo (map prims_of L) (map prims_of K) i count (map prims_of list) (kept out (map prims_of K)) → IsSplit (map prims_of L) (map prims_of K) count (map prims_of list) (map prims_of second)
split_done L K list second out now i count h e f s =
    subst (IsSplit (map prims_of L) (map prims_of K) count (map prims_of list)) (sym (f ∙ ap (λ o. kept o (map prims_of K)) e))
    (split_all (map prims_of L) (map prims_of K) i count (map prims_of list) (kept out (map prims_of K)) (omega (arith, length-map L prims_of)) s)
