-- Lists of items as lists of prims, forwards and backwards.
use Rattle.std.proofs.Common.{◌≡◌, ℕ, refl, ap, sym, ◌∙◌, List, [], ◌∷◌, ◌++◌, reverse, append_assoc, append-nil, ◌⊎◌, inl, inr}
use Rattle.std.proofs.lemmas.List.{reverse-append}
use Rattle.ps_prim.specs.declared.prims.Primitive.{Primitive as Prim}
use Rattle.ps_prim.specs.Maps.{AllWithin}
use Rattle.ps_reach.specs.Runs.{run_of}
use Rattle.ps_reach.proofs.Denoting.{within_first, within_second, within_both}
use Rattle.ps_cut.specs.Orders.{IsOnSome, AreDisjoint}
use Rattle.ps_local.specs.Exchanges.{AllApart}

pub run_append : (I K : List (List Prim)) → run_of (I ++ K) ≡ run_of I ++ run_of K
unfolding run_of
run_append [] K = refl
run_append (i ∷ I) K = ap (λ (r : List Prim). i ++ r) (run_append I K) ∙ sym (append_assoc i (run_of I) (run_of K))

pub run_one : (g : List Prim) → run_of (g ∷ []) ≡ g
unfolding run_of
run_one g = append-nil g

pub run_push : (L : List (List Prim)) (g : List Prim) → run_of (L ++ g ∷ []) ≡ run_of L ++ g
run_push L g = run_append L (g ∷ []) ∙ ap (λ (r : List Prim). run_of L ++ r) (run_one g)

-- all prims of the items, the last item first
unfoldable pub backwards : List (List Prim) → List Prim
backwards [] = []
backwards (g ∷ L) = backwards L ++ g

pub backwards_push : (L : List (List Prim)) (g : List Prim) → backwards (L ++ g ∷ []) ≡ g ++ backwards L
unfolding backwards
backwards_push [] g = sym (append-nil g)
backwards_push (h ∷ L) g = ap (λ (r : List Prim). r ++ h) (backwards_push L g) ∙ append_assoc g (backwards L) h

pub backwards_is : (L : List (List Prim)) → run_of (reverse L) ≡ backwards L
unfolding backwards run_of
backwards_is [] = refl
backwards_is (g ∷ L) = ap run_of (reverse-append (g ∷ []) L) ∙ run_push (reverse L) g ∙ ap (λ (r : List Prim). r ++ g) (backwards_is L)

-- ---- qubits
pub on_either : (k : ℕ) (A B : List Prim) → IsOnSome k (A ++ B) → IsOnSome k A ⊎ IsOnSome k B
on_either k [] B h = inr h
on_either k (g ∷ A) B (inl h) = inl (inl h)
on_either k (g ∷ A) B (inr h) = elim (on_either k A B h) [ inl a ↦ inl (inr a) | inr b ↦ inr b ]

pub apart_run : (L : List (List Prim)) (g : List Prim) → AllApart L g → AreDisjoint (run_of L) g
unfolding run_of
apart_run [] g a k h y = absurd h
apart_run (h ∷ L) g a k x y = elim (on_either k h (run_of L) x) [ inl u ↦ a.0 k u y | inr u ↦ apart_run L g a.1 k u y ]

pub apart_backwards : (L : List (List Prim)) (g : List Prim) → AllApart L g → AreDisjoint g (backwards L)
unfolding backwards
apart_backwards [] g a k y h = absurd h
apart_backwards (h ∷ L) g a k y x = elim (on_either k (backwards L) h x) [ inl u ↦ apart_backwards L g a.1 k y u | inr u ↦ a.0 k u y ]

-- ---- qubits below n
pub within_backwards : (n : ℕ) (L : List (List Prim)) → AllWithin n (run_of L) → AllWithin n (backwards L)
unfolding run_of backwards
within_backwards n [] h = tt
within_backwards n (g ∷ L) h = within_both n (backwards L) g (within_backwards n L (within_second n g (run_of L) h)) (within_first n g (run_of L) h)

pub within_forwards : (n : ℕ) (L : List (List Prim)) → AllWithin n (backwards L) → AllWithin n (run_of L)
unfolding run_of backwards
within_forwards n [] h = tt
within_forwards n (g ∷ L) h = within_both n g (run_of L) (within_second n (backwards L) g h) (within_forwards n L (within_first n (backwards L) g h))
