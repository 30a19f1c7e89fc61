-- The front of two lists of items, up to exchanging neighbours that share no qubit.
use Rattle.std.specs.Prelude.{ℕ, ◌≡◌, ◌≢◌, Bool, true, false, length, List, [], ◌∷◌, ◌++◌}
use Rattle.ps_prim.specs.declared.prims.Primitive.{Primitive as Prim}
use Rattle.ps_cut.specs.Orders.{AreDisjoint}

-- no item of the list shares a qubit with this one
abbrev pub AllApart : List (List Prim) → List Prim → Type 0
AllApart [] g = Unit {0}
AllApart (h ∷ hs) g = AreDisjoint h g × AllApart hs g

-- the item is the first of the list on all its qubits, and this is left of the list: before it stand other items alone,
-- which share no qubit with it
pub data Pulls (g : List Prim) : List (List Prim) → List (List Prim) → Type 0 where
  here : {h : List Prim} {rest : List (List Prim)} → h ≡ g → Pulls g (h ∷ rest) rest
  past : {h : List Prim} {rest left : List (List Prim)} → h ≢ g → AreDisjoint h g → Pulls g rest left → Pulls g (h ∷ rest) (h ∷ left)

-- the item has a prim, and is the next one on all its qubits in both lists: it shares none with the items that stay before it
-- in the one, and comes out of the other, of which this is left
pub record IsNext (stays : List (List Prim)) (g : List Prim) (K left : List (List Prim)) : Type 0 where
  pub some : g ≢ []
  pub apart : AllApart stays g
  pub pulls : Pulls g K left

-- with these items of the first list staying before I: the items of I go to the front one after the other where they are next
-- in both lists, and else stay. F is the front, and M and N are left of I and K
pub data Fronts : List (List Prim) → List (List Prim) → List (List Prim) → List (List Prim) → List (List Prim) → List (List Prim) → Type 0 where
  ended : {stays K : List (List Prim)} → Fronts stays [] K [] [] K
  goes : {stays I K K' F M N : List (List Prim)} {g : List Prim} → IsNext stays g K K' → Fronts stays I K' F M N → Fronts stays (g ∷ I) K (g ∷ F) M N
  remains : {stays I K F M N : List (List Prim)} {g : List Prim} → ((left : List (List Prim)) → ¬ (IsNext stays g K left)) → Fronts (stays ++ g ∷ []) I K F M N → Fronts stays (g ∷ I) K F (g ∷ M) N

-- the item came to the front, and this is left of the second list; or it is not next, and the second list is as it was
abbrev pub Comes : Bool → List (List Prim) → List Prim → List (List Prim) → List (List Prim) → Type 0
Comes true stays g K left = IsNext stays g K left
Comes false stays g K left = (left ≡ K) × ((other : List (List Prim)) → ¬ (IsNext stays g K other))

-- so many items come to the front, and this is left of both lists
pub record IsSplit (I K : List (List Prim)) (count : ℕ) (M N : List (List Prim)) : Type 0 where
  pub items : List (List Prim)
  pub fronts : Fronts [] I K items M N
  pub counted : count ≡ length items
