-- Prims, and lists of prims, that may stand in either order.
use Rattle.std.specs.Prelude.{ℕ, ◌≡◌, ◌≢◌, ◌⊎◌, List, [], ◌∷◌}
use Rattle.ps_prim.specs.declared.prims.Primitive.{Primitive as Prim}
use Rattle.ps_prim.specs.declared.prims.Primitive.TheVariants.{U, Cx}
use Rattle.ps_prim.specs.Maps.{SameMap}

-- the qubit is one of the prim's
abbrev pub IsOn : ℕ → Prim → Type 0
IsOn k (U theta phi lambda q) = k ≡ q
IsOn k (Cx c t) = (k ≡ c) ⊎ (k ≡ t)

-- the qubit is one of some prim's of the list
abbrev pub IsOnSome : ℕ → List Prim → Type 0
IsOnSome k [] = ⊥
IsOnSome k (g ∷ gs) = IsOn k g ⊎ IsOnSome k gs

-- no qubit is one of both lists
abbrev pub AreDisjoint : List Prim → List Prim → Type 0
AreDisjoint A B = (k : ℕ) → IsOnSome k A → IsOnSome k B → ⊥

-- no qubit of the first prim is one of the second
abbrev pub AreApart : Prim → Prim → Type 0
AreApart (U theta phi lambda q) (U theta' phi' lambda' r) = q ≢ r
AreApart (U theta phi lambda q) (Cx c t) = (q ≢ c) × (q ≢ t)
AreApart (Cx c t) (U theta phi lambda q) = (q ≢ c) × (q ≢ t)
AreApart (Cx c t) (Cx d u) = (c ≢ d) × (c ≢ u) × (t ≢ d) × (t ≢ u)

-- no qubit of the prim is one of the list
abbrev pub IsBeside : Prim → List Prim → Type 0
IsBeside g [] = Unit {0}
IsBeside g (h ∷ hs) = AreApart g h × IsBeside g hs

-- the prim may stand in front of each prim of the list or behind it
abbrev pub SwapsWith : ℕ → Prim → List Prim → Type 0
SwapsWith n g [] = Unit {0}
SwapsWith n g (h ∷ hs) = SameMap n (g ∷ h ∷ []) (h ∷ g ∷ []) × SwapsWith n g hs
