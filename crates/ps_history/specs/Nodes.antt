-- What the names of segments stand for.
use Rattle.std.specs.Prelude.{ℕ, ◌≡◌, List, [], ◌∷◌, ◌++◌, slice_get, Option, Some, None}
use Rattle.seg_tree.specs.Trees.{Tree, leaf, branch, run}
use Rattle.ps_journal.specs.State.{Item}

-- the items of a segment, and on how many qubits they are
pub record Node : Type 0 where
  pub items : List Item
  pub qubits : ℕ

abbrev pub node : List Item → ℕ → Node
node items qubits = record { items = items; qubits = qubits }

module _ (table : List Node) (q : ℕ) where
  -- the name stands for these items in the table, where names are numbers
  abbrev pub StandsFor : Option ℕ → List Item → Type 0
  StandsFor None items = ⊥
  StandsFor (Some k) items = slice_get table k ≡ Some (node items q)

  -- each node has a name, which stands for its items
  abbrev pub IsKnown : Tree Item → Type 0
  IsKnown (leaf name items) = StandsFor name items
  IsKnown (branch name l r) = StandsFor name (run l ++ run r) × IsKnown l × IsKnown r

  abbrev pub IsKnownMaybe : Option (Tree Item) → Type 0
  IsKnownMaybe None = Unit {0}
  IsKnownMaybe (Some t) = IsKnown t

  -- nodes that were made just now have no name yet; what is below one that has a name has one too
  abbrev pub IsDraft : Tree Item → Type 0
  IsDraft (leaf None items) = Unit {0}
  IsDraft (leaf (Some k) items) = StandsFor (Some k) items
  IsDraft (branch None l r) = IsDraft l × IsDraft r
  IsDraft (branch (Some k) l r) = StandsFor (Some k) (run l ++ run r) × IsKnown l × IsKnown r

  abbrev pub IsDraftMaybe : Option (Tree Item) → Type 0
  IsDraftMaybe None = Unit {0}
  IsDraftMaybe (Some t) = IsDraft t

-- what the names stand for that such nodes get, children first
abbrev pub new_nodes : ℕ → Tree Item → List Node
new_nodes q (leaf None items) = node items q ∷ []
new_nodes q (leaf (Some k) items) = []
new_nodes q (branch None l r) = new_nodes q l ++ (new_nodes q r ++ node (run l ++ run r) q ∷ [])
new_nodes q (branch (Some k) l r) = []

abbrev pub new_nodes_maybe : ℕ → Option (Tree Item) → List Node
new_nodes_maybe q None = []
new_nodes_maybe q (Some t) = new_nodes q t
