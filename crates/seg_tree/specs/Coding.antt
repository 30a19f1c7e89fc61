-- How a tree is stored: its nodes in post-order, each with its name, a leaf with its items.
use Rattle.std.specs.Prelude.{◌≡◌, ℕ, List, [], ◌∷◌, ◌++◌, Option, ◌⊎◌}
use Rattle.std.specs.Coded.{Coded, code_by, coded_list, coded×, coded⊎, coded_option, coded_ℕ}
use Rattle.std.proofs.Common.{inl, inr, refl, sym, ◌∙◌, ap, append_assoc, append-nil}
use Rattle.seg_tree.specs.Trees.{Tree, leaf, branch, nothing}

-- a leaf with its name and items, or a branch with its name
abbrev pub Token : Type 0 → Type 0
Token A = (Option ℕ × List A) ⊎ Option ℕ

module _ {A : Type 0} where
  abbrev pub tokens : Tree A → List (Token A)
  tokens (leaf name items) = inl (name, items) ∷ []
  tokens (branch name left right) = tokens left ++ (tokens right ++ inr name ∷ [])

  -- one more node over the trees that stand
  abbrev pub stacked : Token A → List (Tree A) → List (Tree A)
  stacked (inl t) trees = leaf t.0 t.1 ∷ trees
  stacked (inr name) [] = []
  stacked (inr name) (r ∷ []) = []
  stacked (inr name) (r ∷ (l ∷ trees)) = branch name l r ∷ trees

  abbrev pub replayed : List (Token A) → List (Tree A) → List (Tree A)
  replayed [] trees = trees
  replayed (t ∷ ts) trees = replayed ts (stacked t trees)

  abbrev pub first : List (Tree A) → Tree A
  first [] = nothing
  first (t ∷ ts) = t

  abbrev pub untokened : List (Token A) → Tree A
  untokened ts = first (replayed ts [])

  replayed-tokens : (t : Tree A) (rest : List (Token A)) (trees : List (Tree A)) → replayed (tokens t ++ rest) trees ≡ replayed rest (t ∷ trees)
  replayed-tokens (leaf name items) rest trees = refl
  replayed-tokens (branch name l r) rest trees =
      ap (λ ts. replayed ts trees) (append_assoc (tokens l) (tokens r ++ inr name ∷ []) rest ∙ ap (λ ts. tokens l ++ ts) (append_assoc (tokens r) (inr name ∷ []) rest))
      ∙ replayed-tokens l (tokens r ++ (inr name ∷ [] ++ rest)) trees
      ∙ replayed-tokens r (inr name ∷ [] ++ rest) (l ∷ trees)

  pub untokened-tokens : (t : Tree A) → untokened (tokens t) ≡ t
  untokened-tokens t = ap (λ ts. first (replayed ts [])) (sym (append-nil (tokens t))) ∙ ap first (replayed-tokens t [] [])

  abbrev pub tree_code : Coded A → Coded (Tree A)
  tree_code code = code_by (List (Token A)) (coded_list (coded⊎ (coded× (coded_option coded_ℕ) (coded_list code)) (coded_option coded_ℕ))) tokens untokened untokened-tokens
