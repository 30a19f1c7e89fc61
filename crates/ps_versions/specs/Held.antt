-- What is held: circuits with their versions, the trees of all nodes, and what is kept at each node.
use Rattle.std.specs.Prelude.{ℕ, List, Option, refl}
use Rattle.std.specs.Coded.{Coded, code_by, coded×, coded_ℕ, coded_list, coded_option}
use Rattle.seg_tree.specs.Trees.{Tree}
use Rattle.seg_tree.specs.Coding.{tree_code}

-- A version. It is live or retired by an entry; `ended` is the entry by which it stopped being kept.
pub record Version : Type 0 where
  pub root : Option ℕ
  pub retired : Option ℕ
  pub ended : Option ℕ
  pub pins : ℕ

-- A circuit. Its versions are numbered from 1.
pub record Circuit : Type 0 where
  pub name : List ℕ
  pub qubits : ℕ
  pub opened : ℕ
  pub versions : List Version

-- All circuits in order of opening, the tree of each node, and at each node the entry and the value that it keeps.
pub record Held (R : Type 0) : Type 0 where
  pub circuits : List Circuit
  pub nodes : List (Tree ℕ)
  pub kept : List (Option (ℕ × R))

abbrev pub version_code : Coded Version
version_code =
    code_by (Option ℕ × (Option ℕ × (Option ℕ × ℕ))) (coded× (coded_option coded_ℕ) (coded× (coded_option coded_ℕ) (coded× (coded_option coded_ℕ) coded_ℕ)))
    (λ v. (v.root, (v.retired, (v.ended, v.pins)))) (λ p. record { root = p.0; retired = p.1.0; ended = p.1.1.0; pins = p.1.1.1 }) (λ _. refl)

abbrev pub circuit_code : Coded Circuit
circuit_code =
    code_by (List ℕ × (ℕ × (ℕ × List Version))) (coded× (coded_list coded_ℕ) (coded× coded_ℕ (coded× coded_ℕ (coded_list version_code))))
    (λ c. (c.name, (c.qubits, (c.opened, c.versions)))) (λ p. record { name = p.0; qubits = p.1.0; opened = p.1.1.0; versions = p.1.1.1 }) (λ _. refl)

abbrev pub held_code : {R : Type 0} → Coded R → Coded (Held R)
held_code {R} code =
    code_by (List Circuit × (List (Tree ℕ) × List (Option (ℕ × R)))) (coded× (coded_list circuit_code) (coded× (coded_list (tree_code coded_ℕ)) (coded_list (coded_option (coded× coded_ℕ code)))))
    (λ h. (h.circuits, (h.nodes, h.kept))) (λ p. record { circuits = p.0; nodes = p.1.0; kept = p.1.1 }) (λ _. refl)
