-- The lines of applications, what undoes them, and the texts of generated blocks.
use Rattle.std.specs.Prelude.{ℕ, List, ◌++◌, map, reverse, codes, decimal}
use Rattle.std.specs.List.{flat_map}
use Rattle.ps_gen.specs.declared.applications.Gate.{Gate}
use Rattle.ps_gen.specs.declared.applications.Gate.TheVariants.{X, S, Sdg, T, Tdg, Cx, Cz, Swap}
use Rattle.ps_gen.specs.declared.applications.Application.{Application}
use Rattle.ps_gen.specs.Draws.{applications}

-- a line: the gate's name, its qubit or its two, and LF
abbrev pub on_one : List ℕ → ℕ → List ℕ
on_one name a = name ++ codes " q[" ++ decimal a ++ codes "];\n"

abbrev pub on_two : List ℕ → ℕ → ℕ → List ℕ
on_two name a b = name ++ codes " q[" ++ decimal a ++ codes "],q[" ++ decimal b ++ codes "];\n"

abbrev pub line_of : Gate → ℕ → ℕ → List ℕ
line_of X a b = on_one (codes "x") a
line_of S a b = on_one (codes "s") a
line_of Sdg a b = on_one (codes "sdg") a
line_of T a b = on_one (codes "t") a
line_of Tdg a b = on_one (codes "tdg") a
line_of Cx a b = on_two (codes "cx") a b
line_of Cz a b = on_two (codes "cz") a b
line_of Swap a b = on_two (codes "swap") a b

abbrev pub line : Application → List ℕ
line p = line_of p.gate p.first p.second

-- what undoes a gate: the gate itself, but for quarter and eighth turns
abbrev pub mirrored_gate : Gate → Gate
mirrored_gate X = X
mirrored_gate S = Sdg
mirrored_gate Sdg = S
mirrored_gate T = Tdg
mirrored_gate Tdg = T
mirrored_gate Cx = Cx
mirrored_gate Cz = Cz
mirrored_gate Swap = Swap

abbrev pub mirrored : Application → Application
mirrored p = record { gate = mirrored_gate p.gate; first = p.first; second = p.second }

-- the block that is drawn from a seed
abbrev pub circuit_text : ℕ → ℕ → ℕ → List ℕ
circuit_text seed qubits items = flat_map line (applications qubits items seed)

-- the one that undoes it
abbrev pub mirror_text : ℕ → ℕ → ℕ → List ℕ
mirror_text seed qubits items = flat_map line (map mirrored (reverse (applications qubits items seed)))
