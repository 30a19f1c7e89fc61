-- The text of items of circuits.
use Rattle.std.specs.Prelude.{ℕ, List, [], ◌∷◌, ◌++◌, codes, decimal}
use Rattle.std.specs.List.{flat_map}
use Rattle.ps_prim.specs.declared.prims.Primitive.{Primitive as Prim}
use Rattle.ps_prim.specs.declared.prims.Primitive.TheVariants.{U, Cx}

-- a gate: its angles in units of pi/2^30, and its qubits
abbrev pub prim_text : Prim → List ℕ
prim_text (U theta phi lambda q) = codes "U " ++ decimal theta ++ codes "," ++ decimal phi ++ codes "," ++ decimal lambda ++ codes " " ++ decimal q
prim_text (Cx c t) = codes "CX " ++ decimal c ++ codes " " ++ decimal t

-- a gate with the mark in front of it
abbrev pub next_prim : Prim → List ℕ
next_prim g = codes "; " ++ prim_text g

-- an item: its gates with `; ` between each two, or `-` where it has none
abbrev pub item_text : List Prim → List ℕ
item_text [] = codes "-"
item_text (g ∷ gs) = prim_text g ++ flat_map next_prim gs

-- a line for each item, with its LF in front
abbrev pub item_line : List Prim → List ℕ
item_line is = 10 ∷ item_text is

abbrev pub item_lines : List (List Prim) → List ℕ
item_lines items = flat_map item_line items
