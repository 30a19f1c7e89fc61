-- The lines of a derivation, and the order that they stand in.
use Rattle.std.specs.Prelude.{ℕ, ◌^◌, Bool, true, false, ◌&&◌, ◌||◌, nat_eq, nat_lt, List, [], ◌∷◌, ◌++◌, codes, decimal}
use Rattle.ps_rules.specs.declared.steps.Step.{Step}
use Rattle.ps_rules.specs.declared.steps.Step.TheVariants.{Elim, Hh, Omega}
use Rattle.ps_steps.specs.declared.lines.Line.{Line}
use Rattle.ps_steps.specs.declared.lines.Line.TheVariants.{Head, Leaf, Id, Join, Rewrite, Overlap, End}

-- the line that a derivation begins with
unfoldable pub is_head : Line → Bool
is_head (Head n) = nat_eq n 1
is_head (Leaf b i) = false
is_head (Id b) = false
is_head Join = false
is_head (Rewrite s) = false
is_head Overlap = false
is_head End = false

-- the line that it ends with
unfoldable pub is_end : Line → Bool
is_end (Head n) = false
is_end (Leaf b i) = false
is_end (Id b) = false
is_end Join = false
is_end (Rewrite s) = false
is_end Overlap = false
is_end End = true

-- path variables below 2^16
unfoldable pub is_step : Step → Bool
is_step (Elim y) = nat_lt y 65536
is_step (Hh y z) = nat_lt y 65536 && nat_lt z 65536
is_step (Omega y) = nat_lt y 65536

-- the lines between; the prim of a leaf is below 2^32
unfoldable pub is_inner : Line → Bool
is_inner (Head n) = false
is_inner (Leaf b i) = nat_lt i 4294967296
is_inner (Id b) = true
is_inner Join = true
is_inner (Rewrite s) = is_step s
is_inner Overlap = true
is_inner End = false

-- what may stand behind the head: lines between, and the end as the last if at all
unfoldable pub goes_on : List Line → Bool
goes_on [] = true
goes_on (l ∷ []) = is_inner l || is_end l
goes_on (l ∷ m ∷ ls) = is_inner l && goes_on (m ∷ ls)

-- a derivation up to some line
unfoldable pub is_beginning : List Line → Bool
is_beginning [] = true
is_beginning (l ∷ ls) = is_head l && goes_on ls

-- the last line is the end
unfoldable pub is_ended : List Line → Bool
is_ended [] = false
is_ended (l ∷ []) = is_end l
is_ended (l ∷ m ∷ ls) = is_ended (m ∷ ls)

-- a derivation: the head is its first line and no other, and the end its last line and no other
abbrev pub is_derivation : List Line → Bool
is_derivation ls = is_beginning ls && is_ended ls
