-- What the lines of a derivation do, one after the other, on a list of sums.
use Rattle.std.specs.Prelude.{ℕ, ◌≡◌, ◌+◌, ◌<◌, ◌≤◌, Bool, true, false, List, [], ◌∷◌, length, get_or}
use Rattle.ps_prim.specs.declared.prims.Primitive.{Primitive as Prim}
use Rattle.ps_sum.specs.declared.sums.PathSum.{PathSum}
use Rattle.ps_rules.specs.declared.steps.Step.{Step}
use Rattle.ps_rules.specs.Rules.{Applies, Applied, StepFits}
use Rattle.ps_join.specs.Joining.{IsLeafOf, IsIdentityOf, IsJoinOf, JoinFits}
use Rattle.ps_overlap.specs.Overlapping.{IsOverlapOf}
use Rattle.ps_reach.specs.Replays.{Run, none, span, Meets, whole_run}
use Rattle.ps_steps.specs.declared.lines.Line.{Line}
use Rattle.ps_steps.specs.declared.lines.Line.TheVariants.{Head, Leaf, Id, Join, Rewrite, Overlap, End}

-- the sum of a run of prims of one side, where side b is true; or the overlap of both sides, which has no side
pub data Entry : Type 0 where
  sided : Bool → Run → PathSum → Entry
  closed : PathSum → Entry

-- the prims of a side
abbrev pub side_of : Bool → List Prim → List Prim → List Prim
side_of false A B = A
side_of true A B = B

-- no entry is the overlap
abbrev pub AllSided : List Entry → Type 0
AllSided [] = Unit {0}
AllSided (sided b r S ∷ es) = AllSided es
AllSided (closed S ∷ es) = ⊥

-- the entry has the sum S in place of its own
abbrev pub with_sum : Entry → PathSum → Entry
with_sum (sided b r S0) S = sided b r S
with_sum (closed S0) S = closed S

abbrev pub sum_of : Entry → PathSum
sum_of (sided b r S) = S
sum_of (closed S) = S

-- the overlap of these two is within the limit on variables
abbrev pub OverlapFits : PathSum → PathSum → Type 0
OverlapFits S1 S2 = S1.n + S1.n + S1.m + S2.m ≤ 512

-- the line leads from one list to the other, the newest entry first in each
pub data Does (n : ℕ) (A B : List Prim) : Line → List Entry → List Entry → Type 0 where
  head : {es : List Entry} → Does n A B (Head 1) es es
  leaf : {es : List Entry} {b : Bool} {i : ℕ} {g : Prim} {S : PathSum} → AllSided es → i < length (side_of b A B) → g ≡ get_or (side_of b A B) i g → IsLeafOf n g S
      → Does n A B (Leaf b i) es (sided b (span i (i + 1)) S ∷ es)
  ident : {es : List Entry} {b : Bool} {S : PathSum} → IsIdentityOf n S → Does n A B (Id b) es (sided b none S ∷ es)
  join : {es : List Entry} {b : Bool} {r1 r2 r : Run} {S1 S2 S : PathSum} → AllSided es → Meets r1 r2 r → JoinFits S1 S2 → IsJoinOf S1 S2 S
      → Does n A B Join (sided b r2 S2 ∷ sided b r1 S1 ∷ es) (sided b r S ∷ es)
  rewrite : {es : List Entry} {e : Entry} {s : Step} (T : PathSum) → Applies (sum_of e) s → StepFits (sum_of e) s → Applied (sum_of e) s T
      → Does n A B (Rewrite s) (e ∷ es) (with_sum e T ∷ es)
  overlap : {r1 r2 : Run} {S1 S2 S : PathSum} → r1 ≡ whole_run A → r2 ≡ whole_run B → OverlapFits S1 S2 → IsOverlapOf S1 S2 S
      → Does n A B Overlap (sided true r2 S2 ∷ sided false r1 S1 ∷ []) (closed S ∷ [])
  end : {S : PathSum} → Does n A B End (closed S ∷ []) (closed S ∷ [])

-- all lines hold, from the list on, and the last sum is S
pub data HoldsFrom (n : ℕ) (A B : List Prim) : List Line → List Entry → PathSum → Type 0 where
  over : {S : PathSum} → HoldsFrom n A B [] (closed S ∷ []) S
  line : {l : Line} {ls : List Line} {es fs : List Entry} {S : PathSum} → Does n A B l es fs → HoldsFrom n A B ls fs S → HoldsFrom n A B (l ∷ ls) es S

-- the lines hold for the two lists of prims on n qubits, and the last sum is S
abbrev pub Holds : ℕ → List Prim → List Prim → List Line → PathSum → Type 0
Holds n A B ls S = HoldsFrom n A B ls [] S
