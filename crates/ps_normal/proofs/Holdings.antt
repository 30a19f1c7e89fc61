-- The lines of moves and steps hold.
use Rattle.std.proofs.Common.{◌≡◌, ℕ, refl, sym, subst, arith, Bool, true, false, List, [], ◌∷◌, ◌++◌}
use mathlib.Core.Logic.{∥∥₁_elim, ∥∥₁_map}
use Rattle.ps_prim.specs.declared.prims.Primitive.{Primitive as Prim}
use Rattle.ps_sum.specs.declared.sums.PathSum.{PathSum}
use Rattle.ps_rules.specs.declared.steps.Step.{Step}
use Rattle.ps_rules.specs.declared.steps.Move.{Move}
use Rattle.ps_overlap.specs.Overlapping.{IsOverlapOf}
use Rattle.ps_steps.specs.declared.lines.Line.{Line}
use Rattle.ps_steps.specs.Holding.{Entry, sided, closed, side_of, AllSided, OverlapFits, HoldsFrom, over, line, Holds}
use Rattle.ps_steps.specs.Holding as holding
use Rattle.ps_reach.specs.declared.evidence.Body.{Body}
use Rattle.ps_reach.specs.declared.evidence.Body.TheVariants as body
use Rattle.ps_reach.specs.declared.judged.Judged.{Judged}
use Rattle.ps_reach.specs.declared.verdict.Verdict.TheVariants as verdict
use Rattle.ps_reach.specs.Runs.{run_of}
use Rattle.ps_reach.specs.Reductions.{Reduces, rest, step}
use Rattle.ps_reach.specs.Replays.{Replays, done, leaf, ident, join, rewrite, whole_run, Reaches}
use Rattle.ps_reach.specs.Replays.{Entry as Placed}
use Rattle.ps_reach.specs.Parts.{IsRight, outcome_by}
use Rattle.ps_reach.specs.Findings.{yes, IsUnit, unit, Shows, no_paths, Overlaps, shows, Compares, sums}
use Rattle.ps_reach.specs.declared.mode.Mode.{Mode}
use Rattle.ps_reach.specs.Judging.{outcome_of, finding_of, IsJudged}
use Rattle.ps_normal.specs.Deriving.{side_lines, step_lines, lines_by, derivation_of, Derives}

-- ---- the entries of one side
on : Bool → Placed → Entry
on b e = sided b e.run e.sum

-- above others
on_all : Bool → List Placed → List Entry → List Entry
on_all b [] under = under
on_all b (e ∷ es) under = on b e ∷ on_all b es under

on_sided : (b : Bool) (es : List Placed) (under : List Entry) → AllSided under → AllSided (on_all b es under)
unfolding on on_all
on_sided b [] under u = u
on_sided b (e ∷ es) under u = on_sided b es under u

-- ---- the moves of a side
moves_hold : {n : ℕ} {A B : List Prim} (b : Bool) (under : List Entry) {es fs : List Placed} {ms : List Move} {ls : List Line} {S : PathSum} → AllSided under → Replays n (side_of b A B) es ms fs
    → HoldsFrom n A B ls (on_all b fs under) S → HoldsFrom n A B (side_lines b ms ++ ls) (on_all b es under) S
unfolding on on_all
moves_hold b under u done k = k
moves_hold b under {es = es} u (leaf h e l r) k = line (holding.leaf (on_sided b es under u) h e l) (moves_hold b under u r k)
moves_hold b under u (ident i r) k = line (holding.ident i) (moves_hold b under u r k)
moves_hold b under u (join {es = es} m f j r) k = line (holding.join (on_sided b es under u) m f j) (moves_hold b under u r k)
moves_hold b under u (rewrite {r = run} {S = S} f t a r) k = line (holding.rewrite {e = sided b run S} _ f.applies t a) (moves_hold b under u r k)

-- ---- the steps of the overlap
steps_hold : {n : ℕ} {A B : List Prim} {S T U : PathSum} {ss : List Step} {ls : List Line} → Reduces S ss T → HoldsFrom n A B ls (closed T ∷ []) U → HoldsFrom n A B (step_lines ss ++ ls) (closed S ∷ []) U
steps_hold rest k = k
steps_hold (step {S = S} f t a r) k = line (holding.rewrite {e = closed S} _ f.applies t a) (steps_hold r k)

overlap_fits : (S1 S2 S : PathSum) → IsOverlapOf S1 S2 S → OverlapFits S1 S2
overlap_fits S1 S2 S o = omega (arith, o.qubits_are, o.overlaps.m_is, S.named)

-- ---- all lines
pub lines_hold : {n : ℕ} {A B : List Prim} {ms1 ms2 : List Move} {S1 S2 S T : PathSum} {ss : List Step} → Reaches n A ms1 S1 → Reaches n B ms2 S2 → IsOverlapOf S1 S2 S → Reduces S ss T → Holds n A B (lines_by ms1 ms2 ss) T
unfolding on on_all
lines_hold {A = A} {S1 = S1} {S2 = S2} {S = S} p q o r =
    line holding.head (moves_hold false [] tt p (moves_hold true (sided false (whole_run A) S1 ∷ []) tt q (line (holding.overlap refl refl (overlap_fits S1 S2 S o) o) (steps_hold r (line holding.end over)))))

-- ---- a comparison that found one map
record Ends (n : ℕ) (A B : List Prim) (ls : List Line) : Type 0 where
  last : PathSum
  holds : Holds n A B ls last
  unit : IsUnit last

shown_ends : {n : ℕ} {A B : List Prim} {ms1 ms2 : List Move} {mode : Mode} {S1 S2 S T : PathSum} {ss : List Step} → Reaches n A ms1 S1 → Reaches n B ms2 S2 → IsOverlapOf S1 S2 S → Reduces S ss T → Shows mode T yes → Ends n A B (lines_by ms1 ms2 ss)
shown_ends {T = T} p q o r (no_paths e (unit u)) = record { last = T; holds = lines_hold p q o r; unit = u }

overlaps_end : {n : ℕ} {A B : List Prim} {ms1 ms2 : List Move} {mode : Mode} {S1 S2 : PathSum} {ss : List Step} → Reaches n A ms1 S1 → Reaches n B ms2 S2 → Overlaps mode S1 S2 ss yes → Ends n A B (lines_by ms1 ms2 ss)
overlaps_end p q (shows o r s) = shown_ends p q o r.taken s

compares_end : (mode : Mode) (n : ℕ) (A B : List Prim) (ms1 ms2 : List Move) (b1 b2 : Body) (ss : List Step) → IsRight n A ms1 b1 → IsRight n B ms2 b2 → Compares mode (outcome_by ms1 b1) (outcome_by ms2 b2) ss yes → Ends n A B (lines_by ms1 ms2 ss)
compares_end mode n A B ms1 ms2 (body.Sum s) (body.Sum t) ss p q (sums o) = overlaps_end p.1 q.1 o
compares_end mode n A B ms1 ms2 (body.Sum s) (body.Passed e) ss p q c = elim c [ ]
compares_end mode n A B ms1 ms2 (body.Passed e) b2 ss p q c = elim c [ ]

judged_ends : (j : Judged) → j.verdict ≡ verdict.Yes → IsRight j.first.value.n (run_of j.first.value.items.value) j.first.value.moves j.first.value.body
    → IsRight j.first.value.n (run_of j.second.value.items.value) j.second.value.moves j.second.value.body → IsJudged j.first.value j.second.value j.mode j.steps j.verdict → Derives j (derivation_of j)
judged_ends j e p q w =
    let c = subst (λ v. Compares j.mode (outcome_of j.first.value) (outcome_of j.second.value) j.steps (finding_of v)) e w.found in
    let d = compares_end j.mode j.first.value.n (run_of j.first.value.items.value) (run_of j.second.value.items.value) j.first.value.moves j.second.value.moves j.first.value.body j.second.value.body j.steps p q c in
    record { last = d.last; holds = d.holds; unit = d.unit }

pub judged_derives : (j : Judged) → j.verdict ≡ verdict.Yes → ∥ Derives j (derivation_of j) ∥₁
judged_derives j e = ∥∥₁_elim j.first.value.right squash₁ (λ p. ∥∥₁_elim j.second.value.right squash₁ (λ q. ∥∥₁_map j.right (λ w.
    judged_ends j e p (subst (λ k. IsRight k (run_of j.second.value.items.value) j.second.value.moves j.second.value.body) (sym j.same) q) w)))
