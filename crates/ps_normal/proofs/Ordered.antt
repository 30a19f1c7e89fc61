-- The lines of a comparison stand in the order of a derivation.
use Rattle.std.proofs.Common.{◌≡◌, ℕ, ◌<◌, ◌≤◌, refl, sym, subst, arith, Bool, true, false, nat_lt, List, [], ◌∷◌, ◌++◌, length}
use mathlib.Core.Logic.{∥∥₁_elim}
use Rattle.std.proofs.Props.{props}
use Rattle.std.proofs.lemmas.Bool.{and_from}
use Rattle.std.proofs.lemmas.Bool.Decides.{nat_tests}
use Rattle.ps_prim.specs.declared.prims.Primitive.{Primitive as Prim}
use Rattle.ps_sum.specs.declared.sums.PathSum.{PathSum}
use Rattle.ps_rules.specs.declared.steps.Step.{Step}
use Rattle.ps_rules.specs.declared.steps.Step.TheVariants.{Elim, Hh, Omega}
use Rattle.ps_rules.specs.declared.steps.Move.{Move}
use Rattle.ps_rules.specs.Rules.{Applies}
use Rattle.ps_steps.specs.declared.lines.Line.{Line}
use Rattle.ps_steps.specs.declared.lines.Line.TheVariants.{Head, Overlap, End}
use Rattle.ps_steps.specs.Steps.{is_head, is_inner, is_end, is_step, goes_on, is_beginning, is_ended, is_derivation}
use Rattle.ps_reach.specs.declared.evidence.Body.{Body}
use Rattle.ps_reach.specs.declared.evidence.Body.TheVariants as body
use Rattle.ps_reach.specs.declared.judged.Judged.{Judged}
use Rattle.ps_reach.specs.declared.verdict.Verdict.TheVariants as verdict
use Rattle.ps_reach.specs.Runs.{AllItems, run_of}
use Rattle.ps_reach.specs.Reductions.{Reduces, rest, step}
use Rattle.ps_reach.specs.Replays.{Entry, Replays, done, leaf, ident, join, rewrite}
use Rattle.ps_reach.specs.Parts.{IsRight, outcome_by}
use Rattle.ps_reach.specs.Findings.{yes, Overlaps, shows, Compares, sums}
use Rattle.ps_reach.specs.declared.mode.Mode.{Mode}
use Rattle.ps_reach.specs.Judging.{outcome_of, finding_of}
use Rattle.ps_normal.specs.Deriving.{side_lines, step_lines, lines_by, derivation_of}
use Rattle.ps_normal.proofs.Finding.{items_few}

-- ---- lines between head and end
abbrev AllInner : List Line → Type 0
AllInner [] = Unit {0}
AllInner (l ∷ ls) = (is_inner l ≡ true) × AllInner ls

-- what may stand behind the head, up to the end
record Closes (ls : List Line) : Type 0 where
  order : goes_on ls ≡ true
  ended : is_ended ls ≡ true

just_end : Closes (End ∷ [])
unfolding goes_on is_ended is_end is_inner
just_end = record { order = refl; ended = refl }

closes_line : (l : Line) (ls : List Line) → is_inner l ≡ true → Closes ls → Closes (l ∷ ls)
unfolding goes_on is_ended
closes_line l [] h w = let e = w.ended in absurd (cc)
closes_line l (m ∷ ls) h w = record { order = and_from _ _ h w.order; ended = w.ended }

closes_lines : (ks ls : List Line) → AllInner ks → Closes ls → Closes (ks ++ ls)
closes_lines [] ls h w = w
closes_lines (k ∷ ks) ls h w = closes_line k (ks ++ ls) h.0 (closes_lines ks ls h.1 w)

closes_derivation : (ls : List Line) → Closes ls → is_derivation (Head 1 ∷ ls) ≡ true
unfolding is_beginning is_ended is_head goes_on
closes_derivation [] w = let e = w.ended in absurd (cc)
closes_derivation (l ∷ ls) w = and_from _ _ w.order w.ended

-- ---- steps and moves
lt_true : (a b : ℕ) → a < b → nat_lt a b ≡ true
lt_true a b h = grind (arith, nat_tests)

applies_small : (S : PathSum) (s : Step) → Applies S s → is_step s ≡ true
unfolding is_step
applies_small S (Elim y) a = lt_true y 65536 (omega (arith, a.inner.inside, S.named))
applies_small S (Hh y z) a = and_from _ _ (lt_true y 65536 (omega (arith, a.inner.inside, S.named))) (lt_true z 65536 (omega (arith, a.second, S.named)))
applies_small S (Omega y) a = lt_true y 65536 (omega (arith, a.inner.inside, S.named))

reduces_inner : {S T : PathSum} {ss : List Step} → Reduces S ss T → AllInner (step_lines ss)
unfolding is_inner
reduces_inner rest = tt
reduces_inner (step {S = S} {s = s} f t a r) = (applies_small S s f.applies, reduces_inner r)

replays_inner : {n : ℕ} {A : List Prim} {es fs : List Entry} {ms : List Move} (b : Bool) → length A ≤ 268435456 → Replays n A es ms fs → AllInner (side_lines b ms)
unfolding is_inner
replays_inner b w done = tt
replays_inner b w (leaf {i = i} h e l r) = (lt_true i 4294967296 (omega (arith, w, h)), replays_inner b w r)
replays_inner b w (ident i r) = (refl, replays_inner b w r)
replays_inner b w (join m f j r) = (refl, replays_inner b w r)
replays_inner b w (rewrite {s = s} {S = S} f t a r) = (applies_small S s f.applies, replays_inner b w r)

-- ---- all lines
lines_ordered : (ms1 ms2 : List Move) (ss : List Step) → AllInner (side_lines false ms1) → AllInner (side_lines true ms2) → AllInner (step_lines ss) → is_derivation (lines_by ms1 ms2 ss) ≡ true
unfolding is_inner
lines_ordered ms1 ms2 ss p q r =
    closes_derivation _ (closes_lines (side_lines false ms1) _ p (closes_lines (side_lines true ms2) _ q (closes_line Overlap _ refl (closes_lines (step_lines ss) _ r just_end))))

overlaps_ordered : {mode : Mode} {n : ℕ} {A B : List Prim} {es fs gs hs : List Entry} {ms1 ms2 : List Move} {S1 S2 : PathSum} {ss : List Step} → length A ≤ 268435456 → length B ≤ 268435456 → Replays n A es ms1 fs → Replays n B gs ms2 hs
    → Overlaps mode S1 S2 ss yes → is_derivation (lines_by ms1 ms2 ss) ≡ true
overlaps_ordered {ms1 = ms1} {ms2 = ms2} a b p q (shows {ss = ss} o r s) = lines_ordered ms1 ms2 ss (replays_inner false a p) (replays_inner true b q) (reduces_inner r.taken)

compares_ordered : (mode : Mode) (n : ℕ) (A B : List Prim) (ms1 ms2 : List Move) (b1 b2 : Body) (ss : List Step) → length A ≤ 268435456 → length B ≤ 268435456 → IsRight n A ms1 b1 → IsRight n B ms2 b2
    → Compares mode (outcome_by ms1 b1) (outcome_by ms2 b2) ss yes → is_derivation (lines_by ms1 ms2 ss) ≡ true
compares_ordered mode n A B ms1 ms2 (body.Sum s) (body.Sum t) ss a b p q (sums o) = overlaps_ordered a b p.1 q.1 o
compares_ordered mode n A B ms1 ms2 (body.Sum s) (body.Passed e) ss a b p q c = elim c [ ]
compares_ordered mode n A B ms1 ms2 (body.Passed e) b2 ss a b p q c = elim c [ ]

run_few : (L : List (List Prim)) → AllItems L → length L ≤ 65536 → length (run_of L) ≤ 268435456
run_few L h k = omega (arith, items_few L h, k)

pub judged_ordered : (j : Judged) → j.verdict ≡ verdict.Yes → AllItems j.first.value.items.value → AllItems j.second.value.items.value → is_derivation (derivation_of j) ≡ true
judged_ordered j e h k = ∥∥₁_elim j.first.value.right (hlevel props) (λ p. ∥∥₁_elim j.second.value.right (hlevel props) (λ q. ∥∥₁_elim j.right (hlevel props) (λ w.
    compares_ordered j.mode j.first.value.n (run_of j.first.value.items.value) (run_of j.second.value.items.value) j.first.value.moves j.second.value.moves j.first.value.body j.second.value.body j.steps
    (run_few j.first.value.items.value h j.first.value.few) (run_few j.second.value.items.value k j.second.value.few) p
    (subst (λ n. IsRight n (run_of j.second.value.items.value) j.second.value.moves j.second.value.body) (sym j.same) q)
    (subst (λ v. Compares j.mode (outcome_of j.first.value) (outcome_of j.second.value) j.steps (finding_of v)) e w.found))))
