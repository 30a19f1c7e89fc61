-- The verdict of two records is justified for the versions that they belong to.
use Rattle.std.proofs.Common.{◌≡◌, ℕ, zero, suc, ◌<◌, ◌+◌, ◌-◌, ◌⊎◌, inl, inr, refl, ap, sym, ◌∙◌, subst, arith, append_assoc, List, [], ◌∷◌, ◌++◌, length, length-append, take, drop, Bool, true, false}
use mathlib.Core.Logic.{∥∥₁_elim, ∥∥₁_map}
use Rattle.std.specs.Prelude.{Option, Some, None, Contains, slice_index_or}
use Rattle.std.proofs.lemmas.List.Elements.{Contains-append_cases}
use Rattle.std.specs.declared.sync.Arc.{Arc}
use Rattle.std.specs.declared.alloc.Global.{Global}
use Rattle.seg_tree.specs.Trees.{Tree, leaf, branch, run, run_maybe}
use Rattle.ps_prim.specs.declared.prims.Primitive.{Primitive as Prim}
use Rattle.ps_sum.specs.declared.sums.PathSum.{PathSum}
use Rattle.ps_rules.specs.declared.steps.Step.{Step}
use Rattle.ps_rules.specs.declared.steps.Move.{Move}
use Rattle.ps_reach.specs.declared.mode.Mode.{Mode}
use Rattle.ps_reach.specs.declared.evidence.Evidence.{Evidence}
use Rattle.ps_reach.specs.declared.evidence.Body.{Body}
use Rattle.ps_reach.specs.declared.evidence.Body.TheVariants as body
use Rattle.ps_reach.specs.declared.record.Record.{Record}
use Rattle.ps_reach.specs.declared.judged.Judged.{Judged}
use Rattle.ps_reach.specs.Runs.{run_of}
use Rattle.ps_reach.specs.Overruns.{Overrun, part, IsOver}
use Rattle.ps_reach.specs.Parts.{overrun_of, outcome_by, IsRight}
use Rattle.ps_reach.specs.Fillings.{Outcome, kept, passed}
use Rattle.ps_reach.specs.Findings.{Finding, limit, Compares, first_limit, second_limit, sums, IsOverIn, IsJustified}
use Rattle.ps_reach.specs.Judging.{outcome_of, finding_of, IsJudged}
use Rattle.ps_journal.specs.State.{Item, Version, Circuit}
use Rattle.ps_journal.specs.Segments.{segments, segments_of, has_passed_limit, is_passed}
use Rattle.ps_journal.specs.Judging.{Belongs, BelongBoth, IsJustifiedFor}

-- ---- a part of a list of items
pub record IsPart {A : Type 0} (whole some : List A) : Type 0 where
  pub before : List A
  pub behind : List A
  pub is : whole ≡ before ++ (some ++ behind)

take_front : {A : Type 0} (xs ys : List A) → take (length xs) (xs ++ ys) ≡ xs
take_front [] ys = refl
take_front (x ∷ xs) ys = ap (λ zs. x ∷ zs) (take_front xs ys)

drop_front : {A : Type 0} (xs ys : List A) → drop (length xs) (xs ++ ys) ≡ ys
drop_front [] ys = refl
drop_front (x ∷ xs) ys = drop_front xs ys

append_none : {A : Type 0} (xs : List A) → xs ++ [] ≡ xs
append_none [] = refl
append_none (x ∷ xs) = ap (λ zs. x ∷ zs) (append_none xs)

whole_part : {A : Type 0} (xs : List A) → IsPart xs xs
whole_part xs = record { before = []; behind = []; is = sym (append_none xs) }

part_left : {A : Type 0} (xs ys zs : List A) → IsPart xs zs → IsPart (xs ++ ys) zs
part_left xs ys zs p = record { before = p.before; behind = p.behind ++ ys; is = ap (λ w. w ++ ys) p.is ∙ append_assoc p.before (zs ++ p.behind) ys ∙ ap (λ w. p.before ++ w) (append_assoc zs p.behind ys) }

part_right : {A : Type 0} (xs ys zs : List A) → IsPart ys zs → IsPart (xs ++ ys) zs
part_right xs ys zs p = record { before = xs ++ p.before; behind = p.behind; is = ap (λ w. xs ++ w) p.is ∙ sym (append_assoc xs p.before (zs ++ p.behind)) }

one_at : {A : Type 0} (x s : A) (k : ℕ) → k < 1 → slice_index_or (x ∷ []) k s ≡ s → x ≡ s
one_at x s zero near at = at
one_at x s (suc k) near at = absurd (omega arith)

pub one_has : {A : Type 0} (x s : A) → Contains (x ∷ []) s → x ≡ s
one_has x s h = one_at x s h.0 h.1 h.2

-- a segment's run is a part of the tree's
pub run_part : {A : Type 0} (t s : Tree A) → Contains (segments t) s → IsPart (run t) (run s)
run_part (leaf name items) s h = subst (λ w. IsPart items (run w)) (one_has (leaf name items) s h) (whole_part items)
run_part (branch name l r) s h =
    elim (Contains-append_cases (segments l) (segments r ++ branch name l r ∷ []) s h) [
      | inl a ↦ part_left (run l) (run r) (run s) (run_part l s a)
      | inr b ↦ elim (Contains-append_cases (segments r) (branch name l r ∷ []) s b) [
        | inl a ↦ part_right (run l) (run r) (run s) (run_part r s a)
        | inr a ↦ subst (λ w. IsPart (run l ++ run r) (run w)) (one_has (branch name l r) s a) (whole_part (run l ++ run r))
      ]
    ]

-- ---- their prims
run_append : (xs ys : List (List Prim)) → run_of (xs ++ ys) ≡ run_of xs ++ run_of ys
unfolding run_of
run_append [] ys = refl
run_append (x ∷ xs) ys = ap (λ w. x ++ w) (run_append xs ys) ∙ sym (append_assoc x (run_of xs) (run_of ys))

prims_part : (whole some : List (List Prim)) → IsPart whole some → IsPart (run_of whole) (run_of some)
prims_part whole some p = record {
  before = run_of p.before;
  behind = run_of p.behind;
  is = ap run_of p.is ∙ run_append p.before (some ++ p.behind) ∙ ap (λ w. run_of p.before ++ w) (run_append some p.behind);
}

part_is : (A B : List Prim) (p : IsPart A B) → part (length p.before) (length p.before + length B) A ≡ B
part_is A B p =
    let e : length p.before + length B - length p.before ≡ length B = omega arith in
    ap (λ k. take k (drop (length p.before) A)) e
    ∙ ap (λ w. take (length B) (drop (length p.before) w)) p.is
    ∙ ap (take (length B)) (drop_front p.before (B ++ p.behind))
    ∙ take_front B p.behind

-- evidence that is true of a part is true of a part of the whole
over_part : (n : ℕ) (A B : List Prim) (e : Overrun) → IsPart A B → IsOver n B e → IsOverIn n A e
over_part n A B e p h = record { from = length p.before; to = length p.before + length B; over = subst (λ w. IsOver n w e) (sym (part_is A B p)) h }

-- ---- which limit is told
first_told : (mode : Mode) (o o' : Outcome) (e : Overrun) (ms : List Move) (ss : List Step) (f : Finding) → o ≡ passed e ms → Compares mode o o' ss f → f ≡ limit e
first_told mode o o' e ms ss f h (first_limit {e = e'} {ms = ms'}) = let k : e' ≡ e = cc in ap limit k
first_told mode o o' e ms ss f h (second_limit) = cc
first_told mode o o' e ms ss f h (sums a) = cc

second_told : (mode : Mode) (o o' : Outcome) (S : PathSum) (ms : List Move) (e : Overrun) (ms' : List Move) (ss : List Step) (f : Finding) → o ≡ kept S ms → o' ≡ passed e ms'
    → Compares mode o o' ss f → f ≡ limit e
second_told mode o o' S ms e ms' ss f h k (first_limit) = cc
second_told mode o o' S ms e ms' ss f h k (second_limit {e = e'}) = let q : e' ≡ e = cc in ap limit q
second_told mode o o' S ms e ms' ss f h k (sums a) = cc

-- ---- the whole
-- the record's items, where it has a sum, are the whole, and in any case a part of it
record Covers (whole some : List (List Prim)) (b : Body) : Type 0 where
  part : IsPart whole some
  all : has_passed_limit b ≡ false → some ≡ whole

covered : (c : Circuit) (v : Version) (r : Record) → v.items ≡ run_maybe v.tree → Belongs c v r → Covers v.items r.items.value r.body
covered c v r h b = by b.items where
  tree_part : (t : Option (Tree Item)) (s : Tree Item) → Contains (segments_of t) s → IsPart (run_maybe t) (run s)
  tree_part None s k = absurd (omega (arith, k.1))
  tree_part (Some t) s k = run_part t s k

  by : (r.items.value ≡ v.items) ⊎ ((is_passed r ≡ true) × ((s : Tree Item) × (Contains (segments_of v.tree) s × (r.items.value ≡ run s)))) → Covers v.items r.items.value r.body
  by (inl e) = record { part = subst (λ w. IsPart v.items w) (sym e) (whole_part v.items); all = λ _. e }
  by (inr p) = record { part = subst (λ w. IsPart v.items w) (sym p.1.1.1) (subst (λ w. IsPart w (run p.1.0)) (sym h) (tree_part v.tree p.1.0 p.1.1.0)); all = λ k. cc }

justified_by : (n : ℕ) (A A' B B' : List (List Prim)) (ms ms' : List Move) (b b' : Body) (mode : Mode) (ss : List Step) (f : Finding) → Covers A A' b → Covers B B' b'
    → IsRight n (run_of A') ms b → IsRight n (run_of B') ms' b' → Compares mode (outcome_by ms b) (outcome_by ms' b') ss f → IsJustified n (run_of A') (run_of B') mode f
    → IsJustified n (run_of A) (run_of B) mode f
justified_by n A A' B B' ms ms' (body.Passed e) b' mode ss f p q r r' c j =
    subst (IsJustified n (run_of A) (run_of B) mode) (sym (first_told mode (passed (overrun_of e) ms) (outcome_by ms' b') (overrun_of e) ms ss f refl c))
    (inl (over_part n (run_of A) (run_of A') (overrun_of e) (prims_part A A' p.part) r))
justified_by n A A' B B' ms ms' (body.Sum s) (body.Passed e) mode ss f p q r r' c j =
    subst (IsJustified n (run_of A) (run_of B) mode) (sym (second_told mode (kept s.value ms) (passed (overrun_of e) ms') s.value ms (overrun_of e) ms' ss f refl refl c))
    (inr (inl (over_part n (run_of B) (run_of B') (overrun_of e) (prims_part B B' q.part) r')))
justified_by n A A' B B' ms ms' (body.Sum s) (body.Sum s') mode ss f p q r r' c j =
    subst (λ w. IsJustified n (run_of w) (run_of B) mode f) (p.all refl) (subst (λ w. IsJustified n (run_of A') (run_of w) mode f) (q.all refl) j)

pub justified : (c d : Circuit) (v w : Version) (j : Judged) → v.items ≡ run_maybe v.tree → w.items ≡ run_maybe w.tree → BelongBoth c d v w j → IsJustifiedFor c v w j
justified c d v w j hv hw b =
    subst (λ n. ∥ IsJustified n (run_of v.items) (run_of w.items) j.mode (finding_of j.verdict) ∥₁) b.first.qubits
    (∥∥₁_elim j.first.value.right squash₁ (λ p. ∥∥₁_elim j.second.value.right squash₁ (λ q. ∥∥₁_map j.right (λ k.
    justified_by j.first.value.n v.items j.first.value.items.value w.items j.second.value.items.value j.first.value.moves j.second.value.moves j.first.value.body j.second.value.body
    j.mode j.steps (finding_of j.verdict) (covered c v j.first.value hv b.first) (covered d w j.second.value hw b.second) p
    (subst (λ n. IsRight n (run_of j.second.value.items.value) j.second.value.moves j.second.value.body) (sym j.same) q) k.found k.justified))))
