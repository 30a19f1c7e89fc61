-- Items as they are compared, and verdicts as answers.
use Rattle.std.proofs.Common.{◌≡◌, ◌≢◌, ℕ, suc, ◌+◌, ◌<◌, ◌≤◌, refl, ap, ap₂, sym, ◌∙◌, subst, arith, List, [], ◌∷◌, ◌++◌, length, take, get_or, map, ◌*◌, Bool, true, false}
use Rattle.std.proofs.lemmas.List.{take_more, take_all, length-append}
use Rattle.std.specs.declared.sync.Arc.{Arc}
use Rattle.std.specs.declared.alloc.Global.{Global}
use Rattle.ps_prim.specs.declared.prims.Primitive.{Primitive as Prim}
use Rattle.ps_prim.specs.declared.items.Item.{Item}
use Rattle.ps_prim.specs.Maps.{AllWithin, SameMap}
use Rattle.ps_sum.specs.declared.sums.PathSum.{PathSum}
use Rattle.ps_sum.specs.declared.faults.Passed.{Passed as Limit}
use Rattle.ps_rules.specs.declared.steps.Step.{Step}
use Rattle.ps_rules.specs.declared.steps.Move.{Move}
use Rattle.ps_reach.specs.declared.evidence.Body.{Body}
use Rattle.ps_reach.specs.declared.evidence.Body.TheVariants as body
use Rattle.ps_reach.specs.declared.evidence.Evidence.{Evidence}
use Rattle.ps_reach.specs.declared.judged.Judged.{Judged}
use Rattle.ps_reach.specs.declared.verdict.Verdict.{Verdict}
use Rattle.ps_reach.specs.declared.verdict.Verdict.TheVariants as verdict
use Rattle.ps_reach.specs.declared.mode.Mode.{Mode}
use Rattle.ps_reach.specs.declared.mode.Mode.TheVariants.{Exact}
use Rattle.ps_reach.specs.Runs.{run_of}
use Rattle.ps_reach.specs.Fillings.{Outcome, Fills, kept}
use Rattle.ps_reach.specs.Findings.{Finding, yes, limit, Compares, first_limit, second_limit, sums, IsJustified}
use Rattle.ps_reach.specs.Parts.{overrun_of, outcome_by}
use Rattle.ps_reach.specs.Judging.{finding_of, outcome_of}
use Rattle.ps_reach.proofs.Denoting.{within_both}
use Rattle.ps_reach.proofs.FillsOnce.{fills_only}
use Rattle.ps_normal.specs.Comparing.{Decides, PassesFirst, early, both}
use Rattle.ps_normal.specs.Deriving.{derivation_of, Derives}
use Rattle.ps_normal.specs.Fillings.{CanRun, IsRecordOf}
use Rattle.ps_steps.specs.declared.derivation.Derivation.{Derivation}
use Rattle.ps_steps.specs.Holding.{Holds}
use Rattle.ps_replay.specs.declared.replayed.Replayed.{Replayed}
use Rattle.ps_replay.specs.declared.replayed.Replayed.TheVariants as replayed
use Rattle.ps_replay.specs.declared.replayed.Why.{Why}
use Rattle.ps_replay.specs.Replaying.{Replays}
use Rattle.qasm_expand.specs.Maps.{prims_in}
use Rattle.qasm_expand.specs.States.{ItemsWithin}
use Rattle.pathsum.specs.declared.input.Input.{Input}
use Rattle.pathsum.specs.declared.answer.Answer.{Answer}
use Rattle.pathsum.specs.declared.answer.Answer.TheVariants.{Yes, Proof, YesPhase, No, NoPair, Stuck, Passed, Accepted, Rejected, Left}
use Rattle.pathsum.specs.Verdicts.{Says, says_yes, says_yes_phase, says_no, says_no_pair, says_stuck, says_passed, IsVerdict}
use Rattle.pathsum.specs.Proofs.{Proves, derived, other, Echoes, accepted, rejected, left, IsReplay}

-- ---- an answer tells its verdict
pub told_yes : (n : ℕ) (v : Verdict) → v ≡ verdict.Yes → Says n (finding_of v) Yes
told_yes n v e = subst (λ x. Says n (finding_of x) Yes) (sym e) says_yes

pub told_no : (n : ℕ) (v : Verdict) (bits : List ℕ) (i : Input) → v ≡ verdict.No bits → i.qubits ≡ n → bits ≡ i.at → Says n (finding_of v) (No i)
told_no n v bits i e q b = subst (λ x. Says n (finding_of x) (No i)) (sym e) (says_no q b)

pub told_yes_phase : (n : ℕ) (v : Verdict) (p : ℕ) → v ≡ verdict.YesPhase p → Says n (finding_of v) (YesPhase p)
told_yes_phase n v p e = subst (λ x. Says n (finding_of x) (YesPhase p)) (sym e) says_yes_phase

pub told_no_pair : (n : ℕ) (v : Verdict) (a b : List ℕ) (i k : Input) → v ≡ verdict.NoPair a b → i.qubits ≡ n → k.qubits ≡ n → a ≡ i.at → b ≡ k.at → Says n (finding_of v) (NoPair i k)
told_no_pair n v a b i k e p q x y = subst (λ z. Says n (finding_of z) (NoPair i k)) (sym e) (says_no_pair p q x y)

pub told_stuck : (n : ℕ) (v : Verdict) (S : PathSum) → v ≡ verdict.Stuck S → Says n (finding_of v) (Stuck S)
told_stuck n v S e = subst (λ x. Says n (finding_of x) (Stuck S)) (sym e) says_stuck

pub told_passed : (n : ℕ) (v : Verdict) (w : Evidence) → v ≡ verdict.Passed w → Says n (finding_of v) (Passed w.passed)
told_passed n v w e = subst (λ x. Says n (finding_of x) (Passed w.passed)) (sym e) (says_passed refl)

-- ---- items
pub within_run : (n : ℕ) (is : List (List Prim)) → ItemsWithin n is → AllWithin n (run_of is)
unfolding run_of
within_run n [] w = tt
within_run n (i ∷ is) w = within_both n i (run_of is) w.0 (within_run n is w.1)

pub can_run : (n : ℕ) (items shared : List (List Prim)) → shared ≡ items → length items ≤ 65536 → ItemsWithin n items → CanRun n shared
can_run n items shared e l w = subst (CanRun n) (sym e) (record { few = l; within = within_run n items w })

map_more : {X Y : Type 0} (f : X → Y) (xs : List X) (x : X) → map f (xs ++ x ∷ []) ≡ map f xs ++ f x ∷ []
map_more f [] x = refl
map_more f (y ∷ xs) x = ap (λ r. f y ∷ r) (map_more f xs x)

run_more : (L : List (List Prim)) (i : List Prim) → run_of (L ++ i ∷ []) ≡ run_of L ++ i
unfolding run_of
run_more [] i = alone i
  where
    alone : (xs : List Prim) → xs ++ [] ≡ xs
    alone [] = refl
    alone (x ∷ xs) = ap (λ r. x ∷ r) (alone xs)
run_more (b ∷ L) i = ap (λ r. b ++ r) (run_more L i) ∙ sym (assoc b (run_of L) i)
  where
    assoc : (xs ys zs : List Prim) → (xs ++ ys) ++ zs ≡ xs ++ (ys ++ zs)
    assoc [] ys zs = refl
    assoc (x ∷ xs) ys zs = ap (λ r. x ∷ r) (assoc xs ys zs)

pub untrue : {b : Bool} → b ≡ false → b ≡ true → ⊥
untrue {b} e f = off (sym e ∙ f)
  where
    off : false ≡ true → ⊥
    off g = cc

-- the prims of the first items
abbrev pub prims_to : List (Arc Item Global) → ℕ → List Prim
prims_to items i = run_of (map prims_in (take i items))

pub prims_start : (items : List (Arc Item Global)) (prims : List Prim) → prims ≡ [] → prims ≡ prims_to items 0
unfolding run_of
prims_start items prims e = e

pub prims_more : (items : List (Arc Item Global)) (i : ℕ) (item : Arc Item Global) (prims more added : List Prim) → i < length items → item ≡ get_or items i item → added ≡ item.value.prims → more ≡ prims ++ added → prims ≡ prims_to items i → more ≡ prims_to items (i + 1)
prims_more items i item prims more added h e f g w =
    g ∙ ap₂ (λ (x y : List Prim). x ++ y) w f ∙ sym (run_more (map prims_in (take i items)) item.value.prims) ∙ ap run_of (sym (map_more prims_in (take i items) item))
    ∙ ap (λ (l : List (Arc Item Global)). run_of (map prims_in l)) (ap (λ x. take i items ++ x ∷ []) e ∙ sym (take_more items i item h))

-- each item has at most 4,096
pub few_more : (i : ℕ) (prims more added : List Prim) (item : Arc Item Global) → added ≡ item.value.prims → more ≡ prims ++ added → length prims ≤ 4096 * i → length more ≤ 4096 * (i + 1)
few_more i prims more added item f g h =
    let e = ap length g ∙ length-append prims added in
    let k = ap length f in
    let b = item.value.bounded.0 in
    omega (arith, e, k, b, h)

pub few_all : (items : List (Arc Item Global)) (i : ℕ) (prims : List Prim) (lists : List (List Prim)) → i ≤ length items → map prims_in items ≡ lists → length prims ≤ 4096 * i → length prims ≤ 4096 * length lists
few_all items i prims lists h e l = let k = sym (ap length e) ∙ counted items in omega (arith, h, k, l)
  where
    counted : (xs : List (Arc Item Global)) → length (map prims_in xs) ≡ length xs
    counted [] = refl
    counted (x ∷ xs) = ap suc (counted xs)

pub few_run : (prims : List Prim) (lists : List (List Prim)) (all : List Prim) → all ≡ prims → length lists ≤ 65536 → length prims ≤ 4096 * length lists → length all ≤ 268435456
few_run prims lists all e l h = let k = ap length e in omega (arith, k, l, h)

pub all_within : (n : ℕ) (lists : List (List Prim)) (prims all : List Prim) → all ≡ prims → prims ≡ run_of lists → ItemsWithin n lists → AllWithin n all
all_within n lists prims all e f w = subst (AllWithin n) (sym (e ∙ f)) (within_run n lists w)

pub prims_all : (items : List (Arc Item Global)) (i : ℕ) (prims : List Prim) (lists : List (List Prim)) → length items ≤ i → map prims_in items ≡ lists → prims ≡ prims_to items i → prims ≡ run_of lists
prims_all items i prims lists h e w = w ∙ ap (λ (l : List (Arc Item Global)). run_of (map prims_in l)) (take_all i items h) ∙ ap run_of e

-- ---- the verdict of the items is that of the prims
pub verdict_told : (n : ℕ) (A B : List Prim) (mode : Mode) (ss : List Step) (v : Verdict) (a : Answer) → Decides n A B mode ss (finding_of v) → Says n (finding_of v) a → IsVerdict n A B mode a
verdict_told n A B mode ss v a d s = record { steps = ss; finding = finding_of v; decided = both d; told = s }

pub passed_verdict : (n : ℕ) (A B : List Prim) (mode : Mode) (e : Evidence) → PassesFirst n A (overrun_of e) → IsVerdict n A B mode (Passed e.passed)
passed_verdict n A B mode e p = record { steps = []; finding = limit (overrun_of e); decided = early p; told = says_passed refl }

not_yes : (p : Limit) → Passed p ≢ Yes
not_yes p e = cc

pub passed_proves : (n : ℕ) (A B : List Prim) (e : Evidence) → PassesFirst n A (overrun_of e) → Proves n A B (Passed e.passed)
passed_proves n A B e p = other (passed_verdict n A B Exact e p) (not_yes e.passed)

-- ---- derivations
-- what a record with a yes came to
record KeptAs (o : Outcome) (ms : List Move) : Type 0 where
  pub sum : PathSum
  pub is : o ≡ kept sum ms

kept_first : {o u : Outcome} {ss : List Step} {f : Finding} (ms : List Move) (b : Body) → f ≡ yes → Compares Exact o u ss f → o ≡ outcome_by ms b → KeptAs o ms
kept_first ms (body.Sum s) e c f = record { sum = s.value; is = f }
kept_first ms (body.Passed w) e c f = absurd (no_first e c f)
  where
    no_first : {o u : Outcome} {ss : List Step} {g : Finding} → g ≡ yes → Compares Exact o u ss g → o ≡ outcome_by ms (body.Passed w) → ⊥
    no_first e first_limit f = cc
    no_first e second_limit f = cc
    no_first e (sums x) f = cc

kept_second : {o u : Outcome} {ss : List Step} {f : Finding} (ms : List Move) (b : Body) → f ≡ yes → Compares Exact o u ss f → u ≡ outcome_by ms b → KeptAs u ms
kept_second ms (body.Sum s) e c f = record { sum = s.value; is = f }
kept_second ms (body.Passed w) e c f = absurd (no_second e c f)
  where
    no_second : {o u : Outcome} {ss : List Step} {g : Finding} → g ≡ yes → Compares Exact o u ss g → u ≡ outcome_by ms (body.Passed w) → ⊥
    no_second e first_limit f = cc
    no_second e second_limit f = cc
    no_second e (sums x) f = cc

pub derivation_told : (n : ℕ) (I K : List (List Prim)) (j : Judged) (d : Derivation) → Decides n (run_of I) (run_of K) Exact j.steps (finding_of j.verdict)
    → IsRecordOf n I (Fills n (run_of I)) j.first.value → IsRecordOf n K (Fills n (run_of K)) j.second.value
    → j.verdict ≡ verdict.Yes → d.lines ≡ derivation_of j → Derives j d.lines → Proves n (run_of I) (run_of K) (Proof d)
derivation_told n I K j d dec r1 r2 v ls h = derived (record {
  first = k1.sum;
  second = k2.sum;
  first_moves = j.first.value.moves;
  second_moves = j.second.value.moves;
  steps = j.steps;
  last = h.last;
  first_fills = subst (Fills n (run_of I)) k1.is r1.outcome;
  second_fills = subst (Fills n (run_of K)) k2.is r2.outcome;
  compares = subst (λ o. Compares Exact o (kept k2.sum j.second.value.moves) j.steps yes) k1.is (subst (λ o. Compares Exact (outcome_of j.first.value) o j.steps yes) k2.is (subst (Compares Exact (outcome_of j.first.value) (outcome_of j.second.value) j.steps) f c));
  lines = ls;
  holds = subst (λ m. Holds m (run_of I) (run_of K) d.lines h.last) r1.n_is (subst (λ (x : List (List Prim)). Holds j.first.value.n (run_of x) (run_of K) d.lines h.last) r1.items_are (subst (λ (x : List (List Prim)). Holds j.first.value.n (run_of j.first.value.items.value) (run_of x) d.lines h.last) r2.items_are h.holds));
  unit = h.unit;
  same = (subst (λ (g : Finding). IsJustified n (run_of I) (run_of K) Exact g) f dec.justified).1;
})
  where
    f : finding_of j.verdict ≡ yes
    f = ap finding_of v

    c : Compares Exact (outcome_of j.first.value) (outcome_of j.second.value) j.steps (finding_of j.verdict)
    c = subst (λ o. Compares Exact o (outcome_of j.second.value) j.steps (finding_of j.verdict)) (fills_only dec.first_fills r1.outcome) (subst (λ o. Compares Exact dec.first o j.steps (finding_of j.verdict)) (fills_only dec.second_fills r2.outcome) dec.compares)

    k1 : KeptAs (outcome_of j.first.value) j.first.value.moves
    k1 = kept_first j.first.value.moves j.first.value.body f c refl

    k2 : KeptAs (outcome_of j.second.value) j.second.value.moves
    k2 = kept_second j.second.value.moves j.second.value.body f c refl

says_yes_back : (n : ℕ) (f : Finding) (a : Answer) → Says n f a → a ≡ Yes → f ≡ yes
says_yes_back n f a says_yes e = refl
says_yes_back n f a (says_no {input = i} p q) e = absurd (no_no i e)
  where
    no_no : (i : Input) → No i ≡ Yes → ⊥
    no_no i e = cc
says_yes_back n f a (says_yes_phase {p = p}) e = absurd (no_phase p e)
  where
    no_phase : (p : ℕ) → YesPhase p ≡ Yes → ⊥
    no_phase p e = cc
says_yes_back n f a (says_no_pair {first = i} {second = k} p q x y) e = absurd (no_two i k e)
  where
    no_two : (i k : Input) → NoPair i k ≡ Yes → ⊥
    no_two i k e = cc
says_yes_back n f a (says_stuck {S = S}) e = absurd (no_stuck S e)
  where
    no_stuck : (S : PathSum) → Stuck S ≡ Yes → ⊥
    no_stuck S e = cc
says_yes_back n f a (says_passed {passed = p} q) e = absurd (no_passed p e)
  where
    no_passed : (p : Limit) → Passed p ≡ Yes → ⊥
    no_passed p e = cc

found_yes : (v : Verdict) → finding_of v ≡ yes → v ≡ verdict.Yes
found_yes verdict.Yes e = refl
found_yes (verdict.YesPhase p) e = cc
found_yes (verdict.No b) e = cc
found_yes (verdict.NoPair b c) e = cc
found_yes (verdict.Stuck S) e = cc
found_yes (verdict.Passed w) e = cc

no_other_yes : (n : ℕ) (v : Verdict) (a : Answer) → (v ≡ verdict.Yes → ⊥) → Says n (finding_of v) a → a ≢ Yes
no_other_yes n v a h s e = h (found_yes v (says_yes_back n (finding_of v) a s e))

pub other_told : (n : ℕ) (A B : List Prim) (ss : List Step) (v : Verdict) (a : Answer) → Decides n A B Exact ss (finding_of v) → (v ≡ verdict.Yes → ⊥) → Says n (finding_of v) a → Proves n A B a
other_told n A B ss v a d h s = other (verdict_told n A B Exact ss v a d s) (no_other_yes n v a h s)

-- ---- replays
accepted_only : (r : Replayed) (a : Answer) → Echoes r a → a ≡ Accepted → r ≡ replayed.Accepted
accepted_only r a accepted e = refl
accepted_only r a rejected e = absurd (no_rejected e)
  where
    no_rejected : {l : ℕ} {w : Why} → Rejected l w ≡ Accepted → ⊥
    no_rejected e = cc
accepted_only r a left e = absurd (no_left e)
  where
    no_left : {S : PathSum} → Left S ≡ Accepted → ⊥
    no_left e = cc

pub replay_told : (n : ℕ) (A B A' B' : List Prim) (d : List ℕ) (r : Replayed) (a : Answer) → A ≡ A' → B ≡ B' → Replays n A B d r → (r ≡ replayed.Accepted → SameMap n A B) → Echoes r a → IsReplay n A' B' d a
replay_told n A B A' B' d r a e f x s t = subst (λ (C : List Prim). IsReplay n A' C d a) f (subst (λ (C : List Prim). IsReplay n C B d a) e (record { replayed = r; replays = x; told = t; sound = λ h. s (accepted_only r a t h) }))

pub echoed_accepted : (r : Replayed) → r ≡ replayed.Accepted → Echoes r Accepted
echoed_accepted r e = subst (λ x. Echoes x Accepted) (sym e) accepted

pub echoed_left : (r : Replayed) (S : PathSum) → r ≡ replayed.Left S → Echoes r (Left S)
echoed_left r S e = subst (λ x. Echoes x (Left S)) (sym e) left

pub echoed_rejected : (r : Replayed) (l : ℕ) (w : Why) → r ≡ replayed.Rejected l w → Echoes r (Rejected l w)
echoed_rejected r l w e = subst (λ x. Echoes x (Rejected l w)) (sym e) rejected
