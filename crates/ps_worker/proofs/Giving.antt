-- A task of any version that is kept can be filled.
use Rattle.std.proofs.Common.{◌≡◌, ◌≤◌, ◌+◌, ℕ, suc, Bool, true, false, cond, ◌&&◌, not, List, [], ◌∷◌, ◌++◌, map, length, refl, sym, ap, ◌∙◌, subst, arith, length-append, inl, inr}
use Rattle.std.specs.Prelude.{Option, Some, None, Contains, filter}
use Rattle.std.specs.List.{AllByRecursion as Each}
use Rattle.std.proofs.lemmas.List.Elements.{Contains-append_right}
use Rattle.seg_tree.specs.Trees.{Tree, leaf, branch, name_of, run, run_maybe}
use Rattle.ps_reach.specs.declared.record.Record.{Record}
use Rattle.ps_reach.specs.declared.evidence.Body.{Body}
use Rattle.ps_reach.specs.declared.evidence.Body.TheVariants.{Sum, Passed}
use Rattle.ps_reach.specs.declared.task.Task.{Task as ATask}
use Rattle.ps_reach.specs.declared.task.Work.{Work}
use Rattle.ps_reach.specs.declared.task.Work.TheVariants.{Items, Children}
use Rattle.ps_normal.specs.Fillings.{HasSum, CanFill}
use Rattle.ps_journal.specs.declared.commands.Cmd.TheVariants as cmd
use Rattle.ps_journal.specs.declared.replies.Reply.{Reply}
use Rattle.ps_journal.specs.declared.replies.Reply.TheVariants.{Task}
use Rattle.ps_journal.specs.State.{Item, Version, Circuit, State, Published}
use Rattle.ps_journal.specs.Segments.{segments_of, published_named, published_for, lacks, has_sum, has_passed_limit, is_passed, with_sum, is_settled, is_ready}
use Rattle.ps_journal.specs.Keeping.{is_kept}
use Rattle.ps_journal.specs.Claiming as claiming
use Rattle.ps_journal.specs.Claiming.{Standing, standing_from, all_versions, kept_versions, Candidate, candidates_of, candidates, IsFirstOfFewest, IsPublishedFor, IsWorkOf, IsTaskOf, LooksAt, Nexts}
use Rattle.ps_journal.specs.Step.{Step, serves, wants}
use Rattle.ps_history.specs.Nodes.{node, StandsFor, IsKnown}
use Rattle.ps_history.proofs.Lists.{some_same}
use Rattle.ps_history.proofs.Drafts.{known_within, known_stands, part_within}
use Rattle.ps_history.proofs.Wellness.{IsWell, IsWellCircuit, IsWellVersion, IsFew, few_front, few_back}
use Rattle.ps_history.proofs.Giving.{head_in, in_step, none_in, filter_in, map_in, flat_in, each_in}

and_parts : (a b : Bool) → (a && b) ≡ true → (a ≡ true) × (b ≡ true)
and_parts true b e = (refl, e)
and_parts false b e = absurd (cc)

-- ---- a version that stands somewhere
record IsWellStanding (t : State) (w : IsWell t) (s : Standing) : Type 0 where
  pub qubits : (1 ≤ s.qubits) × (s.qubits ≤ 64)
  pub version : IsWellVersion w.table s.qubits s.version

well_from : (t : State) (w : IsWell t) (c : Circuit) (k : ℕ) (vs : List Version) (s : Standing) → IsWellCircuit w.table c
    → Each (IsWellVersion w.table c.qubits) vs → Contains (standing_from c k vs) s → IsWellStanding t w s
well_from t w c k [] s h e i = absurd (none_in s i)
well_from t w c k (v ∷ vs) s h e i = elim (in_step _ s (standing_from c (suc k) vs) i) [
  | inl same ↦ subst (IsWellStanding t w) same (record { qubits = h.qubits; version = e.0 })
  | inr rest ↦ well_from t w c (suc k) vs s h e.1 rest
]

well_standing : (t : State) (w : IsWell t) (s : Standing) → Contains (all_versions t.circuits) s → IsWellStanding t w s
well_standing t w s h =
    let q = flat_in (λ c. standing_from c 1 c.versions) t.circuits s h in
    let c = each_in (IsWellCircuit w.table) t.circuits q.0 w.circuits q.1 in
    well_from t w q.0 1 q.0.versions s c c.versions q.2

-- ---- candidates
record Ready (published : List Published) (ss : List Standing) (x : Candidate) : Type 0 where
  pub of : Contains ss x.of
  pub within : Contains (segments_of x.of.version.tree) x.segment
  pub ready : is_ready published x.segment ≡ true

candidate_ready : (published : List Published) (ss : List Standing) (x : Candidate) → Contains (candidates published ss) x → Ready published ss x
candidate_ready published ss x h =
    let q = flat_in (candidates_of published) ss x h in
    by q.0 q.1 (is_settled published q.0.version.tree) q.2
  where
    by : (s : Standing) → Contains ss s → (b : Bool) → Contains
        (cond b [] (map (λ y. let z : Candidate = record { of = s; segment = y } in z) (filter (is_ready published) (segments_of s.version.tree)))) x
        → Ready published ss x
    by s c true d = absurd (none_in x d)
    by s c false d =
        let m = map_in (λ y. let z : Candidate = record { of = s; segment = y } in z) (filter (is_ready published) (segments_of s.version.tree)) x d in
        let f = filter_in (is_ready published) (segments_of s.version.tree) m.0 m.1 in
        subst (Ready published ss) m.2 (record { of = c; within = f.0; ready = f.1 })

first_in : (all before behind : List Candidate) (x : Candidate) → all ≡ before ++ x ∷ behind → Contains all x
first_in all before behind x e = subst (λ zs. Contains zs x) (sym e) (Contains-append_right before (x ∷ behind) x (head_in x behind))

-- ---- what was published for a segment
record Fits (q : ℕ) (s : Tree Item) (r : Record) : Type 0 where
  pub items : r.items.value ≡ run s
  pub qubits : r.n ≡ q

published_fits : (t : State) (w : IsWell t) (q : ℕ) (s : Tree Item) (p : Published) → IsKnown w.table q s → published_for t.published s ≡ Some p
    → Fits q s p.kept
published_fits t w q s p h e = by (name_of s) (known_stands w.table q s h) e
  where
    by : (n : Option ℕ) → StandsFor w.table q n (run s) → published_named t.published n ≡ Some p → Fits q s p.kept
    by None a b = absurd a
    by (Some k) a b =
        let n = w.named k p b in
        let same : n.of ≡ node (run s) q = some_same n.of (node (run s) q) (sym n.there ∙ a) in
        record { items = n.items ∙ ap (λ x. x.items) same; qubits = n.qubits ∙ ap (λ x. x.qubits) same }

sum_there : (r : Record) → is_passed r ≡ false → HasSum r.body
sum_there r e = by r.body e
  where
    by : (b : Body) → has_passed_limit b ≡ false → HasSum b
    by (Sum s) h = tt
    by (Passed x) h = absurd (cc)

not_passed : (b : Bool) → not b ≡ true → b ≡ false
not_passed true e = absurd (cc)
not_passed false e = refl

sum_of : (published : List Published) (s : Tree Item) (r : Record) → has_sum published s ≡ true → IsPublishedFor published s r → HasSum r.body
sum_of published s r e h = sum_there r (not_passed (is_passed r) (ap (λ x. not (is_passed x)) (sym h.2) ∙ sym (ap with_sum h.1) ∙ e))

can_fill : (t : State) (w : IsWell t) (q : ℕ) (s : Tree Item) (work : Work) → IsKnown w.table q s → IsFew q (run s) → is_ready t.published s ≡ true
    → IsWorkOf t.published s work → CanFill q work
can_fill t w q (leaf name items) (Items a) h f e k = let g = subst (IsFew q) (sym k) f in record { few = g.few; within = g.within }
can_fill t w q (leaf name items) (Children a b) h f e k = absurd k
can_fill t w q (branch name l r) (Items a) h f e k = absurd k
can_fill t w q (branch name l r) (Children a b) h f e k =
    let x = published_fits t w q l k.0.0 h.1 k.0.1 in
    let y = published_fits t w q r k.1.0 h.2 k.1.1 in
    let both =
    and_parts (has_sum t.published l) (has_sum t.published r)
    (and_parts (lacks t.published (branch name l r)) (has_sum t.published l && has_sum t.published r) e).1 in
    let la : length a.value.items.value ≡ length (run l) = ap length (sym (ap (λ z. z.items.value) k.0.2) ∙ x.items) in
    let lb : length b.value.items.value ≡ length (run r) = ap length (sym (ap (λ z. z.items.value) k.1.2) ∙ y.items) in
    let total : length (run l ++ run r) ≡ length (run l) + length (run r) = length-append (run l) (run r) in
    let limit : length (run l ++ run r) ≤ 65536 = f.few in
    record {
      first_n = sym (ap (λ z. z.n) k.0.2) ∙ x.qubits;
      second_n = sym (ap (λ z. z.n) k.1.2) ∙ y.qubits;
      first_sum = sum_of t.published l a.value both.0 k.0;
      second_sum = sum_of t.published r b.value both.1 k.1;
      few = omega (arith, la, lb, total, limit);
    }

-- ---- the task
abbrev pub CanBeFilled : ATask → Type 0
CanBeFilled task = ((1 ≤ task.n) × (task.n ≤ 64)) × CanFill task.n task.work

task_fits : (t : State) (w : IsWell t) (i seat : ℕ) (x : Candidate) (task : ATask) → Ready t.published (kept_versions t) x → IsTaskOf t i seat x task → CanBeFilled task
task_fits t w i seat x task ready is =
    let kept = filter_in (λ s. is_kept t.pins s.place s.version) (all_versions t.circuits) x.of ready.of in
    let well = well_standing t w x.of kept.0 in
    let q : ℕ = x.of.qubits in
    let known : IsKnown w.table q x.segment = known_within w.table q x.of.version.tree x.segment well.version.tree ready.within in
    let whole : IsFew q (run_maybe x.of.version.tree) = subst (IsFew q) (sym well.version.run) (record { few = well.version.few; within = well.version.within }) in
    let part : IsFew q (run x.segment) = part_within (IsFew q) (few_front q) (few_back q) x.of.version.tree x.segment whole ready.within in (
      subst (λ n. (1 ≤ n) × (n ≤ 64)) (sym is.qubits) well.qubits,
      subst (λ n. CanFill n task.work) (sym is.qubits) (can_fill t w q x.segment task.work known part ready.ready is.work),
    )

looks_all : (t : State) (seat : ℕ) (b : Bool) (ss : List Standing) → LooksAt t seat b ss → b ≡ false → ss ≡ kept_versions t
looks_all t seat b ss claiming.all e = refl
looks_all t seat b ss (claiming.own q) e = absurd (cc)

nexts_fits : (t : State) (w : IsWell t) (i seat : ℕ) (b : Bool) (r : Reply) (new : State) (task : ATask) → Nexts t i seat b r new → b ≡ false → r ≡ Task task
    → CanBeFilled task
nexts_fits t w i seat b r new task (claiming.no_pin e) o s = absurd (cc)
nexts_fits t w i seat b r new task (claiming.idle e) o s = absurd (cc)
nexts_fits t w i seat b r new task (claiming.settled e f g h) o s = absurd (cc)
nexts_fits t w i seat b r new task (claiming.gives {ss = ss} {x = x} {node = k} {task = other} e f g h) o s =
    let same : other ≡ task = cc in
    let all : ss ≡ kept_versions t = looks_all t seat b ss e o in
    let ready : Ready t.published ss x = candidate_ready t.published ss x (first_in (candidates t.published ss) f.before f.behind x f.whole) in
    task_fits t w i seat x task (subst (λ zs. Ready t.published zs x) all ready) (subst (IsTaskOf t i seat x) same h)

pub next_fits : (t : State) (w : IsWell t) (i seat : ℕ) (r : Reply) (new : State) (task : ATask) → Step t i seat (cmd.Next false) r new → r ≡ Task task
    → CanBeFilled task
next_fits t w i seat r new task (serves s) e = nexts_fits t w i seat false r new task s refl e
next_fits t w i seat r new task (wants q) e = absurd (cc)
