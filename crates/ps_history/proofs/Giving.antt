-- What a seat is given of the versions that it has pinned, and what settled ones come to.
use Rattle.std.proofs.Common.{◌≡◌, ◌<◌, ◌≤◌, ◌+◌, ℕ, zero, suc, Bool, true, false, cond, ◌&&◌, not, ◌⊎◌, inl, inr, List, [], ◌∷◌, ◌++◌, map, length, refl, sym, ap, ap₂, ◌∙◌, subst, arith, bytes_eq, length-append}
use Rattle.std.specs.Prelude.{Option, Some, None, slice_get, is_none, Contains, filter}
use Rattle.std.specs.List.{find, flat_map, AllByRecursion as Each}
use Rattle.std.proofs.Props.{props}
use Rattle.std.proofs.lemmas.List.Concat.{flat_map-cons}
use Rattle.std.proofs.lemmas.List.Elements.{Contains-append_left, Contains-append_right, Contains-append_cases}
use Rattle.seg_tree.specs.Trees.{Tree, leaf, branch, name_of, run, run_maybe}
use Rattle.ps_prim.specs.Items.{AllWithin-prop}
use Rattle.ps_script.specs.declared.name.Place.{Place}
use Rattle.ps_reach.specs.declared.record.Record.{Record}
use Rattle.ps_reach.specs.declared.evidence.Body.{Body}
use Rattle.ps_reach.specs.declared.evidence.Body.TheVariants.{Sum, Passed}
use Rattle.ps_reach.specs.declared.task.Task.{Task as ATask}
use Rattle.ps_reach.specs.declared.task.Work.{Work}
use Rattle.ps_reach.specs.declared.task.Work.TheVariants.{Items, Children}
use Rattle.ps_reach.specs.Runs.{run_of}
use Rattle.ps_normal.specs.Fillings.{HasSum, CanFill}
use Rattle.ps_journal.specs.declared.seats.Pin.{Pin}
use Rattle.ps_journal.specs.declared.replies.Reply.{Reply}
use Rattle.ps_journal.specs.declared.replies.Reply.TheVariants.{Task}
use Rattle.ps_journal.specs.State.{Item, Version, Circuit, State, Published, Finds, circuit_at, version_at, pin_of}
use Rattle.ps_journal.specs.Segments.{segments, segments_of, published_at, published_named, published_for, lacks, has_sum, has_passed, has_passed_limit, is_passed, with_sum, with_limit, is_settled, is_ready}
use Rattle.ps_journal.specs.Keeping.{pins_place}
use Rattle.ps_journal.specs.Judging.{Belongs}
use Rattle.ps_journal.specs.Summing as summing
use Rattle.ps_journal.specs.Summing.{ComesTo, ComesToAt}
use Rattle.ps_journal.specs.Claiming as claiming
use Rattle.ps_journal.specs.Claiming.{Standing, standing_from, all_versions, pinned_versions, kept_versions, Candidate, candidates_of, candidates, AreSettled, IsFirstOfFewest, IsPublishedFor, IsWorkOf, IsTaskOf, LooksAt, SecondComesTo, Nexts, claimed}
use Rattle.ps_history.specs.Nodes.{node, StandsFor, IsKnown}
use Rattle.ps_history.specs.Stages.{HoldsPin, HoldsClaim, ComesWith, ComeWith, items_of}
use Rattle.ps_history.proofs.Lists.{some_same, written}
use Rattle.ps_history.proofs.Lookups.{at_step, name_found, same_bytes, bytes_same}
use Rattle.ps_history.proofs.Passing.{Passes, passes_later}
use Rattle.ps_history.proofs.Drafts.{known_within, known_stands, part_within}
use Rattle.ps_history.proofs.Wellness.{IsWell, IsWellVersion, Apart, IsFew, few_front, few_back, found_well}
use Rattle.ps_history.proofs.Holding.{first_pinned, second_pinned}

-- ---- membership
module _ {A : Type 0} where
  pub head_in : (x : A) (xs : List A) → Contains (x ∷ xs) x
  head_in x xs = (0, omega arith, refl)

  pub tail_in : (x y : A) (xs : List A) → Contains xs y → Contains (x ∷ xs) y
  tail_in x y xs h = Contains-append_right (x ∷ []) xs y h

  pub in_step : (x y : A) (xs : List A) → Contains (x ∷ xs) y → (x ≡ y) ⊎ Contains xs y
  in_step x y xs (zero, l, e) = inl e
  in_step x y xs (suc k, l, e) = inr (k, omega arith, e)

  pub none_in : (y : A) → Contains [] y → ⊥
  none_in y h = let l : h.0 < 0 = h.1 in omega (arith, l)

  pub filter_in : (p : A → Bool) (xs : List A) (y : A) → Contains (filter p xs) y → Contains xs y × (p y ≡ true)
  filter_in p [] y h = absurd (none_in y h)
  filter_in p (x ∷ xs) y h = by (p x) refl h (filter_in p xs y)
    where
      by : (b : Bool) → p x ≡ b → Contains (cond b (x ∷ filter p xs) (filter p xs)) y → (Contains (filter p xs) y → Contains xs y × (p y ≡ true))
          → Contains (x ∷ xs) y × (p y ≡ true)
      by true e c k = elim (in_step x y (filter p xs) c) [
        | inl s ↦ (subst (Contains (x ∷ xs)) s (head_in x xs), ap p (sym s) ∙ e)
        | inr r ↦ let q = k r in (tail_in x y xs q.0, q.1)
      ]
      by false e c k = let q = k c in (tail_in x y xs q.0, q.1)

  pub in_filter : (p : A → Bool) (xs : List A) (y : A) → Contains xs y → p y ≡ true → Contains (filter p xs) y
  in_filter p [] y h e = absurd (none_in y h)
  in_filter p (x ∷ xs) y h e = by (p x) refl (in_step x y xs h) (λ c. in_filter p xs y c e)
    where
      by : (b : Bool) → p x ≡ b → (x ≡ y) ⊎ Contains xs y → (Contains xs y → Contains (filter p xs) y) → Contains (cond b (x ∷ filter p xs) (filter p xs)) y
      by true s (inl r) k = subst (Contains (x ∷ filter p xs)) r (head_in x (filter p xs))
      by true s (inr r) k = tail_in x y (filter p xs) (k r)
      by false s (inl r) k = let f : false ≡ true = sym s ∙ ap p r ∙ e in absurd (cc)
      by false s (inr r) k = k r

  pub each_in : (P : A → Type 0) (xs : List A) (y : A) → Each P xs → Contains xs y → P y
  each_in P [] y h c = absurd (none_in y c)
  each_in P (x ∷ xs) y h c = elim (in_step x y xs c) [
    | inl e ↦ subst P e h.0
    | inr r ↦ each_in P xs y h.1 r
  ]

  pub found_in : (p : A → Bool) (xs : List A) (y : A) → find p xs ≡ Some y → Contains xs y × (p y ≡ true)
  found_in p [] y e = absurd (cc)
  found_in p (x ∷ xs) y e = by (p x) refl e (found_in p xs y)
    where
      by : (b : Bool) → p x ≡ b → cond b (Some x) (find p xs) ≡ Some y → (find p xs ≡ Some y → Contains xs y × (p y ≡ true))
          → Contains (x ∷ xs) y × (p y ≡ true)
      by true s d k = let r : x ≡ y = some_same x y d in (subst (Contains (x ∷ xs)) r (head_in x xs), ap p (sym r) ∙ s)
      by false s d k = let q = k d in (tail_in x y xs q.0, q.1)

module _ {A B : Type 0} where
  pub map_in : (f : A → B) (xs : List A) (y : B) → Contains (map f xs) y → (x : A) × Contains xs x × (f x ≡ y)
  map_in f [] y h = absurd (none_in y h)
  map_in f (x ∷ xs) y h = elim (in_step (f x) y (map f xs) h) [
    | inl e ↦ (x, head_in x xs, e)
    | inr r ↦ let q = map_in f xs y r in (q.0, tail_in x q.0 xs q.1, q.2)
  ]

  pub flat_in : (f : A → List B) (xs : List A) (y : B) → Contains (flat_map f xs) y → (x : A) × Contains xs x × Contains (f x) y
  flat_in f [] y h = absurd (none_in y h)
  flat_in f (x ∷ xs) y h = elim (Contains-append_cases (f x) (flat_map f xs) y (subst (λ zs. Contains zs y) (flat_map-cons f x xs) h)) [
    | inl e ↦ (x, head_in x xs, e)
    | inr r ↦ let q = flat_in f xs y r in (q.0, tail_in x q.0 xs q.1, q.2)
  ]

  pub in_flat : (f : A → List B) (xs : List A) (x : A) (y : B) → Contains xs x → Contains (f x) y → Contains (flat_map f xs) y
  in_flat f [] x y c d = absurd (none_in x c)
  in_flat f (z ∷ xs) x y c d = subst (λ zs. Contains zs y) (sym (flat_map-cons f z xs)) (by (in_step z x xs c) (λ r. in_flat f xs x y r d))
    where
      by : (z ≡ x) ⊎ Contains xs x → (Contains xs x → Contains (flat_map f xs) y) → Contains (f z ++ flat_map f xs) y
      by (inl e) k = Contains-append_left (f z) (flat_map f xs) y (subst (λ w. Contains (f w) y) (sym e) d)
      by (inr r) k = Contains-append_right (f z) (flat_map f xs) y (k r)

-- ---- versions and where they stand
abbrev standing : List ℕ → ℕ → ℕ → Version → Standing
standing name k qubits v = record { place = record { name = name; version = k }; qubits = qubits; version = v }

stood : (c : Circuit) (k : ℕ) (vs : List Version) (s : Standing) → Contains (standing_from c k vs) s
    → (j : ℕ) × (slice_get vs j ≡ Some s.version) × (s ≡ standing c.name (k + j) c.qubits s.version)
stood c k [] s h = absurd (none_in s h)
stood c k (v ∷ vs) s h = elim (in_step (standing c.name k c.qubits v) s (standing_from c (suc k) vs) h) [
  | inl e ↦
      let w : v ≡ s.version = ap (λ x. x.version) e in let n : k ≡ k + 0 = omega arith in (0, ap Some w, sym e ∙ ap₂ (λ m x. standing c.name m c.qubits x) n w)
  | inr r ↦
      let q = stood c (suc k) vs s r in let n : suc k + q.0 ≡ k + suc q.0 = omega arith in
      (suc q.0, q.1, q.2 ∙ ap (λ m. standing c.name m c.qubits s.version) n)
]

stands : (c : Circuit) (k : ℕ) (vs : List Version) (j : ℕ) (v : Version) → slice_get vs j ≡ Some v
    → Contains (standing_from c k vs) (standing c.name (k + j) c.qubits v)
stands c k [] j v e = absurd (cc)
stands c k (w ∷ vs) zero v e =
    let n : k ≡ k + 0 = omega arith in
    subst (Contains (standing_from c k (w ∷ vs))) (ap₂ (λ m x. standing c.name m c.qubits x) n (some_same w v e))
    (head_in (standing c.name k c.qubits w) (standing_from c (suc k) vs))
stands c k (w ∷ vs) (suc j) v e =
    let n : suc k + j ≡ k + suc j = omega arith in
    subst (Contains (standing_from c k (w ∷ vs))) (ap (λ m. standing c.name m c.qubits v) n)
    (tail_in (standing c.name k c.qubits w) (standing c.name (suc k + j) c.qubits v) (standing_from c (suc k) vs) (stands c (suc k) vs j v e))

at_last : (c : Circuit) (cs : List Circuit) (name : List ℕ) → bytes_eq name c.name ≡ false → circuit_at (c ∷ cs) name ≡ circuit_at cs name
at_last c cs name e = ap (λ b. cond b (Some c) (circuit_at cs name)) e

-- each circuit is the one of its name
circuit_of_name : (cs : List Circuit) (c : Circuit) → Apart cs → Contains cs c → circuit_at cs c.name ≡ Some c
circuit_of_name [] c a h = absurd (none_in c h)
circuit_of_name (d ∷ cs) c a h = by (bytes_eq c.name d.name) refl (in_step d c cs h) (circuit_of_name cs c a.1)
  where
    by : (b : Bool) → bytes_eq c.name d.name ≡ b → (d ≡ c) ⊎ Contains cs c → (Contains cs c → circuit_at cs c.name ≡ Some c)
        → cond b (Some d) (circuit_at cs c.name) ≡ Some c
    by true e (inl s) k = ap Some s
    by true e (inr r) k =
        let n : None ≡ Some c = sym a.0 ∙ ap (circuit_at cs) (sym (same_bytes c.name d.name e)) ∙ k r in
        absurd (cc)
    by false e (inl s) k = let t : bytes_eq c.name d.name ≡ true = ap (λ x. bytes_eq c.name x.name) s ∙ bytes_same c.name in absurd (cc)
    by false e (inr r) k = k r

circuit_in : (cs : List Circuit) (name : List ℕ) (c : Circuit) → circuit_at cs name ≡ Some c → Contains cs c
circuit_in [] name c e = absurd (cc)
circuit_in (d ∷ cs) name c e = elim (at_step d c cs name e) [
  | inl h ↦ subst (Contains (d ∷ cs)) h.1 (head_in d cs)
  | inr h ↦ tail_in d c cs (circuit_in cs name c h.1)
]

-- a version of all is found at its place
pub record Stood (t : State) (s : Standing) : Type 0 where
  pub circuit : Circuit
  pub found : Finds t s.place circuit s.version
  pub qubits : s.qubits ≡ circuit.qubits

standing_found : (t : State) → Apart t.circuits → (s : Standing) → Contains (all_versions t.circuits) s → Stood t s
standing_found t a s h =
    let q = flat_in (λ c. standing_from c 1 c.versions) t.circuits s h in
    let r = stood q.0 1 q.0.versions s q.2 in
    let n : 1 + r.0 ≡ suc r.0 = omega arith in
    let at : s ≡ standing q.0.name (suc r.0) q.0.qubits s.version = r.2 ∙ ap (λ m. standing q.0.name m q.0.qubits s.version) n in
    record {
      circuit = q.0;
      found =
          record {
            circuit = ap (λ x. circuit_at t.circuits x.place.name) at ∙ circuit_of_name t.circuits q.0 a q.1;
            version = ap (λ x. version_at q.0 x.place.version) at ∙ r.1;
          };
      qubits = ap (λ x. x.qubits) at;
    }

found_standing : (t : State) (p : Place) (c : Circuit) (v : Version) → Finds t p c v
    → Contains (all_versions t.circuits) (record { place = p; qubits = c.qubits; version = v })
found_standing t p c v f = by p.version refl f.version
  where
    by : (n : ℕ) → p.version ≡ n → version_at c n ≡ Some v → Contains (all_versions t.circuits) (record { place = p; qubits = c.qubits; version = v })
    by zero s e = absurd (cc)
    by (suc k) s e =
        let n : 1 + k ≡ p.version = (let m : 1 + k ≡ suc k = omega arith in m) ∙ sym s in
        let here : standing c.name (1 + k) c.qubits v ≡ record { place = p; qubits = c.qubits; version = v } =
        ap₂ (λ (a : List ℕ) (b : ℕ). standing a b c.qubits v) (sym (name_found t.circuits p.name c f.circuit)) n in
        in_flat (λ d. standing_from d 1 d.versions) t.circuits c (record { place = p; qubits = c.qubits; version = v })
        (circuit_in t.circuits p.name c f.circuit)
        (subst (Contains (standing_from c 1 c.versions)) here (stands c 1 c.versions k v e))

-- ---- candidates
and_parts : (a b : Bool) → (a && b) ≡ true → (a ≡ true) × (b ≡ true)
and_parts true b e = (refl, e)
and_parts false b e = absurd (cc)

record Ready (published : List Published) (ss : List Standing) (x : Candidate) : Type 0 where
  pub of : Contains ss x.of
  pub within : Contains (segments_of x.of.version.tree) x.segment
  pub ready : is_ready published x.segment ≡ true

candidate_ready : (published : List Published) (ss : List Standing) (x : Candidate) → Contains (candidates published ss) x → Ready published ss x
candidate_ready published ss x h =
    let q = flat_in (candidates_of published) ss x h in
    by q.0 q.1 (is_settled published q.0.version.tree) q.2
  where
    by : (s : Standing) → Contains ss s → (b : Bool) → Contains
        (cond b [] (map (λ y. let z : Candidate = record { of = s; segment = y } in z) (filter (is_ready published) (segments_of s.version.tree)))) x
        → Ready published ss x
    by s c true d = absurd (none_in x d)
    by s c false d =
        let m = map_in (λ y. let z : Candidate = record { of = s; segment = y } in z) (filter (is_ready published) (segments_of s.version.tree)) x d in
        let f = filter_in (is_ready published) (segments_of s.version.tree) m.0 m.1 in
        subst (Ready published ss) m.2 (record { of = c; within = f.0; ready = f.1 })

first_in : (all before behind : List Candidate) (x : Candidate) → all ≡ before ++ x ∷ behind → Contains all x
first_in all before behind x e = subst (λ zs. Contains zs x) (sym e) (Contains-append_right before (x ∷ behind) x (head_in x behind))

ready_lacks : (published : List Published) (s : Tree Item) → is_ready published s ≡ true → lacks published s ≡ true
ready_lacks published (leaf name items) e = e
ready_lacks published (branch name l r) e = (and_parts (lacks published (branch name l r)) (has_sum published l && has_sum published r) e).0

lacks_free : (published : List Published) (s : Tree Item) (k : ℕ) → name_of s ≡ Some k → lacks published s ≡ true → published_at published k ≡ None
lacks_free published s k n e = by (published_at published k) (sym (ap (λ m. is_none (published_named published m)) n) ∙ e)
  where
    by : (o : Option Published) → is_none o ≡ true → o ≡ None
    by None h = refl
    by (Some p) h = absurd (cc)

-- ---- what was published for a segment
record Fits (q : ℕ) (s : Tree Item) (r : Record) : Type 0 where
  pub items : r.items.value ≡ run s
  pub qubits : r.n ≡ q

published_fits : (t : State) (w : IsWell t) (q : ℕ) (s : Tree Item) (p : Published) → IsKnown w.table q s → published_for t.published s ≡ Some p
    → Fits q s p.kept
published_fits t w q s p h e = by (name_of s) (known_stands w.table q s h) e
  where
    by : (n : Option ℕ) → StandsFor w.table q n (run s) → published_named t.published n ≡ Some p → Fits q s p.kept
    by None a b = absurd a
    by (Some k) a b =
        let n = w.named k p b in
        let same : n.of ≡ node (run s) q = some_same n.of (node (run s) q) (sym n.there ∙ a) in
        record { items = n.items ∙ ap (λ x. x.items) same; qubits = n.qubits ∙ ap (λ x. x.qubits) same }

work_items : (t : State) (w : IsWell t) (q : ℕ) (s : Tree Item) (work : Work) → IsKnown w.table q s → IsWorkOf t.published s work → items_of work ≡ run s
work_items t w q (leaf name items) (Items a) h k = k
work_items t w q (leaf name items) (Children a b) h k = absurd k
work_items t w q (branch name l r) (Items a) h k = absurd k
work_items t w q (branch name l r) (Children a b) h k =
    let x = published_fits t w q l k.0.0 h.1 k.0.1 in
    let y = published_fits t w q r k.1.0 h.2 k.1.1 in
    ap₂ (λ c d. c ++ d) (sym (ap (λ z. z.items.value) k.0.2) ∙ x.items) (sym (ap (λ z. z.items.value) k.1.2) ∙ y.items)

sum_there : (r : Record) → is_passed r ≡ false → HasSum r.body
sum_there r e = by r.body e
  where
    by : (b : Body) → has_passed_limit b ≡ false → HasSum b
    by (Sum s) h = tt
    by (Passed x) h = absurd (cc)

not_passed : (b : Bool) → not b ≡ true → b ≡ false
not_passed true e = absurd (cc)
not_passed false e = refl

sum_of : (published : List Published) (s : Tree Item) (r : Record) → has_sum published s ≡ true → IsPublishedFor published s r → HasSum r.body
sum_of published s r e h = sum_there r (not_passed (is_passed r) (ap (λ x. not (is_passed x)) (sym h.2) ∙ sym (ap with_sum h.1) ∙ e))

-- the task can be filled
can_fill : (t : State) (w : IsWell t) (q : ℕ) (s : Tree Item) (work : Work) → IsKnown w.table q s → IsFew q (run s) → is_ready t.published s ≡ true
    → IsWorkOf t.published s work → CanFill q work
can_fill t w q (leaf name items) (Items a) h f e k = let g = subst (IsFew q) (sym k) f in record { few = g.few; within = g.within }
can_fill t w q (leaf name items) (Children a b) h f e k = absurd k
can_fill t w q (branch name l r) (Items a) h f e k = absurd k
can_fill t w q (branch name l r) (Children a b) h f e k =
    let x = published_fits t w q l k.0.0 h.1 k.0.1 in
    let y = published_fits t w q r k.1.0 h.2 k.1.1 in
    let both =
    and_parts (has_sum t.published l) (has_sum t.published r)
    (and_parts (lacks t.published (branch name l r)) (has_sum t.published l && has_sum t.published r) e).1 in
    let la : length a.value.items.value ≡ length (run l) = ap length (sym (ap (λ z. z.items.value) k.0.2) ∙ x.items) in
    let lb : length b.value.items.value ≡ length (run r) = ap length (sym (ap (λ z. z.items.value) k.1.2) ∙ y.items) in
    let total : length (run l ++ run r) ≡ length (run l) + length (run r) = length-append (run l) (run r) in
    let limit : length (run l ++ run r) ≤ 65536 = f.few in
    record {
      first_n = sym (ap (λ z. z.n) k.0.2) ∙ x.qubits;
      second_n = sym (ap (λ z. z.n) k.1.2) ∙ y.qubits;
      first_sum = sum_of t.published l a.value both.0 k.0;
      second_sum = sum_of t.published r b.value both.1 k.1;
      few = omega (arith, la, lb, total, limit);
    }

HasSum-prop : (b : Body) → IsProp (HasSum b)
HasSum-prop (Sum s) = hlevel props
HasSum-prop (Passed e) = hlevel props

pub CanFill-prop : (n : ℕ) (w : Work) → IsProp (CanFill n w)
CanFill-prop n (Items a) = hlevel (props, AllWithin-prop n (run_of a.value))
CanFill-prop n (Children a b) = hlevel (props, HasSum-prop a.value.body, HasSum-prop b.value.body)

-- ---- a task of a pinned version
pub record Gives (u t : State) (seat : ℕ) (pin : Pin) (task : ATask) : Type 0 where
  pub claim : HoldsClaim t seat pin task u
  pub wide : (1 ≤ task.n) × (task.n ≤ 64)
  pub can_fill : CanFill task.n task.work
  pub pins_same : pin_of t seat ≡ pin_of u seat

looks_own : (u : State) (seat : ℕ) (b : Bool) (ss : List Standing) (pin : Pin) → LooksAt u seat b ss → b ≡ true → pin_of u seat ≡ Some pin
    → ss ≡ pinned_versions u pin
looks_own u seat b ss pin claiming.all e p = absurd (cc)
looks_own u seat b ss pin (claiming.own {pin = other} q) e p = ap (pinned_versions u) (some_same other pin (sym q ∙ p))

module _ (u : State) (w : IsWell u) (i seat : ℕ) (below : seat < 64) (pin : Pin) (held : pin_of u seat ≡ Some pin) where
  given : (x : Candidate) (k : ℕ) (task : ATask) → Passes seat u (claimed i seat x.of.place k u) → Ready u.published (pinned_versions u pin) x
      → name_of x.segment ≡ Some k → IsTaskOf u i seat x task
      → Gives u (claimed i seat x.of.place k u) seat pin task
  given x k task passes ready name is =
      let chosen = filter_in (λ s. pins_place s.place pin) (all_versions u.circuits) x.of ready.of in
      let at = standing_found u w.apart x.of chosen.0 in
      let f = found_well u w x.of.place at.circuit x.of.version at.found in
      let q : ℕ = at.circuit.qubits in
      let known : IsKnown w.table q x.segment = known_within w.table q x.of.version.tree x.segment f.version.tree ready.within in
      let whole : IsFew q (run_maybe x.of.version.tree) = subst (IsFew q) (sym f.version.run) (record { few = f.version.few; within = f.version.within }) in
      let part : IsFew q (run x.segment) = part_within (IsFew q) (few_front q) (few_back q) x.of.version.tree x.segment whole ready.within in
      let width : task.n ≡ q = is.qubits ∙ at.qubits in
      record {
        claim = record {
          claim = record { place = x.of.place; node = k; entry = i };
          claim_is = written u.claims seat (Some (record { place = x.of.place; node = k; entry = i })) (subst (λ n. seat < n) (sym w.claims) below);
          pinned = chosen.1;
          later = passes_later seat u (claimed i seat x.of.place k u) passes;
          free = lacks_free u.published x.segment k name (ready_lacks u.published x.segment ready.ready);
          circuit = at.circuit;
          version = x.of.version;
          segment = x.segment;
          found = at.found;
          within = ready.within;
          named = name;
          alike = λ s c n. alike_runs q f.version s known c n;
          qubits = width;
          items = work_items u w q x.segment task.work known is.work;
        };
        wide = subst (λ n. (1 ≤ n) × (n ≤ 64)) (sym width) f.circuit.qubits;
        can_fill = subst (λ n. CanFill n task.work) (sym width) (can_fill u w q x.segment task.work known part ready.ready is.work);
        pins_same = refl;
      }
    where
      alike_runs : (q : ℕ) → IsWellVersion w.table q x.of.version → (s : Tree Item) → IsKnown w.table q x.segment
          → Contains (segments_of x.of.version.tree) s → name_of s ≡ Some k → run s ≡ run x.segment
      alike_runs q v s known c n =
          let a : slice_get w.table k ≡ Some (node (run s) q) =
          subst (λ m. StandsFor w.table q m (run s)) n (known_stands w.table q s (known_within w.table q x.of.version.tree s v.tree c)) in
          let b : slice_get w.table k ≡ Some (node (run x.segment) q) =
          subst (λ m. StandsFor w.table q m (run x.segment)) name (known_stands w.table q x.segment known) in
          ap (λ z. z.items) (some_same (node (run s) q) (node (run x.segment) q) (sym a ∙ b))

  pub gives_task : (t : State) (own : Bool) (r : Reply) (task : ATask) → Passes seat u t → Nexts u i seat own r t → own ≡ true → r ≡ Task task
      → Gives u t seat pin task
  gives_task t own r task p (claiming.no_pin e) o s = absurd (cc)
  gives_task t own r task p (claiming.idle e) o s = absurd (cc)
  gives_task t own r task p (claiming.settled e f g h) o s = absurd (cc)
  gives_task t own r task p (claiming.gives {ss = ss} {x = x} {node = k} {task = other} e f g h) o s =
      let same : other ≡ task = cc in
      let pinned : ss ≡ pinned_versions u pin = looks_own u seat own ss pin e o held in
      let ready : Ready u.published ss x = candidate_ready u.published ss x (first_in (candidates u.published ss) f.before f.behind x f.whole) in
      given x k task p (subst (λ zs. Ready u.published zs x) pinned ready) g (subst (IsTaskOf u i seat x) same h)

-- ---- what settled versions come to
pinned_settled : (u : State) (pin : Pin) (p : Place) (c : Circuit) (v : Version) → AreSettled u.published (pinned_versions u pin)
    → pins_place p pin ≡ true → Finds u p c v → is_settled u.published v.tree ≡ true
pinned_settled u pin p c v h k f =
    let s : Standing = record { place = p; qubits = c.qubits; version = v } in
    each_in (λ x. is_settled u.published x.version.tree ≡ true) (pinned_versions u pin) s h
    (in_filter (λ x. pins_place x.place pin) (all_versions u.circuits) s (found_standing u p c v f) k)

whole_segment : (s : Tree Item) → Contains (segments s) s
whole_segment (leaf name items) = head_in (leaf name items) []
whole_segment (branch name l r) =
    Contains-append_right (segments l) (segments r ++ branch name l r ∷ []) (branch name l r)
    (Contains-append_right (segments r) (branch name l r ∷ []) (branch name l r) (head_in (branch name l r) []))

passed_there : (published : List Published) (x : Tree Item) (p : Published) → has_passed published x ≡ true → published_for published x ≡ Some p
    → is_passed p.kept ≡ true
passed_there published x p e f = sym (ap with_limit f) ∙ e

comes_belongs : (u : State) (w : IsWell u) (p : Place) (c : Circuit) (v : Version) (r : Record) → Finds u p c v → ComesTo u c v r → Belongs c v r
comes_belongs u w p c v r f (summing.of_nothing e h) =
    let g = found_well u w p c v f in
    record { qubits = h.qubits; items = inl (h.items ∙ sym (ap run_maybe e) ∙ g.version.run) }
comes_belongs u w p c v r f (summing.of_root {s = s} {p = q} e a b d) =
    let g = found_well u w p c v f in
    let known : IsKnown w.table c.qubits s =
    known_within w.table c.qubits v.tree s g.version.tree (subst (λ o. Contains (segments_of o) s) (sym e) (whole_segment s)) in
    let fits = published_fits u w c.qubits s q known b in
    record { qubits = sym (ap (λ z. z.n) d) ∙ fits.qubits; items = inl (sym (ap (λ z. z.items.value) d) ∙ fits.items ∙ sym (ap run_maybe e) ∙ g.version.run) }
comes_belongs u w p c v r f (summing.of_limit {s = s} {x = x} {p = q} e a b d k) =
    let g = found_well u w p c v f in
    let there = found_in (has_passed u.published) (segments s) x b in
    let within : Contains (segments_of v.tree) x = subst (λ o. Contains (segments_of o) x) (sym e) there.0 in
    let known : IsKnown w.table c.qubits x = known_within w.table c.qubits v.tree x g.version.tree within in
    let fits = published_fits u w c.qubits x q known d in
    let passed : is_passed r ≡ true = sym (ap is_passed k) ∙ passed_there u.published x q there.1 d in
    record { qubits = sym (ap (λ z. z.n) k) ∙ fits.qubits; items = inr (passed, (x, (within, sym (ap (λ z. z.items.value) k) ∙ fits.items))) }

comes_with : (u : State) (w : IsWell u) (pin : Pin) (p : Place) (r : Record) → AreSettled u.published (pinned_versions u pin)
    → pins_place p pin ≡ true → ComesToAt u p r → ComesWith u p r
comes_with u w pin p r h k c = record {
  circuit = c.circuit;
  version = c.version;
  found = c.found;
  settled = pinned_settled u pin p c.circuit c.version h k c.found;
  belongs = comes_belongs u w p c.circuit c.version r c.found c.comes;
}

pub come_with : (u : State) (w : IsWell u) (seat : ℕ) (pin : Pin) (first : Place) (second : Option Place) (a : Record) (b : Option Record)
    → HoldsPin u seat pin first second → AreSettled u.published (pinned_versions u pin)
    → ComesToAt u pin.first a → SecondComesTo u pin.second b → ComeWith u first second a b
come_with u w seat pin first None a None h s x y = comes_with u w pin first a s (first_pinned pin first h.first_is) (subst (λ p. ComesToAt u p a) h.first_is x)
come_with u w seat pin first None a (Some b) h s x y = absurd (subst (λ o. SecondComesTo u o (Some b)) h.second_is y)
come_with u w seat pin first (Some second) a None h s x y = absurd (subst (λ o. SecondComesTo u o None) h.second_is y)
come_with u w seat pin first (Some second) a (Some b) h s x y =
    let one : ComesWith u first a = comes_with u w pin first a s (first_pinned pin first h.first_is) (subst (λ p. ComesToAt u p a) h.first_is x) in
    let two : ComesWith u second b =
    comes_with u w pin second b s (second_pinned pin second h.second_is) (subst (λ o. SecondComesTo u o (Some b)) h.second_is y) in
    (one, two, one.belongs.qubits ∙ h.keeps.2 one.circuit two.circuit one.version two.version one.found two.found ∙ sym two.belongs.qubits)
