-- A circuit that gains versions.
use Rattle.std.proofs.Common.{◌≡◌, ℕ, zero, suc, ◌+◌, ◌-◌, ◌*◌, ◌<◌, ◌≤◌, max, Bool, List, [], ◌∷◌, ◌++◌, take, drop, length, replicate, set, refl, sym, ap, ◌∙◌, subst, arith, length-append, append-nil}
use Rattle.std.specs.Prelude.{Option, Some, None, slice_get}
use Rattle.std.proofs.lemmas.List.{length-set}
use Rattle.seg_tree.specs.Trees.{Tree, build, splice, run_maybe}
use Rattle.seg_tree.specs.Measures.{uses_maybe, height_maybe}
use Rattle.seg_tree.specs.Table.{root_tree}
use Rattle.seg_tree.specs.Growth.{Keeps, PlantsMaybe, Passes}
use Rattle.ps_versions.specs.Held.{Held, Circuit}
use Rattle.ps_versions.specs.Lookup.{version_in, root_of, change_at}
use Rattle.ps_versions.specs.Lives.{IsLife}
use Rattle.ps_versions.specs.Records.{IsOnce}
use Rattle.ps_versions.specs.Questions.{missing_in}
use Rattle.ps_versions.specs.Opened.{fresh_version}
use Rattle.ps_versions.specs.Spliced.{latest_of, latest_root, latest_tree, with_more, SplicesAt}
use Rattle.ps_versions.specs.Gains.{Gains, HasCount}
use Rattle.ps_versions.specs.Views.{version_of, versions_of, circuit_of, circuits_of, kept_of, seen, EndsLive, IsSound}
use Rattle.ps_versions.proofs.Lookups.{circuits-set, each_set, get-circuits, length-versions, get-versions, length-kept}
use Rattle.ps_versions.proofs.Growths.{once_kept, kept_grown, filled_more, counted_more}
use Rattle.ps_versions.proofs.Totals.{few_missing}
use Rattle.ps_versions.specs.declared.data.Edition.{Edition}
use Rattle.ps_versions.specs.declared.data.Course.{Course}
use Rattle.ps_versions.specs.declared.versions.Versions.TheInside.{Inside}

versions-append : (es fs : List Edition) → versions_of (es ++ fs) ≡ versions_of es ++ versions_of fs
versions-append [] fs = refl
versions-append (e ∷ es) fs = ap (λ vs. version_of e ∷ vs) (versions-append es fs)

gained_circuit : (n : List ℕ) (was course : Course) (more : List Edition) → course.qubits ≡ was.qubits → course.opened ≡ was.opened → course.editions.items ≡ was.editions.items ++ more → circuit_of n course ≡ with_more (versions_of more) (circuit_of n was)
gained_circuit n was course more q o e =
    let vs : versions_of course.editions.items ≡ versions_of was.editions.items ++ versions_of more = ap versions_of e ∙ versions-append was.editions.items more in
    ap (λ x. record { name = n; qubits = x; opened = course.opened; versions = versions_of course.editions.items }) q
    ∙ ap (λ x. record { name = n; qubits = was.qubits; opened = x; versions = versions_of course.editions.items }) o
    ∙ ap (λ x. record { name = n; qubits = was.qubits; opened = was.opened; versions = x }) vs

pub circuits-gain : (ns : List (List ℕ)) (cs ds : List Course) (i : ℕ) (more : List Edition) → length ns ≡ length cs → Gains cs ds i more → circuits_of ns ds ≡ change_at (circuits_of ns cs) i (with_more (versions_of more))
circuits-gain ns cs ds i more e g =
    ap (circuits_of ns) g.changed
    ∙ circuits-set ns cs i g.was g.course (with_more (versions_of more)) e g.there (λ n. gained_circuit n g.was g.course more g.qubits g.opened g.editions)

none_more : (cs : List Circuit) (i : ℕ) → change_at cs i (with_more []) ≡ cs
none_more [] i = refl
none_more (c ∷ cs) zero = ap (λ vs. record { name = c.name; qubits = c.qubits; opened = c.opened; versions = vs } ∷ cs) (append-nil c.versions)
none_more (c ∷ cs) (suc i) = ap (λ ds. c ∷ ds) (none_more cs i)

-- a circuit that gains no version looks as before
pub circuits-same : (ns : List (List ℕ)) (cs ds : List Course) (i : ℕ) → length ns ≡ length cs → Gains cs ds i [] → circuits_of ns ds ≡ circuits_of ns cs
circuits-same ns cs ds i e g = circuits-gain ns cs ds i [] e g ∙ none_more (circuits_of ns cs) i

pub gains_length : (cs ds : List Course) (i : ℕ) (more : List Edition) → Gains cs ds i more → length ds ≡ length cs
gains_length cs ds i more g = ap length g.changed ∙ length-set cs i g.course

module _ {A : Type 0} where
  pub get-set : (xs : List A) (i : ℕ) (x y : A) → slice_get xs i ≡ Some x → slice_get (set xs i y) i ≡ Some y
  get-set [] i x y e = cc
  get-set (z ∷ xs) zero x y e = refl
  get-set (z ∷ xs) (suc i) x y e = get-set xs i x y e

  set-twice : (xs : List A) (i : ℕ) (x y : A) → set (set xs i x) i y ≡ set xs i y
  set-twice [] i x y = refl
  set-twice (z ∷ xs) zero x y = refl
  set-twice (z ∷ xs) (suc i) x y = ap (λ zs. z ∷ zs) (set-twice xs i x y)

  pub some_same : (x y : A) → Some x ≡ Some y → x ≡ y
  some_same x y e = cc

-- the one after the other
pub gains_then : (cs ds es : List Course) (i : ℕ) (more : List Edition) → Gains cs ds i [] → Gains ds es i more → Gains cs es i more
gains_then cs ds es i more g h =
    let same : g.course ≡ h.was = some_same g.course h.was (sym (get-set cs i g.was g.course g.there) ∙ ap (λ xs. slice_get xs i) (sym g.changed) ∙ h.there) in
    record {
      was = g.was;
      course = h.course;
      there = g.there;
      changed = h.changed ∙ ap (λ xs. set xs i h.course) g.changed ∙ set-twice cs i g.course h.course;
      qubits = h.qubits ∙ ap (λ c. c.qubits) (sym same) ∙ g.qubits;
      opened = h.opened ∙ ap (λ c. c.opened) (sym same) ∙ g.opened;
      editions = h.editions ∙ ap (λ c. c.editions.items ++ more) (sym same) ∙ ap (λ xs. xs ++ more) (g.editions ∙ append-nil g.was.editions.items);
    }

each_append : {A : Type 0} (P : A → Type 0) (xs ys : List A) → ((k : ℕ) (x : A) → slice_get xs k ≡ Some x → P x) → ((k : ℕ) (x : A) → slice_get ys k ≡ Some x → P x) → (k : ℕ) (x : A) → slice_get (xs ++ ys) k ≡ Some x → P x
each_append P [] ys all more k x e = more k x e
each_append P (y ∷ xs) ys all more zero x e = all zero x e
each_append P (y ∷ xs) ys all more (suc k) x e = each_append P xs ys (λ j z g. all (suc j) z g) more k x e

-- the last of some versions is live where one that is live comes last
pub ends_more : (es : List Edition) (e : Edition) → e.retired ≡ None → EndsLive (es ++ e ∷ [])
ends_more es e live = λ x h.
    let n : length (es ++ e ∷ []) - 1 ≡ length es = omega (arith, length-append es (e ∷ [])) in
    last es x (subst (λ k. slice_get (es ++ e ∷ []) k ≡ Some x) n h)
  where
    last : (es : List Edition) (x : Edition) → slice_get (es ++ e ∷ []) (length es) ≡ Some x → x.retired ≡ None
    last [] x h = let same : e ≡ x = cc in ap (λ y. y.retired) (sym same) ∙ live
    last (d ∷ es) x h = last es x h

pub ends_same : (es : List Edition) → EndsLive es → EndsLive (es ++ [])
ends_same es h = subst EndsLive (sym (append-nil es)) h

module _ {R : Type 0} (passed : R → Bool) (a b : Inside R) (i : ℕ) (more : List Edition) where
  pub sound_gains : (m : ℕ) → b.names.keys ≡ a.names.keys → (g : Gains a.courses.items b.courses.items i more) → Keeps a.nodes b.nodes → b.records.items ≡ a.records.items ++ replicate m None → length b.records.items ≡ length b.nodes → b.passed ≡ a.passed → length g.was.editions.items + length more < 4294967296 → EndsLive (g.was.editions.items ++ more) → ((k : ℕ) (e : Edition) → slice_get more k ≡ Some e → IsOnce b.nodes e.root) → ((k : ℕ) (e : Edition) → slice_get more k ≡ Some e → IsLife (version_of e)) → IsSound passed a → IsSound passed b
  sound_gains m names g kept records recorded p few ends once lives s = record {
    named = omega (arith, ap length names, gains_length a.courses.items b.courses.items i more g, s.named);
    recorded = recorded;
    numbered = λ k x h. each_set (λ y. length y.editions.items < 4294967296) a.courses.items i g.course s.numbered (omega (arith, ap length g.editions, length-append g.was.editions.items more, few)) k x (moved k x h);
    once = λ k j x y h r. each_set (λ z. (j : ℕ) (y : Edition) → slice_get z.editions.items j ≡ Some y → IsOnce b.nodes y.root) a.courses.items i g.course (λ k z h j y r. once_kept a.nodes b.nodes y.root kept (s.once k j z y h r))
        (λ j y r. each_append (λ y. IsOnce b.nodes y.root) g.was.editions.items more (λ j y r. once_kept a.nodes b.nodes y.root kept (s.once i j g.was y g.there r)) once j y (subst (λ es. slice_get es j ≡ Some y) g.editions r)) k x (moved k x h) j y r;
    lives = λ k j x y h r. each_set (λ z. (j : ℕ) (y : Edition) → slice_get z.editions.items j ≡ Some y → IsLife (version_of y)) a.courses.items i g.course (λ k z h j y r. s.lives k j z y h r)
        (λ j y r. each_append (λ y. IsLife (version_of y)) g.was.editions.items more (λ j y r. s.lives i j g.was y g.there r) lives j y (subst (λ es. slice_get es j ≡ Some y) g.editions r)) k x (moved k x h) j y r;
    few = omega (arith, gains_length a.courses.items b.courses.items i more g, s.few);
    begun = λ k x h. each_set (λ y. 0 < length y.editions.items) a.courses.items i g.course s.begun (omega (arith, ap length g.editions, length-append g.was.editions.items more, s.begun i g.was g.there)) k x (moved k x h);
    live = λ k x h. each_set (λ y. EndsLive y.editions.items) a.courses.items i g.course s.live (subst EndsLive (sym g.editions) ends) k x (moved k x h);
    filled = filled_more passed a b m kept records s;
    counted = counted_more passed a b m p records s;
  }
    where
      moved : (k : ℕ) (x : Course) → slice_get b.courses.items k ≡ Some x → slice_get (set a.courses.items i g.course) k ≡ Some x
      moved k x h = subst (λ cs. slice_get cs k ≡ Some x) g.changed h

pub no_more : {A : Type 0} (P : A → Type 0) (k : ℕ) (x : A) → slice_get [] k ≡ Some x → P x
no_more P k x e = cc

pub one_more : {A : Type 0} (P : A → Type 0) (d : A) → P d → (k : ℕ) (x : A) → slice_get (d ∷ []) k ≡ Some x → P x
one_more P d pd zero x e = let same : d ≡ x = cc in subst P same pd
one_more P d pd (suc k) x e = cc

pub keeps_all : (ts : List (Tree ℕ)) → Keeps ts ts
keeps_all ts = record { longer = omega arith; same = λ k near. refl }

pub keeps_same : (old new : List (Tree ℕ)) → new ≡ old → Keeps old new
keeps_same old new e = subst (λ ts. Keeps old ts) (sym e) (keeps_all old)

-- what is seen where a circuit gained room
pub seen_same : {R : Type 0} (passed : R → Bool) (a b : Inside R) (i : ℕ) → b.names.keys ≡ a.names.keys → Gains a.courses.items b.courses.items i [] → b.nodes ≡ a.nodes → b.records.items ≡ a.records.items → IsSound passed a → seen b ≡ seen a
seen_same passed a b i n g t r s =
    let cs : circuits_of b.names.keys b.courses.items ≡ circuits_of a.names.keys a.courses.items = ap (λ ns. circuits_of ns b.courses.items) n ∙ circuits-same a.names.keys a.courses.items b.courses.items i s.named g in
    ap (λ x. record { circuits = x; nodes = b.nodes; kept = kept_of b.records.items }) cs
    ∙ ap (λ x. record { circuits = circuits_of a.names.keys a.courses.items; nodes = x; kept = kept_of b.records.items }) t
    ∙ ap (λ x. record { circuits = circuits_of a.names.keys a.courses.items; nodes = a.nodes; kept = kept_of x }) r

-- how many versions a circuit has
pub count_of : (ns : List (List ℕ)) (cs : List Course) (i n : ℕ) (c : Course) → length ns ≡ length cs → slice_get cs i ≡ Some c → HasCount cs i n → latest_of (slice_get (circuits_of ns cs) i) ≡ n
count_of ns cs i n c e g h = ap latest_of (get-circuits ns cs i c e g) ∙ length-versions c.editions.items ∙ h c g

-- the root of the latest version
pub root_last : (n : List ℕ) (c : Course) (k : ℕ) (e : Edition) → length c.editions.items ≡ suc k → slice_get c.editions.items k ≡ Some e → latest_root (Some (circuit_of n c)) ≡ e.root
root_last n c k e l g =
    let count : length (versions_of c.editions.items) ≡ suc k = length-versions c.editions.items ∙ l in
    ap (λ m. root_of (version_in (Some (circuit_of n c)) m)) count ∙ ap root_of (get-versions c.editions.items k e g)

pub root_none : (n : List ℕ) (c : Course) → length c.editions.items ≡ 0 → latest_root (Some (circuit_of n c)) ≡ None
root_none n c l = let count : length (versions_of c.editions.items) ≡ 0 = length-versions c.editions.items ∙ l in ap (λ m. root_of (version_in (Some (circuit_of n c)) m)) count

pub once_none : (ts : List (Tree ℕ)) → IsOnce ts None
once_none ts = record { there = tt; once = λ k. omega arith }

-- the whole of a splice
pub spliced : {R : Type 0} (passed : R → Bool) (a b : Inside R) (old : Held R) (i from to number : ℕ) (items : List ℕ) (e : Edition) (r : Option ℕ) → b.names.keys ≡ a.names.keys → Gains a.courses.items b.courses.items i (e ∷ []) → version_of e ≡ fresh_version e.root → b.records.items ≡ a.records.items ++ replicate (length b.nodes - length a.nodes) None → r ≡ latest_root (slice_get (seen a).circuits i) → run_maybe (root_tree b.nodes e.root) ≡ take from (run_maybe (root_tree a.nodes r)) ++ items ++ drop to (run_maybe (root_tree a.nodes r)) → PlantsMaybe a.nodes b.nodes (splice (root_tree a.nodes r) from to items) e.root → Passes (length a.nodes) (length b.nodes) (λ k. uses_maybe k (root_tree a.nodes r)) (λ k. uses_maybe k (root_tree b.nodes e.root)) → length b.nodes ≤ length a.nodes + 64 * (max (height_maybe (root_tree a.nodes r)) (height_maybe (build items)) + 1) + 2 * length items → number ≡ latest_of (slice_get (seen a).circuits i) + 1 → IsSound passed a → seen a ≡ old → SplicesAt old (seen b) (Some i) from to items number
spliced {R} passed a b old i from to number items e r names g fresh records is run planted passes few num s told =
    let more : ℕ = length b.nodes - length a.nodes in
    let kept : kept_of b.records.items ≡ kept_of a.records.items ++ replicate more None = kept_grown passed a b more records in
    let long : length (kept_of a.records.items) ≡ length a.nodes = length-kept a.records.items ∙ s.recorded in
    let sum : length a.nodes + more ≡ length b.nodes = omega (arith, planted.kept.longer) in
    let lacking : missing_in (kept_of b.records.items) (root_tree b.nodes e.root) ≤ missing_in (kept_of a.records.items) (root_tree a.nodes r) + more =
    few_missing (kept_of a.records.items) (kept_of b.records.items) more (root_tree a.nodes r) (root_tree b.nodes e.root) kept
    (subst (λ m. Passes m (m + more) (λ k. uses_maybe k (root_tree a.nodes r)) (λ k. uses_maybe k (root_tree b.nodes e.root))) (sym long)
    (subst (λ m. Passes (length a.nodes) m (λ k. uses_maybe k (root_tree a.nodes r)) (λ k. uses_maybe k (root_tree b.nodes e.root))) (sym sum) passes)) in
    let base : root_tree a.nodes r ≡ latest_tree (seen a) (Some i) = ap (root_tree a.nodes) is in
    subst (λ h. SplicesAt h (seen b) (Some i) from to items number) told (record {
      root = e.root;
      run = subst (λ t. run_maybe (root_tree b.nodes e.root) ≡ take from (run_maybe t) ++ items ++ drop to (run_maybe t)) base run;
      planted = subst (λ t. PlantsMaybe a.nodes b.nodes (splice t from to items) e.root) base planted;
      circuits = ap (λ ns. circuits_of ns b.courses.items) names ∙ circuits-gain a.names.keys a.courses.items b.courses.items i (e ∷ []) s.named g ∙ ap (λ v. change_at (circuits_of a.names.keys a.courses.items) i (with_more (v ∷ []))) fresh;
      kept = kept;
      numbered = num;
      bound = subst (λ t. missing_in (kept_of b.records.items) (root_tree b.nodes e.root) ≤ missing_in (kept_of a.records.items) t + 64 * (max (height_maybe t) (height_maybe (build items)) + 1) + 2 * length items) base (omega (arith, lacking, few));
    })
