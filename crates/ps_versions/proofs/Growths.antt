-- How what is held grows by a circuit or a version.
use Rattle.std.proofs.Common.{◌≡◌, ℕ, zero, suc, ◌-◌, ◌<◌, ◌≤◌, ◌⊎◌, inl, inr, List, [], ◌∷◌, ◌++◌, length, replicate, get_or, refl, sym, ap, ◌∙◌, subst, arith, length-append, Bool, true, false, ◌||◌, nat_eq}
use Rattle.std.specs.Prelude.{Option, Some, None, position, slice_get}
use Rattle.std.specs.List.{list_any, count_by, position_or_len}
use Rattle.std.specs.Cmp.Lexicographic.{pointwise}
use Rattle.std.proofs.lemmas.Grind.{common_steps}
use Rattle.std.proofs.lemmas.List.Sums.{fails_before_first}
use Rattle.std.proofs.lemmas.Option.{slice_get-get_or}
use Rattle.seg_tree.specs.Trees.{Tree, build, run_maybe}
use Rattle.seg_tree.specs.Measures.{uses_maybe}
use Rattle.seg_tree.specs.Table.{root_tree, IsRoot}
use Rattle.seg_tree.specs.Growth.{Keeps, PlantsMaybe, Passes}
use Rattle.ps_versions.specs.Held.{Held, Circuit}
use Rattle.ps_versions.specs.Lookup.{circuit_at, version_in, version_at}
use Rattle.ps_versions.specs.Lives.{IsLife}
use Rattle.ps_versions.specs.Records.{IsOnce}
use Rattle.ps_versions.specs.Opened.{Opens, fresh_version}
use Rattle.ps_versions.specs.Questions.{is_passed}
use Rattle.ps_versions.specs.Views.{version_of, versions_of, circuit_of, circuits_of, kept_of, seen, EndsLive, IsFilled, IsSound}
use Rattle.ps_versions.proofs.Lookups.{place_found, place-fields, length-kept}
use Rattle.ps_versions.proofs.Filling.{filled_grown, passed_grown}
use Rattle.ps_versions.proofs.Finding.{last_circuit}
use Rattle.ps_versions.specs.declared.data.Edition.{Edition}
use Rattle.ps_versions.specs.declared.data.Course.{Course}
use Rattle.ps_versions.specs.declared.data.Stored.{Stored}
use Rattle.ps_versions.specs.declared.versions.Versions.TheInside.{Inside}

module _ {A : Type 0} where
  none_passes : (p : A → Bool) (xs : List A) → ((k : ℕ) (d : A) → k < length xs → p (get_or xs k d) ≡ false) → list_any p xs ≡ false
  none_passes p [] h = refl
  none_passes p (x ∷ xs) h = either (p x) (list_any p xs) (h 0 x (omega arith)) (none_passes p xs (λ k d near. h (suc k) d (omega arith)))
    where
      either : (a b : Bool) → a ≡ false → b ≡ false → (a || b) ≡ false
      either true b e f = cc
      either false b e f = f

  nowhere : (p : A → Bool) (xs : List A) → position p xs ≡ None → list_any p xs ≡ false
  nowhere p xs e =
      let past : length xs ≤ position_or_len p xs = grind (arith, common_steps) in
      none_passes p xs (λ k d near. fails_before_first p xs k d (omega (arith, past)))

  some_none : (x : A) → Some x ≡ None → ⊥
  some_none x e = cc

  -- what holds of each item holds with one more
  pub each_more : (P : A → Type 0) (xs : List A) (d : A) → ((k : ℕ) (x : A) → slice_get xs k ≡ Some x → P x) → P d → (k : ℕ) (x : A) → slice_get (xs ++ d ∷ []) k ≡ Some x → P x
  each_more P [] d all pd zero x e = let same : d ≡ x = cc in subst P same pd
  each_more P [] d all pd (suc k) x e = cc
  each_more P (y ∷ xs) d all pd zero x e = all zero x e
  each_more P (y ∷ xs) d all pd (suc k) x e = each_more P xs d (λ j z g. all (suc j) z g) pd k x e

-- a name that no circuit has is not among the names
pub absent : (ns : List (List ℕ)) (cs : List Course) (name : List ℕ) → length ns ≡ length cs → circuit_at (circuits_of ns cs) name ≡ None → list_any (pointwise nat_eq name) ns ≡ false
absent ns cs name e h = by_place (position (pointwise nat_eq name) ns) refl
  where
    by_place : (r : Option ℕ) → position (pointwise nat_eq name) ns ≡ r → list_any (pointwise nat_eq name) ns ≡ false
    by_place None p = nowhere (pointwise nat_eq name) ns p
    by_place (Some i) p =
        let found = place_found (circuits_of ns cs) name (Some i) (sym p ∙ place-fields ns cs name e) in
        absurd (some_none (get_or (circuits_of ns cs) i (circuit_none i)) (sym (slice_get-get_or (circuits_of ns cs) i (circuit_none i) found.0) ∙ sym found.1 ∙ h))
      where
        circuit_none : ℕ → Circuit
        circuit_none i = record { name = []; qubits = 0; opened = 0; versions = [] }

pub circuits-more : (ns : List (List ℕ)) (cs : List Course) (n : List ℕ) (c : Course) → length ns ≡ length cs → circuits_of (ns ++ n ∷ []) (cs ++ c ∷ []) ≡ circuits_of ns cs ++ circuit_of n c ∷ []
circuits-more [] [] n c e = refl
circuits-more [] (x ∷ cs) n c e = absurd (omega arith)
circuits-more (m ∷ ns) [] n c e = absurd (omega arith)
circuits-more (m ∷ ns) (x ∷ cs) n c e = ap (λ ys. circuit_of m x ∷ ys) (circuits-more ns cs n c (omega arith))

pub versions-more : (es : List Edition) (e : Edition) → versions_of (es ++ e ∷ []) ≡ versions_of es ++ version_of e ∷ []
versions-more [] e = refl
versions-more (x ∷ es) e = ap (λ vs. version_of x ∷ vs) (versions-more es e)

module _ {R : Type 0} where
  kept-none : (m : ℕ) → kept_of {R = R} (replicate m None) ≡ replicate m None
  kept-none zero = refl
  kept-none (suc m) = ap (λ ks. None ∷ ks) (kept-none m)

  pub kept-more : (rs : List (Option (Stored R))) (m : ℕ) → kept_of (rs ++ replicate m None) ≡ kept_of rs ++ replicate m None
  kept-more [] m = kept-none m
  kept-more (None ∷ rs) m = ap (λ ks. None ∷ ks) (kept-more rs m)
  kept-more (Some r ∷ rs) m = ap (λ ks. Some (r.entry, r.kept) ∷ ks) (kept-more rs m)

-- no node stands twice in a tree that stays
pub once_kept : (old new : List (Tree ℕ)) (r : Option ℕ) → Keeps old new → IsOnce old r → IsOnce new r
once_kept old new None k h = record { there = tt; once = λ i. omega arith }
once_kept old new (Some n) k h = record { there = omega (arith, k.longer, h.there); once = λ i. omega (arith, ap (λ t. uses_maybe i (Some t)) (k.same n h.there), h.once i) }

which : (k n : ℕ) → (k < n) ⊎ (n ≤ k)
which k n = grind arith

-- nor in one that is made of such a tree and new nodes
pub once_new : (old new : ℕ) (ts : List (Tree ℕ)) (r : Option ℕ) (given : ℕ → ℕ) → IsRoot ts r → Passes old new given (λ k. uses_maybe k (root_tree ts r)) → ((k : ℕ) → given k ≤ 1) → IsOnce ts r
once_new old new ts r given there p most = record { there = there; once = λ k. at_most k }
  where
    at_most : (k : ℕ) → uses_maybe k (root_tree ts r) ≤ 1
    at_most k = elim (which k old) [
      | inl low ↦ omega (arith, p.old_ones k low, most k)
      | inr from ↦ elim (which k new) [
        | inl near ↦ omega (arith, p.new_ones k from near)
        | inr past ↦ omega (arith, p.no_others k past)
      ]
    ]

pub ends_one : (e : Edition) → e.retired ≡ None → EndsLive (e ∷ [])
ends_one e live = λ x h. let same : e ≡ x = cc in ap (λ y. y.retired) (sym same) ∙ live

module _ {R : Type 0} (passed : R → Bool) (a b : Inside R) where
  -- more nodes, which keep nothing
  pub filled_more : (m : ℕ) → Keeps a.nodes b.nodes → b.records.items ≡ a.records.items ++ replicate m None → IsSound passed a → IsFilled passed b.nodes (kept_of b.records.items)
  filled_more m kept records s =
      filled_grown passed a.nodes b.nodes (kept_of a.records.items) (kept_of b.records.items) m kept (ap kept_of records ∙ kept-more a.records.items m) (length-kept a.records.items ∙ s.recorded) s.filled

  pub counted_more : (m : ℕ) → b.passed ≡ a.passed → b.records.items ≡ a.records.items ++ replicate m None → IsSound passed a → b.passed ≡ count_by (is_passed passed) (kept_of b.records.items)
  counted_more m p records s =
      p ∙ s.counted ∙ sym (passed_grown passed (kept_of a.records.items) m) ∙ sym (ap (count_by (is_passed passed)) (ap kept_of records ∙ kept-more a.records.items m))

  -- the fields are what they were
  pub sound_same : b.names.keys ≡ a.names.keys → b.courses.items ≡ a.courses.items → b.nodes ≡ a.nodes → b.records.items ≡ a.records.items → b.passed ≡ a.passed → IsSound passed a → IsSound passed b
  sound_same n c t r p s = record {
    named = omega (arith, ap length n, ap length c, s.named);
    recorded = omega (arith, ap length r, ap length t, s.recorded);
    numbered = λ i x g. s.numbered i x (subst (λ cs. slice_get cs i ≡ Some x) c g);
    once = λ i j x e g h. subst (λ ts. IsOnce ts e.root) (sym t) (s.once i j x e (subst (λ cs. slice_get cs i ≡ Some x) c g) h);
    lives = λ i j x e g h. s.lives i j x e (subst (λ cs. slice_get cs i ≡ Some x) c g) h;
    few = omega (arith, ap length c, s.few);
    begun = λ i x g. s.begun i x (subst (λ cs. slice_get cs i ≡ Some x) c g);
    live = λ i x g. s.live i x (subst (λ cs. slice_get cs i ≡ Some x) c g);
    filled = subst (λ ts. IsFilled passed ts (kept_of b.records.items)) (sym t) (subst (λ rs. IsFilled passed a.nodes (kept_of rs)) (sym r) s.filled);
    counted = p ∙ s.counted ∙ ap (λ rs. count_by (is_passed passed) (kept_of rs)) (sym r);
  }

  -- one circuit more
  pub sound_more : (n : List ℕ) (d : Course) (e : Edition) (m : ℕ) → b.names.keys ≡ a.names.keys ++ n ∷ [] → b.courses.items ≡ a.courses.items ++ d ∷ [] → d.editions.items ≡ e ∷ [] → Keeps a.nodes b.nodes → b.records.items ≡ a.records.items ++ replicate m None → length b.records.items ≡ length b.nodes → b.passed ≡ a.passed → length a.courses.items < 256 → IsOnce b.nodes e.root → IsLife (version_of e) → e.retired ≡ None → IsSound passed a → IsSound passed b
  sound_more n d e m names courses editions kept records recorded p few once life live s = record {
    named = omega (arith, ap length names, ap length courses, length-append a.names.keys (n ∷ []), length-append a.courses.items (d ∷ []), s.named);
    recorded = recorded;
    numbered = λ i x g. each_more (λ y. length y.editions.items < 4294967296) a.courses.items d s.numbered (omega (arith, ap length editions)) i x (subst (λ cs. slice_get cs i ≡ Some x) courses g);
    once = λ i j x y g h. each_more (λ z. (j : ℕ) (y : Edition) → slice_get z.editions.items j ≡ Some y → IsOnce b.nodes y.root) a.courses.items d (λ k z g j y h. once_kept a.nodes b.nodes y.root kept (s.once k j z y g h))
        (λ j y h. each_more (λ y. IsOnce b.nodes y.root) [] e (λ k y h. cc) once j y (subst (λ es. slice_get es j ≡ Some y) editions h)) i x (subst (λ cs. slice_get cs i ≡ Some x) courses g) j y h;
    lives = λ i j x y g h. each_more (λ z. (j : ℕ) (y : Edition) → slice_get z.editions.items j ≡ Some y → IsLife (version_of y)) a.courses.items d (λ k z g j y h. s.lives k j z y g h)
        (λ j y h. each_more (λ y. IsLife (version_of y)) [] e (λ k y h. cc) life j y (subst (λ es. slice_get es j ≡ Some y) editions h)) i x (subst (λ cs. slice_get cs i ≡ Some x) courses g) j y h;
    few = omega (arith, ap length courses, length-append a.courses.items (d ∷ []), few);
    begun = λ i x g. each_more (λ y. 0 < length y.editions.items) a.courses.items d s.begun (omega (arith, ap length editions)) i x (subst (λ cs. slice_get cs i ≡ Some x) courses g);
    live = λ i x g. each_more (λ y. EndsLive y.editions.items) a.courses.items d s.live (subst EndsLive (sym editions) (ends_one e live)) i x (subst (λ cs. slice_get cs i ≡ Some x) courses g);
    filled = filled_more m kept records s;
    counted = counted_more m p records s;
  }

  -- what is seen of one circuit more
  pub circuits_more : (n : List ℕ) (d : Course) (e : Edition) → b.names.keys ≡ a.names.keys ++ n ∷ [] → b.courses.items ≡ a.courses.items ++ d ∷ [] → d.editions.items ≡ e ∷ [] → IsSound passed a → (seen b).circuits ≡ (seen a).circuits ++ record { name = n; qubits = d.qubits; opened = d.opened; versions = version_of e ∷ [] } ∷ []
  circuits_more n d e names courses editions s =
      ap (λ ns. circuits_of ns b.courses.items) names
      ∙ ap (circuits_of (a.names.keys ++ n ∷ [])) courses
      ∙ circuits-more a.names.keys a.courses.items n d s.named
      ∙ ap (λ es. circuits_of a.names.keys a.courses.items ++ record { name = n; qubits = d.qubits; opened = d.opened; versions = versions_of es } ∷ []) editions

  pub kept_grown : (m : ℕ) → b.records.items ≡ a.records.items ++ replicate m None → (seen b).kept ≡ (seen a).kept ++ replicate m None
  kept_grown m e = ap kept_of e ∙ kept-more a.records.items m

-- the whole of opening a circuit
pub opened : {R : Type 0} (passed : R → Bool) (a b : Inside R) (old : Held R) (n : List ℕ) (d : Course) (e : Edition) (items : List ℕ) → b.names.keys ≡ a.names.keys ++ n ∷ [] → b.courses.items ≡ a.courses.items ++ d ∷ [] → d.editions.items ≡ e ∷ [] → version_of e ≡ fresh_version e.root → b.records.items ≡ a.records.items ++ replicate (length b.nodes - length a.nodes) None → run_maybe (root_tree b.nodes e.root) ≡ items → PlantsMaybe a.nodes b.nodes (build items) e.root → circuit_at old.circuits n ≡ None → IsSound passed a → seen a ≡ old → Opens old (seen b) n d.qubits items d.opened
opened {R} passed a b old n d e items names courses editions fresh records run planted new s is =
    let absent_there : circuit_at (seen a).circuits n ≡ None = ap (λ h. circuit_at h.circuits n) is ∙ new in
    let circuits : (seen b).circuits ≡ (seen a).circuits ++ record { name = n; qubits = d.qubits; opened = d.opened; versions = fresh_version e.root ∷ [] } ∷ [] =
    circuits_more passed a b n d e names courses editions s ∙ ap (λ v. circuits_of a.names.keys a.courses.items ++ record { name = n; qubits = d.qubits; opened = d.opened; versions = v ∷ [] } ∷ []) fresh in
    subst (λ h. Opens h (seen b) n d.qubits items d.opened) is (record {
      root = e.root;
      run = run;
      planted = planted;
      circuits = circuits;
      version = ap (λ cs. version_at cs n 1) circuits ∙ ap (λ o. version_in o 1) (last_circuit (seen a).circuits (record { name = n; qubits = d.qubits; opened = d.opened; versions = fresh_version e.root ∷ [] }) absent_there);
      kept = kept_grown passed a b (length b.nodes - length a.nodes) records;
    })
