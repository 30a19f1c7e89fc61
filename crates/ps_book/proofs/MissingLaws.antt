-- What a book tells of the missing segments of a version, in the state that its journal leads to.
use Rattle.std.proofs.Common.{◌≡◌, ℕ, ◌≤◌, true, ◌||◌, List, [], ◌∷◌, ◌++◌, length, refl, sym, ap, ◌∙◌, subst, arith}
use Rattle.std.specs.Prelude.{Option, Some, None, is_none, nat_lt}
use Rattle.std.proofs.Props.{props}
use Rattle.std.proofs.lemmas.List.{length-append}
use Rattle.std.proofs.lemmas.List.Sums.{count_by-le-length}
use mathlib.Core.Logic.{∥∥₁_map, ∥∥₁_elim}
use Rattle.seg_tree.specs.Trees.{Tree, leaf, branch}
use Rattle.seg_tree.specs.Table.{root_tree}
use Rattle.ps_script.specs.declared.name.Place.{Place}
use Rattle.ps_versions.specs.Held as held
use Rattle.ps_versions.specs.Lives as lives
use Rattle.ps_versions.specs.Questions as held_questions
use Rattle.ps_versions.specs.Questions.{segments, segments_maybe, missing_in, lacks}
use Rattle.ps_journal.specs.State.{State, Version, Circuit, circuit_at, version_at, Finds}
use Rattle.ps_journal.specs.Mapped.{mapped, mapped_maybe}
use Rattle.ps_journal.specs.Segments as model
use Rattle.ps_journal.specs.Segments.{segments_of}
use Rattle.ps_journal.specs.Keeping.{is_kept, is_pinned}
use Rattle.ps_journal.specs.History.{Entry, LeadsTo}
use Rattle.ps_views.specs.Views.{item_at, version_of}
use Rattle.ps_views.specs.Fields.{Fields, IsSound, held_at}
use Rattle.ps_views.specs.Stands.{Stands}
use Rattle.ps_views.proofs.Lookups.{finds_held, sees_version, held_seen}
use Rattle.ps_views.proofs.Missing.{missing_told}
use Rattle.ps_views.proofs.Noting.{pinned_counted}
use Rattle.ps_views.proofs.Once.{leads_one}
use Rattle.ps_views.proofs.Replies.{finds_same}
use Rattle.ps_book.specs.Lawful.{IsLawful}
use Rattle.ps_book.specs.Books.{MissesSome, HasNone, Misses}

-- ---- the state is the one that the fields stand for
pub stands_there : (f : Fields) (es : List Entry) (t : State) → LeadsTo es t → ∥ IsLawful f es ∥₁ → ∥ Stands f t ∥₁
stands_there f es t leads w = ∥∥₁_map w (λ h. subst (Stands f) (leads_one es h.state t h.leads leads) h.stands)

-- ---- segments
segments_mapped : {A : Type 0} (g : ℕ → A) (t : Tree ℕ) → length (model.segments (mapped g t)) ≡ length (segments t)
segments_mapped g (leaf n xs) = refl
segments_mapped g (branch n l r) =
    omega (
      arith,
      length-append (model.segments (mapped g l)) (model.segments (mapped g r) ++ branch n (mapped g l) (mapped g r) ∷ []),
      length-append (model.segments (mapped g r)) (branch n (mapped g l) (mapped g r) ∷ []),
      length-append (segments l) (segments r ++ branch n l r ∷ []),
      length-append (segments r) (branch n l r ∷ []),
      segments_mapped g l,
      segments_mapped g r,
    )

segments_maybe_mapped : {A : Type 0} (g : ℕ → A) (t : Option (Tree ℕ)) → length (segments_of (mapped_maybe g t)) ≡ length (segments_maybe t)
segments_maybe_mapped g None = refl
segments_maybe_mapped g (Some t) = segments_mapped g t

-- ---- what is told
some_none : {A : Type 0} (x : A) → Some x ≡ None → ⊥
some_none x e = cc

none_some : {A : Type 0} (x : A) → None ≡ Some x → ⊥
none_some x e = cc

nothing_prop : IsProp ⊥
nothing_prop x y = absurd x

module _ (f : Fields) (sound : IsSound f) (t : State) (p : Place) where
  version_told : (m : ℕ) → Some m ≡ held_questions.missing f.versions (held_at f.versions p) → (v : held.Version) × (held_at f.versions p ≡ Some v)
  version_told m e = by (held_at f.versions p) refl e
    where
      by : (o : Option held.Version) → held_at f.versions p ≡ o → Some m ≡ held_questions.missing f.versions o
          → (v : held.Version) × (held_at f.versions p ≡ Some v)
      by None q e = absurd (some_none m e)
      by (Some v) q e = (v, q)

  none_told : None ≡ held_questions.missing f.versions (held_at f.versions p) → held_at f.versions p ≡ None
  none_told e = by (held_at f.versions p) refl e
    where
      by : (o : Option held.Version) → held_at f.versions p ≡ o → None ≡ held_questions.missing f.versions o → held_at f.versions p ≡ None
      by None q e = q
      by (Some v) q e = absurd (none_some (missing_in f.versions.kept (root_tree f.versions.nodes v.root)) e)

  -- a version is kept in the tables exactly where it is in the state
  kept_alike : (v : held.Version) → Stands f t → held_at f.versions p ≡ Some v → is_kept t.pins p (version_of f.items f.versions.nodes v) ≡ lives.is_kept v
  kept_alike v s at =
      ap (λ b. is_none v.retired || b) (ap (λ ps. is_pinned ps p) s.pins ∙ pinned_counted p f.pins ∙ ap (nat_lt 0) (sym (sound.counted p v at)))

  few_missing : (v : held.Version) (m : ℕ) → held_at f.versions p ≡ Some v → Some m ≡ held_questions.missing f.versions (held_at f.versions p)
      → m ≤ length (segments_of (version_of f.items f.versions.nodes v).tree)
  few_missing v m at e =
      let told : Some m ≡ Some (missing_in f.versions.kept (root_tree f.versions.nodes v.root)) = e ∙ ap (held_questions.missing f.versions) at in
      let same : m ≡ missing_in f.versions.kept (root_tree f.versions.nodes v.root) = cc in
      omega (
        arith,
        same,
        count_by-le-length (lacks f.versions.kept) (segments_maybe (root_tree f.versions.nodes v.root)),
        segments_maybe_mapped (item_at f.items) (root_tree f.versions.nodes v.root),
      )

  -- of what is found in the state, whichever it is
  module _ (m : ℕ) (e : Some m ≡ held_questions.missing f.versions (held_at f.versions p)) (s : Stands f t) where
    found_few : (c : Circuit) (x : Version) → Finds t p c x → m ≤ length (segments_of x.tree)
    found_few c x finds =
        let v = version_told m e in
        let h = finds_held f t s sound.tabled p v.0 v.1 in
        let same = finds_same t p _ c _ x h.finds finds in
        subst (λ y. m ≤ length (segments_of y.tree)) same.1 (few_missing v.0 m v.1 e)

    found_kept : (c : Circuit) (x : Version) → Finds t p c x → is_kept t.pins p x ≡ true → m ≡ model.missing t.published x.tree
    found_kept c x finds kept =
        let v = version_told m e in
        let h = finds_held f t s sound.tabled p v.0 v.1 in
        let same = finds_same t p _ c _ x h.finds finds in
        let here : is_kept t.pins p (version_of f.items f.versions.nodes v.0) ≡ true = ap (is_kept t.pins p) same.1 ∙ kept in
        subst (λ y. m ≡ model.missing t.published y.tree) same.1 (missing_told f t sound s p v.0 m v.1 (sym (kept_alike v.0 s v.1) ∙ here) e)

    found_circuit : circuit_at t.circuits p.name ≡ None → ⊥
    found_circuit none =
        let v = version_told m e in
        let h = finds_held f t s sound.tabled p v.0 v.1 in
        some_none _ (sym h.finds.circuit ∙ none)

    found_version : (c : Circuit) → circuit_at t.circuits p.name ≡ Some c → version_at c p.version ≡ None → ⊥
    found_version c at none =
        let v = version_told m e in
        let h = finds_held f t s sound.tabled p v.0 v.1 in
        by c _ h.finds.circuit at h.finds.version none
      where
        by : (c d : Circuit) {x : Version} → circuit_at t.circuits p.name ≡ Some d → circuit_at t.circuits p.name ≡ Some c → version_at d p.version ≡ Some x
            → version_at c p.version ≡ None → ⊥
        by c d {x} a b q r =
            let same : d ≡ c = cc in
            some_none x (sym (ap (λ y. version_at y p.version) (sym same) ∙ q) ∙ r)

  pub misses_some : (m : ℕ) → Some m ≡ held_questions.missing f.versions (held_at f.versions p) → ∥ Stands f t ∥₁ → MissesSome t p.name p.version m
  misses_some m e w = by (circuit_at t.circuits p.name) refl
    where
      there : (c : Circuit) (o : Option Version) → circuit_at t.circuits p.name ≡ Some c → version_at c p.version ≡ o → MissesSome t p.name p.version m
      there c None a b = absurd (∥∥₁_elim w nothing_prop (λ s. found_version m e s c a b))
      there c (Some x) a b =
          let finds : Finds t p c x = record { circuit = a; version = b } in
          record {
            circuit = c;
            version = x;
            finds = finds;
            few = ∥∥₁_elim w (hlevel props) (λ s. found_few m e s c x finds);
            kept = λ k. ∥∥₁_elim w (hlevel props) (λ s. found_kept m e s c x finds k);
          }

      by : (o : Option Circuit) → circuit_at t.circuits p.name ≡ o → MissesSome t p.name p.version m
      by None a = absurd (∥∥₁_elim w nothing_prop (λ s. found_circuit m e s a))
      by (Some c) a = there c (version_at c p.version) a refl

  found_none : Stands f t → None ≡ held_questions.missing f.versions (held_at f.versions p) → (c : Circuit) → circuit_at t.circuits p.name ≡ Some c
      → version_at c p.version ≡ None
  found_none s e c at = by (version_at c p.version) refl
    where
      by : (o : Option Version) → version_at c p.version ≡ o → version_at c p.version ≡ None
      by None q = q
      by (Some x) q =
          let finds : Finds t p c x = record { circuit = at; version = q } in
          let v = sees_version f t s sound.tabled p c x finds in
          absurd (none_some v.held (sym (none_told e) ∙ held_seen f p c x v))

  pub misses_none : None ≡ held_questions.missing f.versions (held_at f.versions p) → ∥ Stands f t ∥₁ → HasNone t p.name p.version
  misses_none e w c at = by (version_at c p.version) refl
    where
      by : (o : Option Version) → version_at c p.version ≡ o → version_at c p.version ≡ None
      by None q = q
      by (Some x) q = absurd (∥∥₁_elim w nothing_prop (λ s. some_none x (sym q ∙ found_none s e c at)))

  pub misses : (r : Option ℕ) → r ≡ held_questions.missing f.versions (held_at f.versions p) → ∥ Stands f t ∥₁ → Misses t p.name p.version r
  misses None e w = misses_none e w
  misses (Some m) e w = misses_some m e w
