-- Tables that have grown by one version: the fields stay sound, and what was published for segments is what is kept at them.
use Rattle.std.proofs.Common.{◌≡◌, ℕ, zero, suc, ◌+◌, ◌-◌, ◌<◌, ◌≤◌, ◌⊎◌, inl, inr, List, [], ◌∷◌, ◌++◌, length, replicate, refl, sym, ap, ap₂, ◌∙◌, subst, arith, length-append, Bool, true, false, ◌&&◌, ◌||◌, eqb, nat_lt}
use Rattle.std.specs.Prelude.{Option, Some, None, is_some, map, slice_get, slice_index_or}
use Rattle.std.specs.List.{AllByRecursion, list_all, list_any}
use Rattle.std.proofs.lemmas.Bool.{and_parts, and_from, eqb-true, lt-ltb, ltb-true}
use Rattle.std.proofs.lemmas.List.{length-replicate}
use Rattle.seg_tree.specs.Trees.{Tree, leaf, branch, nothing, name_of, run, run_maybe}
use Rattle.seg_tree.specs.Table.{tree, root_tree, IsRoot}
use Rattle.seg_tree.specs.Growth.{Keeps}
use Rattle.qasm_expand.specs.Circuits.{TableOf}
use Rattle.ps_script.specs.declared.name.Place.{Place}
use Rattle.ps_versions.specs.Held as held
use Rattle.ps_versions.specs.Held.{Held}
use Rattle.ps_versions.specs.Lookup.{place_of, version_in, version_at, root_of}
use Rattle.ps_versions.specs.Lives.{is_kept, IsLife}
use Rattle.ps_versions.specs.Opened.{fresh_version}
use Rattle.ps_versions.specs.Records.{record_at}
use Rattle.ps_versions.specs.Walks.{has_name}
use Rattle.ps_versions.specs.Questions.{segments, segments_maybe, is_sum, kept_by, sides_have_sums}
use Rattle.ps_versions.specs.Reached.{stands, is_segment, is_reached}
use Rattle.ps_journal.specs.declared.seats.Claim.{Claim}
use Rattle.ps_journal.specs.Mapped.{mapped, mapped_maybe}
use Rattle.ps_journal.specs.State.{Item, State}
use Rattle.ps_journal.specs.Segments.{published_at}
use Rattle.ps_views.specs.Counts.{pins_on}
use Rattle.ps_views.specs.Views.{item_at, tree_of, version_of, circuit_of, circuits_of, published_of}
use Rattle.ps_views.specs.Older.{number_in, number_of, IsOlder, IsForest}
use Rattle.ps_views.specs.Fields.{Fields, IsSound, held_at, passed, are_below, claim_at}
use Rattle.ps_views.specs.Stands.{Stands}
use Rattle.ps_views.specs.declared.filed.Filed.{Filed}
use Rattle.ps_views.proofs.Alike.{version_parts}
use Rattle.ps_views.proofs.Lists.{Passing, any_passing, any_here, all_at}
use Rattle.ps_views.proofs.Forests.{older_by, older_root, older_named, older_segments}

-- ---- lists that have grown
module _ {A : Type 0} where
  pub index-append : (xs ys : List A) (k : ℕ) (d : A) → k < length xs → slice_index_or (xs ++ ys) k d ≡ slice_index_or xs k d
  index-append [] ys k d h = absurd (omega arith)
  index-append (x ∷ xs) ys zero d h = refl
  index-append (x ∷ xs) ys (suc k) d h = index-append xs ys k d (omega arith)

  index-replicate : (m k : ℕ) (d : A) → slice_index_or (replicate m d) k d ≡ d
  index-replicate zero k d = refl
  index-replicate (suc m) zero d = refl
  index-replicate (suc m) (suc k) d = index-replicate m k d

  pub index-filled : (xs : List A) (m k : ℕ) (d : A) → slice_index_or (xs ++ replicate m d) k d ≡ slice_index_or xs k d
  index-filled [] m k d = index-replicate m k d
  index-filled (x ∷ xs) m zero d = refl
  index-filled (x ∷ xs) m (suc k) d = index-filled xs m k d

  pub index-past : (xs : List A) (k : ℕ) (d : A) → length xs ≤ k → slice_index_or xs k d ≡ d
  index-past [] k d h = refl
  index-past (x ∷ xs) zero d h = absurd (omega arith)
  index-past (x ∷ xs) (suc k) d h = index-past xs k d (omega arith)

-- ---- numbers below a bound
pub below_more : (m n : ℕ) (ks : List ℕ) → m ≤ n → are_below m ks ≡ true → are_below n ks ≡ true
below_more m n [] h e = refl
below_more m n (k ∷ ks) h e =
    let parts = and_parts (nat_lt k m) (are_below m ks) e in
    let near : k < m = ltb-true k m parts.0 in
    and_from (nat_lt k n) (are_below n ks) (lt-ltb k n (omega arith)) (below_more m n ks h parts.1)

pub below_append : (n : ℕ) (ks ls : List ℕ) → are_below n ks ≡ true → are_below n ls ≡ true → are_below n (ks ++ ls) ≡ true
below_append n [] ls h g = g
below_append n (k ∷ ks) ls h g =
    let parts = and_parts (nat_lt k n) (are_below n ks) h in
    and_from (nat_lt k n) (are_below n (ks ++ ls)) parts.0 (below_append n ks ls parts.1 g)

pub below_left : (n : ℕ) (ks ls : List ℕ) → are_below n (ks ++ ls) ≡ true → are_below n ks ≡ true
below_left n [] ls h = refl
below_left n (k ∷ ks) ls h =
    let parts = and_parts (nat_lt k n) (are_below n (ks ++ ls)) h in
    and_from (nat_lt k n) (are_below n ks) parts.0 (below_left n ks ls parts.1)

pub below_right : (n : ℕ) (ks ls : List ℕ) → are_below n (ks ++ ls) ≡ true → are_below n ls ≡ true
below_right n [] ls h = h
below_right n (k ∷ ks) ls h = below_right n ks ls (and_parts (nat_lt k n) (are_below n (ks ++ ls)) h).1

-- the items of each segment of a tree are among those of the tree
below_joined : (n : ℕ) (t : Tree ℕ) (xs ys : List (Tree ℕ)) → AllByRecursion (λ s. are_below n (run s) ≡ true) xs → AllByRecursion (λ s. are_below n (run s) ≡ true) ys → AllByRecursion (λ s. are_below n (run s) ≡ true) (xs ++ ys)
below_joined n t [] ys h g = g
below_joined n t (x ∷ xs) ys h g = (h.0, below_joined n t xs ys h.1 g)

pub below_segments : (n : ℕ) (t : Tree ℕ) → are_below n (run t) ≡ true → AllByRecursion (λ s. are_below n (run s) ≡ true) (segments t)
below_segments n (leaf name items) h = (h, tt)
below_segments n (branch name l r) h =
    below_joined n l (segments l) (segments r ++ branch name l r ∷ []) (below_segments n l (below_left n (run l) (run r) h))
    (below_joined n r (segments r) (branch name l r ∷ []) (below_segments n r (below_right n (run l) (run r) h)) (h, tt))

-- ---- items of numbers
module _ {B : Type 0} (f g : ℕ → B) (n : ℕ) (same : (k : ℕ) → k < n → f k ≡ g k) where
  pub map_below : (ks : List ℕ) → are_below n ks ≡ true → map f ks ≡ map g ks
  map_below [] h = refl
  map_below (k ∷ ks) h =
      let parts = and_parts (nat_lt k n) (are_below n ks) h in
      ap₂ (λ x xs. x ∷ xs) (same k (ltb-true k n parts.0)) (map_below ks parts.1)

  pub mapped_below : (t : Tree ℕ) → are_below n (run t) ≡ true → mapped f t ≡ mapped g t
  mapped_below (leaf name items) h = ap (leaf name) (map_below items h)
  mapped_below (branch name l r) h = ap₂ (branch name) (mapped_below l (below_left n (run l) (run r) h)) (mapped_below r (below_right n (run l) (run r) h))

  pub mapped_maybe_below : (t : Option (Tree ℕ)) → are_below n (run_maybe t) ≡ true → mapped_maybe f t ≡ mapped_maybe g t
  mapped_maybe_below None h = refl
  mapped_maybe_below (Some t) h = ap Some (mapped_below t h)

-- ---- circuits and nodes that have grown
-- the version stood among these circuits
pub record Stood (cs : List held.Circuit) (v : held.Version) : Type 0 where
  pub index : ℕ
  pub number : ℕ
  pub circuit : held.Circuit
  pub at : slice_get cs index ≡ Some circuit
  pub there : slice_get circuit.versions number ≡ Some v

-- one version more
pub record Adds (old new : List held.Circuit) (v : held.Version) : Type 0 where
  pub from : (i k : ℕ) (c : held.Circuit) (x : held.Version) → slice_get new i ≡ Some c → slice_get c.versions k ≡ Some x → Stood old x ⊎ (x ≡ v)
  pub forth : (name : List ℕ) (n : ℕ) (x : held.Version) → version_at old name n ≡ Some x → version_at new name n ≡ Some x
  pub back : (name : List ℕ) (n : ℕ) (x : held.Version) → version_at new name n ≡ Some x → (version_at old name n ≡ Some x) ⊎ ((version_at old name n ≡ None) × (x ≡ v))
  pub named : (i : ℕ) (c : held.Circuit) → slice_get new i ≡ Some c → place_of new c.name ≡ Some i
  pub wide : (i : ℕ) (c : held.Circuit) → slice_get new i ≡ Some c → (1 ≤ c.qubits) × (c.qubits ≤ 64)

-- More nodes, which keep nothing: those of a tree of this root, the old ones of which a kept version reached. Its items are below a number.
pub record Grown (old new : Held Filed) (root : Option ℕ) (count : ℕ) : Type 0 where
  pub trees : Keeps old.nodes new.nodes
  pub forest : IsForest new.nodes
  pub kept : new.kept ≡ old.kept ++ replicate (length new.nodes - length old.nodes) None
  pub within : IsRoot new.nodes root
  pub below : are_below count (run_maybe (root_tree new.nodes root)) ≡ true
  pub old_ones : (k : ℕ) → k < length old.nodes → stands k (root_tree new.nodes root) ≡ true → is_reached old k ≡ true
  pub new_ones : (k : ℕ) → length old.nodes ≤ k → k < length new.nodes → stands k (root_tree new.nodes root) ≡ true

pub stood_at : (cs : List held.Circuit) (name : List ℕ) (n : ℕ) (v : held.Version) → version_at cs name n ≡ Some v → Stood cs v
stood_at cs name n v e = let s = version_parts cs name n v e in by n s.0 s.1 s.4 s.3
  where
    by : (n i : ℕ) (c : held.Circuit) → version_in (Some c) n ≡ Some v → slice_get cs i ≡ Some c → Stood cs v
    by zero i c e h = cc
    by (suc k) i c e h = record { index = i; number = k; circuit = c; at = h; there = e }

-- a segment of a node's tree that has this name
has_name-some : (k : ℕ) (o : Option ℕ) → has_name k o ≡ true → o ≡ Some k
has_name-some k None e = cc
has_name-some k (Some m) e = ap Some (eqb-true m k e)

pub record Named (ts : List (Tree ℕ)) (k : ℕ) (t : Tree ℕ) : Type 0 where
  pub near : k < length ts
  pub at : ℕ
  pub there : slice_get (segments t) at ≡ Some (tree ts k)

pub named_segment : (ts : List (Tree ℕ)) (r k : ℕ) → IsForest ts → r < length ts → stands k (Some (tree ts r)) ≡ true → Named ts k (tree ts r)
named_segment ts r k f there h =
    let p : Passing (λ s. has_name k (name_of s)) (segments (tree ts r)) = any_passing (λ s. has_name k (name_of s)) (segments (tree ts r)) h in
    let n = length ts in
    let o : IsOlder ts n p.item = all_at (IsOlder ts n) (segments (tree ts r)) p.at p.item (older_segments ts n (tree ts r) f (omega arith) (older_root ts r n f there there)) p.there in
    let name : name_of p.item ≡ Some k = has_name-some k (name_of p.item) p.passes in
    let number : number_of p.item ≡ k = ap number_in name in
    record { near = omega (arith, o.below, number); at = p.at; there = p.there ∙ ap Some (sym (ap (tree ts) (sym number) ∙ o.same)) }

-- ---- versions that stand
module _ (f : Fields) (sound : IsSound f) where
  pub reached_in : (v : held.Version) (k : ℕ) → Stood f.versions.circuits v → is_kept v ≡ true → is_segment f.versions (Some v) k ≡ true → is_reached f.versions k ≡ true
  reached_in v k s live h =
      any_here (λ (d : held.Circuit). list_any (λ (w : held.Version). is_kept w && is_segment f.versions (Some w) k) d.versions) f.versions.circuits s.index s.circuit s.at
      (any_here (λ (w : held.Version). is_kept w && is_segment f.versions (Some w) k) s.circuit.versions s.number v s.there (and_from (is_kept v) (is_segment f.versions (Some v) k) live h))

  segment_below : (v : held.Version) (r : Option ℕ) (k : ℕ) → Stood f.versions.circuits v → v.root ≡ r → stands k (root_tree f.versions.nodes r) ≡ true → k < length f.versions.nodes
  segment_below v None k s e h = cc
  segment_below v (Some r) k s e h = (named_segment f.versions.nodes r k sound.grown (sound.rooted s.index s.number r s.circuit v s.at s.there e) h).near

  pub segment_near : (v : held.Version) (k : ℕ) → Stood f.versions.circuits v → stands k (root_tree f.versions.nodes v.root) ≡ true → k < length f.versions.nodes
  segment_near v k s h = segment_below v v.root k s refl h

  pub items_below : (v : held.Version) → Stood f.versions.circuits v → are_below (length f.items) (run_maybe (root_tree f.versions.nodes v.root)) ≡ true
  items_below v s = by v.root refl
    where
      by : (r : Option ℕ) → v.root ≡ r → are_below (length f.items) (run_maybe (root_tree f.versions.nodes r)) ≡ true
      by None e = refl
      by (Some r) e = sound.numbered r (sound.rooted s.index s.number r s.circuit v s.at s.there e)

  -- other items behind them change no tree that stood
  pub mapped_same : (more : List Item) (v : held.Version) → Stood f.versions.circuits v → mapped_maybe (item_at (f.items ++ more)) (root_tree f.versions.nodes v.root) ≡ tree_of f.items f.versions.nodes v.root
  mapped_same more v s = mapped_maybe_below (item_at (f.items ++ more)) (item_at f.items) (length f.items) (λ k h. index-append f.items more k [] h) (root_tree f.versions.nodes v.root) (items_below v s)

module _ (f : Fields) (new : Held Filed) (tables : List TableOf) (more : List Item) (root : Option ℕ) where
  abbrev pub grown : Fields
  grown = record f { versions = new; tables = tables; items = f.items ++ more }

  module _ (sound : IsSound f) (adds : Adds f.versions.circuits new.circuits (fresh_version root)) (g : Grown f.versions new root (length (f.items ++ more))) where
    -- what nodes kept, they keep, and new ones keep nothing
    pub record_same : (k : ℕ) → record_at new.kept k ≡ record_at f.versions.kept k
    record_same k = ap (λ ks. record_at ks k) g.kept ∙ index-filled f.versions.kept (length new.nodes - length f.versions.nodes) k None

    -- versions that stood have the trees that they had
    tree_kept : (v : held.Version) (r : Option ℕ) → Stood f.versions.circuits v → v.root ≡ r → root_tree new.nodes r ≡ root_tree f.versions.nodes r
    tree_kept v None s e = refl
    tree_kept v (Some r) s e = ap Some (g.trees.same r (sound.rooted s.index s.number r s.circuit v s.at s.there e))

    pub tree_same : (v : held.Version) → Stood f.versions.circuits v → root_tree new.nodes v.root ≡ root_tree f.versions.nodes v.root
    tree_same v s = tree_kept v v.root s refl

    pub segment_same : (v : held.Version) (k : ℕ) → Stood f.versions.circuits v → is_segment new (Some v) k ≡ is_segment f.versions (Some v) k
    segment_same v k s = ap (stands k) (tree_same v s)

    -- ---- what is reached
    reached_from : (k : ℕ) → is_reached new k ≡ true → (is_reached f.versions k ≡ true) ⊎ (stands k (root_tree new.nodes root) ≡ true)
    reached_from k h =
        let test : held.Version → Bool = λ w. is_kept w && is_segment new (Some w) k in
        let c : Passing (λ (d : held.Circuit). list_any test d.versions) new.circuits = any_passing (λ (d : held.Circuit). list_any test d.versions) new.circuits h in
        let v : Passing test c.item.versions = any_passing test c.item.versions c.passes in
        by v.item (and_parts (is_kept v.item) (is_segment new (Some v.item) k) v.passes) (adds.from c.at v.at c.item v.item c.there v.there)
      where
        by : (v : held.Version) → (is_kept v ≡ true) × (is_segment new (Some v) k ≡ true) → Stood f.versions.circuits v ⊎ (v ≡ fresh_version root) → (is_reached f.versions k ≡ true) ⊎ (stands k (root_tree new.nodes root) ≡ true)
        by v parts (inl s) = inl (reached_in f sound v k s parts.0 (sym (segment_same v k s) ∙ parts.1))
        by v parts (inr e) = inr (ap (λ (w : held.Version). stands k (root_tree new.nodes w.root)) (sym e) ∙ parts.1)

    old_or_new : (k n : ℕ) → (k < n) ⊎ (n ≤ k)
    old_or_new k n = grind arith

    -- LAW: what was published for reached segments is what is kept at them
    pub published_grown : (t : State) → Stands f t → (k : ℕ) → is_reached new k ≡ true → published_at t.published k ≡ published_of k (record_at new.kept k)
    published_grown t so k h = by (old_or_new k (length f.versions.nodes)) (reached_from k h)
      where
        old : is_reached f.versions k ≡ true → published_at t.published k ≡ published_of k (record_at new.kept k)
        old r = so.published k r ∙ ap (published_of k) (sym (record_same k))

        by : (k < length f.versions.nodes) ⊎ (length f.versions.nodes ≤ k) → (is_reached f.versions k ≡ true) ⊎ (stands k (root_tree new.nodes root) ≡ true) → published_at t.published k ≡ published_of k (record_at new.kept k)
        by (inl near) (inl r) = old r
        by (inl near) (inr s) = old (g.old_ones k near s)
        by (inr past) s =
            let none : record_at new.kept k ≡ None = record_same k ∙ index-past f.versions.kept k None (omega (arith, sound.recorded)) in
            so.unnamed k past ∙ ap (published_of k) (sym none)

    -- ---- the fields stay sound
    fresh_life : (v : held.Version) → v ≡ fresh_version root → IsLife v
    fresh_life v e = subst IsLife (sym e) (record { few = omega arith; ended = refl })

    root_there : (o : Option ℕ) (r : ℕ) → o ≡ Some r → IsRoot new.nodes o → r < length new.nodes
    root_there None r e h = cc
    root_there (Some m) r e h = let same : m ≡ r = cc in omega (arith, h)

    lives_grown : (i k : ℕ) (c : held.Circuit) (v : held.Version) → slice_get new.circuits i ≡ Some c → slice_get c.versions k ≡ Some v → IsLife v
    lives_grown i k c v a b = by (adds.from i k c v a b)
      where
        by : Stood f.versions.circuits v ⊎ (v ≡ fresh_version root) → IsLife v
        by (inl s) = sound.lives s.index s.number s.circuit v s.at s.there
        by (inr e) = fresh_life v e

    rooted_grown : (i k r : ℕ) (c : held.Circuit) (v : held.Version) → slice_get new.circuits i ≡ Some c → slice_get c.versions k ≡ Some v → v.root ≡ Some r → r < length new.nodes
    rooted_grown i k r c v a b e = by (adds.from i k c v a b)
      where
        by : Stood f.versions.circuits v ⊎ (v ≡ fresh_version root) → r < length new.nodes
        by (inl s) = omega (arith, g.trees.longer, sound.rooted s.index s.number r s.circuit v s.at s.there e)
        by (inr q) = root_there root r (ap (λ (w : held.Version). w.root) (sym q) ∙ e) g.within

    count_more : length f.items ≤ length (f.items ++ more)
    count_more = omega (arith, length-append f.items more)

    new_below : (o : Option ℕ) (k : ℕ) → IsRoot new.nodes o → are_below (length (f.items ++ more)) (run_maybe (root_tree new.nodes o)) ≡ true → stands k (root_tree new.nodes o) ≡ true
        → are_below (length (f.items ++ more)) (run (tree new.nodes k)) ≡ true
    new_below None k w b s = cc
    new_below (Some r) k w b s =
        let n : Named new.nodes k (tree new.nodes r) = named_segment new.nodes r k g.forest w s in
        all_at (λ u. are_below (length (f.items ++ more)) (run u) ≡ true) (segments (tree new.nodes r)) n.at (tree new.nodes k) (below_segments (length (f.items ++ more)) (tree new.nodes r) b) n.there

    numbered_grown : (k : ℕ) → k < length new.nodes → are_below (length (f.items ++ more)) (run (tree new.nodes k)) ≡ true
    numbered_grown k there = by (old_or_new k (length f.versions.nodes))
      where
        by : (k < length f.versions.nodes) ⊎ (length f.versions.nodes ≤ k) → are_below (length (f.items ++ more)) (run (tree new.nodes k)) ≡ true
        by (inl near) = ap (λ t. are_below (length (f.items ++ more)) (run t)) (g.trees.same k near) ∙ below_more (length f.items) (length (f.items ++ more)) (run (tree f.versions.nodes k)) count_more (sound.numbered k near)
        by (inr past) = new_below root k g.within g.below (g.new_ones k past there)

    pinned_grown : (p : Place) → 0 < pins_on p f.pins → is_some (held_at new p) ≡ true
    pinned_grown p h = by (held_at f.versions p) refl (sound.pinned p h)
      where
        by : (o : Option held.Version) → held_at f.versions p ≡ o → is_some o ≡ true → is_some (held_at new p) ≡ true
        by None e q = cc
        by (Some v) e q = ap is_some (adds.forth p.name p.version v e)

    none_some : (o : Option held.Version) → o ≡ None → is_some o ≡ true → ⊥
    none_some None e q = cc
    none_some (Some v) e q = cc

    zero_or : (n : ℕ) → (n ≡ 0) ⊎ (0 < n)
    zero_or n = grind arith

    counted_grown : (p : Place) (v : held.Version) → held_at new p ≡ Some v → v.pins ≡ pins_on p f.pins
    counted_grown p v e = by (adds.back p.name p.version v e) (zero_or (pins_on p f.pins))
      where
        by : (held_at f.versions p ≡ Some v) ⊎ ((held_at f.versions p ≡ None) × (v ≡ fresh_version root)) → (pins_on p f.pins ≡ 0) ⊎ (0 < pins_on p f.pins) → v.pins ≡ pins_on p f.pins
        by (inl h) z = sound.counted p v h
        by (inr h) (inl z) = ap (λ (w : held.Version). w.pins) h.1 ∙ sym z
        by (inr h) (inr some) = absurd (none_some (held_at f.versions p) h.0 (sound.pinned p some))

    -- the version of a claim stood before
    record ClaimedAt (c : Claim) : Type 0 where
      version : held.Version
      was : held_at f.versions c.place ≡ Some version
      is : held_at new c.place ≡ Some version
      segment : is_segment f.versions (Some version) c.node ≡ true

    claimed_at : (seat : ℕ) (c : Claim) → claim_at f seat ≡ Some c → ClaimedAt c
    claimed_at seat c e = by (held_at f.versions c.place) refl (sound.claimed seat c e)
      where
        by : (o : Option held.Version) → held_at f.versions c.place ≡ o → is_segment f.versions o c.node ≡ true → ClaimedAt c
        by None h q = cc
        by (Some v) h q = record { version = v; was = h; is = adds.forth c.place.name c.place.version v h; segment = q }

    claimed_grown : (seat : ℕ) (c : Claim) → claim_at f seat ≡ Some c → is_segment new (held_at new c.place) c.node ≡ true
    claimed_grown seat c e =
        let a = claimed_at seat c e in
        ap (λ o. is_segment new o c.node) a.is ∙ segment_same a.version c.node (stood_at f.versions.circuits c.place.name c.place.version a.version a.was) ∙ a.segment

    sum_same : (o : Option ℕ) → kept_by new.kept o ≡ kept_by f.versions.kept o
    sum_same None = refl
    sum_same (Some k) = record_same k

    sides_same : (t : Tree ℕ) → sides_have_sums new.kept passed t ≡ sides_have_sums f.versions.kept passed t
    sides_same (leaf name items) = refl
    sides_same (branch name l r) = ap₂ (λ a b. is_sum passed a && is_sum passed b) (sum_same (name_of l)) (sum_same (name_of r))

    ready_grown : (seat : ℕ) (c : Claim) (v : held.Version) → claim_at f seat ≡ Some c → held_at new c.place ≡ Some v → is_kept v ≡ true → sides_have_sums new.kept passed (tree new.nodes c.node) ≡ true
    ready_grown seat c v e h live =
        let a = claimed_at seat c e in
        let same : a.version ≡ v = cc in
        let kept_too : is_kept a.version ≡ true = ap is_kept same ∙ live in
        let near : c.node < length f.versions.nodes = segment_near f sound a.version c.node (stood_at f.versions.circuits c.place.name c.place.version a.version a.was) a.segment in
        sides_same (tree new.nodes c.node) ∙ ap (sides_have_sums f.versions.kept passed) (g.trees.same c.node near) ∙ sound.ready seat c a.version e a.was kept_too

    recorded_grown : length new.kept ≡ length new.nodes
    recorded_grown =
        let m = length new.nodes - length f.versions.nodes in
        omega (arith, ap length g.kept, length-append f.versions.kept (replicate m None), length-replicate {A = Option (ℕ × Filed)} m None, sound.recorded, g.trees.longer)

    -- LAW: the fields stay sound
    pub sound_grown : length tables ≡ length new.circuits → IsSound grown
    sound_grown tabled = record {
      tabled = tabled;
      named = adds.named;
      wide = adds.wide;
      lives = lives_grown;
      grown = g.forest;
      rooted = rooted_grown;
      recorded = recorded_grown;
      numbered = numbered_grown;
      seats = sound.seats;
      pinned = pinned_grown;
      counted = counted_grown;
      claimed = claimed_grown;
      ready = ready_grown;
      room = sound.room;
    }

    -- ---- circuits that stood are what they were
    pub tree_of_same : (v : held.Version) → Stood f.versions.circuits v → tree_of (f.items ++ more) new.nodes v.root ≡ tree_of f.items f.versions.nodes v.root
    tree_of_same v s = ap (mapped_maybe (item_at (f.items ++ more))) (tree_same v s) ∙ mapped_same f sound more v s

    pub version_same : (v : held.Version) → Stood f.versions.circuits v → version_of (f.items ++ more) new.nodes v ≡ version_of f.items f.versions.nodes v
    version_same v s = ap (λ t. record { items = run_maybe t; tree = t; retired = v.retired; ended = v.ended }) (tree_of_same v s)

    versions_same : (vs : List held.Version) → ((k : ℕ) (v : held.Version) → slice_get vs k ≡ Some v → Stood f.versions.circuits v)
        → map (version_of (f.items ++ more) new.nodes) vs ≡ map (version_of f.items f.versions.nodes) vs
    versions_same [] h = refl
    versions_same (v ∷ vs) h = ap₂ (λ x xs. x ∷ xs) (version_same v (h zero v refl)) (versions_same vs (λ k w e. h (suc k) w e))

    circuit_same : (c : held.Circuit) (table : TableOf) → ((k : ℕ) (v : held.Version) → slice_get c.versions k ≡ Some v → Stood f.versions.circuits v)
        → circuit_of (f.items ++ more) new.nodes table c ≡ circuit_of f.items f.versions.nodes table c
    circuit_same c table h = ap (λ vs. record { name = c.name; opened = c.opened; qubits = c.qubits; table = table; versions = vs }) (versions_same c.versions h)

    some_circuits : (ts : List TableOf) (cs : List held.Circuit) → ((i k : ℕ) (c : held.Circuit) (v : held.Version) → slice_get cs i ≡ Some c → slice_get c.versions k ≡ Some v → Stood f.versions.circuits v)
        → circuits_of (f.items ++ more) new.nodes ts cs ≡ circuits_of f.items f.versions.nodes ts cs
    some_circuits [] cs h = refl
    some_circuits (t ∷ ts) [] h = refl
    some_circuits (t ∷ ts) (c ∷ cs) h = ap₂ (λ x xs. x ∷ xs) (circuit_same c t (λ k v e. h zero k c v refl e)) (some_circuits ts cs (λ i k d v a b. h (suc i) k d v a b))

    -- LAW: the circuits that stood are seen as before
    pub circuits_same : circuits_of (f.items ++ more) new.nodes f.tables f.versions.circuits ≡ circuits_of f.items f.versions.nodes f.tables f.versions.circuits
    circuits_same = some_circuits f.tables f.versions.circuits (λ i k c v a b. record { index = i; number = k; circuit = c; at = a; there = b })
