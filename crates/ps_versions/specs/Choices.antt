-- Which of the ready segments is taken: the lightest, and the first of those that weigh the same.
use Rattle.std.specs.Prelude.{ℕ, suc, ◌≡◌, Bool, true, false, cond, not, ◌&&◌, ◌||◌, eqb, nat_lt, List, [], ◌∷◌, ◌++◌, map, Option, Some, None}
use Rattle.std.specs.List.{list_all}
use Rattle.seg_tree.specs.Trees.{Tree, name_of}
use Rattle.seg_tree.specs.Table.{root_tree}
use Rattle.ps_script.specs.declared.name.Place.{Place}
use Rattle.ps_versions.specs.Held.{Held, Version, Circuit}
use Rattle.ps_versions.specs.Lookup.{place_of, version_at, root_of}
use Rattle.ps_versions.specs.Lives.{is_kept}
use Rattle.ps_versions.specs.Questions.{segments_maybe, is_ready, settled_in}
use Rattle.ps_versions.specs.declared.data.Ready.{Ready}

module _ (weight : ℕ → ℕ) where
  -- the lighter one of two, and the first where they weigh the same
  abbrev pub lighter : Ready → Option Ready → Option Ready
  lighter a None = Some a
  lighter a (Some b) = cond (nat_lt (weight b.node) (weight a.node)) (Some b) (Some a)

  abbrev pub lighter_of : Option Ready → Option Ready → Option Ready
  lighter_of None b = b
  lighter_of (Some a) b = lighter a b

  -- the lightest one, and the first of those that weigh the same
  abbrev pub lightest : List Ready → Option Ready
  lightest [] = None
  lightest (a ∷ rest) = lighter a (lightest rest)

-- the name of a segment that passes a test, before others
abbrev pub name_before : Bool → Option ℕ → List ℕ → List ℕ
name_before true (Some k) ks = k ∷ ks
name_before true None ks = ks
name_before false name ks = ks

-- the names of the segments that pass a test, in order
abbrev pub names_where : (Tree ℕ → Bool) → List (Tree ℕ) → List ℕ
names_where test [] = []
names_where test (t ∷ ts) = name_before (test t) (name_of t) (names_where test ts)

abbrev pub ready_at : Place → List ℕ → List Ready
ready_at place ks = map (λ k. record { place = place; node = k }) ks

module _ {R : Type 0} (passed : R → Bool) where
  -- the ready segments of a version's tree, in order, and none where the version is settled
  abbrev pub open_in : Held R → Place → Option ℕ → List Ready
  open_in h place root =
      cond (settled_in h.kept passed (root_tree h.nodes root)) [] (ready_at place (names_where (is_ready h.kept passed) (segments_maybe (root_tree h.nodes root))))

  abbrev pub open_at : Held R → Place → List Ready
  open_at h place = open_in h place (root_of (version_at h.circuits place.name place.version))

  -- those of the kept ones among a circuit's versions, the first of which has the number n
  abbrev pub open_from : Held R → List ℕ → ℕ → List Version → List Ready
  open_from h name n [] = []
  open_from h name n (v ∷ vs) = cond (is_kept v) (open_in h (record { name = name; version = n }) v.root) [] ++ open_from h name (suc n) vs

  abbrev pub open_of : Held R → List Circuit → List Ready
  open_of h [] = []
  open_of h (c ∷ cs) = open_from h c.name 1 c.versions ++ open_of h cs

  -- the ready segments of all kept versions that are not settled, in order of circuit, version and segment
  abbrev pub open_segments : Held R → List Ready
  open_segments h = open_of h h.circuits

  -- a version is settled, or not kept
  abbrev pub is_done : Held R → Version → Bool
  is_done h v = not (is_kept v) || settled_in h.kept passed (root_tree h.nodes v.root)

  -- every kept version is settled
  abbrev pub all_settled : Held R → Bool
  all_settled h = list_all (λ (c : Circuit). list_all (is_done h) c.versions) h.circuits

-- the order of places: by circuit, in order of opening, and then by version
abbrev pub before_in : Option ℕ → Option ℕ → Bool → Bool
before_in None j behind = false
before_in (Some i) None behind = false
before_in (Some i) (Some j) behind = nat_lt i j || (eqb i j && behind)

abbrev pub comes_before : List Circuit → Place → Place → Bool
comes_before cs a b = before_in (place_of cs a.name) (place_of cs b.name) (nat_lt a.version b.version)
