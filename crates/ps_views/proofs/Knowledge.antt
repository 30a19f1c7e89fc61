-- What was published for the segments of a tree, against what is kept at them.
use Rattle.std.proofs.Common.{◌≡◌, ℕ, zero, suc, ◌+◌, ◌<◌, ◌≤◌, List, [], ◌∷◌, ◌++◌, length, refl, sym, ap, ap₂, ◌∙◌, subst, arith, Bool, true, false, cond, not, ◌&&◌, ◌||◌}
use Rattle.std.specs.Prelude.{Option, Some, None, map, slice_get, is_none, count_by}
use Rattle.std.specs.List.{AllByRecursion, list_any, find}
use Rattle.seg_tree.specs.Trees.{Tree, leaf, branch, name_of}
use Rattle.seg_tree.specs.Table.{tree, root_tree}
use Rattle.ps_views.specs.Older.{number_of, IsOlder, IsForest}
use Rattle.ps_versions.specs.Held.{Held, Version, Circuit}
use Rattle.ps_versions.specs.Lives.{is_kept}
use Rattle.ps_versions.specs.Records.{record_at}
use Rattle.ps_versions.specs.Walks.{has_name}
use Rattle.ps_versions.specs.Questions as held
use Rattle.ps_versions.specs.Questions.{segments, segments_maybe, kept_by, lacks_by, missing_in, settled_in, sides_have_sums}
use Rattle.ps_versions.specs.Reached.{is_segment, is_reached, stands}
use Rattle.ps_versions.proofs.Counting.{counted, counted_is}
use Rattle.ps_journal.specs.Mapped.{mapped, mapped_maybe}
use Rattle.ps_journal.specs.State.{Item, Published, State}
use Rattle.ps_journal.specs.Segments as model
use Rattle.ps_journal.specs.Segments.{published_at, published_named, published_for, with_sum, with_limit}
use Rattle.ps_journal.proofs.Mapping.{name-mapped, segments-mapped}
use Rattle.ps_views.specs.Views.{published_of, item_at, version_of}
use Rattle.ps_views.specs.Fields.{Fields, IsSound, passed}
use Rattle.ps_views.specs.Stands.{Stands}
use Rattle.ps_views.specs.declared.filed.Filed.{Filed}
use Rattle.ps_views.proofs.Lists.{all_left, all_right, all_append, all_weaker, all_from, all_at, any_here}
use Rattle.ps_views.proofs.Forests.{older_root, older_named, older_segments, named_segments}

-- the segment has a name, and what was published for it is what is kept at it
pub record Knows (published : List Published) (kept : List (Option (ℕ × Filed))) (s : Tree ℕ) : Type 0 where
  pub number : ℕ
  pub named : name_of s ≡ Some number
  pub same : published_at published number ≡ published_of number (record_at kept number)

-- so it is of all these segments, and of those of a tree
abbrev pub AllKnown : List Published → List (Option (ℕ × Filed)) → List (Tree ℕ) → Type 0
AllKnown published kept ts = AllByRecursion (Knows published kept) ts

-- the two lists of segments are one
pub segments_one : (t : Tree ℕ) → model.segments t ≡ segments t
segments_one (leaf name items) = refl
segments_one (branch name l r) = ap₂ (λ a b. a ++ (b ++ branch name l r ∷ [])) (segments_one l) (segments_one r)

pub segments_mapped : (f : ℕ → Item) (t : Tree ℕ) → model.segments (mapped f t) ≡ map (mapped f) (segments t)
segments_mapped f t = segments-mapped f t ∙ ap (map (mapped f)) (segments_one t)

pub segments_of_mapped : (f : ℕ → Item) (t : Option (Tree ℕ)) → model.segments_of (mapped_maybe f t) ≡ map (mapped f) (segments_maybe t)
segments_of_mapped f None = refl
segments_of_mapped f (Some t) = segments_mapped f t

-- what is published, told by what is kept
pub lacks_told : (k : ℕ) (o : Option (ℕ × Filed)) → is_none (published_of k o) ≡ is_none o
lacks_told k None = refl
lacks_told k (Some r) = refl

pub sum_told : (k : ℕ) (o : Option (ℕ × Filed)) → with_sum (published_of k o) ≡ held.is_sum passed o
sum_told k None = refl
sum_told k (Some r) = refl

pub limit_told : (k : ℕ) (o : Option (ℕ × Filed)) → with_limit (published_of k o) ≡ held.is_passed passed o
limit_told k None = refl
limit_told k (Some r) = refl

module _ (published : List Published) (kept : List (Option (ℕ × Filed))) (f : ℕ → Item) where
  -- what was published for a segment of the state
  pub for_known : (s : Tree ℕ) (k : Knows published kept s) → published_for published (mapped f s) ≡ published_of k.number (record_at kept k.number)
  for_known s k = ap (published_named published) (name-mapped f s ∙ k.named) ∙ k.same

  pub lacks_same : (s : Tree ℕ) → Knows published kept s → model.lacks published (mapped f s) ≡ held.lacks kept s
  lacks_same s k = ap is_none (for_known s k) ∙ lacks_told k.number (record_at kept k.number) ∙ sym (ap (lacks_by kept) k.named)

  pub sum_same : (s : Tree ℕ) → Knows published kept s → model.has_sum published (mapped f s) ≡ held.has_sum kept passed s
  sum_same s k = ap with_sum (for_known s k) ∙ sum_told k.number (record_at kept k.number) ∙ sym (ap (λ n. held.is_sum passed (kept_by kept n)) k.named)

  pub limit_same : (s : Tree ℕ) → Knows published kept s → model.has_passed published (mapped f s) ≡ held.has_passed kept passed s
  limit_same s k = ap with_limit (for_known s k) ∙ limit_told k.number (record_at kept k.number) ∙ sym (ap (λ n. held.is_passed passed (kept_by kept n)) k.named)

  -- how many have no record
  counted_same : (ts : List (Tree ℕ)) → AllKnown published kept ts → counted (model.lacks published) (map (mapped f) ts) ≡ counted (held.lacks kept) ts
  counted_same [] h = refl
  counted_same (t ∷ ts) h = ap₂ (λ b n. cond b (1 + n) n) (lacks_same t h.0) (counted_same ts h.1)

  pub count_same : (ts : List (Tree ℕ)) → AllKnown published kept ts → count_by (model.lacks published) (map (mapped f) ts) ≡ count_by (held.lacks kept) ts
  count_same ts h = sym (counted_is (model.lacks published) (map (mapped f) ts)) ∙ counted_same ts h ∙ counted_is (held.lacks kept) ts

  any_same : (ts : List (Tree ℕ)) → AllKnown published kept ts → list_any (model.has_passed published) (map (mapped f) ts) ≡ list_any (held.has_passed kept passed) ts
  any_same [] h = refl
  any_same (t ∷ ts) h = ap₂ (λ b c. b || c) (limit_same t h.0) (any_same ts h.1)

  -- LAW: the missing number of a tree
  pub missing_same : (t : Option (Tree ℕ)) → AllKnown published kept (segments_maybe t) → model.missing published (mapped_maybe f t) ≡ missing_in kept t
  missing_same t h = ap (count_by (model.lacks published)) (segments_of_mapped f t) ∙ count_same (segments_maybe t) h

  -- the last segment of a tree is its root
  pub root_known : (t : Tree ℕ) → AllKnown published kept (segments t) → Knows published kept t
  root_known (leaf name items) h = h.0
  root_known (branch name l r) h = (all_right (Knows published kept) (segments r) (branch name l r ∷ []) (all_right (Knows published kept) (segments l) (segments r ++ branch name l r ∷ []) h)).0

  pub left_known : (name : Option ℕ) (l r : Tree ℕ) → AllKnown published kept (segments (branch name l r)) → AllKnown published kept (segments l)
  left_known name l r h = all_left (Knows published kept) (segments l) (segments r ++ branch name l r ∷ []) h

  pub right_known : (name : Option ℕ) (l r : Tree ℕ) → AllKnown published kept (segments (branch name l r)) → AllKnown published kept (segments r)
  right_known name l r h = all_left (Knows published kept) (segments r) (branch name l r ∷ []) (all_right (Knows published kept) (segments l) (segments r ++ branch name l r ∷ []) h)

  -- LAW: whether a tree is settled
  pub settled_same : (t : Option (Tree ℕ)) → AllKnown published kept (segments_maybe t) → model.is_settled published (mapped_maybe f t) ≡ settled_in kept passed t
  settled_same None h = refl
  settled_same (Some t) h = ap₂ (λ a b. a || b) (sum_same t (root_known t h)) (ap (list_any (model.has_passed published)) (segments_mapped f t) ∙ any_same (segments t) h)

  -- LAW: whether a segment is ready
  pub ready_same : (t : Tree ℕ) → AllKnown published kept (segments t) → model.is_ready published (mapped f t) ≡ held.is_ready kept passed t
  ready_same (leaf name items) h = lacks_same (leaf name items) h.0 ∙ sym (and_true (held.lacks kept (leaf name items)))
    where
      and_true : (b : Bool) → (b && true) ≡ b
      and_true true = refl
      and_true false = refl
  ready_same (branch name l r) h =
      ap₂ (λ a b. a && b) (lacks_same (branch name l r) (root_known (branch name l r) h))
      (ap₂ (λ a b. a && b) (sum_same l (root_known l (left_known name l r h))) (sum_same r (root_known r (right_known name l r h))))

  -- all segments of each segment are known
  pub deeply_known : (t : Tree ℕ) → AllKnown published kept (segments t) → AllByRecursion (λ s. AllKnown published kept (segments s)) (segments t)
  deeply_known (leaf name items) h = (h, tt)
  deeply_known (branch name l r) h =
      let P : Tree ℕ → Type 0 = λ s. AllKnown published kept (segments s) in
      all_append P (segments l) (segments r ++ branch name l r ∷ []) (deeply_known l (left_known name l r h))
      (all_append P (segments r) (branch name l r ∷ []) (deeply_known r (right_known name l r h)) (h, tt))

-- ---- the segments of a kept version
module _ (f : Fields) (t : State) (sound : IsSound f) (so : Stands f t) where
  reached_at : (i k m : ℕ) (c : Circuit) (v : Version) → slice_get f.versions.circuits i ≡ Some c → slice_get c.versions k ≡ Some v → is_kept v ≡ true → is_segment f.versions (Some v) m ≡ true → is_reached f.versions m ≡ true
  reached_at i k m c v ci vk kept seg =
      any_here (λ (d : Circuit). list_any (λ (w : Version). is_kept w && is_segment f.versions (Some w) m) d.versions) f.versions.circuits i c ci
      (any_here (λ (w : Version). is_kept w && is_segment f.versions (Some w) m) c.versions k v vk (both (is_kept v) (is_segment f.versions (Some v) m) kept seg))
    where
      both : (a b : Bool) → a ≡ true → b ≡ true → (a && b) ≡ true
      both true b e g = g
      both false b e g = cc

  -- the segments of a version have names, and are trees of the table
  pub version_older : (i k : ℕ) (c : Circuit) (v : Version) → slice_get f.versions.circuits i ≡ Some c → slice_get c.versions k ≡ Some v
      → AllByRecursion (IsOlder f.versions.nodes (length f.versions.nodes)) (segments_maybe (root_tree f.versions.nodes v.root))
  version_older i k c v ci vk = by v.root refl
    where
      by : (r : Option ℕ) → v.root ≡ r → AllByRecursion (IsOlder f.versions.nodes (length f.versions.nodes)) (segments_maybe (root_tree f.versions.nodes r))
      by None e = tt
      by (Some r) e =
          let there : r < length f.versions.nodes = sound.rooted i k r c v ci vk e in
          older_segments f.versions.nodes (length f.versions.nodes) (tree f.versions.nodes r) sound.grown (omega arith) (older_root f.versions.nodes r (length f.versions.nodes) sound.grown there there)

  -- LAW: what is kept at the segments of a kept version is what was published for them
  pub version_known : (i k : ℕ) (c : Circuit) (v : Version) → slice_get f.versions.circuits i ≡ Some c → slice_get c.versions k ≡ Some v → is_kept v ≡ true
      → AllKnown t.published f.versions.kept (segments_maybe (root_tree f.versions.nodes v.root))
  version_known i k c v ci vk kept =
      let ts = segments_maybe (root_tree f.versions.nodes v.root) in
      let names : AllByRecursion (λ s. name_of s ≡ Some (number_of s)) ts = all_weaker (IsOlder f.versions.nodes (length f.versions.nodes)) (λ s. name_of s ≡ Some (number_of s))
      (λ s h. older_named f.versions.nodes (length f.versions.nodes) s sound.grown (omega arith) h) ts (version_older i k c v ci vk) in
      all_from (Knows t.published f.versions.kept) ts (λ j s e. record {
        number = number_of s;
        named = all_at (λ u. name_of u ≡ Some (number_of u)) ts j s names e;
        same = so.published (number_of s)
            (reached_at i k (number_of s) c v ci vk kept (all_at (λ u. list_any (λ w. has_name (number_of u) (name_of w)) ts ≡ true) ts j s (named_segments ts names) e));
      })

  -- LAW: the missing number of a kept version
  pub missing_kept : (i k : ℕ) (c : Circuit) (v : Version) → slice_get f.versions.circuits i ≡ Some c → slice_get c.versions k ≡ Some v → is_kept v ≡ true
      → model.missing t.published (version_of f.items f.versions.nodes v).tree ≡ missing_in f.versions.kept (root_tree f.versions.nodes v.root)
  missing_kept i k c v ci vk kept = missing_same t.published f.versions.kept (item_at f.items) (root_tree f.versions.nodes v.root) (version_known i k c v ci vk kept)

  -- LAW: whether a kept version is settled
  pub settled_kept : (i k : ℕ) (c : Circuit) (v : Version) → slice_get f.versions.circuits i ≡ Some c → slice_get c.versions k ≡ Some v → is_kept v ≡ true
      → model.is_settled t.published (version_of f.items f.versions.nodes v).tree ≡ settled_in f.versions.kept passed (root_tree f.versions.nodes v.root)
  settled_kept i k c v ci vk kept = settled_same t.published f.versions.kept (item_at f.items) (root_tree f.versions.nodes v.root) (version_known i k c v ci vk kept)
