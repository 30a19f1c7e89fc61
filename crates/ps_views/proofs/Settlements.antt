-- What a settled version comes to.
use Rattle.std.proofs.Common.{◌≡◌, ℕ, zero, suc, ◌+◌, ◌<◌, ◌≤◌, List, [], ◌∷◌, ◌++◌, length, refl, sym, ap, ap₂, ◌∙◌, subst, arith, Bool, true, false, cond, not, ◌&&◌, ◌||◌}
use Rattle.std.specs.Prelude.{Option, Some, None, map, is_none, is_some}
use Rattle.std.specs.List.{AllByRecursion, list_any, find}
use Rattle.seg_tree.specs.Trees.{Tree, leaf, branch, name_of}
use Rattle.seg_tree.specs.Table.{tree, root_tree}
use Rattle.ps_versions.specs.Held as tables
use Rattle.ps_versions.specs.Records.{record_at}
use Rattle.ps_versions.specs.Questions as held
use Rattle.ps_versions.specs.Questions.{segments, segments_maybe, kept_by, settled_in, below_have_sums, first_named, first_of}
use Rattle.ps_versions.proofs.Pruning.{any_first, first_passed_here}
use Rattle.ps_journal.specs.Mapped.{mapped, mapped_maybe}
use Rattle.ps_journal.specs.State.{Item, Published, Circuit, State}
use Rattle.ps_journal.specs.Segments as model
use Rattle.ps_journal.specs.Segments.{published_at, published_named, published_for, with_sum, with_limit}
use Rattle.ps_journal.specs.Summing.{ComesTo, IsIdentity}
use Rattle.ps_journal.specs.Summing.ComesTo.{of_nothing, of_root, of_limit}
use Rattle.ps_reach.specs.declared.record.Record.{Record}
use Rattle.ps_views.specs.Views.{published_of, item_at, version_of, tree_of}
use Rattle.ps_views.specs.Fields.{Fields, IsSound, passed}
use Rattle.ps_views.specs.declared.filed.Filed.{Filed}
use Rattle.ps_views.proofs.Knowledge.{Knows, AllKnown, for_known, sum_same, limit_same, root_known, segments_mapped}

or_else : (a b : Bool) → (a || b) ≡ true → b ≡ false → a ≡ true
or_else true b e g = refl
or_else false b e g = absurd (no (sym e ∙ g))
  where
    no : true ≡ false → ⊥
    no q = cc

module _ (published : List Published) (kept : List (Option (ℕ × Filed))) (f : ℕ → Item) where
  -- the first segment at which a limit was passed, in the state
  pub record Limited (ts : List (Tree ℕ)) (m : ℕ) : Type 0 where
    pub segment : Tree Item
    pub first : find (model.has_passed published) (map (mapped f) ts) ≡ Some segment
    pub told : published_for published segment ≡ published_of m (record_at kept m)

  pub first_limited : (ts : List (Tree ℕ)) (m : ℕ) → AllKnown published kept ts → first_named (held.has_passed kept passed) ts ≡ Some m → Limited ts m
  first_limited [] m h e = absurd (no e)
    where
      no : None ≡ Some m → ⊥
      no q = cc
  first_limited (t ∷ ts) m h e = by (held.has_passed kept passed t) refl (ap (λ n. first_of (held.has_passed kept passed t) n (first_named (held.has_passed kept passed) ts)) (sym h.0.named) ∙ e) (first_limited ts m h.1)
    where
      by : (b : Bool) → held.has_passed kept passed t ≡ b → first_of b (Some h.0.number) (first_named (held.has_passed kept passed) ts) ≡ Some m → (first_named (held.has_passed kept passed) ts ≡ Some m → Limited ts m) → Limited (t ∷ ts) m
      by true q e later =
          let same : h.0.number ≡ m = cc in
          record {
            segment = mapped f t;
            first = ap (λ b. cond b (Some (mapped f t)) (find (model.has_passed published) (map (mapped f) ts))) (limit_same published kept f t h.0 ∙ q);
            told = for_known published kept f t h.0 ∙ ap (λ n. published_of n (record_at kept n)) same;
          }
      by false q e later =
          let rest = later e in
          record {
            segment = rest.segment;
            first = ap (λ b. cond b (Some (mapped f t)) (find (model.has_passed published) (map (mapped f) ts))) (limit_same published kept f t h.0 ∙ q) ∙ rest.first;
            told = rest.told;
          }

-- a root with a sum, below which all have sums, passed no limit
no_limit : (kept : List (Option (ℕ × Filed))) (t : Tree ℕ) → held.has_sum kept passed t ≡ true → below_have_sums kept passed t ≡ true → first_named (held.has_passed kept passed) (segments t) ≡ None
no_limit kept t s h = first_passed_here kept passed t h ∙ ap (λ b. first_of b (name_of t) None) (not_passed (kept_by kept (name_of t)) s)
  where
    flip : (b : Bool) → not b ≡ true → b ≡ false
    flip true e = cc
    flip false e = refl

    not_passed : (o : Option (ℕ × Filed)) → held.is_sum passed o ≡ true → held.is_passed passed o ≡ false
    not_passed None e = refl
    not_passed (Some r) e = flip (passed r.1) e

sum_there : (o : Option (ℕ × Filed)) → held.is_sum passed o ≡ true → is_some o ≡ true
sum_there None e = cc
sum_there (Some r) e = refl

module _ (f : Fields) (t : State) (c : Circuit) (v : tables.Version) where
  -- LAW: what a version with no item comes to
  pub comes_to_nothing : (r : Record) → v.root ≡ None → IsIdentity c.qubits r → ComesTo t c (version_of f.items f.versions.nodes v) r
  comes_to_nothing r e h = of_nothing (ap (tree_of f.items f.versions.nodes) e) h

  -- LAW: where no limit was passed, a settled version comes to its root's sum
  pub comes_to_root : (k : ℕ) (e : ℕ × Filed) → v.root ≡ Some k → AllKnown t.published f.versions.kept (segments_maybe (root_tree f.versions.nodes v.root))
      → settled_in f.versions.kept passed (root_tree f.versions.nodes v.root) ≡ true
      → first_named (held.has_passed f.versions.kept passed) (segments_maybe (root_tree f.versions.nodes v.root)) ≡ None
      → name_of (tree f.versions.nodes k) ≡ Some k → record_at f.versions.kept k ≡ Some e
      → ComesTo t c (version_of f.items f.versions.nodes v) e.1.shared.value
  comes_to_root k e root known settled none name there =
      let s = tree f.versions.nodes k in
      let kn : AllKnown t.published f.versions.kept (segments s) = subst (λ r. AllKnown t.published f.versions.kept (segments_maybe (root_tree f.versions.nodes r))) root known in
      let here = root_known t.published f.versions.kept (item_at f.items) s kn in
      let no_any : list_any (held.has_passed f.versions.kept passed) (segments s) ≡ false =
      sym (any_first f.versions.kept passed (segments s)) ∙ ap is_some (ap (λ r. first_named (held.has_passed f.versions.kept passed) (segments_maybe (root_tree f.versions.nodes r))) (sym root) ∙ none) in
      let sum : held.has_sum f.versions.kept passed s ≡ true =
      or_else (held.has_sum f.versions.kept passed s) _ (ap (λ r. settled_in f.versions.kept passed (root_tree f.versions.nodes r)) (sym root) ∙ settled) no_any in
      let number : here.number ≡ k = let two : Some here.number ≡ Some k = sym here.named ∙ name in cc in
      of_root (ap (tree_of f.items f.versions.nodes) root) (sum_same t.published f.versions.kept (item_at f.items) s here ∙ sum)
      (for_known t.published f.versions.kept (item_at f.items) s here ∙ ap (λ n. published_of n (record_at f.versions.kept n)) number ∙ ap (published_of k) there) refl

  -- LAW: else it comes to the first limit that was passed
  pub comes_to_limit : (k m : ℕ) (e : ℕ × Filed) → v.root ≡ Some k → AllKnown t.published f.versions.kept (segments_maybe (root_tree f.versions.nodes v.root))
      → first_named (held.has_passed f.versions.kept passed) (segments_maybe (root_tree f.versions.nodes v.root)) ≡ Some m
      → name_of (tree f.versions.nodes k) ≡ Some k → (is_some (record_at f.versions.kept k) ≡ true → below_have_sums f.versions.kept passed (tree f.versions.nodes k) ≡ true)
      → record_at f.versions.kept m ≡ Some e
      → ComesTo t c (version_of f.items f.versions.nodes v) e.1.shared.value
  comes_to_limit k m e root known first name below there =
      let s = tree f.versions.nodes k in
      let kept = f.versions.kept in
      let kn : AllKnown t.published kept (segments s) = subst (λ r. AllKnown t.published kept (segments_maybe (root_tree f.versions.nodes r))) root known in
      let here = root_known t.published kept (item_at f.items) s kn in
      let found : first_named (held.has_passed kept passed) (segments s) ≡ Some m = ap (λ r. first_named (held.has_passed kept passed) (segments_maybe (root_tree f.versions.nodes r))) (sym root) ∙ first in
      let lim = first_limited t.published kept (item_at f.items) (segments s) m kn found in
      of_limit (ap (tree_of f.items f.versions.nodes) root) (sum_same t.published kept (item_at f.items) s here ∙ no_sum s found (held.has_sum kept passed s) refl)
      (ap (find (model.has_passed t.published)) (segments_mapped (item_at f.items) s) ∙ lim.first) (lim.told ∙ ap (published_of m) there) refl
    where
      no_sum : (s : Tree ℕ) → first_named (held.has_passed f.versions.kept passed) (segments (tree f.versions.nodes k)) ≡ Some m → (b : Bool) → held.has_sum f.versions.kept passed (tree f.versions.nodes k) ≡ b → held.has_sum f.versions.kept passed (tree f.versions.nodes k) ≡ false
      no_sum s found false q = q
      no_sum s found true q =
          let some : is_some (record_at f.versions.kept k) ≡ true = sum_there (record_at f.versions.kept k) (ap (λ n. held.is_sum passed (kept_by f.versions.kept n)) (sym name) ∙ q) in
          absurd (no (sym found ∙ no_limit f.versions.kept (tree f.versions.nodes k) q (below some)))
        where
          no : Some m ≡ None → ⊥
          no p = cc
