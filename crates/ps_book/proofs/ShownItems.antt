-- What is answered when the items of a version are shown.
use Rattle.std.proofs.Common.{◌≡◌, ◌<◌, ◌≤◌, inl, ℕ, ◌+◌, length, refl, sym, ap, ◌∙◌, subst, arith}
use Rattle.std.specs.Prelude.{IsSome, map}
use Rattle.seg_tree.specs.Trees.{run_maybe}
use Rattle.seg_tree.specs.Table.{root_tree}
use Rattle.qasm_expand.specs.Circuits.{TableOf}
use Rattle.ps_script.specs.declared.name.Place.{Place}
use Rattle.ps_versions.specs.Lookup.{root_of}
use Rattle.ps_journal.specs.declared.replies.Reply.{Reply}
use Rattle.ps_journal.specs.declared.replies.Reply.TheVariants as reply
use Rattle.ps_journal.specs.State.{State, FindsLive, with_terms, most_terms}
use Rattle.ps_journal.specs.Pinning.{Refuses}
use Rattle.ps_journal.specs.Showing.{Reads, refused, no_room, shows}
use Rattle.ps_journal.proofs.Mapping.{run-mapped_maybe}
use Rattle.ps_views.specs.Views.{item_at, version_of, circuit_of}
use Rattle.ps_views.specs.Fields.{Fields, IsSound, held_at}
use Rattle.ps_views.specs.Stands.{Stands}
use Rattle.ps_views.proofs.Lookups.{mapped_length}
use Rattle.ps_views.proofs.Replies.{finds_at}
use Rattle.ps_book.specs.Wanting.{ReadsOr}
use Rattle.ps_book.specs.Contents.{contents_at, IsLiveHere}

-- a live version is there
pub live_held : (f : Fields) (p : Place) → IsLiveHere f p → IsSome (held_at f.versions p)
live_held f p l = subst IsSome (sym l.lives.version_is) refl

-- how many items are there
pub length-contents : (f : Fields) (p : Place) → length (contents_at f p) ≡ length (run_maybe (root_tree f.versions.nodes (root_of (held_at f.versions p))))
length-contents f p = mapped_length (item_at f.items) (run_maybe (root_tree f.versions.nodes (root_of (held_at f.versions p))))

-- ---- what is answered
module _ (f : Fields) (t : State) (sound : IsSound f) (so : Stands f t) (p : Place) where
  -- LAW: no live version is there
  pub reads_refused : (r : Reply) → Refuses t p r → ReadsOr t p r t
  reads_refused r e = inl (refused e)

  module _ (l : IsLiveHere f p) where
    -- the state's version, and how its items are seen
    finds : (g : TableOf) × FindsLive t p (circuit_of f.items f.versions.nodes g l.lives.circuit) (version_of f.items f.versions.nodes l.lives.version)
    finds = let s = finds_at f t so sound.tabled p l.lives.circuit l.lives.version l.lives.circuit_is l.lives.version_is in (s.0, record { found = s.1; live = l.lives.live })

    items_seen : (version_of f.items f.versions.nodes l.lives.version).items ≡ contents_at f p
    items_seen = run-mapped_maybe (item_at f.items) (root_tree f.versions.nodes l.lives.version.root)
        ∙ ap (λ o. map (item_at f.items) (run_maybe (root_tree f.versions.nodes (root_of o)))) (sym l.lives.version_is)

    -- LAW: there is no room
    pub reads_crowded : (total : ℕ) → total ≡ f.terms + length (contents_at f p) → most_terms < total → ReadsOr t p (reply.NoRoom total) t
    reads_crowded total e more =
        let same : t.terms + length (version_of f.items f.versions.nodes l.lives.version).items ≡ total = omega (arith, so.terms, ap length items_seen, e) in
        inl (subst (λ n. Reads t p (reply.NoRoom n) t) same (no_room finds.1 (omega (arith, same, more))))

    -- LAW: the items are shown
    pub reads_shown : (r : Reply) → r ≡ reply.Shown (contents_at f p) → f.terms + length (contents_at f p) ≤ most_terms → ReadsOr t p r (with_terms (length (contents_at f p)) t)
    reads_shown r e few =
        inl (subst (λ x. Reads t p x (with_terms (length (contents_at f p)) t)) (sym e)
        (subst (λ is. Reads t p (reply.Shown is) (with_terms (length is) t)) items_seen (shows finds.1 (omega (arith, so.terms, ap length items_seen, few)))))
