-- What is held once a record is stored at a segment.
use Rattle.std.proofs.Common.{◌≡◌, ◌≢◌, ℕ, zero, suc, ◌+◌, ◌<◌, ◌≤◌, List, [], ◌∷◌, length, refl, sym, ap, ap₂, ◌∙◌, subst, arith, Bool, true, false, cond, not, ◌&&◌, get_or, set, length-set, get_or-set_other, get_or-set_same}
use Rattle.std.specs.Prelude.{Option, Some, None, slice_set, slice_index_or, eqb, is_none}
use Rattle.std.specs.List.{find}
use Rattle.std.proofs.lemmas.Bool.Decides.{nat_tests}
use Rattle.std.proofs.lemmas.Bool.{eqb-true, eqb-false}
use Rattle.seg_tree.specs.Trees.{Tree, leaf, branch, name_of}
use Rattle.seg_tree.specs.Table.{tree}
use Rattle.ps_versions.specs.Held.{Held, Version}
use Rattle.ps_versions.specs.Records.{record_at}
use Rattle.ps_versions.specs.Questions.{is_sum, kept_by, has_sum, sides_have_sums}
use Rattle.ps_versions.specs.Reached.{is_reached}
use Rattle.ps_reach.specs.declared.record.Record.{Record}
use Rattle.ps_journal.specs.State.{State, Published, most_terms}
use Rattle.ps_journal.specs.Segments.{published_at}
use Rattle.ps_journal.specs.Publishing.{published, size}
use Rattle.ps_views.specs.Views.{published_of}
use Rattle.ps_views.specs.Fields.{Fields, IsSound, passed}
use Rattle.ps_views.specs.Stands.{Stands}
use Rattle.ps_views.specs.declared.filed.Filed.{Filed}

abbrev pub with_record : ℕ → ℕ → Filed → Held Filed → Held Filed
with_record node i filed h = record h { kept = slice_set h.kept node (Some (i, filed)) }

-- the record is kept, and so many terms are
abbrev pub with_filed : ℕ → ℕ → Filed → ℕ → Fields → Fields
with_filed node i filed terms f = record f { versions = with_record node i filed f.versions; terms = terms }

module _ (kept : List (Option (ℕ × Filed))) (node : ℕ) (new : ℕ × Filed) (free : record_at kept node ≡ None) where
  -- what was kept stays
  still : (k : ℕ) (r : ℕ × Filed) → record_at kept k ≡ Some r → record_at (slice_set kept node (Some new)) k ≡ Some r
  still k r e = get_or-set_other kept node k (Some new) None apart ∙ e
    where
      apart : k ≢ node
      apart q = let two : Some r ≡ None = sym e ∙ ap (record_at kept) q ∙ free in cc

  sum_stays : (name : Option ℕ) → is_sum passed (kept_by kept name) ≡ true → is_sum passed (kept_by (slice_set kept node (Some new)) name) ≡ true
  sum_stays None e = e
  sum_stays (Some k) e = by (record_at kept k) refl e
    where
      by : (o : Option (ℕ × Filed)) → record_at kept k ≡ o → is_sum passed o ≡ true → is_sum passed (record_at (slice_set kept node (Some new)) k) ≡ true
      by None q e = cc
      by (Some r) q e = ap (is_sum passed) (still k r q) ∙ e

  and_both : (a b c d : Bool) → (a && b) ≡ true → (a ≡ true → c ≡ true) → (b ≡ true → d ≡ true) → (c && d) ≡ true
  and_both true true c d e g h = ap₂ (λ x y. x && y) (g refl) (h refl)
  and_both true false c d e g h = cc
  and_both false b c d e g h = cc

  sides_stay : (t : Tree ℕ) → sides_have_sums kept passed t ≡ true → sides_have_sums (slice_set kept node (Some new)) passed t ≡ true
  sides_stay (leaf name items) e = refl
  sides_stay (branch name l r) e = and_both (has_sum kept passed l) (has_sum kept passed r) _ _ e (sum_stays (name_of l)) (sum_stays (name_of r))

-- LAW: what is kept of the fields stays so
pub filed_sound : (f : Fields) (node i terms : ℕ) (filed : Filed) → record_at f.versions.kept node ≡ None → terms ≤ most_terms → IsSound f → IsSound (with_filed node i filed terms f)
filed_sound f node i terms filed free few s = record {
  tabled = s.tabled;
  named = s.named;
  wide = s.wide;
  lives = s.lives;
  grown = s.grown;
  rooted = s.rooted;
  recorded = length-set f.versions.kept node (Some (i, filed)) ∙ s.recorded;
  numbered = s.numbered;
  seats = s.seats;
  pinned = s.pinned;
  counted = s.counted;
  claimed = s.claimed;
  ready = λ seat c v e h k. sides_stay f.versions.kept node (i, filed) free (tree f.versions.nodes c.node) (s.ready seat c v e h k);
  room = few;
}

-- LAW: and it stands for the state in which the record is published
pub filed_stands : (f : Fields) (t : State) (node i : ℕ) (filed : Filed) (r : Record) → node < length f.versions.nodes → record_at (slice_set f.versions.kept node (Some (i, filed))) node ≡ Some (i, filed) → filed.shared.value ≡ r
    → Stands f t → Stands (with_filed node i filed (f.terms + size r) f) (published i node r t)
filed_stands f t node i filed r there stored same s = record {
  circuits = s.circuits;
  published = λ k reached. at k (eqb node k) refl (s.published k reached);
  unnamed = λ k far. other k (eqb-other node k (omega arith)) ∙ s.unnamed k far;
  pins = s.pins;
  claims = s.claims;
  terms = ap (λ n. n + size r) s.terms;
  names = s.names;
} where
  eqb-other : (a b : ℕ) → a < b → eqb a b ≡ false
  eqb-other a b h = grind (arith, nat_tests)

  other : (k : ℕ) → eqb node k ≡ false → published_at (record { segment = node; entry = i; kept = r } ∷ t.published) k ≡ published_at t.published k
  other k e = ap (λ b. cond b (Some (record { segment = node; entry = i; kept = r })) (published_at t.published k)) e

  at : (k : ℕ) (b : Bool) → eqb node k ≡ b → published_at t.published k ≡ published_of k (record_at f.versions.kept k)
      → published_at (record { segment = node; entry = i; kept = r } ∷ t.published) k ≡ published_of k (record_at (slice_set f.versions.kept node (Some (i, filed))) k)
  at k true e h =
      let here : node ≡ k = eqb-true node k e in
      ap (λ b. cond b (Some (record { segment = node; entry = i; kept = r })) (published_at t.published k)) e
      ∙ ap₂ (λ m x. Some (record { segment = m; entry = i; kept = x })) here (sym same)
      ∙ sym (ap (λ m. published_of k (record_at (slice_set f.versions.kept node (Some (i, filed))) m)) (sym here) ∙ ap (published_of k) stored)
  at k false e h =
      other k e ∙ h ∙ ap (published_of k) (sym (get_or-set_other f.versions.kept node k (Some (i, filed)) None (λ q. eqb-false node k e (sym q))))
