-- What is answered when a record is published, and the fields that are left.
use Rattle.std.proofs.Common.{◌≡◌, ◌<◌, ◌≤◌, inl, inr, ℕ, ◌+◌, length, refl, sym, ap, ap₂, ◌∙◌, subst, arith}
use Rattle.std.specs.Prelude.{Option, Some, None, slice_set, slice_index_or}
use Rattle.std.specs.declared.sync.Arc.{Arc}
use Rattle.std.specs.declared.alloc.Global.{Global}
use Rattle.ps_reach.specs.declared.record.Record.{Record}
use Rattle.ps_versions.specs.Held.{Held, Version}
use Rattle.ps_versions.specs.Told.{Tells}
use Rattle.ps_versions.specs.declared.data.State.{State as Told}
use Rattle.ps_versions.specs.Records.{record_at}
use Rattle.ps_journal.specs.declared.seats.Claim.{Claim}
use Rattle.ps_journal.specs.declared.replies.Reply.{Reply}
use Rattle.ps_journal.specs.declared.replies.Reply.TheVariants as reply
use Rattle.ps_journal.specs.State.{State, unclaimed, most_terms}
use Rattle.ps_journal.specs.Publishing.{Publishes, IsRightRecord, no_claim, size, refused, published}
use Rattle.ps_views.specs.Fields.{Fields, IsSound, held_at, claim_at}
use Rattle.ps_views.specs.Stands.{Stands, Leaves}
use Rattle.ps_views.specs.Tasks.{unclaims}
use Rattle.ps_views.specs.Objections.{Objects, IsFree, IsRecordAt, refuses, ended_by, filed_by, free}
use Rattle.ps_views.specs.declared.filed.Filed.{Filed}
use Rattle.ps_views.proofs.SeatLaws.{unclaimed_stands, refused_stands}
use Rattle.ps_views.proofs.Storing.{with_filed, filed_stands}
use Rattle.ps_views.proofs.Publications.{objected, is_other, is_crowded, is_published}
use Rattle.ps_book.specs.Wanting.{PublishesOr}

-- where nothing stands against a claim, it is free
pub free_of : (f : Fields) (claim : Claim) (o : Option Reply) → Objects f claim o → o ≡ None → IsFree f claim
free_of f claim o (ended_by held ended) e = cc
free_of f claim o (filed_by held ended there) e = cc
free_of f claim o (free {v} held ended lacks) e = record { version = v; held = held; ended = ended; lacks = lacks }

-- ---- what stands against a claim
module _ (f : Fields) (claim : Claim) (s : Told) (tells : Tells (held_at f.versions claim.place) s) where
  pub objects_ended : (j : ℕ) → s.ended ≡ Some j → Objects f claim (Some (reply.Dropped j))
  objects_ended j e = by (held_at f.versions claim.place) refl tells
    where
      by : (o : Option Version) → held_at f.versions claim.place ≡ o → Tells o s → Objects f claim (Some (reply.Dropped j))
      by None q h = absurd h
      by (Some v) q h = ended_by q (sym h.2 ∙ e)

  pub objects_filed : (e : ℕ × Filed) → s.ended ≡ None → record_at f.versions.kept claim.node ≡ Some e → Objects f claim (Some (reply.Already e.0))
  objects_filed e n r = by (held_at f.versions claim.place) refl tells
    where
      by : (o : Option Version) → held_at f.versions claim.place ≡ o → Tells o s → Objects f claim (Some (reply.Already e.0))
      by None q h = absurd h
      by (Some v) q h = filed_by q (sym h.2 ∙ n) r

  pub objects_nothing : s.ended ≡ None → record_at f.versions.kept claim.node ≡ None → Objects f claim None
  objects_nothing n r = by (held_at f.versions claim.place) refl tells
    where
      by : (o : Option Version) → held_at f.versions claim.place ≡ o → Tells o s → Objects f claim None
      by None q h = absurd h
      by (Some v) q h = free q (sym h.2 ∙ n) r

-- tables are one where their parts are
pub held_same : (g h : Held Filed) → g.circuits ≡ h.circuits → g.nodes ≡ h.nodes → g.kept ≡ h.kept → g ≡ h
held_same g h e n k = ap (λ cs. record g { circuits = cs }) e ∙ ap₂ (λ ns ks. record { circuits = h.circuits; nodes = ns; kept = ks }) n k

-- a record of the segment is one whatever the claims are
pub moved : (f : Fields) (seat : ℕ) (claim : Claim) (r : Record) → IsRecordAt (unclaims seat f) claim r → IsRecordAt f claim r
moved f seat claim r h = record { qubits = h.qubits; items = h.items }

moved_back : (f : Fields) (seat : ℕ) (claim : Claim) (r : Record) → IsRecordAt f claim r → IsRecordAt (unclaims seat f) claim r
moved_back f seat claim r h = record { qubits = h.qubits; items = h.items }

-- LAW: the seat has no claim
pub unclaimed_told : (f : Fields) (t : State) (i seat : ℕ) (kept : Option (Arc Record Global)) → Stands f t → claim_at f seat ≡ None → PublishesOr t i seat kept reply.NoClaim t
unclaimed_told f t i seat kept so e = inl (no_claim (ap (λ cs. slice_index_or cs seat None) so.claims ∙ e))

module _ (f g : Fields) (t : State) (sound : IsSound f) (so : Stands f t) (i seat : ℕ) (claim : Claim) (is : claim_at f seat ≡ Some claim) where
  -- LAW: something stands against it
  pub objected_leaves : (kept : Option (Arc Record Global)) (r : Reply) → g ≡ unclaims seat f → Objects f claim (Some r) → Leaves (λ new. PublishesOr t i seat kept r new) g
  objected_leaves kept r e against =
      subst (λ x. Leaves (λ new. PublishesOr t i seat kept r new) x) (sym e)
      (record { state = unclaimed seat t; does_so = inl (objected f t sound so seat claim is i kept r against); stands = unclaimed_stands f t seat so })

  module _ (r : Arc Record Global) (free : IsFree f claim) where
    -- LAW: the record is of something else
    pub other_leaves : g ≡ unclaims seat f → (IsRecordAt g claim r.value → ⊥) → Leaves (λ new. PublishesOr t i seat (Some r) reply.OtherRun new) g
    other_leaves e off =
        subst (λ x. Leaves (λ new. PublishesOr t i seat (Some r) reply.OtherRun new) x) (sym e)
        (record {
          state = unclaimed seat t;
          does_so = inl (is_other f t sound so seat claim is i r free (λ h. off (subst (λ x. IsRecordAt x claim r.value) (sym e) (moved_back f seat claim r.value h))));
          stands = unclaimed_stands f t seat so;
        })

    -- LAW: memory was wanting
    pub wanting_leaves : g ≡ unclaims seat f → Leaves (λ new. PublishesOr t i seat (Some r) reply.Memory new) g
    wanting_leaves e =
        subst (λ x. Leaves (λ new. PublishesOr t i seat (Some r) reply.Memory new) x) (sym e)
        (record { state = unclaimed seat t; does_so = inr (record { reply = refl; state = refl }); stands = unclaimed_stands f t seat so })

    -- LAW: there is no room
    pub crowded_leaves : (total : ℕ) → g ≡ refuses seat total (unclaims seat f) → IsRecordAt f claim r.value → total ≡ f.terms + size r.value → most_terms < total
        → Leaves (λ new. PublishesOr t i seat (Some r) (reply.NoRoom total) new) g
    crowded_leaves total e h sum more =
        subst (λ x. Leaves (λ new. PublishesOr t i seat (Some r) (reply.NoRoom total) new) x) (sym e)
        (record {
          state = refused seat total (unclaimed seat t);
          does_so = inl (subst (λ n. Publishes t i seat (Some r) (reply.NoRoom n) (refused seat n (unclaimed seat t))) (sym sum) (is_crowded f t sound so seat claim is i r free h (omega (arith, sum, more))));
          stands = refused_stands (unclaims seat f) (unclaimed seat t) seat total (unclaimed_stands f t seat so);
        })

    -- LAW: it is published
    pub published_leaves : (total : ℕ) (filed : Filed) → g ≡ with_filed claim.node i filed total (unclaims seat f) → IsRecordAt f claim r.value → total ≡ f.terms + size r.value → total ≤ most_terms
        → IsRightRecord r.value → claim.node < length f.versions.nodes → record_at (slice_set f.versions.kept claim.node (Some (i, filed))) claim.node ≡ Some (i, filed) → filed.shared.value ≡ r.value
        → Leaves (λ new. PublishesOr t i seat (Some r) reply.Published new) g
    published_leaves total filed e h sum few right there stored same =
        subst (λ x. Leaves (λ new. PublishesOr t i seat (Some r) reply.Published new) x) (sym e)
        (record {
          state = published i claim.node r.value (unclaimed seat t);
          does_so = inl (is_published f t sound so seat claim is i r free h (omega (arith, sum, few)) right);
          stands = subst (λ n. Stands (with_filed claim.node i filed n (unclaims seat f)) (published i claim.node r.value (unclaimed seat t))) (sym sum)
              (filed_stands (unclaims seat f) (unclaimed seat t) claim.node i filed r.value there stored same (unclaimed_stands f t seat so));
        })
