-- What the fields stand for once the pins of a seat are released.
use Rattle.std.proofs.Common.{◌≡◌, ◌<◌, ℕ, zero, suc, List, [], ◌∷◌, length, refl, sym, ap, subst, arith}
use Rattle.std.specs.Prelude.{Option, Some, None, slice_set, slice_index_or}
use Rattle.ps_script.specs.declared.name.Place.{Place}
use Rattle.ps_versions.specs.Held.{Held}
use Rattle.ps_versions.specs.Lives.{IsLive}
use Rattle.ps_journal.specs.declared.seats.Pin.{Pin}
use Rattle.ps_journal.specs.State.{State}
use Rattle.ps_journal.specs.Keeping.{unpinned}
use Rattle.ps_journal.specs.Pinning.{new_pin}
use Rattle.ps_journal.specs.Pinning as pinning
use Rattle.ps_views.specs.Counts.{pins_by}
use Rattle.ps_views.specs.Fields.{Fields, IsSound, pin_at}
use Rattle.ps_views.specs.Stands.{Stands}
use Rattle.ps_views.specs.Living.{LivesAt}
use Rattle.ps_views.specs.Changes.{Becomes, Fades, Rises, Carries, HasRoom, Holds, IsLiveAt, IsLiveAtMaybe}
use Rattle.ps_views.specs.declared.filed.Filed.{Filed}
use Rattle.ps_views.proofs.Counting.{set_same}
use Rattle.ps_views.proofs.Holding.{carries, fades_nothing, room_left, still_live, still_live_maybe, release_sound, release_stands, hold_sound, hold_stands}
use Rattle.ps_book.specs.Releases.{Releases}

-- what is read at an index
pub read_at : {A : Type 0} (xs : List A) (i : ℕ) (d e o : A) → i < length xs → slice_index_or xs i d ≡ o → slice_index_or xs i e ≡ o
read_at [] i d e o h q = absurd (omega (arith, h))
read_at (x ∷ xs) zero d e o h q = q
read_at (x ∷ xs) (suc i) d e o h q = read_at xs i d e o (omega arith) q

pub pin_read : (f : Fields) (seat : ℕ) (d o : Option Pin) → IsSound f → seat < 64 → slice_index_or f.pins seat d ≡ o → pin_at f seat ≡ o
pin_read f seat d o sound near e = read_at f.pins seat d None o (omega (arith, near, sound.seats.0)) e

pub lives_live : (f : Fields) (p : Place) (qubits : ℕ) → LivesAt f p qubits → IsLiveAt f.versions p
lives_live f p qubits l = subst (λ o. IsLive o) (sym l.version_is) l.live

module _ (entry seat : ℕ) (f : Fields) (sound : IsSound f) (near : seat < 64) where
  -- a seat that has pinned nothing
  pub releases_none : pin_at f seat ≡ None → Releases entry seat f f
  releases_none e = record {
    fades = fades_nothing entry f.versions (pin_at f seat) (carries seat f sound near) e;
    same = ap (λ ps. record f { pins = ps }) (sym (set_same f.pins seat None None e (omega (arith, near, sound.seats.0))));
  }

  module _ (pin : Pin) (e : pin_at f seat ≡ Some pin) where
    -- what it has pinned can be taken off
    pub carries_pin : Carries f.versions (Some pin)
    carries_pin = subst (Carries f.versions) e (carries seat f sound near)

    pub fades_pin : (new : Held Filed) → Becomes (λ q x y. Fades entry (pins_by q (Some pin)) x y) f.versions new
        → Becomes (λ q x y. Fades entry (pins_by q (pin_at f seat)) x y) f.versions new
    fades_pin new b = subst (λ o. Becomes (λ q x y. Fades entry (pins_by q o) x y) f.versions new) (sym e) b

    pub releases_pin : (new : Held Filed) → Becomes (λ q x y. Fades entry (pins_by q (Some pin)) x y) f.versions new
        → Releases entry seat f (record f { versions = new; pins = slice_set f.pins seat None })
    releases_pin new b = record { fades = fades_pin new b; same = refl }

    pub released_pin_sound : (new : Held Filed) → Becomes (λ q x y. Fades entry (pins_by q (Some pin)) x y) f.versions new
        → IsSound (record f { versions = new; pins = slice_set f.pins seat None })
    released_pin_sound new b = release_sound entry seat f sound near new (slice_set f.pins seat None) (fades_pin new b) refl

  module _ (g : Fields) (r : Releases entry seat f g) where
    pub releases_stands : (t : State) → Stands f t → Stands g (unpinned entry seat t)
    releases_stands t s = subst (λ h. Stands h (unpinned entry seat t)) (sym r.same)
        (release_stands entry seat f sound near g.versions (slice_set f.pins seat None) r.fades refl t s)

    pub releases_room : HasRoom g.versions
    releases_room = room_left entry f.versions g.versions (pin_at f seat) (carries seat f sound near) r.fades

    pub releases_live : (p : Place) → IsLiveAt f.versions p → IsLiveAt g.versions p
    releases_live p l = still_live entry f.versions g.versions (pin_at f seat) r.fades p l

    pub releases_live_maybe : (o : Option Place) → IsLiveAtMaybe f.versions o → IsLiveAtMaybe g.versions o
    releases_live_maybe o l = still_live_maybe entry f.versions g.versions (pin_at f seat) r.fades o l

    -- pinned anew
    module _ (first : Place) (second : Option Place) (live : IsLiveAt f.versions first) (also : IsLiveAtMaybe f.versions second) (new : Held Filed)
        (b : Becomes (λ q x y. Rises (pins_by q (Some (new_pin first second))) x y) g.versions new) where
      holds : Holds entry (pin_at f seat) first second f.versions new
      holds = record { mid = g.versions; released = r.fades; held = b }

      same : record g { versions = new; pins = slice_set g.pins seat (Some (new_pin first second)) }
          ≡ record f { versions = new; pins = slice_set (slice_set f.pins seat None) seat (Some (new_pin first second)) }
      same = ap (λ (h : Fields). record h { versions = new; pins = slice_set h.pins seat (Some (new_pin first second)) }) r.same

      pub held_sound : IsSound (record g { versions = new; pins = slice_set g.pins seat (Some (new_pin first second)) })
      held_sound = subst IsSound (sym same)
          (hold_sound entry seat f sound near new (slice_set (slice_set f.pins seat None) seat (Some (new_pin first second))) first second live also holds refl)

      pub held_stands : (t : State) → Stands f t → Stands (record g { versions = new; pins = slice_set g.pins seat (Some (new_pin first second)) })
          (pinning.pinned entry seat first second t)
      held_stands t s = subst (λ h. Stands h (pinning.pinned entry seat first second t)) (sym same)
          (hold_stands entry seat f sound near new (slice_set (slice_set f.pins seat None) seat (Some (new_pin first second))) first second live also
          holds refl t s)
