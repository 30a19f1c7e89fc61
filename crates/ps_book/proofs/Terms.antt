-- The number of kept terms grows.
use Rattle.std.proofs.Common.{◌+◌, ◌≤◌, ℕ, ap}
use Rattle.ps_journal.specs.State.{State, with_terms, most_terms}
use Rattle.ps_views.specs.Fields.{Fields, IsSound}
use Rattle.ps_views.specs.Stands.{Stands}

-- so many terms more are kept
pub more_sound : (f : Fields) (n : ℕ) → IsSound f → f.terms + n ≤ most_terms → IsSound (record f { terms = f.terms + n })
more_sound f n s h = record {
  tabled = s.tabled;
  named = s.named;
  wide = s.wide;
  lives = s.lives;
  grown = s.grown;
  rooted = s.rooted;
  recorded = s.recorded;
  numbered = s.numbered;
  seats = s.seats;
  pinned = s.pinned;
  counted = s.counted;
  claimed = s.claimed;
  ready = s.ready;
  room = h;
}

pub more_stands : (f : Fields) (n : ℕ) (t : State) → Stands f t → Stands (record f { terms = f.terms + n }) (with_terms n t)
more_stands f n t s = record {
  circuits = s.circuits;
  published = s.published;
  unnamed = s.unnamed;
  pins = s.pins;
  claims = s.claims;
  terms = ap
      (λ m. m + n) s.terms;
  names = s.names;
}
