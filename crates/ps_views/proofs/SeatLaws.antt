-- What a seat's claim and pin come to when they are changed.
use Rattle.std.proofs.Common.{◌≡◌, ◌≢◌, ℕ, zero, suc, ◌+◌, ◌<◌, ◌≤◌, List, [], ◌∷◌, length, refl, sym, ap, ap₂, ◌∙◌, subst, arith, Bool, true, false, cond, get_or, set, length-set, get_or-set_other, get_or-set_same}
use Rattle.std.specs.Prelude.{Option, Some, None, slice_set, slice_index_or, eqb}
use Rattle.std.proofs.lemmas.Bool.Decides.{nat_tests}
use Rattle.seg_tree.specs.Table.{tree}
use Rattle.ps_script.specs.declared.name.Place.{Place}
use Rattle.ps_versions.specs.Held.{Version}
use Rattle.ps_versions.specs.Lives.{is_kept}
use Rattle.ps_versions.specs.Questions.{sides_have_sums}
use Rattle.ps_versions.specs.Reached.{is_segment}
use Rattle.ps_journal.specs.declared.seats.Pin.{Pin}
use Rattle.ps_journal.specs.declared.seats.Claim.{Claim}
use Rattle.ps_journal.specs.State.{State, unclaimed, pin_of}
use Rattle.ps_journal.specs.Claiming.{claimed}
use Rattle.ps_journal.specs.Publishing.{refused, refused_pin}
use Rattle.ps_views.specs.Counts.{pins_by, pins_on}
use Rattle.ps_views.specs.Fields.{Fields, IsSound, held_at, passed, claim_at, pin_at}
use Rattle.ps_views.specs.Stands.{Stands}

-- ---- claims
abbrev pub with_claims : List (Option Claim) → Fields → Fields
with_claims claims f = record f { claims = claims }

pub claims_stand : (f : Fields) (t : State) (claims : List (Option Claim)) → Stands f t → Stands (with_claims claims f) (record t { claims = claims })
claims_stand f t claims s = record { circuits = s.circuits; published = s.published; unnamed = s.unnamed; pins = s.pins; claims = refl; terms = s.terms; names = s.names }

-- each new claim is on a segment of a version, and its sides have sums
pub record AreClaims (f : Fields) (claims : List (Option Claim)) : Type 0 where
  pub count : length claims ≡ 64
  pub claimed : (seat : ℕ) (c : Claim) → slice_index_or claims seat None ≡ Some c → is_segment f.versions (held_at f.versions c.place) c.node ≡ true
  pub ready : (seat : ℕ) (c : Claim) (v : Version) → slice_index_or claims seat None ≡ Some c → held_at f.versions c.place ≡ Some v → is_kept v ≡ true
      → sides_have_sums f.versions.kept passed (tree f.versions.nodes c.node) ≡ true

pub claims_sound : (f : Fields) (claims : List (Option Claim)) → IsSound f → AreClaims f claims → IsSound (with_claims claims f)
claims_sound f claims s a = record {
  tabled = s.tabled;
  named = s.named;
  wide = s.wide;
  lives = s.lives;
  grown = s.grown;
  rooted = s.rooted;
  recorded = s.recorded;
  numbered = s.numbered;
  seats = (s.seats.0, a.count);
  pinned = s.pinned;
  counted = s.counted;
  claimed = a.claimed;
  ready = a.ready;
  room = s.room;
}

module _ (f : Fields) (sound : IsSound f) (seat : ℕ) where
  cleared : (xs : List (Option Claim)) (n other : ℕ) (c : Claim) → get_or (set xs n None) other None ≡ Some c → get_or xs other None ≡ Some c
  cleared [] n other c e = cc
  cleared (x ∷ xs) zero zero c e = cc
  cleared (x ∷ xs) zero (suc m) c e = e
  cleared (x ∷ xs) (suc n) zero c e = e
  cleared (x ∷ xs) (suc n) (suc m) c e = cleared xs n m c e

  pub none_claimed : AreClaims f (slice_set f.claims seat None)
  none_claimed = record {
    count = length-set f.claims seat None ∙ sound.seats.1;
    claimed = λ n c e. sound.claimed n c (cleared f.claims seat n c e);
    ready = λ n c v e h k. sound.ready n c v (cleared f.claims seat n c e) h k;
  }

  -- LAW: the seat has no claim any more
  pub unclaimed_sound : IsSound (with_claims (slice_set f.claims seat None) f)
  unclaimed_sound = claims_sound f (slice_set f.claims seat None) sound none_claimed

  given : (xs : List (Option Claim)) (n other : ℕ) (c d : Claim) → get_or (set xs n (Some d)) other None ≡ Some c → (P : Claim → Type 0) → (get_or xs other None ≡ Some c → P c) → P d → P c
  given [] n other c d e P old new = old e
  given (x ∷ xs) zero zero c d e P old new = let same : d ≡ c = cc in subst P same new
  given (x ∷ xs) zero (suc m) c d e P old new = old e
  given (x ∷ xs) (suc n) zero c d e P old new = old e
  given (x ∷ xs) (suc n) (suc m) c d e P old new = given xs n m c d e P old new

  -- LAW: the seat has a claim on a segment, the sides of which have sums
  pub claimed_sound : (d : Claim) → is_segment f.versions (held_at f.versions d.place) d.node ≡ true → sides_have_sums f.versions.kept passed (tree f.versions.nodes d.node) ≡ true
      → IsSound (with_claims (slice_set f.claims seat (Some d)) f)
  claimed_sound d seg sides = claims_sound f (slice_set f.claims seat (Some d)) sound (record {
    count = length-set f.claims seat (Some d) ∙ sound.seats.1;
    claimed = λ n c e. given f.claims seat n c d e (λ x. is_segment f.versions (held_at f.versions x.place) x.node ≡ true) (λ q. sound.claimed n c q) seg;
    ready = λ n c v e h k. given f.claims seat n c d e (λ x. sides_have_sums f.versions.kept passed (tree f.versions.nodes x.node) ≡ true) (λ q. sound.ready n c v q h k) sides;
  })

-- LAW: the same in the state
pub unclaimed_stands : (f : Fields) (t : State) (seat : ℕ) → Stands f t → Stands (with_claims (slice_set f.claims seat None) f) (unclaimed seat t)
unclaimed_stands f t seat s = subst (λ cs. Stands (with_claims (slice_set f.claims seat None) f) (record t { claims = slice_set cs seat None })) (sym s.claims) (claims_stand f t (slice_set f.claims seat None) s)

pub claimed_stands : (f : Fields) (t : State) (i seat node : ℕ) (p : Place) → Stands f t
    → Stands (with_claims (slice_set f.claims seat (Some (record { place = p; node = node; entry = i }))) f) (claimed i seat p node t)
claimed_stands f t i seat node p s =
    let new : Option Claim = Some (record { place = p; node = node; entry = i }) in
    subst (λ cs. Stands (with_claims (slice_set f.claims seat new) f) (record t { claims = slice_set cs seat new })) (sym s.claims) (claims_stand f t (slice_set f.claims seat new) s)

-- ---- the refused total in a pin
abbrev pub with_pins : List (Option Pin) → Fields → Fields
with_pins pins f = record f { pins = pins }

refused_by : (p : Place) (total : ℕ) (pin : Option Pin) → pins_by p (refused_pin total pin) ≡ pins_by p pin
refused_by p total None = refl
refused_by p total (Some pin) = refl

refused_on : (p : Place) (total : ℕ) (xs : List (Option Pin)) (seat : ℕ) → pins_on p (set xs seat (refused_pin total (get_or xs seat None))) ≡ pins_on p xs
refused_on p total [] seat = refl
refused_on p total (x ∷ xs) zero = ap (λ n. n + pins_on p xs) (refused_by p total x)
refused_on p total (x ∷ xs) (suc n) = ap (λ m. pins_by p x + m) (refused_on p total xs n)

-- LAW: the total that was refused is noted in the seat's pin
pub refused_sound : (f : Fields) (seat total : ℕ) → IsSound f → IsSound (with_pins (slice_set f.pins seat (refused_pin total (pin_at f seat))) f)
refused_sound f seat total s =
    let same : (p : Place) → pins_on p (slice_set f.pins seat (refused_pin total (pin_at f seat))) ≡ pins_on p f.pins = λ p. refused_on p total f.pins seat in
    record {
      tabled = s.tabled;
      named = s.named;
      wide = s.wide;
      lives = s.lives;
      grown = s.grown;
      rooted = s.rooted;
      recorded = s.recorded;
      numbered = s.numbered;
      seats = (length-set f.pins seat (refused_pin total (pin_at f seat)) ∙ s.seats.0, s.seats.1);
      pinned = λ p some. s.pinned p (omega (arith, same p, some));
      counted = λ p v e. s.counted p v e ∙ sym (same p);
      claimed = s.claimed;
      ready = s.ready;
      room = s.room;
    }

pub refused_stands : (f : Fields) (t : State) (seat total : ℕ) → Stands f t → Stands (with_pins (slice_set f.pins seat (refused_pin total (pin_at f seat))) f) (refused seat total t)
refused_stands f t seat total s =
    subst (λ ps. Stands (with_pins (slice_set f.pins seat (refused_pin total (pin_at f seat))) f) (record t { pins = slice_set ps seat (refused_pin total (slice_index_or ps seat None)) })) (sym s.pins)
    (record { circuits = s.circuits; published = s.published; unnamed = s.unnamed; pins = refl; claims = s.claims; terms = s.terms; names = s.names })
