-- Pins of a seat: released, and held anew.
use Rattle.std.proofs.Common.{◌≡◌, ◌<◌, ◌≤◌, ◌+◌, ◌*◌, ℕ, zero, suc, Bool, true, false, cond, ◌&&◌, ◌||◌, List, [], ◌∷◌, map, length, refl, sym, ap, ap₂, ◌∙◌, subst, arith, ◌⊎◌, inl, inr}
use Rattle.std.specs.Prelude.{Option, Some, None, is_some, slice_set, slice_index_or}
use Rattle.std.proofs.lemmas.Bool.{cases_Bool}
use Rattle.ps_script.specs.declared.name.Place.{Place}
use Rattle.ps_versions.specs.Held.{Held, Version, Circuit}
use Rattle.ps_versions.specs.Lookup.{version_at, replaced}
use Rattle.ps_versions.specs.Lives.{IsLife, IsLive, IsPinned, HasFewPins, is_kept, ChangesTo, changed_to}
use Rattle.ps_versions.specs.Lives as lives
use Rattle.ps_journal.specs.declared.seats.Pin.{Pin}
use Rattle.ps_journal.specs.State.{State, Item, released}
use Rattle.ps_journal.specs.Keeping.{same_place, same_place_maybe, noted, noted_circuit, unpinned}
use Rattle.ps_journal.specs.Pinning.{new_pin}
use Rattle.ps_journal.specs.Pinning as pinning
use Rattle.ps_views.specs.Counts.{one, pins_by, pins_on}
use Rattle.ps_views.specs.Views.{circuits_of}
use Rattle.ps_views.specs.Fields.{Fields, IsSound, held_at, pin_at}
use Rattle.ps_views.specs.Stands.{Stands}
use Rattle.ps_views.specs.Changes.{Becomes, Turns, Fades, Rises, Keeps, IsNotedBy, Carries, HasRoom, Holds, IsLiveAt, IsLiveAtMaybe}
use Rattle.ps_views.specs.declared.filed.Filed.{Filed}
use Rattle.ps_views.proofs.Alike.{turned, same_place_self, same_place_parts, alike_version, alike_version_back}
use Rattle.ps_views.proofs.Versions.{fades_none, fades_one, fades_then, fades_life, fades_keeps, fades_noted, rises_none, rises_one, rises_then, rises_keeps, rises_life, noted_rises}
use Rattle.ps_views.proofs.Counting.{pins_on-set, pins_by_few, pins_on_few, pins_by_within, length-slice_set, get-slice_set, set_twice, set_same}
use Rattle.ps_views.proofs.Tables.{becomes_map, becomes_then, becomes_same, held_life, sound_after, stands_after, noted_after, some_is}

-- ---- one version changed, by the clauses of the tables
pub changes : (F : Version → Version) (old new : Held Filed) (p : Place) (v : Version) → held_at old p ≡ Some v → ChangesTo F old.circuits new.circuits p.name p.version → new.nodes ≡ old.nodes → new.kept ≡ old.kept
    → Becomes (Turns p v (F v)) old new
changes F old new p v e c n k = turned old new p v (F v) e (c ∙ ap (changed_to F old.circuits p.name p.version) e) n k

one-true : (b : Bool) → b ≡ true → one b ≡ 1
one-true b e = ap one e

one-false : (b : Bool) → b ≡ false → one b ≡ 0
one-false b e = ap one e

-- one pin is taken off
pub fades_at : (entry : ℕ) (p : Place) (v : Version) (q : Place) (x y : Version) → IsLife x → 0 < v.pins → Turns p v (lives.unpinned entry v) q x y → Fades entry (one (same_place q p)) x y
fades_at entry p v q x y life some t = by (cases_Bool (same_place q p))
  where
    by : (same_place q p ≡ true) ⊎ (same_place q p ≡ false) → Fades entry (one (same_place q p)) x y
    by (inl e) =
        let h = t.here e in
        subst (λ n. Fades entry n x y) (sym (one-true (same_place q p) e))
        (subst (λ z. Fades entry 1 x z) (ap (lives.unpinned entry) h.0 ∙ sym h.1) (fades_one entry x life (subst (λ z. 0 < z.pins) (sym h.0) some)))
    by (inr e) =
        subst (λ n. Fades entry n x y) (sym (one-false (same_place q p) e)) (subst (λ z. Fades entry 0 x z) (sym (t.elsewhere e)) (fades_none entry x life))

-- one pin is put on
pub rises_at : (p : Place) (v : Version) (q : Place) (x y : Version) → v.retired ≡ None → Turns p v (lives.pinned v) q x y → Rises (one (same_place q p)) x y
rises_at p v q x y live t = by (cases_Bool (same_place q p))
  where
    by : (same_place q p ≡ true) ⊎ (same_place q p ≡ false) → Rises (one (same_place q p)) x y
    by (inl e) =
        let h = t.here e in
        subst (λ n. Rises n x y) (sym (one-true (same_place q p) e))
        (subst (λ z. Rises 1 x z) (ap lives.pinned h.0 ∙ sym h.1) (rises_one x (subst (λ z. z.retired ≡ None) (sym h.0) live)))
    by (inr e) =
        subst (λ n. Rises n x y) (sym (one-false (same_place q p) e)) (subst (λ z. Rises 0 x z) (sym (t.elsewhere e)) (rises_none x))

-- ---- pins taken off
module _ (entry : ℕ) (h : Held Filed) (pin : Pin) (carries : Carries h (Some pin)) where
  -- the first version is there, and has a pin
  pub first_pinned : (v : Version) × (held_at h pin.first ≡ Some v) × (0 < v.pins)
  first_pinned =
      let here : one (same_place pin.first pin.first) ≡ 1 = one-true (same_place pin.first pin.first) (same_place_self pin.first) in
      let x = some_is (held_at h pin.first) (carries.there pin.first (omega (arith, here))) in
      (x.0, x.1, omega (arith, here, carries.enough pin.first x.0 x.1))

  pub first_is_pinned : IsPinned (held_at h pin.first)
  first_is_pinned = let x = first_pinned in subst (λ o. IsPinned o) (sym x.1) x.2

  -- it loses one
  pub fades_first : (mid : Held Filed) → ChangesTo (lives.unpinned entry) h.circuits mid.circuits pin.first.name pin.first.version → mid.nodes ≡ h.nodes → mid.kept ≡ h.kept
      → Becomes (λ q x y. Fades entry (one (same_place q pin.first)) x y) h mid
  fades_first mid c n k =
      let v = first_pinned in
      becomes_map (Turns pin.first v.0 (lives.unpinned entry v.0)) (λ q x y. Fades entry (one (same_place q pin.first)) x y) (λ q x y. Unit {0}) h mid
      (changes (lives.unpinned entry) h mid pin.first v.0 v.1 c n k) (λ q x y g t. fades_at entry pin.first v.0 q x y (carries.life q x g) v.2 t)

  -- with no second version, that is all
  pub fades_alone : (new : Held Filed) → pin.second ≡ None → Becomes (λ q x y. Fades entry (one (same_place q pin.first)) x y) h new → Becomes (λ q x y. Fades entry (pins_by q (Some pin)) x y) h new
  fades_alone new none b =
      becomes_map (λ q x y. Fades entry (one (same_place q pin.first)) x y) (λ q x y. Fades entry (pins_by q (Some pin)) x y) (λ q x y. Unit {0}) h new b
      (λ q x y g d. subst (λ n. Fades entry n x y) (zero_more (one (same_place q pin.first)) (one (same_place_maybe q pin.second)) (ap (λ o. one (same_place_maybe q o)) none)) d)
    where
      zero_more : (a b : ℕ) → b ≡ 0 → a ≡ a + b
      zero_more a b e = omega (arith, e)

  module _ (second : Place) (mid : Held Filed) (s : pin.second ≡ Some second) (b : Becomes (λ q x y. Fades entry (one (same_place q pin.first)) x y) h mid) where
    -- the second version has a pin still
    pub second_pinned : (w : Version) × (held_at mid second ≡ Some w) × (0 < w.pins)
    second_pinned =
        let here : one (same_place_maybe second pin.second) ≡ 1 = ap (λ o. one (same_place_maybe second o)) s ∙ one-true (same_place second second) (same_place_self second) in
        let x = some_is (held_at h second) (carries.there second (omega (arith, here))) in
        let y = alike_version h.circuits mid.circuits second.name second.version x.0 b.alike x.1 in
        let fades = b.each second x.0 y.0 x.1 y.1 in
        (y.0, y.1, omega (arith, here, fades.pins, carries.enough second x.0 x.1))

    pub second_is_pinned : IsPinned (held_at mid second)
    second_is_pinned = let x = second_pinned in subst (λ o. IsPinned o) (sym x.1) x.2

    pub fades_both : (new : Held Filed) → ChangesTo (lives.unpinned entry) mid.circuits new.circuits second.name second.version → new.nodes ≡ mid.nodes → new.kept ≡ mid.kept
        → Becomes (λ q x y. Fades entry (pins_by q (Some pin)) x y) h new
    fades_both new c n k =
        let w = second_pinned in
        becomes_then (λ q x y. Fades entry (one (same_place q pin.first)) x y) (Turns second w.0 (lives.unpinned entry w.0)) (λ q x y. Fades entry (pins_by q (Some pin)) x y) h mid new b
        (changes (lives.unpinned entry) mid new second w.0 w.1 c n k)
        (λ q x y z g d t. subst (λ n. Fades entry n x z) (number q)
        (fades_then entry (one (same_place q pin.first)) (one (same_place q second)) x y z d
        (fades_at entry second w.0 q y z (fades_life entry (one (same_place q pin.first)) x y (carries.life q x g) d) w.2 t)))
      where
        number : (q : Place) → one (same_place q pin.first) + one (same_place q second) ≡ pins_by q (Some pin)
        number q = ap (λ o. one (same_place q pin.first) + one (same_place_maybe q o)) (sym s)

-- ---- pins put on
live_is : (o : Option Version) → IsLive o → (v : Version) × (o ≡ Some v) × (v.retired ≡ None)
live_is None h = absurd h
live_is (Some v) h = (v, refl, h)

-- what is live stays live, where no entry retires it
pub live_after : (D : Place → Version → Version → Type 0) (a b : Held Filed) → Becomes D a b → ((q : Place) (x y : Version) → D q x y → y.retired ≡ x.retired) → (p : Place) → IsLiveAt a p → IsLiveAt b p
live_after D a b d f p live =
    let x = live_is (held_at a p) live in
    let y = alike_version a.circuits b.circuits p.name p.version x.0 d.alike x.1 in
    subst (λ o. IsLive o) (sym y.1) (f p x.0 y.0 (d.each p x.0 y.0 x.1 y.1) ∙ x.2)

few_pins : (o : Option Version) (v : Version) → o ≡ Some v → v.pins < 128 → HasFewPins o
few_pins o v e h = subst (λ o. HasFewPins o) (sym e) h

module _ (h : Held Filed) (first : Place) (room : HasRoom h) (live : IsLiveAt h first) where
  pub first_has_few : HasFewPins (held_at h first)
  first_has_few = let x = live_is (held_at h first) live in few_pins (held_at h first) x.0 x.1 (omega (arith, room.few first x.0 x.1))

  pub rises_first : (mid : Held Filed) → ChangesTo lives.pinned h.circuits mid.circuits first.name first.version → mid.nodes ≡ h.nodes → mid.kept ≡ h.kept
      → Becomes (λ q x y. Rises (one (same_place q first)) x y) h mid
  rises_first mid c n k =
      let v = live_is (held_at h first) live in
      becomes_map (Turns first v.0 (lives.pinned v.0)) (λ q x y. Rises (one (same_place q first)) x y) (λ q x y. Unit {0}) h mid
      (changes lives.pinned h mid first v.0 v.1 c n k) (λ q x y g t. rises_at first v.0 q x y v.2 t)

  pub rises_alone : (new : Held Filed) → Becomes (λ q x y. Rises (one (same_place q first)) x y) h new → Becomes (λ q x y. Rises (pins_by q (Some (new_pin first None))) x y) h new
  rises_alone new b =
      becomes_map (λ q x y. Rises (one (same_place q first)) x y) (λ q x y. Rises (pins_by q (Some (new_pin first None))) x y) (λ q x y. Unit {0}) h new b
      (λ q x y g d. subst (λ n. Rises n x y) (zero_more (one (same_place q first))) d)
    where
      zero_more : (a : ℕ) → a ≡ a + 0
      zero_more a = omega arith

  module _ (second : Place) (mid : Held Filed) (also : IsLiveAt h second) (b : Becomes (λ q x y. Rises (one (same_place q first)) x y) h mid) where
    pub second_is_live : IsLiveAt mid second
    second_is_live = live_after (λ q x y. Rises (one (same_place q first)) x y) h mid b (λ q x y d. d.retired) second also

    pub second_has_few : HasFewPins (held_at mid second)
    second_has_few =
        let x = live_is (held_at h second) also in
        let y = alike_version h.circuits mid.circuits second.name second.version x.0 b.alike x.1 in
        few_pins (held_at mid second) y.0 y.1 (omega (arith, (b.each second x.0 y.0 x.1 y.1).pins, room.few second x.0 x.1, one_few (same_place second first)))
      where
        one_few : (b : Bool) → one b ≤ 1
        one_few true = omega arith
        one_few false = omega arith

    pub rises_both : (new : Held Filed) → ChangesTo lives.pinned mid.circuits new.circuits second.name second.version → new.nodes ≡ mid.nodes → new.kept ≡ mid.kept
        → Becomes (λ q x y. Rises (pins_by q (Some (new_pin first (Some second)))) x y) h new
    rises_both new c n k =
        let w = live_is (held_at mid second) second_is_live in
        becomes_then (λ q x y. Rises (one (same_place q first)) x y) (Turns second w.0 (lives.pinned w.0)) (λ q x y. Rises (pins_by q (Some (new_pin first (Some second)))) x y) h mid new b
        (changes lives.pinned mid new second w.0 w.1 c n k)
        (λ q x y z g d t. rises_then (one (same_place q first)) (one (same_place q second)) x y z d (rises_at second w.0 q y z w.2 t))

-- ---- released
-- a pin of nothing takes nothing off
pub fades_nothing : (entry : ℕ) (h : Held Filed) (pin : Option Pin) → Carries h pin → pin ≡ None → Becomes (λ q x y. Fades entry (pins_by q pin) x y) h h
fades_nothing entry h pin carries e = becomes_same (λ q x y. Fades entry (pins_by q pin) x y) h (λ q x g. subst (λ o. Fades entry (pins_by q o) x x) (sym e) (fades_none entry x (carries.life q x g)))

-- where a pin is taken off, there is room for two
pub room_left : (entry : ℕ) (h mid : Held Filed) (pin : Option Pin) → Carries h pin → Becomes (λ q x y. Fades entry (pins_by q pin) x y) h mid → HasRoom mid
room_left entry h mid pin carries b = record {
  few = λ q y g.
      let x = alike_version_back h.circuits mid.circuits q.name q.version y b.alike g in
      omega (arith, (b.each q x.0 y x.1 g).pins, carries.room q x.0 x.1);
}

pub still_live : (entry : ℕ) (h mid : Held Filed) (pin : Option Pin) → Becomes (λ q x y. Fades entry (pins_by q pin) x y) h mid → (p : Place) → IsLiveAt h p → IsLiveAt mid p
still_live entry h mid pin b p live = live_after (λ q x y. Fades entry (pins_by q pin) x y) h mid b (λ q x y d. d.retired) p live

pub still_live_maybe : (entry : ℕ) (h mid : Held Filed) (pin : Option Pin) → Becomes (λ q x y. Fades entry (pins_by q pin) x y) h mid → (o : Option Place) → IsLiveAtMaybe h o → IsLiveAtMaybe mid o
still_live_maybe entry h mid pin b None live = tt
still_live_maybe entry h mid pin b (Some p) live = still_live entry h mid pin b p live

pub carries : (seat : ℕ) (f : Fields) → IsSound f → seat < 64 → Carries f.versions (pin_at f seat)
carries seat f sound near = record {
  life = held_life f sound;
  there = λ q h. sound.pinned q (omega (arith, h, pins_by_within q f.pins seat));
  enough = λ q v e. omega (arith, pins_by_within q f.pins seat, sound.counted q v e);
  room = λ q v e. omega (arith, sound.counted q v e, at_most q);
}
  where
    two : (q : Place) → Pin
    two q = record { first = q; second = Some q; refused = None }

    at_most : (q : Place) → pins_on q f.pins ≤ 126 + pins_by q (pin_at f seat)
    at_most q =
        let set : pins_on q (slice_set f.pins seat (Some (two q))) + pins_by q (pin_at f seat) ≡ pins_on q f.pins + pins_by q (Some (two q)) = pins_on-set q f.pins seat (Some (two q)) (omega (arith, near, sound.seats.0)) in
        let here : one (same_place q q) ≡ 1 = one-true (same_place q q) (same_place_self q) in
        let bound : pins_on q (slice_set f.pins seat (Some (two q))) ≤ 2 * length (slice_set f.pins seat (Some (two q))) = pins_on_few q (slice_set f.pins seat (Some (two q))) in
        let count : length (slice_set f.pins seat (Some (two q))) ≡ 64 = length-slice_set f.pins seat (Some (two q)) ∙ sound.seats.0 in
        omega (arith, set, here, bound, count)

module _ (entry seat : ℕ) (f : Fields) (sound : IsSound f) (near : seat < 64) (new : Held Filed) (b : Becomes (λ q x y. Fades entry (pins_by q (pin_at f seat)) x y) f.versions new) where
  fewer : (q : Place) → pins_on q (slice_set f.pins seat None) + pins_by q (pin_at f seat) ≡ pins_on q f.pins
  fewer q = omega (arith, pins_on-set q f.pins seat None (omega (arith, near, sound.seats.0)))

  counted : (q : Place) (y : Version) → held_at new q ≡ Some y → y.pins ≡ pins_on q (slice_set f.pins seat None)
  counted q y g =
      let x = alike_version_back f.versions.circuits new.circuits q.name q.version y b.alike g in
      let fades = b.each q x.0 y x.1 g in
      omega (arith, fades.pins, fewer q, sound.counted q x.0 x.1)

  keeps : Becomes (λ q x y. Keeps x y) f.versions new
  keeps = becomes_map (λ q x y. Fades entry (pins_by q (pin_at f seat)) x y) (λ q x y. Keeps x y) (λ q x y. Unit {0}) f.versions new b (λ q x y g d. fades_keeps entry (pins_by q (pin_at f seat)) x y (held_life f sound q x g) d)

  notes : Becomes (λ q x y. IsNotedBy entry x y) f.versions new
  notes = becomes_map (λ q x y. Fades entry (pins_by q (pin_at f seat)) x y) (λ q x y. IsNotedBy entry x y) (λ q x y. Unit {0}) f.versions new b (λ q x y g d. fades_noted entry (pins_by q (pin_at f seat)) x y d)

  pinned_still : (q : Place) → 0 < pins_on q (slice_set f.pins seat None) → is_some (held_at f.versions q) ≡ true
  pinned_still q h = sound.pinned q (omega (arith, h, fewer q))

  seats : length (slice_set f.pins seat None) ≡ 64
  seats = length-slice_set f.pins seat None ∙ sound.seats.0

  pub released_sound : IsSound (record f { versions = new; pins = slice_set f.pins seat None })
  released_sound = sound_after f sound new (slice_set f.pins seat None) keeps counted pinned_still seats

  pub released_stands : (t : State) → Stands f t → Stands (record f { versions = new; pins = slice_set f.pins seat None }) (unpinned entry seat t)
  released_stands t s = stands_after f sound new (slice_set f.pins seat None) keeps counted pinned_still seats t (unpinned entry seat t) s circuits refl pins refl refl refl
    where
      pins : slice_set t.pins seat None ≡ slice_set f.pins seat None
      pins = ap (λ ps. slice_set ps seat None) s.pins

      circuits : map (noted_circuit entry (slice_set t.pins seat None)) t.circuits ≡ circuits_of f.items f.versions.nodes f.tables new.circuits
      circuits = ap₂ (λ ps cs. map (noted_circuit entry ps) cs) pins s.circuits ∙ noted_after entry (slice_set f.pins seat None) f.items f.tables f.versions new sound.named notes counted

  -- ---- held anew
  module _ (pin : Pin) (last : Held Filed) (r : Becomes (λ q x y. Rises (pins_by q (Some pin)) x y) new last) (there : (q : Place) → 0 < pins_by q (Some pin) → is_some (held_at new q) ≡ true) where
    mid : Fields
    mid = record f { versions = new; pins = slice_set f.pins seat None }

    held_pins : List (Option Pin)
    held_pins = slice_set (slice_set f.pins seat None) seat (Some pin)

    more : (q : Place) → pins_on q (slice_set (slice_set f.pins seat None) seat (Some pin)) ≡ pins_on q (slice_set f.pins seat None) + pins_by q (Some pin)
    more q =
        let set = pins_on-set q (slice_set f.pins seat None) seat (Some pin) (omega (arith, near, seats)) in
        let none : pins_by q (slice_index_or (slice_set f.pins seat None) seat None) ≡ 0 = ap (pins_by q) (get-slice_set f.pins seat None None (omega (arith, near, sound.seats.0))) in
        omega (arith, set, none)

    held_seats : length (slice_set (slice_set f.pins seat None) seat (Some pin)) ≡ 64
    held_seats = length-slice_set (slice_set f.pins seat None) seat (Some pin) ∙ seats

    held_counted : (q : Place) (z : Version) → held_at last q ≡ Some z → z.pins ≡ pins_on q (slice_set (slice_set f.pins seat None) seat (Some pin))
    held_counted q z g =
        let y = alike_version_back new.circuits last.circuits q.name q.version z r.alike g in
        let rises = r.each q y.0 z y.1 g in
        omega (arith, rises.pins, counted q y.0 y.1, more q)

    held_few : (q : Place) (z : Version) → held_at last q ≡ Some z → z.pins ≤ 128
    held_few q z g = omega (arith, held_counted q z g, pins_on_few q (slice_set (slice_set f.pins seat None) seat (Some pin)), held_seats)

    held_keeps : Becomes (λ q x y. Keeps x y) new last
    held_keeps = record {
      nodes = r.nodes;
      kept = r.kept;
      alike = r.alike;
      each = λ q y z e g. rises_keeps (pins_by q (Some pin)) y z (held_life (record f { versions = new; pins = slice_set f.pins seat None }) released_sound q y e) (r.each q y z e g) (held_few q z g);
    }

    held_pinned : (q : Place) → 0 < pins_on q (slice_set (slice_set f.pins seat None) seat (Some pin)) → is_some (held_at new q) ≡ true
    held_pinned q h = by (pins_by q (Some pin)) refl
      where
        by : (n : ℕ) → pins_by q (Some pin) ≡ n → is_some (held_at new q) ≡ true
        by zero e = released_sound.pinned q (omega (arith, h, more q, e))
        by (suc n) e = there q (omega (arith, e))

    pub held_sound : IsSound (record f { versions = last; pins = slice_set (slice_set f.pins seat None) seat (Some pin) })
    held_sound = sound_after (record f { versions = new; pins = slice_set f.pins seat None }) released_sound last (slice_set (slice_set f.pins seat None) seat (Some pin)) held_keeps held_counted held_pinned held_seats

    held_notes : Becomes (λ q x y. IsNotedBy entry x y) f.versions last
    held_notes = becomes_then (λ q x y. IsNotedBy entry x y) (λ q x y. Rises (pins_by q (Some pin)) x y) (λ q x y. IsNotedBy entry x y) f.versions new last notes r (λ q x y z g a b. noted_rises entry (pins_by q (Some pin)) x y z a b)

    pub held_stands : (t : State) → Stands f t → Stands (record f { versions = last; pins = slice_set (slice_set f.pins seat None) seat (Some pin) }) (noted entry (record t { pins = slice_set t.pins seat (Some pin) }))
    held_stands t s =
        stands_after (record f { versions = new; pins = slice_set f.pins seat None }) released_sound last (slice_set (slice_set f.pins seat None) seat (Some pin)) held_keeps held_counted held_pinned held_seats
        (unpinned entry seat t) (noted entry (record t { pins = slice_set t.pins seat (Some pin) })) (released_stands t s) circuits refl pins refl refl refl
      where
        pins : slice_set t.pins seat (Some pin) ≡ slice_set (slice_set f.pins seat None) seat (Some pin)
        pins = ap (λ ps. slice_set ps seat (Some pin)) s.pins ∙ sym (set_twice f.pins seat None (Some pin))

        circuits : map (noted_circuit entry (slice_set t.pins seat (Some pin))) t.circuits ≡ circuits_of f.items new.nodes f.tables last.circuits
        circuits = ap₂ (λ ps cs. map (noted_circuit entry ps) cs) pins s.circuits
            ∙ noted_after entry (slice_set (slice_set f.pins seat None) seat (Some pin)) f.items f.tables f.versions last sound.named held_notes held_counted
            ∙ ap (λ ns. circuits_of f.items ns f.tables last.circuits) (sym b.nodes)

-- the places of a new pin are there, where they are live
pub new_there : (h : Held Filed) (first : Place) (second : Option Place) → IsLiveAt h first → IsLiveAtMaybe h second → (q : Place) → 0 < pins_by q (Some (new_pin first second)) → is_some (held_at h q) ≡ true
new_there h first second live also q some = by (cases_Bool (same_place q first))
  where
    at : (p : Place) → IsLiveAt h p → same_place q p ≡ true → is_some (held_at h q) ≡ true
    at p l e =
        let parts = same_place_parts q p e in
        let x = live_is (held_at h p) l in
        ap is_some (ap₂ (λ a b. version_at h.circuits a b) parts.0 parts.1 ∙ x.1)

    other : (o : Option Place) → IsLiveAtMaybe h o → 0 < one (same_place_maybe q o) → is_some (held_at h q) ≡ true
    other None l h = absurd (omega (arith, h))
    other (Some p) l g = inner (cases_Bool (same_place q p))
      where
        inner : (same_place q p ≡ true) ⊎ (same_place q p ≡ false) → is_some (held_at h q) ≡ true
        inner (inl e) = at p l e
        inner (inr e) = absurd (omega (arith, one-false (same_place q p) e, g))

    by : (same_place q first ≡ true) ⊎ (same_place q first ≡ false) → is_some (held_at h q) ≡ true
    by (inl e) = at first live e
    by (inr e) = other second also (omega (arith, some, one-false (same_place q first) e))

-- ---- in the words of the service
module _ (entry seat : ℕ) (f : Fields) (sound : IsSound f) (near : seat < 64) (new : Held Filed) (pins : List (Option Pin)) where
  pub release_sound : Becomes (λ q x y. Fades entry (pins_by q (pin_at f seat)) x y) f.versions new → pins ≡ slice_set f.pins seat None → IsSound (record f { versions = new; pins = pins })
  release_sound b e = subst (λ ps. IsSound (record f { versions = new; pins = ps })) (sym e) (released_sound entry seat f sound near new b)

  pub release_stands : Becomes (λ q x y. Fades entry (pins_by q (pin_at f seat)) x y) f.versions new → pins ≡ slice_set f.pins seat None → (t : State) → Stands f t → Stands (record f { versions = new; pins = pins }) (unpinned entry seat t)
  release_stands b e t s = subst (λ ps. Stands (record f { versions = new; pins = ps }) (unpinned entry seat t)) (sym e) (released_stands entry seat f sound near new b t s)

  module _ (first : Place) (second : Option Place) (live : IsLiveAt f.versions first) (also : IsLiveAtMaybe f.versions second) (h : Holds entry (pin_at f seat) first second f.versions new)
      (e : pins ≡ slice_set (slice_set f.pins seat None) seat (Some (new_pin first second))) where
    there : (q : Place) → 0 < pins_by q (Some (new_pin first second)) → is_some (held_at h.mid q) ≡ true
    there = new_there h.mid first second (still_live entry f.versions h.mid (pin_at f seat) h.released first live) (still_live_maybe entry f.versions h.mid (pin_at f seat) h.released second also)

    pub hold_sound : IsSound (record f { versions = new; pins = pins })
    hold_sound = subst (λ ps. IsSound (record f { versions = new; pins = ps })) (sym e) (held_sound entry seat f sound near h.mid h.released (new_pin first second) new h.held there)

    pub hold_stands : (t : State) → Stands f t → Stands (record f { versions = new; pins = pins }) (pinning.pinned entry seat first second t)
    hold_stands t s = subst (λ ps. Stands (record f { versions = new; pins = ps }) (pinning.pinned entry seat first second t)) (sym e) (held_stands entry seat f sound near h.mid h.released (new_pin first second) new h.held there t s)
