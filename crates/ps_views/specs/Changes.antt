-- Tables of which only versions have changed: one table against another.
use Rattle.std.specs.Prelude.{ℕ, ◌≡◌, ◌+◌, ◌<◌, Bool, true, false, List, [], ◌∷◌, ◌≤◌, length, Option, Some, None, is_some}
use Rattle.ps_script.specs.declared.name.Place.{Place}
use Rattle.ps_versions.specs.Held.{Held, Version, Circuit}
use Rattle.ps_versions.specs.Lives.{is_kept, IsLife, IsLive}
use Rattle.ps_journal.specs.declared.seats.Pin.{Pin}
use Rattle.ps_journal.specs.Pinning.{new_pin}
use Rattle.ps_journal.specs.Keeping.{same_place, ended_by}
use Rattle.ps_views.specs.Counts.{pins_by}
use Rattle.ps_views.specs.Fields.{held_at}
use Rattle.ps_views.specs.declared.filed.Filed.{Filed}

-- circuits that differ in their versions alone, of which they have as many
pub record IsLike (c d : Circuit) : Type 0 where
  pub name : d.name ≡ c.name
  pub qubits : d.qubits ≡ c.qubits
  pub opened : d.opened ≡ c.opened
  pub count : length d.versions ≡ length c.versions

abbrev pub Alike : List Circuit → List Circuit → Type 0
Alike [] [] = Unit {0}
Alike [] (d ∷ ds) = ⊥
Alike (c ∷ cs) [] = ⊥
Alike (c ∷ cs) (d ∷ ds) = IsLike c d × Alike cs ds

-- nodes and records are what they were, and at each place the version was changed in this way
pub record Becomes (D : Place → Version → Version → Type 0) (old new : Held Filed) : Type 0 where
  pub nodes : new.nodes ≡ old.nodes
  pub kept : new.kept ≡ old.kept
  pub alike : Alike old.circuits new.circuits
  pub each : (p : Place) (x y : Version) → held_at old p ≡ Some x → held_at new p ≡ Some y → D p x y

-- the version at this place was v and is w, and all others are what they were
pub record Turns (p : Place) (v w : Version) (q : Place) (x y : Version) : Type 0 where
  pub here : same_place q p ≡ true → (x ≡ v) × (y ≡ w)
  pub elsewhere : same_place q p ≡ false → y ≡ x

-- n pins were taken off the version, and where it stopped being kept, it notes the entry
pub record Fades (entry n : ℕ) (x y : Version) : Type 0 where
  pub root : y.root ≡ x.root
  pub retired : y.retired ≡ x.retired
  pub pins : y.pins + n ≡ x.pins
  pub ended : y.ended ≡ ended_by entry (is_kept y) x.ended

-- n pins were put on the version, which is live if they are any
pub record Rises (n : ℕ) (x y : Version) : Type 0 where
  pub root : y.root ≡ x.root
  pub retired : y.retired ≡ x.retired
  pub pins : y.pins ≡ x.pins + n
  pub ended : y.ended ≡ x.ended
  pub live : 0 < n → x.retired ≡ None

-- whatever befell the version, where it is not kept any more, it notes the entry
pub record IsNotedBy (entry : ℕ) (x y : Version) : Type 0 where
  pub root : y.root ≡ x.root
  pub retired : y.retired ≡ x.retired
  pub ended : y.ended ≡ ended_by entry (is_kept y) x.ended

-- the version has the tree that it had, and is kept only if it was
pub record Keeps (x y : Version) : Type 0 where
  pub root : y.root ≡ x.root
  pub life : IsLife y
  pub kept : is_kept y ≡ true → is_kept x ≡ true

-- a live version is at the place
abbrev pub IsLiveAt : Held Filed → Place → Type 0
IsLiveAt h p = IsLive (held_at h p)

abbrev pub IsLiveAtMaybe : Held Filed → Option Place → Type 0
IsLiveAtMaybe h None = Unit {0}
IsLiveAtMaybe h (Some p) = IsLiveAt h p

-- each version has as many pins at least as this pin puts on it, and at most 126 others
pub record Carries (h : Held Filed) (pin : Option Pin) : Type 0 where
  pub life : (q : Place) (v : Version) → held_at h q ≡ Some v → IsLife v
  pub there : (q : Place) → 0 < pins_by q pin → is_some (held_at h q) ≡ true
  pub enough : (q : Place) (v : Version) → held_at h q ≡ Some v → pins_by q pin ≤ v.pins
  pub room : (q : Place) (v : Version) → held_at h q ≡ Some v → v.pins ≤ 126 + pins_by q pin

-- each version has room for two pins more
pub record HasRoom (h : Held Filed) : Type 0 where
  pub few : (q : Place) (v : Version) → held_at h q ≡ Some v → v.pins ≤ 126

-- a pin was taken off by an entry, and one for these places put on in place of it
pub record Holds (entry : ℕ) (pin : Option Pin) (first : Place) (second : Option Place) (old new : Held Filed) : Type 0 where
  pub mid : Held Filed
  pub released : Becomes (λ q x y. Fades entry (pins_by q pin) x y) old mid
  pub held : Becomes (λ q x y. Rises (pins_by q (Some (new_pin first second))) x y) mid new
