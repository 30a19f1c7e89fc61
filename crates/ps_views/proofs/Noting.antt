-- What the state notes of versions that are not kept, and what the tables hold.
use Rattle.std.proofs.Common.{◌≡◌, ◌<◌, ◌≤◌, ◌+◌, ◌-◌, ℕ, zero, suc, Bool, true, false, ◌&&◌, ◌||◌, List, [], ◌∷◌, map, length, refl, sym, ap, ap₂, ◌∙◌, subst, arith}
use Rattle.std.specs.Prelude.{Option, Some, None, slice_get, is_none, nat_lt}
use Rattle.std.proofs.lemmas.Bool.Decides.{nat_tests}
use Rattle.seg_tree.specs.Trees.{Tree}
use Rattle.qasm_expand.specs.Circuits.{TableOf}
use Rattle.ps_script.specs.declared.name.Place.{Place}
use Rattle.ps_versions.specs.Held as held
use Rattle.ps_versions.specs.Lookup.{place_of, version_in}
use Rattle.ps_versions.specs.Lookup as table
use Rattle.ps_versions.specs.Lives.{IsLife}
use Rattle.ps_versions.specs.Lives as lives
use Rattle.ps_journal.specs.declared.seats.Pin.{Pin}
use Rattle.ps_journal.specs.State.{Item, Version, Circuit}
use Rattle.ps_journal.specs.Keeping.{is_pinned, is_kept, ended_by, noted_version, noted_versions, noted_circuit, pins_place_maybe, same_place, same_place_maybe}
use Rattle.ps_views.specs.Counts.{one, pins_by, pins_on}
use Rattle.ps_views.specs.Views.{version_of, circuit_of, circuits_of}
use Rattle.ps_views.specs.Changes.{IsLike, Alike}
use Rattle.ps_views.proofs.Alike.{alike-place, version_whole}

-- ---- versions, one by one
module _ (i : ℕ) (pins : List (Option Pin)) (items : List Item) (nodes : List (Tree ℕ)) where
  -- the version noted is that of the tables
  abbrev pub IsNoted : Place → held.Version → held.Version → Type 0
  IsNoted p x y = noted_version i (is_kept pins p (version_of items nodes x)) (version_of items nodes x) ≡ version_of items nodes y

  noted_list : (name : List ℕ) (n : ℕ) (xs ys : List held.Version) → length ys ≡ length xs
      → ((k m : ℕ) (x y : held.Version) → m ≡ n + k → slice_get xs k ≡ Some x → slice_get ys k ≡ Some y → IsNoted (record { name = name; version = m }) x y)
      → noted_versions i pins name n (map (version_of items nodes) xs) ≡ map (version_of items nodes) ys
  noted_list name n [] [] l h = refl
  noted_list name n [] (y ∷ ys) l h = absurd (omega arith)
  noted_list name n (x ∷ xs) [] l h = absurd (omega arith)
  noted_list name n (x ∷ xs) (y ∷ ys) l h =
      ap₂ (λ v vs. v ∷ vs) (h 0 n x y (omega arith) refl refl) (noted_list name (suc n) xs ys (omega (arith, l)) (λ k m u w e f g. h (suc k) m u w (omega (arith, e)) f g))

  noted_circuits : (tables : List TableOf) (cs ds : List held.Circuit) → Alike cs ds
      → ((j k m : ℕ) (c d : held.Circuit) (x y : held.Version) → m ≡ suc k → slice_get cs j ≡ Some c → slice_get ds j ≡ Some d → slice_get c.versions k ≡ Some x → slice_get d.versions k ≡ Some y → IsNoted (record { name = c.name; version = m }) x y)
      → map (noted_circuit i pins) (circuits_of items nodes tables cs) ≡ circuits_of items nodes tables ds
  noted_circuits [] cs ds a h = refl
  noted_circuits (t ∷ tables) [] [] a h = refl
  noted_circuits (t ∷ tables) [] (d ∷ ds) a h = absurd a
  noted_circuits (t ∷ tables) (c ∷ cs) [] a h = absurd a
  noted_circuits (t ∷ tables) (c ∷ cs) (d ∷ ds) a h =
      ap₂ (λ u us. u ∷ us) one (noted_circuits tables cs ds a.1 (λ j k m u w x y e f g. h (suc j) k m u w x y e f g))
    where
      whole : (n m : List ℕ) (q r o p : ℕ) (vs ws : List Version) → n ≡ m → q ≡ r → o ≡ p → vs ≡ ws
          → ◌≡◌ {A = Circuit} (record { name = n; opened = o; qubits = q; table = t; versions = vs }) (record { name = m; opened = p; qubits = r; table = t; versions = ws })
      whole n m q r o p vs ws e f g h = cc

      one : noted_circuit i pins (circuit_of items nodes t c) ≡ circuit_of items nodes t d
      one = whole c.name d.name c.qubits d.qubits c.opened d.opened (noted_versions i pins c.name 1 (map (version_of items nodes) c.versions)) (map (version_of items nodes) d.versions)
          (sym a.0.name) (sym a.0.qubits) (sym a.0.opened)
          (noted_list c.name 1 c.versions d.versions a.0.count (λ k m x y e f g. h 0 k m c d x y (omega (arith, e)) refl refl f g))

  -- the state's circuits noted are those of the tables, where each version is so at its place
  pub noted_seen : (tables : List TableOf) (cs ds : List held.Circuit) → Alike cs ds → ((j : ℕ) (c : held.Circuit) → slice_get cs j ≡ Some c → place_of cs c.name ≡ Some j)
      → ((p : Place) (x y : held.Version) → table.version_at cs p.name p.version ≡ Some x → table.version_at ds p.name p.version ≡ Some y → IsNoted p x y)
      → map (noted_circuit i pins) (circuits_of items nodes tables cs) ≡ circuits_of items nodes tables ds
  noted_seen tables cs ds a named each = noted_circuits tables cs ds a at
    where
      number : (c : held.Circuit) (k m : ℕ) → m ≡ suc k → version_in (Some c) m ≡ slice_get c.versions k
      number c k m e = ap (version_in (Some c)) e

      at : (j k m : ℕ) (c d : held.Circuit) (x y : held.Version) → m ≡ suc k → slice_get cs j ≡ Some c → slice_get ds j ≡ Some d → slice_get c.versions k ≡ Some x → slice_get d.versions k ≡ Some y → IsNoted (record { name = c.name; version = m }) x y
      at j k m c d x y e f g u w =
          each (record { name = c.name; version = m }) x y
          (version_whole cs c.name m j c (named j c f) f ∙ number c k m e ∙ u)
          (version_whole ds c.name m j d (alike-place cs ds c.name a ∙ named j c f) g ∙ number d k m e ∙ w)

-- ---- which versions are pinned
pub pinned_counted : (p : Place) (pins : List (Option Pin)) → is_pinned pins p ≡ nat_lt 0 (pins_on p pins)
pinned_counted p [] = refl
pinned_counted p (pin ∷ pins) = ap₂ (λ a b. a || b) (one_pin pin) (pinned_counted p pins) ∙ either (pins_by p pin) (pins_on p pins)
  where
    either : (m n : ℕ) → (nat_lt 0 m || nat_lt 0 n) ≡ nat_lt 0 (m + n)
    either m n = grind (arith, nat_tests)

    of_one : (a : Bool) → a ≡ nat_lt 0 (one a)
    of_one true = refl
    of_one false = refl

    one_pin : (pin : Option Pin) → pins_place_maybe p pin ≡ nat_lt 0 (pins_by p pin)
    one_pin None = refl
    one_pin (Some pin) = ap₂ (λ a b. a || b) (of_one (same_place p pin.first)) (of_one (same_place_maybe p pin.second)) ∙ either (one (same_place p pin.first)) (one (same_place_maybe p pin.second))
