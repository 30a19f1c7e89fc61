-- A version retired.
use Rattle.std.proofs.Common.{◌≡◌, ◌<◌, ◌≤◌, ◌+◌, ◌-◌, ℕ, zero, suc, Bool, true, false, List, [], ◌∷◌, map, length, refl, sym, ap, ap₂, ◌∙◌, subst, arith, ◌⊎◌, inl, inr}
use Rattle.std.specs.Prelude.{Option, Some, None, slice_get, is_some}
use Rattle.std.proofs.lemmas.Bool.{cases_Bool}
use Rattle.qasm_expand.specs.Circuits.{TableOf}
use Rattle.ps_script.specs.declared.name.Place.{Place}
use Rattle.ps_versions.specs.Held.{Held, Version, Circuit}
use Rattle.ps_versions.specs.Lookup.{place_of, version_in, version_at, with_version, change_at, replaced, replaced_in}
use Rattle.ps_versions.specs.Lives.{IsLife, ChangesTo}
use Rattle.ps_versions.specs.Lives as lives
use Rattle.ps_journal.specs.State.{State, with_circuit}
use Rattle.ps_journal.specs.State as model
use Rattle.ps_journal.specs.Keeping.{same_place, noted, noted_circuit}
use Rattle.ps_journal.specs.Retiring.{retired, retired_in, retired_version}
use Rattle.ps_views.specs.Counts.{pins_on}
use Rattle.ps_views.specs.Views.{version_of, circuit_of, circuits_of}
use Rattle.ps_views.specs.Fields.{Fields, IsSound, held_at}
use Rattle.ps_views.specs.Stands.{Stands}
use Rattle.ps_views.specs.Changes.{Alike, Becomes, Turns, Keeps, IsNotedBy}
use Rattle.ps_views.specs.declared.filed.Filed.{Filed}
use Rattle.ps_views.proofs.Lookups.{with_circuit_seen, with_version_seen}
use Rattle.ps_views.proofs.Alike.{turned, alike-trans, alike-sym, alike-place, alike_back, alike-replaced, alike_version_back, version_parts}
use Rattle.ps_views.proofs.Versions.{retired_noted, retired_keeps, noted_same, keeps_same}
use Rattle.ps_views.proofs.Tables.{held_life, sound_after, stands_after, noted_after}
use Rattle.ps_views.proofs.Holding.{changes}

module _ (entry : ℕ) (f : Fields) (sound : IsSound f) (p : Place) (v : Version) (there : held_at f.versions p ≡ Some v) (live : v.retired ≡ None) (new : Held Filed)
    (circuits : ChangesTo (lives.retired entry) f.versions.circuits new.circuits p.name p.version) (nodes : new.nodes ≡ f.versions.nodes) (kept : new.kept ≡ f.versions.kept) where
  turns : Becomes (Turns p v (lives.retired entry v)) f.versions new
  turns = changes (lives.retired entry) f.versions new p v there circuits nodes kept

  keeps_at : (q : Place) (x y : Version) → IsLife x → Turns p v (lives.retired entry v) q x y → (Keeps x y) × (y.pins ≡ x.pins)
  keeps_at q x y life t = by (cases_Bool (same_place q p))
    where
      by : (same_place q p ≡ true) ⊎ (same_place q p ≡ false) → (Keeps x y) × (y.pins ≡ x.pins)
      by (inl e) =
          let h = t.here e in
          let same : lives.retired entry x ≡ y = ap (lives.retired entry) h.0 ∙ sym h.1 in
          (subst (λ z. Keeps x z) same (retired_keeps entry x life (subst (λ z. z.retired ≡ None) (sym h.0) live)), ap (λ z. z.pins) (sym same))
      by (inr e) = let same = t.elsewhere e in (subst (λ z. Keeps x z) (sym same) (keeps_same x life), ap (λ z. z.pins) same)

  keeps : Becomes (λ q x y. Keeps x y) f.versions new
  keeps = record { nodes = nodes; kept = kept; alike = turns.alike; each = λ q x y e g. (keeps_at q x y (held_life f sound q x e) (turns.each q x y e g)).0 }

  counted : (q : Place) (y : Version) → held_at new q ≡ Some y → y.pins ≡ pins_on q f.pins
  counted q y g =
      let x = alike_version_back f.versions.circuits new.circuits q.name q.version y turns.alike g in
      (keeps_at q x.0 y (held_life f sound q x.0 x.1) (turns.each q x.0 y x.1 g)).1 ∙ sound.counted q x.0 x.1

  pub retired_sound : IsSound (record f { versions = new })
  retired_sound = sound_after f sound new f.pins keeps counted sound.pinned sound.seats.0

  -- the version when it is only marked
  pub marked_seen : with_circuit (retired_in entry p.version) p.name (circuits_of f.items f.versions.nodes f.tables f.versions.circuits)
      ≡ circuits_of f.items f.versions.nodes f.tables (replaced f.versions.circuits p.name p.version (record v { retired = Some entry }))
  marked_seen =
      let s = version_parts f.versions.circuits p.name p.version v there in
      with_circuit_seen f.items f.versions.nodes (retired_in entry p.version) (with_version p.version (record v { retired = Some entry })) f.tables f.versions.circuits p.name s.0 s.1 sound.tabled s.2 s.3 (λ g. one g s.1 p.version s.4)
      ∙ ap (λ o. circuits_of f.items f.versions.nodes f.tables (replaced_in f.versions.circuits o p.version (record v { retired = Some entry }))) (sym s.2)
    where
      one : (g : TableOf) (c : Circuit) (n : ℕ) → version_in (Some c) n ≡ Some v → retired_in entry n (circuit_of f.items f.versions.nodes g c) ≡ circuit_of f.items f.versions.nodes g (with_version n (record v { retired = Some entry }) c)
      one g c zero e = cc
      one g c (suc k) e =
          let s : k ≡ suc k - 1 = omega arith in
          ap (whole g c) (with_version_seen f.items f.versions.nodes (retired_version entry) v (record v { retired = Some entry }) c.versions k e refl ∙ ap (λ j. map (version_of f.items f.versions.nodes) (change_at c.versions j (λ _. record v { retired = Some entry }))) s)
        where
          whole : TableOf → Circuit → List model.Version → model.Circuit
          whole g c vs = record { name = c.name; opened = c.opened; qubits = c.qubits; table = g; versions = vs }

  pub retired_stands : (t : State) → Stands f t → Stands (record f { versions = new }) (retired entry p t)
  retired_stands t s = stands_after f sound new f.pins keeps counted sound.pinned sound.seats.0 t (retired entry p t) s seen refl s.pins refl refl refl
    where
      marks : Becomes (Turns p v (record v { retired = Some entry })) f.versions (record f.versions { circuits = replaced f.versions.circuits p.name p.version (record v { retired = Some entry }) })
      marks = turned f.versions (record f.versions { circuits = replaced f.versions.circuits p.name p.version (record v { retired = Some entry }) }) p v (record v { retired = Some entry }) there refl refl refl

      named : (j : ℕ) (c : Circuit) → slice_get (replaced f.versions.circuits p.name p.version (record v { retired = Some entry })) j ≡ Some c → place_of (replaced f.versions.circuits p.name p.version (record v { retired = Some entry })) c.name ≡ Some j
      named j c e =
          let ms = replaced f.versions.circuits p.name p.version (record v { retired = Some entry }) in
          let d = alike_back f.versions.circuits ms j c marks.alike e in
          alike-place f.versions.circuits ms c.name marks.alike ∙ ap (place_of f.versions.circuits) d.2.name ∙ sound.named j d.0 d.1

      note_at : (q : Place) (u x y : Version) → IsLife u → Turns p v (record v { retired = Some entry }) q u x → Turns p v (lives.retired entry v) q u y → IsNotedBy entry x y
      note_at q u x y life a b = by (cases_Bool (same_place q p))
        where
          by : (same_place q p ≡ true) ⊎ (same_place q p ≡ false) → IsNotedBy entry x y
          by (inl e) =
              let h = a.here e in
              let k = b.here e in
              let life_v : IsLife v = subst (λ z. IsLife z) h.0 life in
              subst (λ z. IsNotedBy entry z y) (sym h.1) (subst (λ z. IsNotedBy entry (record v { retired = Some entry }) z) (sym k.1) (retired_noted entry v life_v live))
          by (inr e) = subst (λ z. IsNotedBy entry z y) (sym (a.elsewhere e)) (subst (λ z. IsNotedBy entry u z) (sym (b.elsewhere e)) (noted_same entry u life))

      notes : Becomes (λ q x y. IsNotedBy entry x y) (record f.versions { circuits = replaced f.versions.circuits p.name p.version (record v { retired = Some entry }) }) new
      notes = record {
        nodes = nodes;
        kept = kept;
        alike = alike-trans (replaced f.versions.circuits p.name p.version (record v { retired = Some entry })) f.versions.circuits new.circuits (alike-sym f.versions.circuits (replaced f.versions.circuits p.name p.version (record v { retired = Some entry })) marks.alike) turns.alike;
        each = λ q x y e g.
            let u = alike_version_back f.versions.circuits new.circuits q.name q.version y turns.alike g in
            note_at q u.0 x y (held_life f sound q u.0 u.1) (marks.each q u.0 x u.1 e) (turns.each q u.0 y u.1 g);
      }

      seen : map (noted_circuit entry t.pins) (with_circuit (retired_in entry p.version) p.name t.circuits) ≡ circuits_of f.items f.versions.nodes f.tables new.circuits
      seen =
          ap₂ (λ ps cs. map (noted_circuit entry ps) (with_circuit (retired_in entry p.version) p.name cs)) s.pins s.circuits
          ∙ ap (map (noted_circuit entry f.pins)) marked_seen
          ∙ noted_after entry f.pins f.items f.tables (record f.versions { circuits = replaced f.versions.circuits p.name p.version (record v { retired = Some entry }) }) new named notes counted
