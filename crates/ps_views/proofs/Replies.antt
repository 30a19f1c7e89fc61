-- What is answered of a place, by what the tables tell of it.
use Rattle.std.proofs.lemmas.Bool.{cases_eq, cases_order}
use Rattle.std.proofs.Common.{◌≡◌, ◌<◌, ◌⊎◌, inl, inr, ℕ, zero, suc, Bool, true, false, List, [], ◌∷◌, length, refl, sym, ap, ap₂, ◌∙◌, subst, arith}
use Rattle.std.specs.Prelude.{Option, Some, None, is_some, IsSome, ◌≢◌, slice_get}
use Rattle.qasm_expand.specs.Circuits.{TableOf}
use Rattle.ps_script.specs.declared.name.Place.{Place}
use Rattle.ps_versions.specs.Held as held
use Rattle.ps_versions.specs.Lookup.{place_of, version_in}
use Rattle.ps_versions.specs.Lookup as table
use Rattle.ps_versions.specs.Lives.{IsLive, IsEarlier}
use Rattle.ps_versions.specs.Told.{about, Tells}
use Rattle.ps_versions.specs.declared.data.About.{About}
use Rattle.ps_versions.specs.declared.data.State.{State as Told}
use Rattle.ps_journal.specs.declared.replies.Reply.{Reply}
use Rattle.ps_journal.specs.declared.replies.Reply.TheVariants.{NoCircuit, NoVersion, WasRetired, IsLatest, Retired, Pinned, Widths}
use Rattle.ps_journal.specs.State.{State, Circuit, Version, circuit_at, version_at, latest_of, Finds, FindsLive}
use Rattle.ps_journal.specs.Pinning.{Refuses, no_circuit, no_version, was_retired, Pins, pinned}
use Rattle.ps_journal.specs.Pinning as pinning
use Rattle.ps_journal.specs.Retiring as retiring
use Rattle.ps_journal.specs.Retiring.{Retires, claims_on}
use Rattle.ps_views.specs.Views.{version_of, circuit_of}
use Rattle.ps_views.specs.Fields.{Fields, held_at}
use Rattle.ps_views.specs.Stands.{Stands}
use Rattle.ps_views.specs.Living.{LivesAt}
use Rattle.ps_views.specs.Finds.{IsAt, FindsHeld}
use Rattle.ps_views.proofs.Lookups.{circuit_held, circuit_seen, latest_seen, version_none, finds_held}
use Rattle.ps_views.proofs.Lookups as lookups

-- ---- what is told
pub circuit_told : (o : Option held.Circuit) (a : About) → Some a ≡ about o → (c : held.Circuit) × (o ≡ Some c) × (a.latest ≡ length c.versions) × (a.qubits ≡ c.qubits) × (a.opened ≡ c.opened)
circuit_told None a e = cc
circuit_told (Some c) a e =
    let same : a ≡ record { qubits = c.qubits; opened = c.opened; latest = length c.versions } = cc in
    (c, refl, ap (λ x. x.latest) same, ap (λ x. x.qubits) same, ap (λ x. x.opened) same)

pub no_circuit_told : (o : Option held.Circuit) → None ≡ about o → o ≡ None
no_circuit_told None e = refl
no_circuit_told (Some c) e = cc

pub version_told : (o : Option held.Version) (s : Told) → Tells o s → (v : held.Version) × (o ≡ Some v) × (s.retired ≡ v.retired)
version_told None s h = absurd h
version_told (Some v) s h = (v, refl, h.0)

no_version_there : (o : Option held.Version) → is_some o ≡ false → o ≡ None
no_version_there None e = refl
no_version_there (Some v) e = cc

some_there : {A : Type 0} (o : Option A) → is_some o ≡ true → (x : A) × (o ≡ Some x)
some_there None e = cc
some_there (Some x) e = (x, refl)

-- the version of a place is of the circuit of its name
version_of_circuit : (f : Fields) (p : Place) (c : held.Circuit) → table.circuit_at f.versions.circuits p.name ≡ Some c → held_at f.versions p ≡ version_in (Some c) p.version
version_of_circuit f p c e = ap (λ o. version_in o p.version) e

pub held_is_live : (h : Option held.Version) (s : Told) → Tells h s → s.retired ≡ None → IsLive h
held_is_live None s t e = absurd t
held_is_live (Some v) s t e = sym t.0 ∙ e

pub lives_at : (f : Fields) (p : Place) (a : About) (s : Told) → Some a ≡ about (table.circuit_at f.versions.circuits p.name) → Tells (held_at f.versions p) s → s.retired ≡ None → LivesAt f p a.qubits
lives_at f p a s e told none =
    let c = circuit_told (table.circuit_at f.versions.circuits p.name) a e in
    let v = version_told (held_at f.versions p) s told in
    record { circuit = c.0; circuit_is = c.1; version = v.0; version_is = v.1; live = sym v.2 ∙ none; qubits_are = sym c.3 }

some_within : {A : Type 0} (xs : List A) (k : ℕ) → is_some (slice_get xs k) ≡ true → k < length xs
some_within [] k e = cc
some_within (x ∷ xs) zero e = omega arith
some_within (x ∷ xs) (suc k) e = omega (arith, some_within xs k e)

-- a version that is there and is not the latest one is an earlier one
pub earlier_at : (o : Option held.Circuit) (a : About) (n : ℕ) → Some a ≡ about o → is_some (version_in o n) ≡ true → (n ≡ a.latest → ⊥) → IsEarlier o n
earlier_at None a n e h off = cc
earlier_at (Some c) a zero e h off = cc
earlier_at (Some c) a (suc k) e h off =
    let same : a ≡ record { qubits = c.qubits; opened = c.opened; latest = length c.versions } = cc in
    let latest : a.latest ≡ length c.versions = ap (λ x. x.latest) same in
    let within : k < length c.versions = some_within c.versions k h in
    by (cases_eq (suc k) (length c.versions)) latest within
  where
    by : (suc k ≡ length c.versions) ⊎ (suc k ≡ length c.versions → ⊥) → a.latest ≡ length c.versions → k < length c.versions → suc k < length c.versions
    by (inl e) latest within = absurd (off (e ∙ sym latest))
    by (inr e) latest within = apart (length c.versions) e within
      where
        apart : (m : ℕ) → (suc k ≡ m → ⊥) → k < m → suc k < m
        apart m e h = either (cases_order (suc k) m) e h
          where
            either : (suc k ≡ m) ⊎ ((suc k < m) ⊎ (m < suc k)) → (suc k ≡ m → ⊥) → k < m → suc k < m
            either (inl q) e h = absurd (e q)
            either (inr (inl q)) e h = q
            either (inr (inr q)) e h = absurd (omega (arith, q, h))

-- ---- in the state
module _ (f : Fields) (t : State) (stands : Stands f t) (tabled : length f.tables ≡ length f.versions.circuits) where
  -- the circuit is there, and the version is not
  pub lacks_version : (p : Place) (a : About) → Some a ≡ about (table.circuit_at f.versions.circuits p.name) → is_some (held_at f.versions p) ≡ false
      → (c : Circuit) × (circuit_at t.circuits p.name ≡ Some c) × (version_at c p.version ≡ None) × (latest_of c ≡ a.latest)
  lacks_version p a e none =
      let c = circuit_told (table.circuit_at f.versions.circuits p.name) a e in
      let at = circuit_held f t stands tabled p.name c.0 c.1 in
      let out : version_in (Some c.0) p.version ≡ None = sym (version_of_circuit f p c.0 c.1) ∙ no_version_there (held_at f.versions p) none in
      (circuit_of f.items f.versions.nodes at.1 c.0, circuit_seen f t stands tabled p.name at.0 at.1 c.0 at.2, version_none f.items f.versions.nodes at.1 c.0 p.version out, latest_seen f.items f.versions.nodes at.1 c.0 ∙ sym c.2)

  -- the version is there, as the tables tell of it
  pub finds_told : (p : Place) (a : About) (s : Told) → Some a ≡ about (table.circuit_at f.versions.circuits p.name) → Tells (held_at f.versions p) s
      → (c : Circuit) × (v : Version) × Finds t p c v × (latest_of c ≡ a.latest) × (c.qubits ≡ a.qubits) × (v.retired ≡ s.retired)
  finds_told p a s e told =
      let c = circuit_told (table.circuit_at f.versions.circuits p.name) a e in
      let v = version_told (held_at f.versions p) s told in
      let at = circuit_held f t stands tabled p.name c.0 c.1 in
      let there : version_in (Some c.0) p.version ≡ Some v.0 = sym (version_of_circuit f p c.0 c.1) ∙ v.1 in
      let finds : Finds t p (circuit_of f.items f.versions.nodes at.1 c.0) (version_of f.items f.versions.nodes v.0) = record {
        circuit = circuit_seen f t stands tabled p.name at.0 at.1 c.0 at.2;
        version = lookups.version_some f.items f.versions.nodes at.1 c.0 p.version v.0 there;
      } in
      (circuit_of f.items f.versions.nodes at.1 c.0, version_of f.items f.versions.nodes v.0, finds, latest_seen f.items f.versions.nodes at.1 c.0 ∙ sym c.2, sym c.3, sym v.2)

  -- the same of what is held, where the circuit is known
  pub finds_at : (p : Place) (c : held.Circuit) (v : held.Version) → table.circuit_at f.versions.circuits p.name ≡ Some c → held_at f.versions p ≡ Some v
      → (g : TableOf) × Finds t p (circuit_of f.items f.versions.nodes g c) (version_of f.items f.versions.nodes v)
  finds_at p c v e h =
      let at = circuit_held f t stands tabled p.name c e in
      let there : version_in (Some c) p.version ≡ Some v = sym (version_of_circuit f p c e) ∙ h in
      (at.1, record { circuit = circuit_seen f t stands tabled p.name at.0 at.1 c at.2; version = lookups.version_some f.items f.versions.nodes at.1 c p.version v there })

  -- a live version of the tables is one of the state
  pub live_found : (p : Place) (qubits : ℕ) → LivesAt f p qubits → (c : Circuit) × (v : Version) × FindsLive t p c v × (c.qubits ≡ qubits)
  live_found p qubits l =
      let s = finds_at p l.circuit l.version l.circuit_is l.version_is in
      (circuit_of f.items f.versions.nodes s.0 l.circuit, version_of f.items f.versions.nodes l.version, record { found = s.1; live = l.live }, l.qubits_are)

  -- ---- refusals
  pub refuses_no_circuit : (p : Place) → None ≡ about (table.circuit_at f.versions.circuits p.name) → Refuses t p NoCircuit
  refuses_no_circuit p e = no_circuit (lookups.no_circuit f t stands tabled p.name (no_circuit_told (table.circuit_at f.versions.circuits p.name) e))

  pub refuses_no_version : (p : Place) (a : About) → Some a ≡ about (table.circuit_at f.versions.circuits p.name) → is_some (held_at f.versions p) ≡ false → Refuses t p (NoVersion a.latest)
  refuses_no_version p a e none = let s = lacks_version p a e none in subst (λ n. Refuses t p (NoVersion n)) s.3 (no_version s.1 s.2)

  pub refuses_retired : (p : Place) (a : About) (s : Told) (j : ℕ) → Some a ≡ about (table.circuit_at f.versions.circuits p.name) → Tells (held_at f.versions p) s → s.retired ≡ Some j → Refuses t p (WasRetired j)
  refuses_retired p a s j e told r = let x = finds_told p a s e told in was_retired x.2 (x.5 ∙ r)

  -- ---- of pinning
  module _ (i seat : ℕ) (first : Place) where
    pub pins_refused_second : (second : Place) (m : ℕ) (r : Reply) → LivesAt f first m → Refuses t second r → Pins t i seat first (Some second) r t
    pins_refused_second second m r a e = let x = live_found first m a in pinning.second_refused x.2 e

    pub pins_widths : (second : Place) (m n : ℕ) → LivesAt f first m → LivesAt f second n → (m ≡ n → ⊥) → Pins t i seat first (Some second) (Widths m n) t
    pins_widths second m n a b off =
        let x = live_found first m a in
        let y = live_found second n b in
        subst (λ k. Pins t i seat first (Some second) (Widths k n) t) x.3
        (subst (λ k. Pins t i seat first (Some second) (Widths x.0.qubits k) t) y.3 (pinning.widths x.2 y.2 (λ e. off (sym x.3 ∙ e ∙ y.3))))

    pub pins_one_now : (m : ℕ) → LivesAt f first m → Pins t i seat first None Pinned (pinned i seat first None t)
    pins_one_now m a = let x = live_found first m a in pinning.pins_one x.2

    pub pins_two_now : (second : Place) (m n : ℕ) → LivesAt f first m → LivesAt f second n → m ≡ n → Pins t i seat first (Some second) Pinned (pinned i seat first (Some second) t)
    pins_two_now second m n a b e =
        let x = live_found first m a in
        let y = live_found second n b in
        pinning.pins_two x.2 y.2 (x.3 ∙ e ∙ sym y.3)

  -- ---- of retiring
  module _ (i : ℕ) (p : Place) where
    pub retires_no_circuit : None ≡ about (table.circuit_at f.versions.circuits p.name) → Retires t i p NoCircuit t
    retires_no_circuit e = retiring.no_circuit (lookups.no_circuit f t stands tabled p.name (no_circuit_told (table.circuit_at f.versions.circuits p.name) e))

    module _ (a : About) (told : Some a ≡ about (table.circuit_at f.versions.circuits p.name)) where
      pub retires_no_version : is_some (held_at f.versions p) ≡ false → Retires t i p (NoVersion a.latest) t
      retires_no_version none = let s = lacks_version p a told none in subst (λ n. Retires t i p (NoVersion n) t) s.3 (retiring.no_version s.1 s.2)

      pub retires_latest_there : is_some (held_at f.versions p) ≡ true → p.version ≡ a.latest → Retires t i p IsLatest t
      retires_latest_there there e =
          let c = circuit_told (table.circuit_at f.versions.circuits p.name) a told in
          let v = some_there (held_at f.versions p) there in
          let x = finds_at p c.0 v.0 c.1 v.1 in
          retiring.is_latest x.1 (e ∙ c.2 ∙ sym (latest_seen f.items f.versions.nodes x.0 c.0))

      module _ (s : Told) (tells : Tells (held_at f.versions p) s) where
        pub retires_latest : p.version ≡ a.latest → Retires t i p IsLatest t
        retires_latest e = let x = finds_told p a s told tells in retiring.is_latest x.2 (e ∙ sym x.3)

        pub retires_was : (j : ℕ) → (p.version ≡ a.latest → ⊥) → s.retired ≡ Some j → Retires t i p (WasRetired j) t
        retires_was j off r = let x = finds_told p a s told tells in retiring.was_retired x.2 (λ e. off (e ∙ x.3)) (x.5 ∙ r)

        pub retires_now : (p.version ≡ a.latest → ⊥) → s.retired ≡ None → Retires t i p (Retired (claims_on p t.claims)) (retiring.retired i p t)
        retires_now off r = let x = finds_told p a s told tells in retiring.retires x.2 (λ e. off (e ∙ x.3)) (x.5 ∙ r)

-- what is found is one
pub finds_same : (t : State) (p : Place) (c d : Circuit) (v w : Version) → Finds t p c v → Finds t p d w → (c ≡ d) × (v ≡ w)
finds_same t p c d v w a b =
    let x = a.circuit in
    let y = b.circuit in
    let same : c ≡ d = cc in
    let u = a.version in
    let z : version_at c p.version ≡ Some w = subst (λ e. version_at e p.version ≡ Some w) (sym same) b.version in
    let one : v ≡ w = cc in
    (same, one)
