-- What is found in a state that a step has left.
use Rattle.std.proofs.Common.{◌≡◌, ◌+◌, ℕ, zero, suc, Bool, true, false, cond, ◌⊎◌, inl, inr, List, [], ◌∷◌, ◌++◌, map, refl, sym, ap, ap₂, ◌∙◌, arith, bytes_eq, option_map}
use Rattle.std.specs.Prelude.{Option, Some, slice_get}
use Rattle.std.proofs.lemmas.Slice.Eq.{bytes_eq-Decides}
use Rattle.ps_script.specs.declared.name.Place.{Place}
use Rattle.ps_journal.specs.declared.seats.Pin.{Pin}
use Rattle.ps_journal.specs.State.{Version, Circuit, State, Finds, circuit_at, version_at, with_circuit, with_version, with_next}
use Rattle.ps_journal.specs.Keeping.{is_kept, noted_version, noted_versions, noted_circuit, noted}
use Rattle.ps_history.proofs.Lists.{get_front, some_same}

-- ---- names
pub same_bytes : (a b : List ℕ) → bytes_eq a b ≡ true → a ≡ b
same_bytes a b e = (bytes_eq-Decides a b).0 e

pub bytes_same : (a : List ℕ) → bytes_eq a a ≡ true
bytes_same a = (bytes_eq-Decides a a).1 refl

-- ---- circuits
pub at_step : (c d : Circuit) (cs : List Circuit) (name : List ℕ) → circuit_at (c ∷ cs) name ≡ Some d
    → ((bytes_eq name c.name ≡ true) × (c ≡ d)) ⊎ ((bytes_eq name c.name ≡ false) × (circuit_at cs name ≡ Some d))
at_step c d cs name e = by (bytes_eq name c.name) refl e
  where
    by : (b : Bool) → bytes_eq name c.name ≡ b → cond b (Some c) (circuit_at cs name) ≡ Some d
        → ((bytes_eq name c.name ≡ true) × (c ≡ d)) ⊎ ((bytes_eq name c.name ≡ false) × (circuit_at cs name ≡ Some d))
    by true t e = inl (t, cc)
    by false t e = inr (t, e)

pub name_found : (cs : List Circuit) (name : List ℕ) (c : Circuit) → circuit_at cs name ≡ Some c → name ≡ c.name
name_found [] name c e = absurd (cc)
name_found (d ∷ cs) name c e = elim (at_step d c cs name e) [
  | inl h ↦ same_bytes name d.name h.0 ∙ ap (λ x. x.name) h.1
  | inr h ↦ name_found cs name c h.1
]

pub circuit_front : (cs ds : List Circuit) (name : List ℕ) (c : Circuit) → circuit_at cs name ≡ Some c → circuit_at (cs ++ ds) name ≡ Some c
circuit_front [] ds name c e = absurd (cc)
circuit_front (d ∷ cs) ds name c e = elim (at_step d c cs name e) [
  | inl h ↦ ap (λ b. cond b (Some d) (circuit_at (cs ++ ds) name)) h.0 ∙ ap Some h.1
  | inr h ↦ ap (λ b. cond b (Some d) (circuit_at (cs ++ ds) name)) h.0 ∙ circuit_front cs ds name c h.1
]

pub circuit_mapped : (f : Circuit → Circuit) → ((c : Circuit) → (f c).name ≡ c.name) → (cs : List Circuit) (name : List ℕ)
    → circuit_at (map f cs) name ≡ option_map f (circuit_at cs name)
circuit_mapped f same [] name = refl
circuit_mapped f same (c ∷ cs) name =
    ap (λ n. cond (bytes_eq name n) (Some (f c)) (circuit_at (map f cs) name)) (same c) ∙ by (bytes_eq name c.name) (circuit_mapped f same cs name)
  where
    by : (b : Bool) → circuit_at (map f cs) name ≡ option_map f (circuit_at cs name)
        → cond b (Some (f c)) (circuit_at (map f cs) name) ≡ option_map f (cond b (Some c) (circuit_at cs name))
    by true h = refl
    by false h = h

-- it is found unchanged or changed, then it is the one of that name
abbrev Turns : (Circuit → Circuit) → List ℕ → List ℕ → Circuit → List Circuit → Type 0
Turns f name other c xs = (circuit_at xs other ≡ Some c) ⊎ ((circuit_at xs other ≡ Some (f c)) × (name ≡ other))

-- of the one circuit of a name that is changed
pub circuit_changed : (f : Circuit → Circuit) → ((c : Circuit) → (f c).name ≡ c.name) → (cs : List Circuit) (name other : List ℕ) (c : Circuit)
    → circuit_at cs other ≡ Some c
    → (circuit_at (with_circuit f name cs) other ≡ Some c) ⊎ ((circuit_at (with_circuit f name cs) other ≡ Some (f c)) × (name ≡ other))
circuit_changed f same [] name other c e = absurd (cc)
circuit_changed f same (d ∷ cs) name other c e = by (bytes_eq name d.name) refl (at_step d c cs other e) (circuit_changed f same cs name other c)
  where
    further : (xs : List Circuit) → bytes_eq other d.name ≡ false → Turns f name other c xs → Turns f name other c (d ∷ xs)
    further xs t (inl g) = inl (ap (λ b. cond b (Some d) (circuit_at xs other)) t ∙ g)
    further xs t (inr g) = inr (ap (λ b. cond b (Some d) (circuit_at xs other)) t ∙ g.0, g.1)

    by : (b : Bool) → bytes_eq name d.name ≡ b
        → ((bytes_eq other d.name ≡ true) × (d ≡ c)) ⊎ ((bytes_eq other d.name ≡ false) × (circuit_at cs other ≡ Some c))
        → (circuit_at cs other ≡ Some c → Turns f name other c (with_circuit f name cs))
        → Turns f name other c (cond b (f d ∷ cs) (d ∷ with_circuit f name cs))
    by true t (inl h) g =
        inr (
          ap (λ n. cond (bytes_eq other n) (Some (f d)) (circuit_at cs other)) (same d) ∙ ap (λ b. cond b (Some (f d)) (circuit_at cs other)) h.0
              ∙ ap (λ x. Some (f x)) h.1,
          same_bytes name d.name t ∙ sym (same_bytes other d.name h.0),
        )
    by true t (inr h) g =
        inl (ap (λ n. cond (bytes_eq other n) (Some (f d)) (circuit_at cs other)) (same d) ∙ ap (λ b. cond b (Some (f d)) (circuit_at cs other)) h.0 ∙ h.1)
    by false t (inl h) g = inl (ap (λ b. cond b (Some d) (circuit_at (with_circuit f name cs) other)) h.0 ∙ ap Some h.1)
    by false t (inr h) g = further (with_circuit f name cs) h.0 (g h.1)

-- ---- versions
pub version_more : (c : Circuit) (v w : Version) (k : ℕ) → version_at c k ≡ Some v → version_at (with_next w c) k ≡ Some v
version_more c v w zero e = absurd (cc)
version_more c v w (suc k) e = get_front c.versions (w ∷ []) k v e

-- of the one version of a number that is changed
pub version_changed : (f : Version → Version) (vs : List Version) (n k : ℕ) (v : Version) → slice_get vs k ≡ Some v
    → (slice_get (with_version f n vs) k ≡ Some v) ⊎ (slice_get (with_version f n vs) k ≡ Some (f v))
version_changed f vs zero k v e = inl e
version_changed f [] (suc n) k v e = absurd (cc)
version_changed f (w ∷ vs) (suc zero) zero v e = inr (ap (λ x. Some (f x)) (some_same w v e))
version_changed f (w ∷ vs) (suc zero) (suc k) v e = inl e
version_changed f (w ∷ vs) (suc (suc n)) zero v e = inl e
version_changed f (w ∷ vs) (suc (suc n)) (suc k) v e = version_changed f vs (suc n) k v e

-- ---- versions that note an entry
pub place : List ℕ → ℕ → Place
place name version = record { name = name; version = version }

pub version_noted : (i : ℕ) (pins : List (Option Pin)) (name : List ℕ) (from : ℕ) (vs : List Version) (k : ℕ) (v : Version) → slice_get vs k ≡ Some v
    → slice_get (noted_versions i pins name from vs) k ≡ Some (noted_version i (is_kept pins (record { name = name; version = from + k }) v) v)
version_noted i pins name from [] k v e = absurd (cc)
version_noted i pins name from (w ∷ vs) zero v e =
    let n : from ≡ from + 0 = omega arith in
    ap (λ x. Some (noted_version i (is_kept pins (record { name = name; version = from }) x) x)) (some_same w v e)
    ∙ ap (λ m. Some (noted_version i (is_kept pins (record { name = name; version = m }) v) v)) n
version_noted i pins name from (w ∷ vs) (suc k) v e =
    let n : suc from + k ≡ from + suc k = omega arith in
    version_noted i pins name (suc from) vs k v e ∙ ap (λ m. Some (noted_version i (is_kept pins (record { name = name; version = m }) v) v)) n

pub finds_noted : (i : ℕ) (t : State) (p : Place) (c : Circuit) (v : Version) → Finds t p c v
    → Finds (noted i t) p (noted_circuit i t.pins c) (noted_version i (is_kept t.pins p v) v)
finds_noted i t p c v f =
    record {
      circuit = circuit_mapped (noted_circuit i t.pins) (λ c. refl) t.circuits p.name ∙ ap (option_map (noted_circuit i t.pins)) f.circuit;
      version = by p.version refl f.version;
    }
  where
    by : (n : ℕ) → p.version ≡ n → version_at c n ≡ Some v → version_at (noted_circuit i t.pins c) n ≡ Some (noted_version i (is_kept t.pins p v) v)
    by zero s e = absurd (cc)
    by (suc k) s e =
        let here : (record { name = c.name; version = 1 + k }) ≡ p =
        ap₂ (λ (a : List ℕ) (b : ℕ). record { name = a; version = b }) (sym (name_found t.circuits p.name c f.circuit))
        (let m : 1 + k ≡ suc k = omega arith in m ∙ sym s) in
        version_noted i t.pins c.name 1 c.versions k v e ∙ ap (λ (q : Place). Some (noted_version i (is_kept t.pins q v) v)) here
