-- Circuits and versions of the tables against those of the state: what is found, and what is replaced.
use Rattle.std.proofs.Common.{◌≡◌, ◌<◌, ◌≤◌, ◌+◌, ◌-◌, ℕ, zero, suc, Bool, true, false, cond, not, ◌&&◌, option_map, List, [], ◌∷◌, map, length, refl, sym, ap, ap₂, ◌∙◌, subst, arith, bytes_eq, nat_eq, nat_lt, eqb, position, Decides, lt-ltb, le-ltb, ltb-true, ltb-false, ◌⊎◌, inl, inr}
use Rattle.std.specs.Prelude.{Option, Some, None, slice_get}
use Rattle.std.specs.List.{position_or_len}
use Rattle.std.specs.Cmp.Lexicographic.{pointwise}
use Rattle.std.proofs.lemmas.Slice.Eq.{bytes_eq-Decides}
use Rattle.std.proofs.lemmas.Bool.{eqb-true, eqb-false, eq-eqb, and_parts}
use Rattle.std.proofs.lemmas.Bool.Decides.{nat_tests}
use Rattle.seg_tree.specs.Trees.{Tree}
use Rattle.qasm_expand.specs.Circuits.{TableOf}
use Rattle.ps_script.specs.declared.name.Place.{Place}
use Rattle.ps_versions.specs.Held as held
use Rattle.ps_versions.specs.Lookup as table
use Rattle.ps_versions.specs.Lookup.{names_of, place_of, circuit_in, version_in, change_at, replaced, replaced_in}
use Rattle.ps_journal.specs.State.{Item, Version, Circuit, State, circuit_at, version_at, with_circuit, with_version, Finds}
use Rattle.ps_journal.specs.Keeping.{same_place}
use Rattle.ps_views.specs.Views.{version_of, circuit_of, circuits_of}
use Rattle.ps_views.specs.Fields.{Fields, IsSound, held_at}
use Rattle.ps_views.specs.Stands.{Stands}
use Rattle.ps_views.specs.Finds.{IsAt, SeesCircuit, SeesVersion, FindsHeld}

-- ---- where a name stands
module _ {A : Type 0} (p : A → Bool) where
  pub position-step : (x : A) (xs : List A) → position p (x ∷ xs) ≡ cond (p x) (Some 0) (option_map suc (position p xs))
  position-step x xs = by (p x) (position_or_len p xs)
    where
      after : (b : Bool) (n m : ℕ) → (b ≡ true → 1 + n < m + 1) → (b ≡ false → m + 1 ≤ 1 + n) → cond (nat_lt (1 + n) (m + 1)) (Some (1 + n)) None ≡ option_map suc (cond b (Some n) None)
      after true n m h g = ap (λ c. cond c (Some (1 + n)) None) (lt-ltb _ _ (h refl)) ∙ ap Some (let e : 1 + n ≡ suc n = omega arith in e)
      after false n m h g = ap (λ c. cond c (Some (1 + n)) None) (le-ltb _ _ (g refl))

      by : (b : Bool) (n : ℕ) → cond (nat_lt (cond (not b) (1 + n) 0) (length (x ∷ xs))) (Some (cond (not b) (1 + n) 0)) None ≡ cond b (Some 0) (option_map suc (cond (nat_lt n (length xs)) (Some n) None))
      by true n = ap (λ c. cond c (Some 0) None) (lt-ltb 0 (length (x ∷ xs)) (omega arith))
      by false n = ap (λ c. cond (nat_lt (1 + n) c) (Some (1 + n)) None) (let e : length (x ∷ xs) ≡ length xs + 1 = omega arith in e)
          ∙ after (nat_lt n (length xs)) n (length xs) (λ e. let h : n < length xs = ltb-true _ _ e in omega (arith, h)) (λ e. let h : length xs ≤ n = ltb-false _ _ e in omega (arith, h))

pub place-step : (c : held.Circuit) (cs : List held.Circuit) (name : List ℕ) → place_of (c ∷ cs) name ≡ cond (bytes_eq name c.name) (Some 0) (option_map suc (place_of cs name))
unfolding place_of
place-step c cs name = position-step (pointwise nat_eq name) c.name (names_of cs)

pub place-none : (name : List ℕ) → place_of [] name ≡ None
unfolding place_of
place-none name = refl

suc_back : (o : Option ℕ) (i : ℕ) → option_map suc o ≡ Some i → (j : ℕ) × (o ≡ Some j) × (i ≡ suc j)
suc_back None i e = cc
suc_back (Some j) i e = (j, refl, cc)

suc_none : (o : Option ℕ) → option_map suc o ≡ None → o ≡ None
suc_none None e = refl
suc_none (Some j) e = cc

-- ---- the circuit of a name
module _ (items : List Item) (nodes : List (Tree ℕ)) where
  pub circuit_some : (tables : List TableOf) (cs : List held.Circuit) (name : List ℕ) (i : ℕ) (g : TableOf) (c : held.Circuit) → place_of cs name ≡ Some i → slice_get cs i ≡ Some c → slice_get tables i ≡ Some g
      → circuit_at (circuits_of items nodes tables cs) name ≡ Some (circuit_of items nodes g c)
  circuit_some [] cs name i g c p q r = cc
  circuit_some (h ∷ tables) [] name i g c p q r = cc
  circuit_some (h ∷ tables) (d ∷ cs) name i g c p q r = by (bytes_eq name d.name) i (sym (place-step d cs name) ∙ p) q r (λ j. circuit_some tables cs name j g c)
    where
      by : (b : Bool) (i : ℕ) → cond b (Some 0) (option_map suc (place_of cs name)) ≡ Some i → slice_get (d ∷ cs) i ≡ Some c → slice_get (h ∷ tables) i ≡ Some g
          → ((j : ℕ) → place_of cs name ≡ Some j → slice_get cs j ≡ Some c → slice_get tables j ≡ Some g → circuit_at (circuits_of items nodes tables cs) name ≡ Some (circuit_of items nodes g c))
          → cond b (Some (circuit_of items nodes h d)) (circuit_at (circuits_of items nodes tables cs) name) ≡ Some (circuit_of items nodes g c)
      by true zero p q r ih = let same : d ≡ c = cc in let other : h ≡ g = cc in ap₂ (λ y z. Some (circuit_of items nodes z y)) same other
      by true (suc i) p q r ih = cc
      by false i p q r ih = let s = suc_back (place_of cs name) i p in
          ih s.0 s.1 (subst (λ k. slice_get (d ∷ cs) k ≡ Some c) s.2 q) (subst (λ k. slice_get (h ∷ tables) k ≡ Some g) s.2 r)

  pub circuit_none : (tables : List TableOf) (cs : List held.Circuit) (name : List ℕ) → place_of cs name ≡ None → circuit_at (circuits_of items nodes tables cs) name ≡ None
  circuit_none [] cs name p = refl
  circuit_none (h ∷ tables) [] name p = refl
  circuit_none (h ∷ tables) (d ∷ cs) name p = by (bytes_eq name d.name) (sym (place-step d cs name) ∙ p) (circuit_none tables cs name)
    where
      by : (b : Bool) → cond b (Some 0) (option_map suc (place_of cs name)) ≡ None
          → (place_of cs name ≡ None → circuit_at (circuits_of items nodes tables cs) name ≡ None)
          → cond b (Some (circuit_of items nodes h d)) (circuit_at (circuits_of items nodes tables cs) name) ≡ None
      by true p ih = cc
      by false p ih = ih (suc_none (place_of cs name) p)

-- the circuit of a name is there, where its place is
pub place_there : (cs : List held.Circuit) (name : List ℕ) (i : ℕ) → place_of cs name ≡ Some i → (c : held.Circuit) × (slice_get cs i ≡ Some c) × (c.name ≡ name)
place_there [] name i p = let e : None ≡ Some i = sym (place-none name) ∙ p in cc
place_there (d ∷ cs) name i p = by (bytes_eq name d.name) refl (sym (place-step d cs name) ∙ p) (λ j. place_there cs name j)
  where
    by : (b : Bool) → bytes_eq name d.name ≡ b → cond b (Some 0) (option_map suc (place_of cs name)) ≡ Some i
        → ((j : ℕ) → place_of cs name ≡ Some j → (c : held.Circuit) × (slice_get cs j ≡ Some c) × (c.name ≡ name)) → (c : held.Circuit) × (slice_get (d ∷ cs) i ≡ Some c) × (c.name ≡ name)
    by true e p ih = let zero_is : 0 ≡ i = cc in (d, ap (slice_get (d ∷ cs)) (sym zero_is), sym ((bytes_eq-Decides name d.name).0 e))
    by false e p ih = let s = suc_back (place_of cs name) i p in let rest = ih s.0 s.1 in (rest.0, ap (slice_get (d ∷ cs)) s.2 ∙ rest.1, rest.2)

get_there : {A : Type 0} (xs : List A) (i : ℕ) → i < length xs → (x : A) × (slice_get xs i ≡ Some x)
get_there [] i h = absurd (omega arith)
get_there (x ∷ xs) zero h = (x, refl)
get_there (x ∷ xs) (suc i) h = get_there xs i (omega arith)

get_within : {A : Type 0} (xs : List A) (i : ℕ) (x : A) → slice_get xs i ≡ Some x → i < length xs
get_within [] i x e = cc
get_within (y ∷ xs) zero x e = omega arith
get_within (y ∷ xs) (suc i) x e = omega (arith, get_within xs i x e)

-- ---- in the state that the fields stand for
module _ (f : Fields) (t : State) (stands : Stands f t) (tabled : length f.tables ≡ length f.versions.circuits) where
  view : State → List Circuit
  view t = circuits_of f.items f.versions.nodes f.tables f.versions.circuits

  pub at_place : (name : List ℕ) (i : ℕ) → place_of f.versions.circuits name ≡ Some i → (g : TableOf) × (c : held.Circuit) × IsAt f.tables f.versions.circuits name i g c
  at_place name i p =
      let c = place_there f.versions.circuits name i p in
      let g = get_there f.tables i (omega (arith, tabled, get_within f.versions.circuits i c.0 c.1)) in
      (g.0, c.0, record { place = p; circuit = c.1; gates = g.1 })

  pub no_circuit : (name : List ℕ) → table.circuit_at f.versions.circuits name ≡ None → circuit_at t.circuits name ≡ None
  no_circuit name e = ap (λ cs. circuit_at cs name) stands.circuits ∙ circuit_none f.items f.versions.nodes f.tables f.versions.circuits name (by (place_of f.versions.circuits name) refl e)
    where
      by : (o : Option ℕ) → place_of f.versions.circuits name ≡ o → circuit_in f.versions.circuits o ≡ None → place_of f.versions.circuits name ≡ None
      by None p e = p
      by (Some i) p e = let c = place_there f.versions.circuits name i p in cc

  pub circuit_seen : (name : List ℕ) (i : ℕ) (g : TableOf) (c : held.Circuit) → IsAt f.tables f.versions.circuits name i g c → circuit_at t.circuits name ≡ Some (circuit_of f.items f.versions.nodes g c)
  circuit_seen name i g c at = ap (λ cs. circuit_at cs name) stands.circuits ∙ circuit_some f.items f.versions.nodes f.tables f.versions.circuits name i g c at.place at.circuit at.gates

  pub circuit_held : (name : List ℕ) (c : held.Circuit) → table.circuit_at f.versions.circuits name ≡ Some c → (i : ℕ) × (g : TableOf) × IsAt f.tables f.versions.circuits name i g c
  circuit_held name c e = by (place_of f.versions.circuits name) refl e
    where
      by : (o : Option ℕ) → place_of f.versions.circuits name ≡ o → circuit_in f.versions.circuits o ≡ Some c → (i : ℕ) × (g : TableOf) × IsAt f.tables f.versions.circuits name i g c
      by None p e = cc
      by (Some i) p e =
          let g = get_there f.tables i (omega (arith, tabled, get_within f.versions.circuits i c e)) in
          (i, g.0, record { place = p; circuit = e; gates = g.1 })

  -- the state's circuit of a name is seen in the tables
  pub sees_circuit : (name : List ℕ) (c : Circuit) → circuit_at t.circuits name ≡ Some c → SeesCircuit f name c
  sees_circuit name c e = by (place_of f.versions.circuits name) refl
    where
      by : (o : Option ℕ) → place_of f.versions.circuits name ≡ o → SeesCircuit f name c
      by None p = let none = circuit_none f.items f.versions.nodes f.tables f.versions.circuits name p in
          let all : circuit_at t.circuits name ≡ None = ap (λ cs. circuit_at cs name) stands.circuits ∙ none in absurd (some_none c (sym e ∙ all))
        where
          some_none : (c : Circuit) → Some c ≡ None → ⊥
          some_none c e = cc
      by (Some i) p =
          let a = at_place name i p in
          let seen = circuit_seen name i a.0 a.1 a.2 in
          let same : c ≡ circuit_of f.items f.versions.nodes a.0 a.1 = cc in
          record { index = i; gates = a.0; held = a.1; at = a.2; same = same }

  pub none_held : (name : List ℕ) → circuit_at t.circuits name ≡ None → place_of f.versions.circuits name ≡ None
  none_held name e = by (place_of f.versions.circuits name) refl
    where
      by : (o : Option ℕ) → place_of f.versions.circuits name ≡ o → place_of f.versions.circuits name ≡ None
      by None p = p
      by (Some i) p = let a = at_place name i p in let seen = circuit_seen name i a.0 a.1 a.2 in cc

-- ---- the versions of a circuit
mapped_get : {A B : Type 0} (h : A → B) (xs : List A) (k : ℕ) → slice_get (map h xs) k ≡ option_map h (slice_get xs k)
mapped_get h [] k = refl
mapped_get h (x ∷ xs) zero = refl
mapped_get h (x ∷ xs) (suc k) = mapped_get h xs k

pub mapped_length : {A B : Type 0} (h : A → B) (xs : List A) → length (map h xs) ≡ length xs
mapped_length h [] = refl
mapped_length h (x ∷ xs) = omega (arith, mapped_length h xs)

module _ (items : List Item) (nodes : List (Tree ℕ)) (g : TableOf) (c : held.Circuit) where
  pub version_seen : (number : ℕ) → version_at (circuit_of items nodes g c) number ≡ option_map (version_of items nodes) (version_in (Some c) number)
  version_seen zero = refl
  version_seen (suc k) = mapped_get (version_of items nodes) c.versions k

  pub latest_seen : length (circuit_of items nodes g c).versions ≡ length c.versions
  latest_seen = mapped_length (version_of items nodes) c.versions

  pub version_some : (number : ℕ) (v : held.Version) → version_in (Some c) number ≡ Some v → version_at (circuit_of items nodes g c) number ≡ Some (version_of items nodes v)
  version_some number v e = version_seen number ∙ ap (option_map (version_of items nodes)) e

  pub version_none : (number : ℕ) → version_in (Some c) number ≡ None → version_at (circuit_of items nodes g c) number ≡ None
  version_none number e = version_seen number ∙ ap (option_map (version_of items nodes)) e

  pub version_back : (number : ℕ) (v : Version) → version_at (circuit_of items nodes g c) number ≡ Some v → (w : held.Version) × (version_in (Some c) number ≡ Some w) × (v ≡ version_of items nodes w)
  version_back number v e = by (version_in (Some c) number) refl (sym (version_seen number) ∙ e)
    where
      by : (o : Option held.Version) → version_in (Some c) number ≡ o → option_map (version_of items nodes) o ≡ Some v → (w : held.Version) × (version_in (Some c) number ≡ Some w) × (v ≡ version_of items nodes w)
      by None p e = cc
      by (Some w) p e = let same : v ≡ version_of items nodes w = cc in (w, p, same)

  pub version_none_back : (number : ℕ) → version_at (circuit_of items nodes g c) number ≡ None → version_in (Some c) number ≡ None
  version_none_back number e = by (version_in (Some c) number) refl (sym (version_seen number) ∙ e)
    where
      by : (o : Option held.Version) → version_in (Some c) number ≡ o → option_map (version_of items nodes) o ≡ None → version_in (Some c) number ≡ None
      by None p e = p
      by (Some w) p e = cc

-- ---- the version at a place
module _ (f : Fields) (t : State) (stands : Stands f t) (tabled : length f.tables ≡ length f.versions.circuits) where
  pub finds_held : (p : Place) (v : held.Version) → held_at f.versions p ≡ Some v → FindsHeld f t p v
  finds_held p v e = by (place_of f.versions.circuits p.name) refl e
    where
      by_circuit : (i : ℕ) (o : Option held.Circuit) → place_of f.versions.circuits p.name ≡ Some i → slice_get f.versions.circuits i ≡ o → version_in o p.version ≡ Some v → FindsHeld f t p v
      by_circuit i None q r e = cc
      by_circuit i (Some c) q r e =
          let g = get_there f.tables i (omega (arith, tabled, get_within f.versions.circuits i c r)) in
          let at : IsAt f.tables f.versions.circuits p.name i g.0 c = record { place = q; circuit = r; gates = g.1 } in
          record {
            index = i;
            gates = g.0;
            held = c;
            at = at;
            there = e;
            finds = record { circuit = circuit_seen f t stands tabled p.name i g.0 c at; version = version_some f.items f.versions.nodes g.0 c p.version v e };
          }

      by : (o : Option ℕ) → place_of f.versions.circuits p.name ≡ o → version_in (circuit_in f.versions.circuits o) p.version ≡ Some v → FindsHeld f t p v
      by None q e = cc
      by (Some i) q e = by_circuit i (slice_get f.versions.circuits i) q refl e

  pub sees_version : (p : Place) (c : Circuit) (v : Version) → Finds t p c v → SeesVersion f p c v
  sees_version p c v finds =
      let s = sees_circuit f t stands tabled p.name c finds.circuit in
      let found : version_at (circuit_of f.items f.versions.nodes s.gates s.held) p.version ≡ Some v = ap (λ d. version_at d p.version) (sym s.same) ∙ finds.version in
      let w = version_back f.items f.versions.nodes s.gates s.held p.version v found in
      record { circuit = s; held = w.0; at = w.1; same = w.2 }

-- what is found in a circuit of the tables is held at its place
pub held_in : (f : Fields) (name : List ℕ) (number i : ℕ) (g : TableOf) (c : held.Circuit) → IsAt f.tables f.versions.circuits name i g c
    → held_at f.versions (record { name = name; version = number }) ≡ version_in (Some c) number
held_in f name number i g c at = ap (λ o. version_in (circuit_in f.versions.circuits o) number) at.place ∙ ap (λ o. version_in o number) at.circuit

pub held_seen : (f : Fields) (p : Place) (c : Circuit) (v : Version) (s : SeesVersion f p c v) → held_at f.versions p ≡ Some s.held
held_seen f p c v s = ap (λ o. version_in (circuit_in f.versions.circuits o) p.version) s.circuit.at.place ∙ ap (λ o. version_in o p.version) s.circuit.at.circuit ∙ s.at

-- ---- what is changed
module _ (items : List Item) (nodes : List (Tree ℕ)) where
  pub with_circuit_seen : (F : Circuit → Circuit) (G : held.Circuit → held.Circuit) (tables : List TableOf) (cs : List held.Circuit) (name : List ℕ) (i : ℕ) (c : held.Circuit) → length tables ≡ length cs
      → place_of cs name ≡ Some i → slice_get cs i ≡ Some c → ((g : TableOf) → F (circuit_of items nodes g c) ≡ circuit_of items nodes g (G c))
      → with_circuit F name (circuits_of items nodes tables cs) ≡ circuits_of items nodes tables (change_at cs i G)
  with_circuit_seen F G [] cs name i c l p q h = let short : length cs ≡ 0 = sym l in absurd (omega (arith, short, get_within cs i c q))
  with_circuit_seen F G (t ∷ tables) [] name i c l p q h = cc
  with_circuit_seen F G (t ∷ tables) (d ∷ cs) name i c l p q h = by (bytes_eq name d.name) i (sym (place-step d cs name) ∙ p) q (λ j p q. with_circuit_seen F G tables cs name j c (omega (arith, l)) p q h)
    where
      by : (b : Bool) (i : ℕ) → cond b (Some 0) (option_map suc (place_of cs name)) ≡ Some i → slice_get (d ∷ cs) i ≡ Some c
          → ((j : ℕ) → place_of cs name ≡ Some j → slice_get cs j ≡ Some c → with_circuit F name (circuits_of items nodes tables cs) ≡ circuits_of items nodes tables (change_at cs j G))
          → cond b (F (circuit_of items nodes t d) ∷ circuits_of items nodes tables cs) (circuit_of items nodes t d ∷ with_circuit F name (circuits_of items nodes tables cs))
          ≡ circuits_of items nodes (t ∷ tables) (change_at (d ∷ cs) i G)
      by true zero p q ih = let same : d ≡ c = cc in ap (λ x. x ∷ circuits_of items nodes tables cs) (ap (λ x. F (circuit_of items nodes t x)) same ∙ h t ∙ ap (λ x. circuit_of items nodes t (G x)) (sym same))
      by true (suc i) p q ih = cc
      by false zero p q ih = let s = suc_back (place_of cs name) 0 p in absurd (omega (arith, s.2))
      by false (suc i) p q ih = let s = suc_back (place_of cs name) (suc i) p in let e : s.0 ≡ i = omega (arith, s.2) in
          ap (λ x. circuit_of items nodes t d ∷ x) (ih i (s.1 ∙ ap Some e) q)

  pub with_version_seen : (F : Version → Version) (v w : held.Version) (vs : List held.Version) (k : ℕ) → slice_get vs k ≡ Some v → F (version_of items nodes v) ≡ version_of items nodes w
      → with_version F (suc k) (map (version_of items nodes) vs) ≡ map (version_of items nodes) (change_at vs k (λ _. w))
  with_version_seen F v w [] k e h = cc
  with_version_seen F v w (x ∷ vs) zero e h = let same : x ≡ v = cc in ap (λ y. y ∷ map (version_of items nodes) vs) (ap (λ y. F (version_of items nodes y)) same ∙ h)
  with_version_seen F v w (x ∷ vs) (suc k) e h = ap (λ y. version_of items nodes x ∷ y) (with_version_seen F v w vs k e h)
