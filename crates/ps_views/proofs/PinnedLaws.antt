-- The lightest segment of the versions that a pin names.
use Rattle.std.proofs.Common.{◌≡◌, ◌≢◌, ℕ, zero, suc, ◌+◌, ◌<◌, ◌≤◌, ◌⊎◌, inl, inr, List, [], ◌∷◌, ◌++◌, length, refl, sym, ap, ap₂, ◌∙◌, subst, arith, Bool, true, false, cond, not, ◌&&◌, ◌||◌, eqb, bytes_eq}
use Rattle.std.specs.Prelude.{Option, Some, None, slice_get, nat_lt}
use Rattle.std.proofs.lemmas.Bool.Decides.{nat_tests}
use Rattle.std.proofs.lemmas.Slice.Eq.{bytes_eq-Decides}
use Rattle.std.proofs.lemmas.Grind.{common_steps}
use Rattle.ps_script.specs.declared.name.Place.{Place}
use Rattle.ps_versions.specs.Held.{Held, Version, Circuit}
use Rattle.ps_versions.specs.Lookup.{place_of, version_in, root_of}
use Rattle.ps_versions.specs.Choices.{open_in, open_at, lighter, lighter_of, lightest, comes_before, before_in}
use Rattle.ps_versions.proofs.Lighter.{lightest-append}
use Rattle.ps_versions.specs.declared.data.Ready.{Ready}
use Rattle.ps_journal.specs.declared.seats.Pin.{Pin}
use Rattle.ps_journal.specs.Keeping.{same_place, same_place_maybe, pins_place}
use Rattle.ps_views.specs.Fields.{Fields, IsSound, held_at, passed}
use Rattle.ps_views.specs.Pinned.{KeptAt, HasPinned}
use Rattle.ps_views.specs.OpenWhere.{open_where_from, open_where, open_pinned}
use Rattle.ps_views.proofs.Alike.{version_parts}
use Rattle.ps_views.proofs.Lookups.{place_there}
use Rattle.ps_views.proofs.PinnedOrder.{versions_none, versions_one, versions_two, circuits_none, circuits_one, circuits_two}

abbrev placed : List ℕ → ℕ → Place
placed a m = record { name = a; version = m }

-- where a version of the tables stands
pub record StandsAt (f : Fields) (p : Place) : Type 0 where
  pub index : ℕ
  pub circuit : Circuit
  pub place : place_of f.versions.circuits p.name ≡ Some index
  pub there : slice_get f.versions.circuits index ≡ Some circuit
  pub name : circuit.name ≡ p.name
  pub number : ℕ
  pub number_is : p.version ≡ suc number
  pub version : Version
  pub version_is : slice_get circuit.versions number ≡ Some version
  pub held : held_at f.versions p ≡ Some version

pub stands_at : (f : Fields) (p : Place) → KeptAt f p → StandsAt f p
stands_at f p k =
    let parts = version_parts f.versions.circuits p.name p.version k.version k.version_is in
    let named = place_there f.versions.circuits p.name parts.0 parts.2 in
    let same : named.0 ≡ parts.1 = one named.0 parts.1 (sym named.1 ∙ parts.3) in
    by parts.0 parts.1 p.version refl parts.2 parts.3 (ap (λ (c : Circuit). c.name) (sym same) ∙ named.2) parts.4
  where
    one : (a b : Circuit) → Some a ≡ Some b → a ≡ b
    one a b e = cc

    by : (i : ℕ) (c : Circuit) (n : ℕ) → p.version ≡ n → place_of f.versions.circuits p.name ≡ Some i → slice_get f.versions.circuits i ≡ Some c → c.name ≡ p.name → version_in (Some c) n ≡ Some k.version → StandsAt f p
    by i c zero q e g h v = absurd (no v)
      where
        no : None ≡ Some k.version → ⊥
        no q = cc
    by i c (suc n) q e g h v = record { index = i; circuit = c; place = e; there = g; name = h; number = n; number_is = q; version = k.version; version_is = v; held = k.version_is }

module _ (f : Fields) (sound : IsSound f) where
  -- the circuit with this name is the one at its index
  other_name : (p : Place) (s : StandsAt f p) (x : ℕ) (d : Circuit) → x ≢ s.index → slice_get f.versions.circuits x ≡ Some d → bytes_eq d.name p.name ≡ false
  other_name p s x d ne e = by (bytes_eq d.name p.name) refl
    where
      some : (a b : ℕ) → Some a ≡ Some b → a ≡ b
      some a b q = cc

      by : (b : Bool) → bytes_eq d.name p.name ≡ b → b ≡ false
      by true q = absurd (ne (some x s.index (sym (sound.named x d e) ∙ ap (place_of f.versions.circuits) ((bytes_eq-Decides d.name p.name).0 q) ∙ s.place)))
      by false q = refl

  own_name : (p : Place) (s : StandsAt f p) → bytes_eq s.circuit.name p.name ≡ true
  own_name p s = self s.circuit.name p.name s.name
    where
      self : (a b : List ℕ) → a ≡ b → bytes_eq a b ≡ true
      self a b e = grind (arith, nat_tests, common_steps, bytes_eq-Decides)

  next_number : (k m n : ℕ) → n ≡ suc m → eqb (1 + k) n ≡ eqb k m
  next_number k m n e = grind (arith, nat_tests)

  -- the test of a place, at a version of a circuit
  test_own : (p : Place) (s : StandsAt f p) (k : ℕ) → same_place (record { name = s.circuit.name; version = 1 + k }) p ≡ eqb k s.number
  test_own p s k = ap₂ (λ a b. a && b) (own_name p s) (next_number k s.number p.version s.number_is)

  test_other : (p : Place) (s : StandsAt f p) (x : ℕ) (d : Circuit) (n : ℕ) → x ≢ s.index → slice_get f.versions.circuits x ≡ Some d → same_place (record { name = d.name; version = n }) p ≡ false
  test_other p s x d n ne e = ap (λ b. b && eqb n p.version) (other_name p s x d ne e)

  -- the segments of the version at the place
  opened : (p : Place) (s : StandsAt f p) → open_in passed f.versions (record { name = s.circuit.name; version = 1 + s.number }) s.version.root ≡ open_at passed f.versions p
  opened p s =
      let at : 1 + s.number ≡ p.version = omega (arith, s.number_is) in
      ap₂ (λ a n. open_in passed f.versions (record { name = a; version = n }) s.version.root) s.name at
      ∙ ap (open_in passed f.versions p) (sym (ap root_of s.held))

  module _ (P : Place → Bool) where
    -- one place passes
    one_place : (p : Place) (s : StandsAt f p) → ((r : Place) → P r ≡ same_place r p) → open_where P f.versions f.versions.circuits ≡ open_at passed f.versions p
    one_place p s is =
        circuits_one P f.versions f.versions.circuits s.index s.circuit s.there
        (λ x d ne e. versions_none P f.versions d.name 1 d.versions (λ k. is (record { name = d.name; version = 1 + k }) ∙ test_other p s x d (1 + k) ne e))
        ∙ versions_one P f.versions s.circuit.name 1 s.number s.circuit.versions s.version (λ k. is (record { name = s.circuit.name; version = 1 + k }) ∙ test_own p s k) s.version_is
        ∙ opened p s

    -- two versions of one circuit
    two_versions : (p q : Place) (s : StandsAt f p) (u : StandsAt f q) → s.index ≡ u.index → s.number < u.number → ((r : Place) → P r ≡ (same_place r p || same_place r q))
        → open_where P f.versions f.versions.circuits ≡ open_at passed f.versions p ++ open_at passed f.versions q
    two_versions p q s u same less is =
        let circuit : s.circuit ≡ u.circuit = one s.circuit u.circuit (sym s.there ∙ ap (slice_get f.versions.circuits) same ∙ u.there) in
        circuits_one P f.versions f.versions.circuits s.index s.circuit s.there
        (λ x d ne e. versions_none P f.versions d.name 1 d.versions (λ k. is (record { name = d.name; version = 1 + k })
        ∙ ap₂ (λ a b. a || b) (test_other p s x d (1 + k) ne e) (test_other q u x d (1 + k) (λ z. ne (omega (arith, z, same))) e)))
        ∙ versions_two P f.versions s.circuit.name 1 s.number u.number s.circuit.versions s.version u.version less
        (λ k. is (record { name = s.circuit.name; version = 1 + k }) ∙ ap₂ (λ a b. a || b) (test_own p s k) (ap (λ (c : Circuit). same_place (record { name = c.name; version = 1 + k }) q) circuit ∙ test_own q u k))
        s.version_is (ap (λ (c : Circuit). slice_get c.versions u.number) circuit ∙ u.version_is)
        ∙ ap₂ (λ a b. a ++ b) (opened p s) (ap (λ (c : Circuit). open_in passed f.versions (record { name = c.name; version = 1 + u.number }) u.version.root) circuit ∙ opened q u)
      where
        one : (a b : Circuit) → Some a ≡ Some b → a ≡ b
        one a b e = cc

    -- versions of two circuits
    two_circuits : (p q : Place) (s : StandsAt f p) (u : StandsAt f q) → s.index < u.index → ((r : Place) → P r ≡ (same_place r p || same_place r q))
        → open_where P f.versions f.versions.circuits ≡ open_at passed f.versions p ++ open_at passed f.versions q
    two_circuits p q s u less is =
        circuits_two P f.versions f.versions.circuits s.index u.index s.circuit u.circuit less s.there u.there
        (λ x d ne nf e. versions_none P f.versions d.name 1 d.versions (λ k. is (record { name = d.name; version = 1 + k })
        ∙ ap₂ (λ a b. a || b) (test_other p s x d (1 + k) ne e) (test_other q u x d (1 + k) nf e)))
        ∙ ap₂ (λ a b. a ++ b)
        (versions_one P f.versions s.circuit.name 1 s.number s.circuit.versions s.version
        (λ k. is (record { name = s.circuit.name; version = 1 + k }) ∙ ap₂ (λ a b. a || b) (test_own p s k) (test_other q u s.index s.circuit (1 + k) (λ z. omega (arith, z, less)) s.there) ∙ or_false (eqb k s.number)) s.version_is ∙ opened p s)
        (versions_one P f.versions u.circuit.name 1 u.number u.circuit.versions u.version
        (λ k. is (record { name = u.circuit.name; version = 1 + k }) ∙ ap₂ (λ a b. a || b) (test_other p s u.index u.circuit (1 + k) (λ z. omega (arith, z, less)) u.there) (test_own q u k)) u.version_is ∙ opened q u)
      where
        or_false : (b : Bool) → (b || false) ≡ b
        or_false true = refl
        or_false false = refl

  -- one place twice
  same_at : (p q : Place) (s : StandsAt f p) (u : StandsAt f q) → s.index ≡ u.index → s.number ≡ u.number → p ≡ q
  same_at p q s u i n =
      let circuit : s.circuit ≡ u.circuit = one s.circuit u.circuit (sym s.there ∙ ap (slice_get f.versions.circuits) i ∙ u.there) in
      ap₂ placed (sym s.name ∙ ap (λ (c : Circuit). c.name) circuit ∙ u.name) (s.number_is ∙ ap suc n ∙ sym u.number_is)
    where
      one : (a b : Circuit) → Some a ≡ Some b → a ≡ b
      one a b e = cc

  module _ (w : ℕ → ℕ) where
    lighter_self : (o : Option Ready) → lighter_of w o o ≡ o
    lighter_self None = refl
    lighter_self (Some a) = ap (λ b. cond b (Some a) (Some a)) (never (w a.node))
      where
        never : (n : ℕ) → nat_lt n n ≡ false
        never n = grind (arith, nat_tests)

    abbrev best : Place → Option Ready
    best p = lightest w (open_at passed f.versions p)

    -- LAW: of one version
    pub pinned_one : (pin : Pin) → pin.second ≡ None → HasPinned f pin → lightest w (open_pinned f.versions pin) ≡ lightest w (open_at passed f.versions pin.first)
    pinned_one pin none has = ap (lightest w) (one_place (λ p. pins_place p pin) pin.first (stands_at f pin.first has.first) (λ r. ap (λ o. same_place r pin.first || same_place_maybe r o) none ∙ or_false (same_place r pin.first)))
      where
        or_false : (b : Bool) → (b || false) ≡ b
        or_false true = refl
        or_false false = refl

    or_comm : (a b : Bool) → (a || b) ≡ (b || a)
    or_comm true true = refl
    or_comm true false = refl
    or_comm false true = refl
    or_comm false false = refl

    or_self : (a : Bool) → (a || a) ≡ a
    or_self true = refl
    or_self false = refl

    -- the one before the other, or the same
    in_order : (P : Place → Bool) (p q : Place) (s : StandsAt f p) (u : StandsAt f q) → ((r : Place) → P r ≡ (same_place r p || same_place r q))
        → (s.index < u.index) ⊎ ((s.index ≡ u.index) × (s.number ≤ u.number)) → lightest w (open_where P f.versions f.versions.circuits) ≡ lighter_of w (best p) (best q)
    in_order P p q s u is (inl less) = ap (lightest w) (two_circuits P p q s u less is) ∙ lightest-append w (open_at passed f.versions p) (open_at passed f.versions q)
    in_order P p q s u is (inr (same, most)) = by (eqb s.number u.number) refl
      where
        apart : (a b : ℕ) → a ≤ b → eqb a b ≡ false → a < b
        apart a b h e = grind (arith, nat_tests)

        equal : (a b : ℕ) → eqb a b ≡ true → a ≡ b
        equal a b e = grind (arith, nat_tests)

        by : (b : Bool) → eqb s.number u.number ≡ b → lightest w (open_where P f.versions f.versions.circuits) ≡ lighter_of w (best p) (best q)
        by true e =
            let place : p ≡ q = same_at p q s u same (equal s.number u.number e) in
            ap (lightest w) (one_place P p s (λ r. is r ∙ ap (λ x. same_place r p || same_place r x) (sym place) ∙ or_self (same_place r p)))
            ∙ sym (lighter_self (best p)) ∙ ap (λ x. lighter_of w (best p) (best x)) place
        by false e = ap (lightest w) (two_versions P p q s u same (apart s.number u.number most e) is) ∙ lightest-append w (open_at passed f.versions p) (open_at passed f.versions q)

    before : (i j m n k l : ℕ) → m ≡ suc k → n ≡ suc l → (nat_lt j i || (eqb j i && nat_lt n m)) ≡ true → (j < i) ⊎ ((j ≡ i) × (l ≤ k))
    before i j m n k l p q e = by (nat_lt j i) (eqb j i) refl refl e
      where
        lt : (a b : ℕ) → nat_lt a b ≡ true → a < b
        lt a b h = grind (arith, nat_tests)

        eq : (a b : ℕ) → eqb a b ≡ true → a ≡ b
        eq a b h = grind (arith, nat_tests)

        by : (a b : Bool) → nat_lt j i ≡ a → eqb j i ≡ b → (a || (b && nat_lt n m)) ≡ true → (j < i) ⊎ ((j ≡ i) × (l ≤ k))
        by true b x y e = inl (lt j i x)
        by false true x y e = inr (eq j i y, (let h : n < m = lt n m e in omega arith))
        by false false x y e = cc

    behind : (i j m n k l : ℕ) → m ≡ suc k → n ≡ suc l → (nat_lt j i || (eqb j i && nat_lt n m)) ≡ false → (i < j) ⊎ ((i ≡ j) × (k ≤ l))
    behind i j m n k l p q e = by (nat_lt j i) (eqb j i) refl refl e
      where
        ge : (a b : ℕ) → nat_lt a b ≡ false → b ≤ a
        ge a b h = grind (arith, nat_tests)

        eq : (a b : ℕ) → eqb a b ≡ true → a ≡ b
        eq a b h = grind (arith, nat_tests)

        more : (a b : ℕ) → nat_lt a b ≡ false → eqb a b ≡ false → b < a
        more a b h g = grind (arith, nat_tests)

        by : (a b : Bool) → nat_lt j i ≡ a → eqb j i ≡ b → (a || (b && nat_lt n m)) ≡ false → (i < j) ⊎ ((i ≡ j) × (k ≤ l))
        by true b x y e = cc
        by false true x y e = inr (sym (eq j i y), (let h : m ≤ n = ge n m e in omega arith))
        by false false x y e = inl (more j i x y)

    order_is : (p q : Place) (s : StandsAt f p) (u : StandsAt f q) → comes_before f.versions.circuits q p ≡ (nat_lt u.index s.index || (eqb u.index s.index && nat_lt q.version p.version))
    order_is p q s u = ap₂ (λ a b. before_in a b (nat_lt q.version p.version)) u.place s.place

    test_two : (pin : Pin) (q r : Place) → pin.second ≡ Some q → pins_place r pin ≡ (same_place r pin.first || same_place r q)
    test_two pin q r e = ap (λ o. same_place r pin.first || same_place_maybe r o) e

    -- LAW: of two versions, the second of which comes before the first
    pub pinned_before : (pin : Pin) (q : Place) → pin.second ≡ Some q → HasPinned f pin → comes_before f.versions.circuits q pin.first ≡ true
        → lightest w (open_pinned f.versions pin) ≡ lighter_of w (lightest w (open_at passed f.versions q)) (lightest w (open_at passed f.versions pin.first))
    pinned_before pin q e has order =
        let s = stands_at f pin.first has.first in
        let u = stands_at f q (has.second q e) in
        in_order (λ r. pins_place r pin) q pin.first u s (λ r. test_two pin q r e ∙ or_comm (same_place r pin.first) (same_place r q))
        (before s.index u.index pin.first.version q.version s.number u.number s.number_is u.number_is (sym (order_is pin.first q s u) ∙ order))

    -- LAW: and where it does not
    pub pinned_behind : (pin : Pin) (q : Place) → pin.second ≡ Some q → HasPinned f pin → comes_before f.versions.circuits q pin.first ≡ false
        → lightest w (open_pinned f.versions pin) ≡ lighter_of w (lightest w (open_at passed f.versions pin.first)) (lightest w (open_at passed f.versions q))
    pinned_behind pin q e has order =
        let s = stands_at f pin.first has.first in
        let u = stands_at f q (has.second q e) in
        in_order (λ r. pins_place r pin) pin.first q s u (λ r. test_two pin q r e)
        (behind s.index u.index pin.first.version q.version s.number u.number s.number_is u.number_is (sym (order_is pin.first q s u) ∙ order))
