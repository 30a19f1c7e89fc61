-- The lightest of one list after another.
use Rattle.std.proofs.Common.{◌≡◌, ℕ, zero, suc, ◌+◌, ◌<◌, List, [], ◌∷◌, ◌++◌, length, take, map, refl, sym, ap, ◌∙◌, arith, append_assoc, append-nil, Bool, true, false, cond, ◌&&◌}
use Rattle.std.specs.Prelude.{Option, Some, None, is_none, nat_lt, slice_get}
use Rattle.std.specs.List.{list_all}
use Rattle.seg_tree.specs.Trees.{Tree, branch}
use Rattle.std.proofs.lemmas.Bool.Decides.{nat_tests}
use Rattle.ps_script.specs.declared.name.Place.{Place}
use Rattle.ps_versions.specs.Held.{Held, Version, Circuit}
use Rattle.ps_versions.specs.Lives.{is_kept}
use Rattle.ps_versions.specs.Questions.{segments}
use Rattle.ps_versions.specs.Choices.{lighter, lighter_of, lightest, names_where, ready_at, open_in, open_from, open_of, is_done}
use Rattle.ps_versions.proofs.Counting.{segments_branch}
use Rattle.ps_versions.proofs.Pruning.{none_pass, names_none, names-append}
use Rattle.ps_versions.specs.declared.data.Ready.{Ready}

module _ (weight : ℕ → ℕ) where
  pub lighter_none : (a : Option Ready) → lighter_of weight a None ≡ a
  lighter_none None = refl
  lighter_none (Some x) = refl

  chosen : (a b c : Ready) (p q r : Bool) → nat_lt (weight b.node) (weight a.node) ≡ p → nat_lt (weight c.node) (weight b.node) ≡ q → nat_lt (weight c.node) (weight a.node) ≡ r → (p ≡ true → q ≡ true → r ≡ true) → (p ≡ false → q ≡ false → r ≡ false) → lighter_of weight (lighter weight a (Some b)) (Some c) ≡ lighter weight a (lighter weight b (Some c))
  chosen a b c true true r e f g both none =
      ap (λ (s : Bool). lighter_of weight (cond s (Some b) (Some a)) (Some c)) e
      ∙ ap (λ (s : Bool). cond s (Some c) (Some b)) f
      ∙ sym (ap (λ (s : Bool). lighter weight a (cond s (Some c) (Some b))) f ∙ ap (λ (s : Bool). cond s (Some c) (Some a)) (g ∙ both refl refl))
  chosen a b c true false r e f g both none =
      ap (λ (s : Bool). lighter_of weight (cond s (Some b) (Some a)) (Some c)) e
      ∙ ap (λ (s : Bool). cond s (Some c) (Some b)) f
      ∙ sym (ap (λ (s : Bool). lighter weight a (cond s (Some c) (Some b))) f ∙ ap (λ (s : Bool). cond s (Some b) (Some a)) e)
  chosen a b c false true r e f g both none =
      ap (λ (s : Bool). lighter_of weight (cond s (Some b) (Some a)) (Some c)) e
      ∙ sym (ap (λ (s : Bool). lighter weight a (cond s (Some c) (Some b))) f)
  chosen a b c false false r e f g both none =
      ap (λ (s : Bool). lighter_of weight (cond s (Some b) (Some a)) (Some c)) e
      ∙ ap (λ (s : Bool). cond s (Some c) (Some a)) (g ∙ none refl refl)
      ∙ sym (ap (λ (s : Bool). lighter weight a (cond s (Some c) (Some b))) f ∙ ap (λ (s : Bool). cond s (Some b) (Some a)) e)

  both_less : (x y z : ℕ) → nat_lt y x ≡ true → nat_lt z y ≡ true → nat_lt z x ≡ true
  both_less x y z e f = grind (arith, nat_tests)

  none_less : (x y z : ℕ) → nat_lt y x ≡ false → nat_lt z y ≡ false → nat_lt z x ≡ false
  none_less x y z e f = grind (arith, nat_tests)

  pub lighter-assoc : (a b c : Option Ready) → lighter_of weight (lighter_of weight a b) c ≡ lighter_of weight a (lighter_of weight b c)
  lighter-assoc None b c = refl
  lighter-assoc (Some a) None c = refl
  lighter-assoc (Some a) (Some b) None = lighter_none (lighter weight a (Some b))
  lighter-assoc (Some a) (Some b) (Some c) =
      chosen a b c (nat_lt (weight b.node) (weight a.node)) (nat_lt (weight c.node) (weight b.node)) (nat_lt (weight c.node) (weight a.node)) refl refl refl
      (both_less (weight a.node) (weight b.node) (weight c.node)) (none_less (weight a.node) (weight b.node) (weight c.node))

  pub lightest-append : (xs ys : List Ready) → lightest weight (xs ++ ys) ≡ lighter_of weight (lightest weight xs) (lightest weight ys)
  lightest-append [] ys = refl
  lightest-append (x ∷ xs) ys = ap (lighter weight x) (lightest-append xs ys) ∙ sym (lighter-assoc (Some x) (lightest weight xs) (lightest weight ys))

  -- what weighs nothing stays
  pub least_stays : (a : Ready) → weight a.node ≡ 0 → (other : Option Ready) → lighter_of weight (Some a) other ≡ Some a
  least_stays a e None = refl
  least_stays a e (Some b) = ap (λ (s : Bool). cond s (Some b) (Some a)) (ap (nat_lt (weight b.node)) e ∙ none_below (weight b.node))
    where
      none_below : (n : ℕ) → nat_lt n 0 ≡ false
      none_below n = grind (arith, nat_tests)

  pub none_lighter : (a b : Option Ready) → is_none (lighter_of weight a b) ≡ (is_none a && is_none b)
  none_lighter None b = refl
  none_lighter (Some a) None = refl
  none_lighter (Some a) (Some b) = at (nat_lt (weight b.node) (weight a.node))
    where
      at : (s : Bool) → is_none (cond s (Some b) (Some a)) ≡ false
      at true = refl
      at false = refl

  pub some_lightest : (xs : List Ready) → 0 < length xs → is_none (lightest weight xs) ≡ false
  some_lightest [] h = absurd (omega arith)
  some_lightest (x ∷ xs) h = none_lighter (Some x) (lightest weight xs)

pub ready-append : (p : Place) (ks ms : List ℕ) → ready_at p (ks ++ ms) ≡ ready_at p ks ++ ready_at p ms
ready-append p [] ms = refl
ready-append p (k ∷ ks) ms = ap (λ rs. record { place = p; node = k } ∷ rs) (ready-append p ks ms)

pub ready-length : (p : Place) (ks : List ℕ) → length (ready_at p ks) ≡ length ks
ready-length p [] = refl
ready-length p (k ∷ ks) = ap suc (ready-length p ks)

module _ (weight : ℕ → ℕ) (p : Tree ℕ → Bool) (place : Place) where
  -- the lightest of those that pass a test
  abbrev pub lightest_in : List (Tree ℕ) → Option Ready
  lightest_in ts = lightest weight (ready_at place (names_where p ts))

  in-append : (xs ys : List (Tree ℕ)) → lightest_in (xs ++ ys) ≡ lighter_of weight (lightest_in xs) (lightest_in ys)
  in-append xs ys =
      ap (λ ks. lightest weight (ready_at place ks)) (names-append p xs ys)
      ∙ ap (lightest weight) (ready-append place (names_where p xs) (names_where p ys))
      ∙ lightest-append weight (ready_at place (names_where p xs)) (ready_at place (names_where p ys))

  pub lighten_branch : (t : Tree ℕ) (n : Option ℕ) (l r : Tree ℕ) (a : Option Ready) → t ≡ branch n l r → lighter_of weight (lighter_of weight (lighter_of weight a (lightest_in (segments l))) (lightest_in (segments r))) (lightest_in (t ∷ [])) ≡ lighter_of weight a (lightest_in (segments t))
  lighten_branch t n l r a e =
      let x = lightest_in (segments l) in
      let y = lightest_in (segments r) in
      let z = lightest_in (t ∷ []) in
      lighter-assoc weight (lighter_of weight a x) y z
      ∙ lighter-assoc weight a x (lighter_of weight y z)
      ∙ ap (lighter_of weight a) (sym (ap lightest_in (segments_branch t n l r e) ∙ in-append (segments l) (segments r ++ t ∷ []) ∙ ap (lighter_of weight x) (in-append (segments r) (t ∷ []))))

  pub lighten_none : (a : Option Ready) (ts : List (Tree ℕ)) → none_pass p ts → a ≡ lighter_of weight a (lightest_in ts)
  lighten_none a ts h = sym (ap (λ ks. lighter_of weight a (lightest weight (ready_at place ks))) (names_none p ts h) ∙ lighter_none weight a)

  pub lighten_some : (a : Option Ready) (ts : List (Tree ℕ)) → 0 < length (names_where p ts) → is_none (lighter_of weight a (lightest_in ts)) ≡ (is_none a && false)
  lighten_some a ts h = none_lighter weight a (lightest_in ts) ∙ ap (λ b. is_none a && b) (some_lightest weight (ready_at place (names_where p ts)) (omega (arith, h, ready-length place (names_where p ts))))

-- one version, and one circuit, after others
all-last : {A : Type 0} (p : A → Bool) (xs : List A) (j : ℕ) (x : A) → slice_get xs j ≡ Some x → list_all p (take (suc j) xs) ≡ (list_all p (take j xs) && p x)
all-last p [] j x e = cc
all-last p (y ∷ xs) zero x e = let same : y ≡ x = cc in ap (λ z. p z && true) same ∙ and_true (p x)
  where
    and_true : (b : Bool) → (b && true) ≡ b
    and_true true = refl
    and_true false = refl
all-last p (y ∷ xs) (suc j) x e = ap (λ b. p y && b) (all-last p xs j x e) ∙ sym (and_assoc (p y) (list_all p (take j xs)) (p x))
  where
    and_assoc : (a b c : Bool) → ((a && b) && c) ≡ (a && (b && c))
    and_assoc true b c = refl
    and_assoc false b c = refl

module _ {R : Type 0} (passed : R → Bool) (h : Held R) where
  open-last : (name : List ℕ) (k j : ℕ) (vs : List Version) (v : Version) → slice_get vs j ≡ Some v → open_from passed h name k (take (suc j) vs) ≡ open_from passed h name k (take j vs) ++ open_from passed h name (k + j) (v ∷ [])
  open-last name k j [] v e = cc
  open-last name k zero (x ∷ vs) v e =
      let same : x ≡ v = cc in
      let at : k ≡ k + 0 = omega arith in
      ap (λ y. open_from passed h name k (y ∷ [])) same ∙ ap (λ n. open_from passed h name n (v ∷ [])) at
  open-last name k (suc j) (x ∷ vs) v e =
      let at : suc k + j ≡ k + suc j = omega arith in
      let first : List Ready = cond (is_kept x) (open_in passed h (record { name = name; version = k }) x.root) [] in
      ap (λ rs. first ++ rs) (open-last name (suc k) j vs v e ∙ ap (λ n. open_from passed h name (suc k) (take j vs) ++ open_from passed h name n (v ∷ [])) at)
      ∙ sym (append_assoc first (open_from passed h name (suc k) (take j vs)) (open_from passed h name (k + suc j) (v ∷ [])))

  open-circuit : (cs : List Circuit) (i : ℕ) (c : Circuit) → slice_get cs i ≡ Some c → open_of passed h (take (suc i) cs) ≡ open_of passed h (take i cs) ++ open_from passed h c.name 1 c.versions
  open-circuit [] i c e = cc
  open-circuit (d ∷ cs) zero c e = let same : d ≡ c = cc in ap (λ x. open_from passed h x.name 1 x.versions ++ []) same ∙ append-nil (open_from passed h c.name 1 c.versions)
  open-circuit (d ∷ cs) (suc i) c e =
      ap (λ rs. open_from passed h d.name 1 d.versions ++ rs) (open-circuit cs i c e)
      ∙ sym (append_assoc (open_from passed h d.name 1 d.versions) (open_of passed h (take i cs)) (open_from passed h c.name 1 c.versions))

  module _ (weight : ℕ → ℕ) where
    -- what was found before, and the versions up to an index
    pub lighten_last : (a : Option Ready) (name : List ℕ) (j : ℕ) (vs : List Version) (v : Version) → slice_get vs j ≡ Some v → lighter_of weight (lighter_of weight a (lightest weight (open_from passed h name 1 (take j vs)))) (lightest weight (open_from passed h name (j + 1) (v ∷ []))) ≡ lighter_of weight a (lightest weight (open_from passed h name 1 (take (suc j) vs)))
    lighten_last a name j vs v e =
        let at : j + 1 ≡ 1 + j = omega arith in
        let xs = open_from passed h name 1 (take j vs) in
        let ys = open_from passed h name (1 + j) (v ∷ []) in
        ap (λ n. lighter_of weight (lighter_of weight a (lightest weight xs)) (lightest weight (open_from passed h name n (v ∷ [])))) at
        ∙ lighter-assoc weight a (lightest weight xs) (lightest weight ys)
        ∙ ap (lighter_of weight a) (sym (ap (lightest weight) (open-last name 1 j vs v e) ∙ lightest-append weight xs ys))

    pub lighten_next : (cs : List Circuit) (i : ℕ) (c : Circuit) → slice_get cs i ≡ Some c → lighter_of weight (lightest weight (open_of passed h (take i cs))) (lightest weight (open_from passed h c.name 1 c.versions)) ≡ lightest weight (open_of passed h (take (suc i) cs))
    lighten_next cs i c e = sym (ap (lightest weight) (open-circuit cs i c e) ∙ lightest-append weight (open_of passed h (take i cs)) (open_from passed h c.name 1 c.versions))

  -- whether nothing was found, and whether all that was looked at is settled
  pub none_last : (n : Bool) (j : ℕ) (vs : List Version) (v : Version) → slice_get vs j ≡ Some v → ((n && list_all (is_done passed h) (take j vs)) && is_done passed h v) ≡ (n && list_all (is_done passed h) (take (suc j) vs))
  none_last n j vs v e = and_assoc n (list_all (is_done passed h) (take j vs)) (is_done passed h v) ∙ ap (λ b. n && b) (sym (all-last (is_done passed h) vs j v e))
    where
      and_assoc : (a b c : Bool) → ((a && b) && c) ≡ (a && (b && c))
      and_assoc true b c = refl
      and_assoc false b c = refl

  pub none_next : (cs : List Circuit) (i : ℕ) (c : Circuit) → slice_get cs i ≡ Some c → (list_all (λ (d : Circuit). list_all (is_done passed h) d.versions) (take i cs) && list_all (is_done passed h) c.versions) ≡ list_all (λ (d : Circuit). list_all (is_done passed h) d.versions) (take (suc i) cs)
  none_next cs i c e = sym (all-last (λ (d : Circuit). list_all (is_done passed h) d.versions) cs i c e)
