-- Circuits that differ in their versions alone: what is found in the ones is found in the others.
use Rattle.std.proofs.Common.{◌≡◌, ◌<◌, ◌≤◌, ◌+◌, ◌-◌, ℕ, zero, suc, Bool, true, false, ◌&&◌, List, [], ◌∷◌, length, refl, sym, ap, ap₂, ◌∙◌, subst, arith, bytes_eq, nat_eq, eqb, position, ◌⊎◌, inl, inr}
use Rattle.std.specs.Prelude.{Option, Some, None, slice_get}
use Rattle.std.specs.Cmp.Lexicographic.{pointwise}
use Rattle.std.proofs.lemmas.Slice.Eq.{bytes_eq-Decides}
use Rattle.std.proofs.lemmas.Bool.{eqb-true, and_parts, cases_Bool, and_from, eq-eqb, cases_eq}
use Rattle.ps_script.specs.declared.name.Place.{Place}
use Rattle.ps_versions.specs.Held.{Held, Version, Circuit}
use Rattle.ps_versions.specs.Lookup.{names_of, place_of, circuit_in, circuit_at, version_in, version_at, change_at, with_version, replaced, replaced_in}
use Rattle.ps_journal.specs.Keeping.{same_place}
use Rattle.ps_views.specs.Fields.{held_at}
use Rattle.ps_views.specs.Changes.{IsLike, Alike, Becomes, Turns}
use Rattle.ps_views.specs.declared.filed.Filed.{Filed}
use Rattle.ps_views.proofs.Lookups.{place_there}

-- ---- lists
module _ {A : Type 0} where
  pub get_there : (xs : List A) (i : ℕ) → i < length xs → (x : A) × (slice_get xs i ≡ Some x)
  get_there [] i h = absurd (omega arith)
  get_there (x ∷ xs) zero h = (x, refl)
  get_there (x ∷ xs) (suc i) h = get_there xs i (omega arith)

  pub get_within : (xs : List A) (i : ℕ) (x : A) → slice_get xs i ≡ Some x → i < length xs
  get_within [] i x e = cc
  get_within (y ∷ xs) zero x e = omega arith
  get_within (y ∷ xs) (suc i) x e = omega (arith, get_within xs i x e)

  pub length-change : (xs : List A) (i : ℕ) (f : A → A) → length (change_at xs i f) ≡ length xs
  length-change [] i f = refl
  length-change (x ∷ xs) zero f = refl
  length-change (x ∷ xs) (suc i) f = omega (arith, length-change xs i f)

  pub get-changed : (xs : List A) (i : ℕ) (f : A → A) (x : A) → slice_get xs i ≡ Some x → slice_get (change_at xs i f) i ≡ Some (f x)
  get-changed [] i f x e = cc
  get-changed (y ∷ xs) zero f x e = let same : y ≡ x = cc in ap (λ z. Some (f z)) same
  get-changed (y ∷ xs) (suc i) f x e = get-changed xs i f x e

  pub get-unchanged : (xs : List A) (i j : ℕ) (f : A → A) → (i ≡ j → ⊥) → slice_get (change_at xs i f) j ≡ slice_get xs j
  get-unchanged [] i j f h = refl
  get-unchanged (x ∷ xs) zero zero f h = absurd (h refl)
  get-unchanged (x ∷ xs) zero (suc j) f h = refl
  get-unchanged (x ∷ xs) (suc i) zero f h = refl
  get-unchanged (x ∷ xs) (suc i) (suc j) f h = get-unchanged xs i j f (λ e. h (ap suc e))

-- ---- likeness
like-refl : (c : Circuit) → IsLike c c
like-refl c = record { name = refl; qubits = refl; opened = refl; count = refl }

like-trans : (c d e : Circuit) → IsLike c d → IsLike d e → IsLike c e
like-trans c d e a b = record { name = b.name ∙ a.name; qubits = b.qubits ∙ a.qubits; opened = b.opened ∙ a.opened; count = b.count ∙ a.count }

pub alike-refl : (cs : List Circuit) → Alike cs cs
alike-refl [] = tt
alike-refl (c ∷ cs) = (like-refl c, alike-refl cs)

pub alike-trans : (cs ds es : List Circuit) → Alike cs ds → Alike ds es → Alike cs es
alike-trans [] [] [] a b = tt
alike-trans [] [] (e ∷ es) a b = absurd b
alike-trans [] (d ∷ ds) es a b = absurd a
alike-trans (c ∷ cs) [] es a b = absurd a
alike-trans (c ∷ cs) (d ∷ ds) [] a b = absurd b
alike-trans (c ∷ cs) (d ∷ ds) (e ∷ es) a b = (like-trans c d e a.0 b.0, alike-trans cs ds es a.1 b.1)

pub alike-length : (cs ds : List Circuit) → Alike cs ds → length ds ≡ length cs
alike-length [] [] a = refl
alike-length [] (d ∷ ds) a = absurd a
alike-length (c ∷ cs) [] a = absurd a
alike-length (c ∷ cs) (d ∷ ds) a = omega (arith, alike-length cs ds a.1)

pub alike-names : (cs ds : List Circuit) → Alike cs ds → names_of ds ≡ names_of cs
alike-names [] [] a = refl
alike-names [] (d ∷ ds) a = absurd a
alike-names (c ∷ cs) [] a = absurd a
alike-names (c ∷ cs) (d ∷ ds) a = ap₂ (λ n ns. n ∷ ns) a.0.name (alike-names cs ds a.1)

pub alike-place : (cs ds : List Circuit) (name : List ℕ) → Alike cs ds → place_of ds name ≡ place_of cs name
unfolding place_of
alike-place cs ds name a = ap (position (pointwise nat_eq name)) (alike-names cs ds a)

pub alike_back : (cs ds : List Circuit) (i : ℕ) (d : Circuit) → Alike cs ds → slice_get ds i ≡ Some d → (c : Circuit) × (slice_get cs i ≡ Some c) × IsLike c d
alike_back [] [] i d a e = cc
alike_back [] (y ∷ ds) i d a e = absurd a
alike_back (c ∷ cs) [] i d a e = absurd a
alike_back (c ∷ cs) (y ∷ ds) zero d a e = let same : y ≡ d = cc in (c, refl, subst (λ z. IsLike c z) same a.0)
alike_back (c ∷ cs) (y ∷ ds) (suc i) d a e = alike_back cs ds i d a.1 e

pub alike_forth : (cs ds : List Circuit) (i : ℕ) (c : Circuit) → Alike cs ds → slice_get cs i ≡ Some c → (d : Circuit) × (slice_get ds i ≡ Some d) × IsLike c d
alike_forth [] [] i c a e = cc
alike_forth [] (y ∷ ds) i c a e = absurd a
alike_forth (x ∷ cs) [] i c a e = absurd a
alike_forth (x ∷ cs) (d ∷ ds) zero c a e = let same : x ≡ c = cc in (d, refl, subst (λ z. IsLike z d) same a.0)
alike_forth (x ∷ cs) (d ∷ ds) (suc i) c a e = alike_forth cs ds i c a.1 e

-- ---- versions at places
pub version_there : (c d : Circuit) (n : ℕ) (x : Version) → length d.versions ≡ length c.versions → version_in (Some c) n ≡ Some x → (y : Version) × (version_in (Some d) n ≡ Some y)
version_there c d zero x l e = cc
version_there c d (suc k) x l e = get_there d.versions k (omega (arith, l, get_within c.versions k x e))

-- a version of the tables, with its circuit and where that stands
pub version_parts : (cs : List Circuit) (name : List ℕ) (n : ℕ) (x : Version) → version_at cs name n ≡ Some x
    → (i : ℕ) × (c : Circuit) × (place_of cs name ≡ Some i) × (slice_get cs i ≡ Some c) × (version_in (Some c) n ≡ Some x)
version_parts cs name n x e = by (place_of cs name) refl e
  where
    inner : (i : ℕ) (o : Option Circuit) → place_of cs name ≡ Some i → slice_get cs i ≡ o → version_in o n ≡ Some x
        → (i : ℕ) × (c : Circuit) × (place_of cs name ≡ Some i) × (slice_get cs i ≡ Some c) × (version_in (Some c) n ≡ Some x)
    inner i None p q e = cc
    inner i (Some c) p q e = (i, c, p, q, e)

    by : (o : Option ℕ) → place_of cs name ≡ o → version_in (circuit_in cs o) n ≡ Some x
        → (i : ℕ) × (c : Circuit) × (place_of cs name ≡ Some i) × (slice_get cs i ≡ Some c) × (version_in (Some c) n ≡ Some x)
    by None p e = cc
    by (Some i) p e = inner i (slice_get cs i) p refl e

pub version_whole : (cs : List Circuit) (name : List ℕ) (n i : ℕ) (c : Circuit) → place_of cs name ≡ Some i → slice_get cs i ≡ Some c → version_at cs name n ≡ version_in (Some c) n
version_whole cs name n i c p q = ap (λ o. version_in (circuit_in cs o) n) p ∙ ap (λ o. version_in o n) q

pub alike_version : (cs ds : List Circuit) (name : List ℕ) (n : ℕ) (x : Version) → Alike cs ds → version_at cs name n ≡ Some x → (y : Version) × (version_at ds name n ≡ Some y)
alike_version cs ds name n x a e =
    let s = version_parts cs name n x e in
    let d = alike_forth cs ds s.0 s.1 a s.3 in
    let y = version_there s.1 d.0 n x d.2.count s.4 in
    (y.0, version_whole ds name n s.0 d.0 (alike-place cs ds name a ∙ s.2) d.1 ∙ y.1)

pub alike_version_back : (cs ds : List Circuit) (name : List ℕ) (n : ℕ) (y : Version) → Alike cs ds → version_at ds name n ≡ Some y → (x : Version) × (version_at cs name n ≡ Some x)
alike_version_back cs ds name n y a e =
    let s = version_parts ds name n y e in
    let c = alike_back cs ds s.0 s.1 a s.3 in
    let x = version_there s.1 c.0 n y (sym c.2.count) s.4 in
    (x.0, version_whole cs name n s.0 c.0 (sym (alike-place cs ds name a) ∙ s.2) c.1 ∙ x.1)

-- ---- one version replaced
alike-change : (cs : List Circuit) (i n : ℕ) (w : Version) → Alike cs (change_at cs i (with_version n w))
alike-change [] i n w = tt
alike-change (c ∷ cs) zero n w = (record { name = refl; qubits = refl; opened = refl; count = length-change c.versions (n - 1) (λ _. w) }, alike-refl cs)
alike-change (c ∷ cs) (suc i) n w = (like-refl c, alike-change cs i n w)

pub alike-replaced : (cs : List Circuit) (name : List ℕ) (n : ℕ) (w : Version) → Alike cs (replaced cs name n w)
alike-replaced cs name n w = by (place_of cs name)
  where
    by : (o : Option ℕ) → Alike cs (replaced_in cs o n w)
    by None = alike-refl cs
    by (Some i) = alike-change cs i n w

number_changed : (c : Circuit) (n : ℕ) (v w : Version) → version_in (Some c) n ≡ Some v → version_in (Some (with_version n w c)) n ≡ Some w
number_changed c zero v w e = cc
number_changed c (suc k) v w e = let s : suc k - 1 ≡ k = omega arith in
    ap (λ j. slice_get (change_at c.versions j (λ _. w)) k) s ∙ get-changed c.versions k (λ _. w) v e

number_unchanged : (c : Circuit) (n m : ℕ) (v w : Version) → (n ≡ m → ⊥) → version_in (Some c) n ≡ Some v → version_in (Some (with_version n w c)) m ≡ version_in (Some c) m
number_unchanged c zero m v w h e = cc
number_unchanged c (suc k) zero v w h e = refl
number_unchanged c (suc k) (suc j) v w h e = let s : suc k - 1 ≡ k = omega arith in
    ap (λ i. slice_get (change_at c.versions i (λ _. w)) j) s ∙ get-unchanged c.versions k j (λ _. w) (λ q. h (ap suc q))

-- the version at the place of a number is there, and all others are what they were
pub replaced_here : (cs : List Circuit) (name : List ℕ) (n : ℕ) (v w : Version) → version_at cs name n ≡ Some v → version_at (replaced cs name n w) name n ≡ Some w
replaced_here cs name n v w e =
    let s = version_parts cs name n v e in
    let new : replaced cs name n w ≡ change_at cs s.0 (with_version n w) = ap (λ o. replaced_in cs o n w) s.2 in
    ap (λ xs. version_at xs name n) new
    ∙ version_whole (change_at cs s.0 (with_version n w)) name n s.0 (with_version n w s.1) (alike-place cs (change_at cs s.0 (with_version n w)) name (alike-change cs s.0 n w) ∙ s.2) (get-changed cs s.0 (with_version n w) s.1 s.3)
    ∙ number_changed s.1 n v w s.4

pub replaced_elsewhere : (cs : List Circuit) (name : List ℕ) (n : ℕ) (v w : Version) (other : List ℕ) (m : ℕ) (x : Version) → version_at cs name n ≡ Some v → version_at cs other m ≡ Some x
    → (name ≡ other → n ≡ m → ⊥) → version_at (replaced cs name n w) other m ≡ Some x
replaced_elsewhere cs name n v w other m x e f apart =
    let s = version_parts cs name n v e in
    let q = version_parts cs other m x f in
    let new : replaced cs name n w ≡ change_at cs s.0 (with_version n w) = ap (λ o. replaced_in cs o n w) s.2 in
    let place : place_of (change_at cs s.0 (with_version n w)) other ≡ Some q.0 = alike-place cs (change_at cs s.0 (with_version n w)) other (alike-change cs s.0 n w) ∙ q.2 in
    ap (λ xs. version_at xs other m) new ∙ by s.0 q.0 s.1 q.1 s.2 q.2 s.3 q.3 s.4 q.4 place (cases_eq s.0 q.0)
  where
    same_name : (i : ℕ) → place_of cs name ≡ Some i → place_of cs other ≡ Some i → name ≡ other
    same_name i p q =
        let a = place_there cs name i p in
        let b = place_there cs other i q in
        let same : a.0 ≡ b.0 = cc in
        sym a.2 ∙ ap (λ c. c.name) same ∙ b.2

    by : (i j : ℕ) (c d : Circuit) → place_of cs name ≡ Some i → place_of cs other ≡ Some j → slice_get cs i ≡ Some c → slice_get cs j ≡ Some d → version_in (Some c) n ≡ Some v → version_in (Some d) m ≡ Some x
        → place_of (change_at cs i (with_version n w)) other ≡ Some j → (i ≡ j) ⊎ (i ≡ j → ⊥) → version_at (change_at cs i (with_version n w)) other m ≡ Some x
    by i j c d pi pj gc gd vc vd place (inr off) =
        version_whole (change_at cs i (with_version n w)) other m j d place (get-unchanged cs i j (with_version n w) off ∙ gd) ∙ vd
    by i j c d pi pj gc gd vc vd place (inl e) =
        let same : name ≡ other = same_name i pi (pj ∙ ap Some (sym e)) in
        let one : c ≡ d = cc in
        let got : slice_get (change_at cs i (with_version n w)) j ≡ Some (with_version n w c) = ap (slice_get (change_at cs i (with_version n w))) (sym e) ∙ get-changed cs i (with_version n w) c gc in
        version_whole (change_at cs i (with_version n w)) other m j (with_version n w c) place got
        ∙ number_unchanged c n m v w (apart same) vc
        ∙ ap (λ y. version_in (Some y) m) one ∙ vd

-- ---- the same of whole tables
pub same_place_parts : (p q : Place) → same_place p q ≡ true → (p.name ≡ q.name) × (p.version ≡ q.version)
same_place_parts p q e = let s = and_parts (bytes_eq p.name q.name) (eqb p.version q.version) e in ((bytes_eq-Decides p.name q.name).0 s.0, eqb-true p.version q.version s.1)

pub same_place_self : (p : Place) → same_place p p ≡ true
same_place_self p = and_from (bytes_eq p.name p.name) (eqb p.version p.version) ((bytes_eq-Decides p.name p.name).1 refl) (eq-eqb p.version p.version refl)

pub same_place_from : (p q : Place) → p.name ≡ q.name → p.version ≡ q.version → same_place p q ≡ true
same_place_from p q a b = and_from (bytes_eq p.name q.name) (eqb p.version q.version) ((bytes_eq-Decides p.name q.name).1 a) (eq-eqb p.version q.version b)

pub turned : (old new : Held Filed) (p : Place) (v w : Version) → held_at old p ≡ Some v → new.circuits ≡ replaced old.circuits p.name p.version w → new.nodes ≡ old.nodes → new.kept ≡ old.kept
    → Becomes (Turns p v w) old new
turned old new p v w e circuits nodes kept = record {
  nodes = nodes;
  kept = kept;
  alike = subst (λ cs. Alike old.circuits cs) (sym circuits) (alike-replaced old.circuits p.name p.version w);
  each = λ q x y f g. record { here = here q x y f g; elsewhere = elsewhere q x y f g };
}
  where
    true_false : true ≡ false → ⊥
    true_false e = cc

    here : (q : Place) (x y : Version) → held_at old q ≡ Some x → held_at new q ≡ Some y → same_place q p ≡ true → (x ≡ v) × (y ≡ w)
    here q x y f g s =
        let parts = same_place_parts q p s in
        let was : held_at old q ≡ Some v = ap₂ (λ a b. version_at old.circuits a b) parts.0 parts.1 ∙ e in
        let is : held_at new q ≡ Some w = ap₂ (λ a b. version_at new.circuits a b) parts.0 parts.1 ∙ ap (λ cs. version_at cs p.name p.version) circuits ∙ replaced_here old.circuits p.name p.version v w e in
        let a : x ≡ v = cc in
        let b : y ≡ w = cc in
        (a, b)

    elsewhere : (q : Place) (x y : Version) → held_at old q ≡ Some x → held_at new q ≡ Some y → same_place q p ≡ false → y ≡ x
    elsewhere q x y f g s =
        let is : held_at new q ≡ Some x = ap (λ cs. version_at cs q.name q.version) circuits
        ∙ replaced_elsewhere old.circuits p.name p.version v w q.name q.version x e f (λ a b. true_false (sym (same_place_from q p (sym a) (sym b)) ∙ s)) in
        let a : y ≡ x = cc in
        a

like-sym : (c d : Circuit) → IsLike c d → IsLike d c
like-sym c d a = record { name = sym a.name; qubits = sym a.qubits; opened = sym a.opened; count = sym a.count }

pub alike-sym : (cs ds : List Circuit) → Alike cs ds → Alike ds cs
alike-sym [] [] a = tt
alike-sym [] (d ∷ ds) a = absurd a
alike-sym (c ∷ cs) [] a = absurd a
alike-sym (c ∷ cs) (d ∷ ds) a = (like-sym c d a.0, alike-sym cs ds a.1)
