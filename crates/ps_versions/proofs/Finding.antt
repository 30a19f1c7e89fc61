-- Circuits and versions that were just added are found.
use Rattle.std.proofs.Common.{◌≡◌, ℕ, zero, suc, ◌+◌, ◌<◌, ◌≤◌, List, [], ◌∷◌, ◌++◌, length, length-append, get_or, refl, sym, ap, ◌∙◌, subst, arith, Bool, true, false, nat_eq}
use Rattle.std.specs.Prelude.{Option, Some, None, position, slice_get, slice_set}
use Rattle.std.specs.List.{position_or_len}
use Rattle.std.specs.Cmp.Lexicographic.{pointwise}
use Rattle.std.proofs.lemmas.Cmp.{nat_list_eq_equiv}
use Rattle.std.proofs.lemmas.Bool.Decides.{nat_tests}
use Rattle.std.proofs.lemmas.Grind.{common_steps}
use Rattle.std.proofs.lemmas.List.Sums.{fails_before_first, position_or_len_is}
use Rattle.std.proofs.lemmas.Option.{slice_get-get_or}
use Rattle.ps_versions.specs.Held.{Held, Version, Circuit}
use Rattle.ps_versions.specs.Lookup.{names_of, place_of, circuit_in, circuit_at, version_in, version_at, change_at}
use Rattle.ps_versions.specs.Opened.{fresh_version}
use Rattle.ps_versions.specs.Spliced.{latest_of, with_more, more_in, SplicesAt, Splices}
use Rattle.ps_versions.specs.Records.{record_at}
use Rattle.ps_versions.proofs.Lookups.{place_found, length-names}

names-more : (vs : List Version) (cs : List Circuit) (i : ℕ) → names_of (change_at cs i (with_more vs)) ≡ names_of cs
names-more vs [] i = refl
names-more vs (c ∷ cs) zero = refl
names-more vs (c ∷ cs) (suc i) = ap (λ ns. c.name ∷ ns) (names-more vs cs i)

names-more_in : (vs : List Version) (cs : List Circuit) (at : Option ℕ) → names_of (more_in cs at vs) ≡ names_of cs
names-more_in vs cs None = refl
names-more_in vs cs (Some i) = names-more vs cs i

place-names : (cs ds : List Circuit) (name : List ℕ) → names_of cs ≡ names_of ds → place_of cs name ≡ place_of ds name
unfolding place_of
place-names cs ds name e = ap (position (pointwise nat_eq name)) e

module _ {A : Type 0} where
  last_there : (xs : List A) (x : A) → slice_get (xs ++ x ∷ []) (length xs) ≡ Some x
  last_there [] x = refl
  last_there (y ∷ xs) x = last_there xs x

  some_is_none : (x : A) → Some x ≡ None → ⊥
  some_is_none x e = cc

  first_past : (p : A → Bool) (xs : List A) → position p xs ≡ None → length xs ≤ position_or_len p xs
  first_past p xs e = grind (arith, common_steps)

  first_last : (p : A → Bool) (xs : List A) (x : A) → position p xs ≡ None → p x ≡ true → position p (xs ++ x ∷ []) ≡ Some (length xs)
  first_last p xs x e h =
      let past = first_past p xs e in
      let at : position_or_len p (xs ++ x ∷ []) ≡ length xs = position_or_len_is p (xs ++ x ∷ []) (length xs) x (omega (arith, length-append xs (x ∷ []))) (λ k near. before k near past) (λ _. ap p (get_or-last xs x) ∙ h) in
      let near : length xs < length (xs ++ x ∷ []) = omega (arith, length-append xs (x ∷ [])) in
      at_first p (xs ++ x ∷ []) (length xs) at near
    where
      get_or-last : (xs : List A) (x : A) → get_or (xs ++ x ∷ []) (length xs) x ≡ x
      get_or-last [] x = refl
      get_or-last (y ∷ xs) x = get_or-last xs x

      get_or-front : (xs : List A) (x : A) (k : ℕ) → k < length xs → get_or (xs ++ x ∷ []) k x ≡ get_or xs k x
      get_or-front [] x k h = absurd (omega arith)
      get_or-front (y ∷ xs) x zero h = refl
      get_or-front (y ∷ xs) x (suc k) h = get_or-front xs x k (omega arith)

      before : (k : ℕ) → k < length xs → length xs ≤ position_or_len p xs → p (get_or (xs ++ x ∷ []) k x) ≡ false
      before k near past = ap p (get_or-front xs x k near) ∙ fails_before_first p xs k x (omega arith)

      at_first : (p : A → Bool) (ys : List A) (n : ℕ) → position_or_len p ys ≡ n → n < length ys → position p ys ≡ Some n
      at_first p ys n e near = grind (arith, common_steps, nat_tests)

changed_there : (f : Circuit → Circuit) (cs : List Circuit) (i : ℕ) (c : Circuit) → slice_get cs i ≡ Some c → slice_get (change_at cs i f) i ≡ Some (f c)
changed_there f [] i c e = cc
changed_there f (d ∷ cs) zero c e = let same : d ≡ c = cc in ap (λ x. Some (f x)) same
changed_there f (d ∷ cs) (suc i) c e = changed_there f cs i c e

newest : (c : Circuit) (v : Version) (number : ℕ) → number ≡ length c.versions + 1 → version_in (Some (with_more (v ∷ []) c)) number ≡ Some v
newest c v zero e = absurd (omega arith)
newest c v (suc k) e = let last : length c.versions ≡ k = omega (arith, e) in subst (λ n. slice_get (c.versions ++ v ∷ []) n ≡ Some v) last (last_there c.versions v)

pub splices_version : {R : Type 0} (old new : Held R) (name : List ℕ) (i : ℕ) (from to : ℕ) (items : List ℕ) (number : ℕ) (c : Circuit) → SplicesAt old new (place_of old.circuits name) from to items number → place_of old.circuits name ≡ Some i → slice_get old.circuits i ≡ Some c → Splices old new name from to items number
splices_version old new name i from to items number c s at there = record { at = s; version = version }
  where
    version : version_at new.circuits name number ≡ Some (fresh_version s.root)
    version =
        ap (λ p. version_in (circuit_in new.circuits p) number) (place-names new.circuits old.circuits name (ap names_of s.circuits ∙ names-more_in (fresh_version s.root ∷ []) old.circuits (place_of old.circuits name)) ∙ at)
        ∙ ap (λ cs. version_in (slice_get cs i) number) (s.circuits ∙ ap (λ p. more_in old.circuits p (fresh_version s.root ∷ [])) at)
        ∙ ap (λ o. version_in o number) (changed_there (with_more (fresh_version s.root ∷ [])) old.circuits i c there)
        ∙ newest c (fresh_version s.root) number (s.numbered ∙ ap (λ p. latest_of (circuit_in old.circuits p) + 1) at ∙ ap (λ o. latest_of o + 1) there)

-- a circuit behind those that have another name
pub last_circuit : (cs : List Circuit) (c : Circuit) → circuit_at cs c.name ≡ None → circuit_at (cs ++ c ∷ []) c.name ≡ Some c
unfolding place_of
last_circuit cs c e = ap (circuit_in (cs ++ c ∷ [])) (ap (position (pointwise nat_eq c.name)) (names-last cs c) ∙ first_last (pointwise nat_eq c.name) (names_of cs) c.name (nowhere (place_of cs c.name) refl) (nat_list_eq_equiv.refl c.name) ∙ ap Some (length-names cs)) ∙ last_there cs c
  where
    names-last : (cs : List Circuit) (c : Circuit) → names_of (cs ++ c ∷ []) ≡ names_of cs ++ c.name ∷ []
    names-last [] c = refl
    names-last (d ∷ cs) c = ap (λ ns. d.name ∷ ns) (names-last cs c)

    nowhere : (r : Option ℕ) → place_of cs c.name ≡ r → r ≡ None
    nowhere None p = refl
    nowhere (Some i) p =
        let found = place_found cs c.name (Some i) (sym p) in
        absurd (some_is_none (get_or cs i c) (sym (slice_get-get_or cs i c found.0) ∙ sym found.1 ∙ e))

module _ {R : Type 0} where
  pub stored_there : (kept : List (Option (ℕ × R))) (k : ℕ) (r : Option (ℕ × R)) → k < length kept → record_at (slice_set kept k r) k ≡ r
  stored_there [] k r h = absurd (omega arith)
  stored_there (x ∷ kept) zero r h = refl
  stored_there (x ∷ kept) (suc k) r h = stored_there kept k r (omega arith)
