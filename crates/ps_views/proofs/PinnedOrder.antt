-- The versions that a pin names, in the order of the circuits.
use Rattle.std.proofs.Common.{◌≡◌, ◌≢◌, ℕ, zero, suc, ◌+◌, ◌<◌, ◌≤◌, List, [], ◌∷◌, ◌++◌, length, refl, sym, ap, ap₂, ◌∙◌, subst, arith, append-nil, Bool, true, false, cond, not, ◌&&◌, ◌||◌, eqb, bytes_eq}
use Rattle.std.specs.Prelude.{Option, Some, None, slice_get}
use Rattle.std.proofs.lemmas.Bool.Decides.{nat_tests}
use Rattle.ps_script.specs.declared.name.Place.{Place}
use Rattle.ps_versions.specs.Held as tables
use Rattle.ps_versions.specs.Held.{Held}
use Rattle.ps_versions.specs.Choices.{open_in}
use Rattle.ps_versions.specs.declared.data.Ready.{Ready}
use Rattle.ps_views.specs.Fields.{passed}
use Rattle.ps_views.specs.declared.filed.Filed.{Filed}
use Rattle.ps_views.specs.OpenWhere.{open_where_from, open_where}

step_same : (k m : ℕ) → eqb (suc k) (suc m) ≡ eqb k m
step_same k m = grind (arith, nat_tests)

never_zero : (k : ℕ) → eqb (suc k) 0 ≡ false
never_zero k = grind (arith, nat_tests)

zero_never : (k : ℕ) → eqb 0 (suc k) ≡ false
zero_never k = grind (arith, nat_tests)

module _ (P : Place → Bool) (h : Held Filed) where
  abbrev pub in_versions : List ℕ → ℕ → List tables.Version → List Ready
  in_versions name n vs = open_where_from P h name n vs

  abbrev pub in_circuits : List tables.Circuit → List Ready
  in_circuits cs = open_where P h cs

  abbrev at_number : List ℕ → ℕ → Bool
  at_number name n = P (record { name = name; version = n })

  abbrev opens_at : List ℕ → ℕ → tables.Version → List Ready
  opens_at name n v = open_in passed h (record { name = name; version = n }) v.root

  shifted : (name : List ℕ) (n k : ℕ) (b : Bool) → at_number name (n + suc k) ≡ b → at_number name (suc n + k) ≡ b
  shifted name n k b e = let at : suc n + k ≡ n + suc k = omega arith in ap (at_number name) at ∙ e

  here : (name : List ℕ) (n : ℕ) (b : Bool) → at_number name (n + 0) ≡ b → at_number name n ≡ b
  here name n b e = let at : n ≡ n + 0 = omega arith in ap (at_number name) at ∙ e

  -- no version passes
  pub versions_none : (name : List ℕ) (n : ℕ) (vs : List tables.Version) → ((k : ℕ) → at_number name (n + k) ≡ false) → in_versions name n vs ≡ []
  versions_none name n [] e = refl
  versions_none name n (v ∷ vs) e =
      ap (λ b. cond b (opens_at name n v) [] ++ in_versions name (suc n) vs) (here name n false (e 0))
      ∙ versions_none name (suc n) vs (λ k. shifted name n k false (e (suc k)))

  -- one version passes
  pub versions_one : (name : List ℕ) (n m : ℕ) (vs : List tables.Version) (v : tables.Version) → ((k : ℕ) → at_number name (n + k) ≡ eqb k m) → slice_get vs m ≡ Some v → in_versions name n vs ≡ opens_at name (n + m) v
  versions_one name n m [] v e q = absurd (no q)
    where
      no : None ≡ Some v → ⊥
      no p = cc
  versions_one name n zero (x ∷ vs) v e q =
      let same : x ≡ v = cc in
      let at : n ≡ n + 0 = omega arith in
      ap (λ b. cond b (opens_at name n x) [] ++ in_versions name (suc n) vs) (here name n true (e 0 ∙ refl))
      ∙ ap (λ rs. opens_at name n x ++ rs) (versions_none name (suc n) vs (λ k. shifted name n k false (e (suc k) ∙ never_zero k)))
      ∙ append-nil (opens_at name n x)
      ∙ ap₂ (opens_at name) at same
  versions_one name n (suc m) (x ∷ vs) v e q =
      let at : suc n + m ≡ n + suc m = omega arith in
      ap (λ b. cond b (opens_at name n x) [] ++ in_versions name (suc n) vs) (here name n false (e 0 ∙ zero_never m))
      ∙ versions_one name (suc n) m vs v (λ k. shifted name n k (eqb k m) (e (suc k) ∙ step_same k m)) q
      ∙ ap (λ j. opens_at name j v) at

  -- two versions pass
  pub versions_two : (name : List ℕ) (n l m : ℕ) (vs : List tables.Version) (v w : tables.Version) → l < m → ((k : ℕ) → at_number name (n + k) ≡ (eqb k l || eqb k m)) → slice_get vs l ≡ Some v → slice_get vs m ≡ Some w
      → in_versions name n vs ≡ opens_at name (n + l) v ++ opens_at name (n + m) w
  versions_two name n l m [] v w less e p q = absurd (no p)
    where
      no : None ≡ Some v → ⊥
      no r = cc
  versions_two name n l zero (x ∷ vs) v w less e p q = absurd (omega arith)
  versions_two name n zero (suc m) (x ∷ vs) v w less e p q =
      let same : x ≡ v = cc in
      let at : n ≡ n + 0 = omega arith in
      let next : suc n + m ≡ n + suc m = omega arith in
      ap (λ b. cond b (opens_at name n x) [] ++ in_versions name (suc n) vs) (here name n true (e 0 ∙ refl))
      ∙ ap₂ (λ xs ys. xs ++ ys) (ap₂ (opens_at name) at same)
      (versions_one name (suc n) m vs w (λ k. shifted name n k (eqb k m) (e (suc k) ∙ ap₂ (λ a b. a || b) (never_zero k) (step_same k m))) q ∙ ap (λ j. opens_at name j w) next)
  versions_two name n (suc l) (suc m) (x ∷ vs) v w less e p q =
      let first : suc n + l ≡ n + suc l = omega arith in
      let next : suc n + m ≡ n + suc m = omega arith in
      ap (λ b. cond b (opens_at name n x) [] ++ in_versions name (suc n) vs) (here name n false (e 0 ∙ ap₂ (λ a b. a || b) (zero_never l) (zero_never m)))
      ∙ versions_two name (suc n) l m vs v w (omega arith) (λ k. shifted name n k (eqb k l || eqb k m) (e (suc k) ∙ ap₂ (λ a b. a || b) (step_same k l) (step_same k m))) p q
      ∙ ap₂ (λ j k. opens_at name j v ++ opens_at name k w) first next

  abbrev of_circuit : tables.Circuit → List Ready
  of_circuit c = in_versions c.name 1 c.versions

  -- ---- no circuit, one circuit, or two have versions that pass
  pub circuits_none : (cs : List tables.Circuit) → ((x : ℕ) (c : tables.Circuit) → slice_get cs x ≡ Some c → of_circuit c ≡ []) → in_circuits cs ≡ []
  circuits_none [] e = refl
  circuits_none (c ∷ cs) e = ap (λ rs. rs ++ in_circuits cs) (e 0 c refl) ∙ circuits_none cs (λ x d q. e (suc x) d q)

  pub circuits_one : (cs : List tables.Circuit) (i : ℕ) (c : tables.Circuit) → slice_get cs i ≡ Some c → ((x : ℕ) (d : tables.Circuit) → x ≢ i → slice_get cs x ≡ Some d → of_circuit d ≡ []) → in_circuits cs ≡ of_circuit c
  circuits_one [] i c q e = absurd (no q)
    where
      no : None ≡ Some c → ⊥
      no p = cc
  circuits_one (d ∷ cs) zero c q e =
      let same : d ≡ c = cc in
      ap (λ rs. of_circuit d ++ rs) (circuits_none cs (λ x b p. e (suc x) b (λ z. omega (arith, z)) p)) ∙ append-nil (of_circuit d) ∙ ap of_circuit same
  circuits_one (d ∷ cs) (suc i) c q e = ap (λ rs. rs ++ in_circuits cs) (e 0 d (λ z. omega (arith, z)) refl) ∙ circuits_one cs i c q (λ x b ne p. e (suc x) b (λ z. ne (omega (arith, z))) p)

  pub circuits_two : (cs : List tables.Circuit) (i j : ℕ) (c d : tables.Circuit) → i < j → slice_get cs i ≡ Some c → slice_get cs j ≡ Some d
      → ((x : ℕ) (b : tables.Circuit) → x ≢ i → x ≢ j → slice_get cs x ≡ Some b → of_circuit b ≡ []) → in_circuits cs ≡ of_circuit c ++ of_circuit d
  circuits_two [] i j c d less p q e = absurd (no p)
    where
      no : None ≡ Some c → ⊥
      no r = cc
  circuits_two (b ∷ cs) i zero c d less p q e = absurd (omega arith)
  circuits_two (b ∷ cs) zero (suc j) c d less p q e =
      let same : b ≡ c = cc in
      ap₂ (λ xs ys. xs ++ ys) (ap of_circuit same) (circuits_one cs j d q (λ x a ne r. e (suc x) a (λ z. omega (arith, z)) (λ z. ne (omega (arith, z))) r))
  circuits_two (b ∷ cs) (suc i) (suc j) c d less p q e =
      ap (λ rs. rs ++ in_circuits cs) (e 0 b (λ z. omega (arith, z)) (λ z. omega (arith, z)) refl)
      ∙ circuits_two cs i j c d (omega arith) p q (λ x a ne nf r. e (suc x) a (λ z. ne (omega (arith, z))) (λ z. nf (omega (arith, z))) r)
