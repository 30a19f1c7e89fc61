-- Circuits with one circuit more, and with one version more of a circuit: what is found among them.
use Rattle.std.proofs.Common.{◌≡◌, ℕ, zero, suc, ◌+◌, ◌-◌, ◌<◌, ◌≤◌, ◌⊎◌, inl, inr, List, [], ◌∷◌, ◌++◌, length, refl, sym, ap, ap₂, ◌∙◌, subst, arith, length-append, Bool, true, false, cond, option_map, bytes_eq, nat_eq, position}
use Rattle.std.specs.Prelude.{Option, Some, None, slice_get}
use Rattle.std.specs.Cmp.Lexicographic.{pointwise}
use Rattle.std.proofs.lemmas.Bool.{cases_eq}
use Rattle.std.proofs.lemmas.Slice.Eq.{bytes_eq-Decides}
use Rattle.ps_versions.specs.Held.{Version, Circuit}
use Rattle.ps_versions.specs.Lookup.{names_of, place_of, circuit_in, circuit_at, version_in, version_at, change_at}
use Rattle.ps_versions.specs.Spliced.{with_more}
use Rattle.ps_views.proofs.Lookups.{place-step, place-none, place_there}
use Rattle.ps_views.proofs.Alike.{get_within, get-changed, get-unchanged, length-change, version_parts, version_whole}
use Rattle.ps_views.proofs.Growth.{Stood, Adds}

-- ---- lists with one item more
module _ {A : Type 0} where
  pub get_front : (xs : List A) (d x : A) (k : ℕ) → slice_get xs k ≡ Some x → slice_get (xs ++ d ∷ []) k ≡ Some x
  get_front [] d x k e = cc
  get_front (y ∷ xs) d x zero e = e
  get_front (y ∷ xs) d x (suc k) e = get_front xs d x k e

  pub get_last : (xs : List A) (d : A) → slice_get (xs ++ d ∷ []) (length xs) ≡ Some d
  get_last [] d = refl
  get_last (y ∷ xs) d = get_last xs d

  pub get_none : (xs : List A) → slice_get xs (length xs) ≡ None
  get_none [] = refl
  get_none (y ∷ xs) = get_none xs

  -- one of those that stood, or the last
  pub get_more : (xs : List A) (d x : A) (k : ℕ) → slice_get (xs ++ d ∷ []) k ≡ Some x → (slice_get xs k ≡ Some x) ⊎ ((k ≡ length xs) × (x ≡ d))
  get_more [] d x zero e = let same : d ≡ x = cc in inr (refl, sym same)
  get_more [] d x (suc k) e = cc
  get_more (y ∷ xs) d x zero e = inl e
  get_more (y ∷ xs) d x (suc k) e = by (get_more xs d x k e)
    where
      by : (slice_get xs k ≡ Some x) ⊎ ((k ≡ length xs) × (x ≡ d)) → (slice_get xs k ≡ Some x) ⊎ ((suc k ≡ suc (length xs)) × (x ≡ d))
      by (inl h) = inl h
      by (inr h) = inr (ap suc h.0, h.1)

-- ---- where names stand
map_some : (o : Option ℕ) (i : ℕ) → o ≡ Some i → option_map suc o ≡ Some (suc i)
map_some o i e = ap (option_map suc) e

map_back : (o : Option ℕ) (i : ℕ) → option_map suc o ≡ Some i → (j : ℕ) × (o ≡ Some j) × (i ≡ suc j)
map_back None i e = cc
map_back (Some j) i e = (j, refl, cc)

map_none : (o : Option ℕ) → option_map suc o ≡ None → o ≡ None
map_none None e = refl
map_none (Some j) e = cc

pub place-more : (cs : List Circuit) (d : Circuit) (name : List ℕ) (i : ℕ) → place_of cs name ≡ Some i → place_of (cs ++ d ∷ []) name ≡ Some i
place-more [] d name i e = let n : None ≡ Some i = sym (place-none name) ∙ e in cc
place-more (c ∷ cs) d name i e = place-step c (cs ++ d ∷ []) name ∙ by (bytes_eq name c.name) i (sym (place-step c cs name) ∙ e) (λ j. place-more cs d name j)
  where
    by : (b : Bool) (i : ℕ) → cond b (Some 0) (option_map suc (place_of cs name)) ≡ Some i → ((j : ℕ) → place_of cs name ≡ Some j → place_of (cs ++ d ∷ []) name ≡ Some j)
        → cond b (Some 0) (option_map suc (place_of (cs ++ d ∷ []) name)) ≡ Some i
    by true i e ih = e
    by false i e ih = let s = map_back (place_of cs name) i e in map_some (place_of (cs ++ d ∷ []) name) s.0 (ih s.0 s.1) ∙ ap Some (sym s.2)

pub place-last : (cs : List Circuit) (d : Circuit) (name : List ℕ) → place_of cs name ≡ None → place_of (cs ++ d ∷ []) name ≡ cond (bytes_eq name d.name) (Some (length cs)) None
place-last [] d name e = place-step d [] name ∙ by (bytes_eq name d.name)
  where
    by : (b : Bool) → cond b (Some 0) (option_map suc (place_of [] name)) ≡ cond b (Some 0) None
    by true = refl
    by false = ap (option_map suc) (place-none name)
place-last (c ∷ cs) d name e = place-step c (cs ++ d ∷ []) name ∙ by (bytes_eq name c.name) (sym (place-step c cs name) ∙ e) (λ h. place-last cs d name h)
  where
    inner : (b : Bool) → option_map suc (cond b (Some (length cs)) None) ≡ cond b (Some (suc (length cs))) None
    inner true = refl
    inner false = refl

    by : (b : Bool) → cond b (Some 0) (option_map suc (place_of cs name)) ≡ None → (place_of cs name ≡ None → place_of (cs ++ d ∷ []) name ≡ cond (bytes_eq name d.name) (Some (length cs)) None)
        → cond b (Some 0) (option_map suc (place_of (cs ++ d ∷ []) name)) ≡ cond (bytes_eq name d.name) (Some (suc (length cs))) None
    by true e ih = cc
    by false e ih = ap (option_map suc) (ih (map_none (place_of cs name) e)) ∙ inner (bytes_eq name d.name)

pub no_place : (cs : List Circuit) (name : List ℕ) → circuit_at cs name ≡ None → place_of cs name ≡ None
no_place cs name e = by (place_of cs name) refl e
  where
    by : (o : Option ℕ) → place_of cs name ≡ o → circuit_in cs o ≡ None → place_of cs name ≡ None
    by None p e = p
    by (Some i) p e = let c = place_there cs name i p in cc

-- ---- one circuit more
module _ (cs : List Circuit) (d : Circuit) (v : Version) (versions : d.versions ≡ v ∷ []) (fresh : circuit_at cs d.name ≡ None) where
  last_place : place_of (cs ++ d ∷ []) d.name ≡ Some (length cs)
  last_place = place-last cs d d.name (no_place cs d.name fresh) ∙ ap (λ b. cond b (Some (length cs)) None) ((bytes_eq-Decides d.name d.name).1 refl)

  only : (k : ℕ) (x : Version) → slice_get d.versions k ≡ Some x → x ≡ v
  only k x e = by k (ap (λ vs. slice_get vs k) (sym versions) ∙ e)
    where
      by : (k : ℕ) → slice_get (v ∷ []) k ≡ Some x → x ≡ v
      by zero e = cc
      by (suc k) e = cc

  from_more : (i k : ℕ) (c : Circuit) (x : Version) → slice_get (cs ++ d ∷ []) i ≡ Some c → slice_get c.versions k ≡ Some x → Stood cs x ⊎ (x ≡ v)
  from_more i k c x a b = by (get_more cs d c i a)
    where
      by : (slice_get cs i ≡ Some c) ⊎ ((i ≡ length cs) × (c ≡ d)) → Stood cs x ⊎ (x ≡ v)
      by (inl h) = inl (record { index = i; number = k; circuit = c; at = h; there = b })
      by (inr h) = inr (only k x (ap (λ (y : Circuit). slice_get y.versions k) (sym h.1) ∙ b))

  forth_more : (name : List ℕ) (n : ℕ) (x : Version) → version_at cs name n ≡ Some x → version_at (cs ++ d ∷ []) name n ≡ Some x
  forth_more name n x e = let s = version_parts cs name n x e in version_whole (cs ++ d ∷ []) name n s.0 s.1 (place-more cs d name s.0 s.2) (get_front cs d s.1 s.0 s.3) ∙ s.4

  number_only : (n : ℕ) (x : Version) → version_in (Some d) n ≡ Some x → x ≡ v
  number_only zero x e = cc
  number_only (suc k) x e = only k x e

  back_more : (name : List ℕ) (n : ℕ) (x : Version) → version_at (cs ++ d ∷ []) name n ≡ Some x → (version_at cs name n ≡ Some x) ⊎ ((version_at cs name n ≡ None) × (x ≡ v))
  back_more name n x e = by (place_of cs name) refl (version_parts (cs ++ d ∷ []) name n x e)
    where
      found : (i : ℕ) → place_of cs name ≡ Some i → (c : Circuit) → place_of (cs ++ d ∷ []) name ≡ Some i → slice_get (cs ++ d ∷ []) i ≡ Some c → version_in (Some c) n ≡ Some x → version_at cs name n ≡ Some x
      found i p c q g w =
          let was = place_there cs name i p in
          let got : slice_get (cs ++ d ∷ []) i ≡ Some was.0 = get_front cs d was.0 i was.1 in
          let same : was.0 ≡ c = cc in
          version_whole cs name n i was.0 p was.1 ∙ ap (λ y. version_in (Some y) n) same ∙ w

      last : (i : ℕ) (c : Circuit) → place_of cs name ≡ None → place_of (cs ++ d ∷ []) name ≡ Some i → slice_get (cs ++ d ∷ []) i ≡ Some c → version_in (Some c) n ≡ Some x → x ≡ v
      last i c p q g w = inner (bytes_eq name d.name) (sym (place-last cs d name p) ∙ q)
        where
          inner : (b : Bool) → cond b (Some (length cs)) None ≡ Some i → x ≡ v
          inner true h =
              let at : length cs ≡ i = cc in
              let got : slice_get (cs ++ d ∷ []) i ≡ Some d = ap (slice_get (cs ++ d ∷ [])) (sym at) ∙ get_last cs d in
              let same : c ≡ d = cc in
              number_only n x (ap (λ y. version_in (Some y) n) (sym same) ∙ w)
          inner false h = cc

      by : (o : Option ℕ) → place_of cs name ≡ o → (i : ℕ) × (c : Circuit) × (place_of (cs ++ d ∷ []) name ≡ Some i) × (slice_get (cs ++ d ∷ []) i ≡ Some c) × (version_in (Some c) n ≡ Some x)
          → (version_at cs name n ≡ Some x) ⊎ ((version_at cs name n ≡ None) × (x ≡ v))
      by None p s = inr (ap (λ o. version_in (circuit_in cs o) n) p, last s.0 s.1 p s.2 s.3 s.4)
      by (Some i) p s =
          let new = place-more cs d name i p in
          let same : s.0 ≡ i = cc in
          inl (found i p s.1 new (ap (slice_get (cs ++ d ∷ [])) (sym same) ∙ s.3) s.4)

  named_more : ((i : ℕ) (c : Circuit) → slice_get cs i ≡ Some c → place_of cs c.name ≡ Some i) → (i : ℕ) (c : Circuit) → slice_get (cs ++ d ∷ []) i ≡ Some c → place_of (cs ++ d ∷ []) c.name ≡ Some i
  named_more named i c e = by (get_more cs d c i e)
    where
      by : (slice_get cs i ≡ Some c) ⊎ ((i ≡ length cs) × (c ≡ d)) → place_of (cs ++ d ∷ []) c.name ≡ Some i
      by (inl h) = place-more cs d c.name i (named i c h)
      by (inr h) = ap (λ (y : Circuit). place_of (cs ++ d ∷ []) y.name) h.1 ∙ last_place ∙ ap Some (sym h.0)

  wide_more : ((i : ℕ) (c : Circuit) → slice_get cs i ≡ Some c → (1 ≤ c.qubits) × (c.qubits ≤ 64)) → (1 ≤ d.qubits) × (d.qubits ≤ 64)
      → (i : ℕ) (c : Circuit) → slice_get (cs ++ d ∷ []) i ≡ Some c → (1 ≤ c.qubits) × (c.qubits ≤ 64)
  wide_more wide own i c e = by (get_more cs d c i e)
    where
      by : (slice_get cs i ≡ Some c) ⊎ ((i ≡ length cs) × (c ≡ d)) → (1 ≤ c.qubits) × (c.qubits ≤ 64)
      by (inl h) = wide i c h
      by (inr h) = subst (λ (y : Circuit). (1 ≤ y.qubits) × (y.qubits ≤ 64)) (sym h.1) own

  -- LAW: a circuit of a new name adds its version
  pub adds_circuit : ((i : ℕ) (c : Circuit) → slice_get cs i ≡ Some c → place_of cs c.name ≡ Some i) → ((i : ℕ) (c : Circuit) → slice_get cs i ≡ Some c → (1 ≤ c.qubits) × (c.qubits ≤ 64))
      → (1 ≤ d.qubits) × (d.qubits ≤ 64) → Adds cs (cs ++ d ∷ []) v
  adds_circuit named wide own = record { from = from_more; forth = forth_more; back = back_more; named = named_more named; wide = wide_more wide own }

-- ---- one version more
names-with : (vs : List Version) (cs : List Circuit) (i : ℕ) → names_of (change_at cs i (with_more vs)) ≡ names_of cs
names-with vs [] i = refl
names-with vs (c ∷ cs) zero = refl
names-with vs (c ∷ cs) (suc i) = ap (λ ns. c.name ∷ ns) (names-with vs cs i)

pub place-with : (vs : List Version) (cs : List Circuit) (i : ℕ) (name : List ℕ) → place_of (change_at cs i (with_more vs)) name ≡ place_of cs name
unfolding place_of
place-with vs cs i name = ap (position (pointwise nat_eq name)) (names-with vs cs i)

-- a circuit among them, which is the changed one or stood
pub record Other (cs : List Circuit) (v : Version) (i j : ℕ) (c : Circuit) : Type 0 where
  pub was : Circuit
  pub there : slice_get cs j ≡ Some was
  pub which : ((i ≡ j) × (c ≡ with_more (v ∷ []) was)) ⊎ (c ≡ was)

pub other_at : (cs : List Circuit) (v : Version) (i j : ℕ) (c : Circuit) → slice_get (change_at cs i (with_more (v ∷ []))) j ≡ Some c → Other cs v i j c
other_at [] v i j c e = cc
other_at (x ∷ cs) v zero zero c e = record { was = x; there = refl; which = inl (refl, cc) }
other_at (x ∷ cs) v zero (suc j) c e = record { was = c; there = e; which = inr refl }
other_at (x ∷ cs) v (suc i) zero c e = record { was = x; there = refl; which = inr cc }
other_at (x ∷ cs) v (suc i) (suc j) c e = by (other_at cs v i j c e)
  where
    side : (was : Circuit) → ((i ≡ j) × (c ≡ with_more (v ∷ []) was)) ⊎ (c ≡ was) → ((suc i ≡ suc j) × (c ≡ with_more (v ∷ []) was)) ⊎ (c ≡ was)
    side was (inl h) = inl (ap suc h.0, h.1)
    side was (inr h) = inr h

    by : Other cs v i j c → Other (x ∷ cs) v (suc i) (suc j) c
    by o = record { was = o.was; there = o.there; which = side o.was o.which }

module _ (cs : List Circuit) (i : ℕ) (v : Version) where
  from_with : (j k : ℕ) (c : Circuit) (x : Version) → slice_get (change_at cs i (with_more (v ∷ []))) j ≡ Some c → slice_get c.versions k ≡ Some x → Stood cs x ⊎ (x ≡ v)
  from_with j k c x a b = let o = other_at cs v i j c a in by o.was o.there o.which
    where
      last : (was : Circuit) → slice_get cs j ≡ Some was → (slice_get was.versions k ≡ Some x) ⊎ ((k ≡ length was.versions) × (x ≡ v)) → Stood cs x ⊎ (x ≡ v)
      last was g (inl h) = inl (record { index = j; number = k; circuit = was; at = g; there = h })
      last was g (inr h) = inr h.1

      by : (was : Circuit) → slice_get cs j ≡ Some was → ((i ≡ j) × (c ≡ with_more (v ∷ []) was)) ⊎ (c ≡ was) → Stood cs x ⊎ (x ≡ v)
      by was g (inl h) = last was g (get_more was.versions v x k (ap (λ (y : Circuit). slice_get y.versions k) (sym h.1) ∙ b))
      by was g (inr h) = inl (record { index = j; number = k; circuit = was; at = g; there = ap (λ (y : Circuit). slice_get y.versions k) (sym h) ∙ b })

  number_front : (c : Circuit) (n : ℕ) (x : Version) → version_in (Some c) n ≡ Some x → version_in (Some (with_more (v ∷ []) c)) n ≡ Some x
  number_front c zero x e = cc
  number_front c (suc k) x e = get_front c.versions v x k e

  forth_with : (name : List ℕ) (n : ℕ) (x : Version) → version_at cs name n ≡ Some x → version_at (change_at cs i (with_more (v ∷ []))) name n ≡ Some x
  forth_with name n x e = let s = version_parts cs name n x e in by s.0 s.1 (cases_eq i s.0) s.2 s.3 s.4
    where
      by : (j : ℕ) (c : Circuit) → (i ≡ j) ⊎ (i ≡ j → ⊥) → place_of cs name ≡ Some j → slice_get cs j ≡ Some c → version_in (Some c) n ≡ Some x → version_at (change_at cs i (with_more (v ∷ []))) name n ≡ Some x
      by j c (inl h) p g w =
          let got : slice_get (change_at cs i (with_more (v ∷ []))) j ≡ Some (with_more (v ∷ []) c) = ap (slice_get (change_at cs i (with_more (v ∷ [])))) (sym h) ∙ get-changed cs i (with_more (v ∷ [])) c (ap (slice_get cs) h ∙ g) in
          version_whole (change_at cs i (with_more (v ∷ []))) name n j (with_more (v ∷ []) c) (place-with (v ∷ []) cs i name ∙ p) got ∙ number_front c n x w
      by j c (inr h) p g w = version_whole (change_at cs i (with_more (v ∷ []))) name n j c (place-with (v ∷ []) cs i name ∙ p) (get-unchanged cs i j (with_more (v ∷ [])) h ∙ g) ∙ w

  back_with : (name : List ℕ) (n : ℕ) (x : Version) → version_at (change_at cs i (with_more (v ∷ []))) name n ≡ Some x → (version_at cs name n ≡ Some x) ⊎ ((version_at cs name n ≡ None) × (x ≡ v))
  back_with name n x e =
      let s = version_parts (change_at cs i (with_more (v ∷ []))) name n x e in
      let o = other_at cs v i s.0 s.1 s.3 in
      by s.0 s.1 o.was n (sym (place-with (v ∷ []) cs i name) ∙ s.2) o.there o.which s.4
    where
      last : (j n k : ℕ) (was : Circuit) → n ≡ suc k → place_of cs name ≡ Some j → slice_get cs j ≡ Some was → (slice_get was.versions k ≡ Some x) ⊎ ((k ≡ length was.versions) × (x ≡ v))
          → (version_at cs name n ≡ Some x) ⊎ ((version_at cs name n ≡ None) × (x ≡ v))
      last j n k was q p g (inl h) = inl (ap (version_at cs name) q ∙ version_whole cs name (suc k) j was p g ∙ h)
      last j n k was q p g (inr h) = inr (ap (version_at cs name) q ∙ version_whole cs name (suc k) j was p g ∙ ap (slice_get was.versions) h.0 ∙ get_none was.versions, h.1)

      by : (j : ℕ) (c was : Circuit) (n : ℕ) → place_of cs name ≡ Some j → slice_get cs j ≡ Some was → ((i ≡ j) × (c ≡ with_more (v ∷ []) was)) ⊎ (c ≡ was) → version_in (Some c) n ≡ Some x
          → (version_at cs name n ≡ Some x) ⊎ ((version_at cs name n ≡ None) × (x ≡ v))
      by j c was zero p g o w = cc
      by j c was (suc k) p g (inl h) w = last j (suc k) k was refl p g (get_more was.versions v x k (ap (λ (y : Circuit). slice_get y.versions k) (sym h.1) ∙ w))
      by j c was (suc k) p g (inr h) w = inl (version_whole cs name (suc k) j was p g ∙ ap (λ (y : Circuit). slice_get y.versions k) (sym h) ∙ w)

  named_with : ((j : ℕ) (c : Circuit) → slice_get cs j ≡ Some c → place_of cs c.name ≡ Some j) → (j : ℕ) (c : Circuit) → slice_get (change_at cs i (with_more (v ∷ []))) j ≡ Some c → place_of (change_at cs i (with_more (v ∷ []))) c.name ≡ Some j
  named_with named j c e = let o = other_at cs v i j c e in place-with (v ∷ []) cs i c.name ∙ by o.was o.there o.which
    where
      by : (was : Circuit) → slice_get cs j ≡ Some was → ((i ≡ j) × (c ≡ with_more (v ∷ []) was)) ⊎ (c ≡ was) → place_of cs c.name ≡ Some j
      by was g (inl h) = ap (λ (y : Circuit). place_of cs y.name) h.1 ∙ named j was g
      by was g (inr h) = ap (λ (y : Circuit). place_of cs y.name) h ∙ named j was g

  wide_with : ((j : ℕ) (c : Circuit) → slice_get cs j ≡ Some c → (1 ≤ c.qubits) × (c.qubits ≤ 64)) → (j : ℕ) (c : Circuit) → slice_get (change_at cs i (with_more (v ∷ []))) j ≡ Some c → (1 ≤ c.qubits) × (c.qubits ≤ 64)
  wide_with wide j c e = let o = other_at cs v i j c e in by o.was o.there o.which
    where
      by : (was : Circuit) → slice_get cs j ≡ Some was → ((i ≡ j) × (c ≡ with_more (v ∷ []) was)) ⊎ (c ≡ was) → (1 ≤ c.qubits) × (c.qubits ≤ 64)
      by was g (inl h) = subst (λ (y : Circuit). (1 ≤ y.qubits) × (y.qubits ≤ 64)) (sym h.1) (wide j was g)
      by was g (inr h) = subst (λ (y : Circuit). (1 ≤ y.qubits) × (y.qubits ≤ 64)) (sym h) (wide j was g)

  -- LAW: a version more of a circuit is added
  pub adds_version : ((j : ℕ) (c : Circuit) → slice_get cs j ≡ Some c → place_of cs c.name ≡ Some j) → ((j : ℕ) (c : Circuit) → slice_get cs j ≡ Some c → (1 ≤ c.qubits) × (c.qubits ≤ 64))
      → Adds cs (change_at cs i (with_more (v ∷ []))) v
  adds_version named wide = record { from = from_with; forth = forth_with; back = back_with; named = named_with named; wide = wide_with wide }
