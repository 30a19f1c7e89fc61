-- Circuits and versions as they lie in the fields.
use Rattle.std.proofs.Common.{◌≡◌, ℕ, zero, suc, ◌-◌, ◌<◌, ◌≤◌, List, [], ◌∷◌, length, set, get_or, refl, sym, ap, ◌∙◌, subst, arith, nat_eq, ◌⊎◌, inl, inr, Bool, true, false}
use Rattle.std.specs.Prelude.{Option, Some, None, IfSome, MatchOption, IsSome, position, slice_get, slice_index_or, slice_set}
use Rattle.std.specs.Cmp.Lexicographic.{pointwise}
use Rattle.std.proofs.lemmas.List.Quantifiers.{position-Some}
use Rattle.std.specs.List.{position_or_len, IsDistinct, AllByRecursion}
use Rattle.std.proofs.lemmas.Option.{slice_get_past, slice_get-get_or}
use Rattle.std.proofs.lemmas.List.{length-set}
use Rattle.std.proofs.lemmas.List.Sums.{position_or_len_is}
use Rattle.std.proofs.lemmas.Cmp.{nat_list_eq_equiv}
use Rattle.std.proofs.lemmas.Bool.Decides.{nat_tests}
use Rattle.std.proofs.lemmas.Grind.{common_steps}
use Rattle.ps_versions.specs.Held.{Version, Circuit}
use Rattle.ps_versions.specs.Lookup.{names_of, place_of, circuit_in, circuit_at, version_in, change_at}
use Rattle.ps_versions.specs.Lives.{IsLive, IsPinned}
use Rattle.ps_versions.specs.Views.{version_of, versions_of, circuit_of, circuits_of, kept_of, EndsLive}
use Rattle.ps_versions.specs.declared.data.Edition.{Edition}
use Rattle.ps_versions.specs.declared.data.Course.{Course}
use Rattle.ps_versions.specs.declared.data.Stored.{Stored}

pub names-circuits : (ns : List (List ℕ)) (cs : List Course) → length ns ≡ length cs → names_of (circuits_of ns cs) ≡ ns
names-circuits [] [] e = refl
names-circuits [] (c ∷ cs) e = absurd (omega arith)
names-circuits (n ∷ ns) [] e = absurd (omega arith)
names-circuits (n ∷ ns) (c ∷ cs) e = ap (λ xs. n ∷ xs) (names-circuits ns cs (omega arith))

pub length-circuits : (ns : List (List ℕ)) (cs : List Course) → length ns ≡ length cs → length (circuits_of ns cs) ≡ length cs
length-circuits [] [] e = refl
length-circuits [] (c ∷ cs) e = absurd (omega arith)
length-circuits (n ∷ ns) [] e = absurd (omega arith)
length-circuits (n ∷ ns) (c ∷ cs) e = omega (arith, length-circuits ns cs (omega arith))

pub get-circuits : (ns : List (List ℕ)) (cs : List Course) (i : ℕ) (c : Course) → length ns ≡ length cs → slice_get cs i ≡ Some c → slice_get (circuits_of ns cs) i ≡ Some (circuit_of (get_or ns i []) c)
get-circuits [] [] i c e g = cc
get-circuits [] (x ∷ cs) i c e g = absurd (omega arith)
get-circuits (n ∷ ns) [] i c e g = cc
get-circuits (n ∷ ns) (x ∷ cs) zero c e g = let same : x ≡ c = cc in ap (λ y. Some (circuit_of n y)) same
get-circuits (n ∷ ns) (x ∷ cs) (suc i) c e g = get-circuits ns cs i c (omega arith) g

pub length-versions : (es : List Edition) → length (versions_of es) ≡ length es
length-versions [] = refl
length-versions (e ∷ es) = omega (arith, length-versions es)

pub get-versions : (es : List Edition) (i : ℕ) (e : Edition) → slice_get es i ≡ Some e → slice_get (versions_of es) i ≡ Some (version_of e)
get-versions [] i e g = cc
get-versions (x ∷ es) zero e g = let same : x ≡ e = cc in ap (λ y. Some (version_of y)) same
get-versions (x ∷ es) (suc i) e g = get-versions es i e g

pub length-names : (cs : List Circuit) → length (names_of cs) ≡ length cs
length-names [] = refl
length-names (c ∷ cs) = omega (arith, length-names cs)

pub place_found : (cs : List Circuit) (name : List ℕ) (r : Option ℕ) → r ≡ place_of cs name → MatchOption r (circuit_at cs name ≡ None) (λ i. (i < length cs) × (circuit_at cs name ≡ slice_get cs i))
unfolding place_of
place_found cs name None e = ap (circuit_in cs) (sym e)
place_found cs name (Some i) e = (omega (arith, length-names cs, (position-Some (pointwise nat_eq name) (names_of cs) i [] (sym e)).0), ap (circuit_in cs) (sym e))

pub place-fields : (ns : List (List ℕ)) (cs : List Course) (name : List ℕ) → length ns ≡ length cs → position (pointwise nat_eq name) ns ≡ place_of (circuits_of ns cs) name
unfolding place_of
place-fields ns cs name e = ap (position (pointwise nat_eq name)) (sym (names-circuits ns cs e))

module _ {R : Type 0} where
  pub length-kept : (rs : List (Option (Stored R))) → length (kept_of rs) ≡ length rs
  length-kept [] = refl
  length-kept (None ∷ rs) = omega (arith, length-kept rs)
  length-kept (Some r ∷ rs) = omega (arith, length-kept rs)

  kept_in : Option (Stored R) → Option (ℕ × R)
  kept_in None = None
  kept_in (Some r) = Some (r.entry, r.kept)

  pub get-kept-none : (rs : List (Option (Stored R))) (i : ℕ) → slice_get rs i ≡ Some None → slice_index_or (kept_of rs) i None ≡ None
  get-kept-none [] i e = refl
  get-kept-none (None ∷ rs) zero e = refl
  get-kept-none (Some r ∷ rs) zero e = cc
  get-kept-none (None ∷ rs) (suc i) e = get-kept-none rs i e
  get-kept-none (Some r ∷ rs) (suc i) e = get-kept-none rs i e

  pub get-kept-some : (rs : List (Option (Stored R))) (i : ℕ) (s : Stored R) → slice_get rs i ≡ Some (Some s) → slice_index_or (kept_of rs) i None ≡ Some (s.entry, s.kept)
  get-kept-some [] i s e = cc
  get-kept-some (None ∷ rs) zero s e = cc
  get-kept-some (Some r ∷ rs) zero s e = let same : r ≡ s = cc in ap (λ x. Some (x.entry, x.kept)) same
  get-kept-some (None ∷ rs) (suc i) s e = get-kept-some rs i s e
  get-kept-some (Some r ∷ rs) (suc i) s e = get-kept-some rs i s e

none_there : (A : Type 0) → IsSome {T = A} None → ⊥
none_there A h = let e = h in cc

which_place : (k n : ℕ) → (k < n) ⊎ (n ≤ k)
which_place k n = grind arith

is_there : (A : Type 0) (xs : List A) (k : ℕ) → IsSome (slice_get xs k) → k < length xs
is_there A xs k h = elim (which_place k (length xs)) [
  | inl near ↦ near
  | inr past ↦ absurd (none_there A (subst (λ o. IsSome o) (slice_get_past xs k past) h))
]

-- a version that exists has a number from 1 on
pub version_there : (c : Circuit) (v : ℕ) → IsSome (version_in (Some c) v) → (0 < v) × (v - 1 < length c.versions)
version_there c zero h = absurd (none_there Version h)
version_there c (suc k) h = (omega arith, omega (arith, is_there Version c.versions k h))

pub version_read : (c : Circuit) (v : ℕ) (x : Version) → 0 < v → slice_get c.versions (v - 1) ≡ Some x → version_in (Some c) v ≡ Some x
version_read c zero x h g = absurd (omega arith)
version_read c (suc k) x h g = let e : suc k - 1 ≡ k = omega arith in subst (λ i. slice_get c.versions i ≡ Some x) e g

-- one version, and one circuit, replaced
pub versions-set : (es : List Edition) (j : ℕ) (e : Edition) → j < length es → versions_of (set es j e) ≡ change_at (versions_of es) j (λ _. version_of e)
versions-set [] j e h = absurd (omega arith)
versions-set (x ∷ es) zero e h = refl
versions-set (x ∷ es) (suc j) e h = ap (λ vs. version_of x ∷ vs) (versions-set es j e (omega arith))

pub circuits-set : (ns : List (List ℕ)) (cs : List Course) (i : ℕ) (c d : Course) (f : Circuit → Circuit) → length ns ≡ length cs → slice_get cs i ≡ Some c → ((n : List ℕ) → circuit_of n d ≡ f (circuit_of n c)) → circuits_of ns (set cs i d) ≡ change_at (circuits_of ns cs) i f
circuits-set [] [] i c d f e g h = cc
circuits-set [] (x ∷ cs) i c d f e g h = absurd (omega arith)
circuits-set (n ∷ ns) [] i c d f e g h = cc
circuits-set (n ∷ ns) (x ∷ cs) zero c d f e g h = let same : c ≡ x = cc in ap (λ y. y ∷ circuits_of ns cs) (h n ∙ ap (λ y. f (circuit_of n y)) same)
circuits-set (n ∷ ns) (x ∷ cs) (suc i) c d f e g h = ap (λ ys. circuit_of n x ∷ ys) (circuits-set ns cs i c d f (omega arith) g h)

module _ {R : Type 0} where
  pub kept-set : (rs : List (Option (Stored R))) (i : ℕ) (s : Stored R) → i < length rs → kept_of (set rs i (Some s)) ≡ slice_set (kept_of rs) i (Some (s.entry, s.kept))
  kept-set [] i s h = absurd (omega arith)
  kept-set (None ∷ rs) zero s h = refl
  kept-set (Some r ∷ rs) zero s h = refl
  kept-set (None ∷ rs) (suc i) s h = ap (λ ks. None ∷ ks) (kept-set rs i s (omega arith))
  kept-set (Some r ∷ rs) (suc i) s h = ap (λ ks. Some (r.entry, r.kept) ∷ ks) (kept-set rs i s (omega arith))

-- what holds of each item holds with one replaced
pub each_set : {A : Type 0} (P : A → Type 0) (xs : List A) (i : ℕ) (d : A) → ((k : ℕ) (x : A) → slice_get xs k ≡ Some x → P x) → P d → (k : ℕ) (x : A) → slice_get (set xs i d) k ≡ Some x → P x
each_set P [] i d all pd k x e = all k x e
each_set P (y ∷ xs) zero d all pd zero x e = let same : d ≡ x = cc in subst P same pd
each_set P (y ∷ xs) zero d all pd (suc k) x e = all (suc k) x e
each_set P (y ∷ xs) (suc i) d all pd zero x e = all zero x e
each_set P (y ∷ xs) (suc i) d all pd (suc k) x e = each_set P xs i d (λ j z g. all (suc j) z g) pd k x e

pub live_there : (o : Option Version) → IsLive o → IsSome o
live_there None h = absurd h
live_there (Some v) h = refl

pub pinned_there : (o : Option Version) → IsPinned o → IsSome o
pinned_there None h = absurd h
pinned_there (Some v) h = refl

-- the latest version of a circuit is live
pub live_last : (n : List ℕ) (c : Course) → 0 < length c.editions.items → EndsLive c.editions.items → IsLive (version_in (Some (circuit_of n c)) (length c.editions.items))
live_last n c some ends =
    let es = c.editions.items in
    let none : Edition = record { root = None; retired = None; ended = None; pins = 0 } in
    let e : Edition = get_or es (length es - 1) none in
    let got : slice_get es (length es - 1) ≡ Some e = slice_get-get_or es (length es - 1) none (omega (arith, some)) in
    subst (λ o. IsLive o) (sym (version_read (circuit_of n c) (length es) (version_of e) some (get-versions es (length es - 1) e got))) (ends e got)

-- one version replaced
pub ends_set : (es : List Edition) (j : ℕ) (e : Edition) → EndsLive es → (j ≡ length es - 1 → e.retired ≡ None) → EndsLive (set es j e)
ends_set es j e ends last = λ x h. each es j (length es - 1) x (λ y r. ends y r) last (subst (λ n. slice_get (set es j e) n ≡ Some x) (omega (arith, length-set es j e)) h)
  where
    each : (es : List Edition) (j n : ℕ) (x : Edition) → ((y : Edition) → slice_get es n ≡ Some y → y.retired ≡ None) → (j ≡ n → e.retired ≡ None) → slice_get (set es j e) n ≡ Some x → x.retired ≡ None
    each [] j n x ends last h = ends x h
    each (d ∷ es) zero zero x ends last h = let same : e ≡ x = cc in ap (λ y. y.retired) (sym same) ∙ last refl
    each (d ∷ es) zero (suc n) x ends last h = ends x h
    each (d ∷ es) (suc j) zero x ends last h = ends x h
    each (d ∷ es) (suc j) (suc n) x ends last h = each es j n x ends (λ q. last (ap suc q)) h

-- the names of circuits are distinct
apart : (ns : List (List ℕ)) → IsDistinct (pointwise nat_eq) ns → (k i : ℕ) → k < i → i < length ns → pointwise nat_eq (get_or ns k []) (get_or ns i []) ≡ false
unfolding IsDistinct
apart [] d k i h near = absurd (omega arith)
apart (n ∷ ns) d k zero h near = absurd (omega arith)
apart (n ∷ ns) d zero (suc i) h near = first ns i d.0 (omega arith)
  where
    first : (ms : List (List ℕ)) (i : ℕ) → AllByRecursion (λ y. pointwise nat_eq n y ≡ false) ms → i < length ms → pointwise nat_eq n (get_or ms i []) ≡ false
    first [] i a h = absurd (omega arith)
    first (m ∷ ms) zero a h = a.0
    first (m ∷ ms) (suc i) a h = first ms i a.1 (omega arith)
apart (n ∷ ns) d (suc k) (suc i) h near = apart ns d.1 k i (omega arith) (omega arith)

turned : (a b : List ℕ) → pointwise nat_eq a b ≡ false → pointwise nat_eq b a ≡ false
turned a b e = nat_list_eq_equiv.symm b a ∙ e

place_at : (ns : List (List ℕ)) (i : ℕ) → IsDistinct (pointwise nat_eq) ns → i < length ns → position (pointwise nat_eq (get_or ns i [])) ns ≡ Some i
place_at ns i d near =
    let p : List ℕ → Bool = pointwise nat_eq (get_or ns i []) in
    at_first p ns i (position_or_len_is p ns i [] (omega arith) (λ k h. turned (get_or ns k []) (get_or ns i []) (apart ns d k i h near)) (λ _. nat_list_eq_equiv.refl (get_or ns i []))) near
  where
    at_first : (p : List ℕ → Bool) (ys : List (List ℕ)) (n : ℕ) → position_or_len p ys ≡ n → n < length ys → position p ys ≡ Some n
    at_first p ys n e near = grind (arith, common_steps, nat_tests)

get_or-any : (ns : List (List ℕ)) (i : ℕ) (d : List ℕ) → i < length ns → get_or ns i d ≡ get_or ns i []
get_or-any [] i d h = absurd (omega arith)
get_or-any (n ∷ ns) zero d h = refl
get_or-any (n ∷ ns) (suc i) d h = get_or-any ns i d (omega arith)

-- the name that was read at an index
pub place_index : (ns : List (List ℕ)) (i : ℕ) (name : List ℕ) → IsDistinct (pointwise nat_eq) ns → i < length ns → name ≡ get_or ns i name → position (pointwise nat_eq name) ns ≡ Some i
place_index ns i name d near e = ap (λ n. position (pointwise nat_eq n) ns) (e ∙ get_or-any ns i name near) ∙ place_at ns i d near

pub name_index : (ns : List (List ℕ)) (cs : List Course) (i : ℕ) (name : List ℕ) → length ns ≡ length cs → i < length ns → name ≡ get_or ns i name → IfSome (slice_get (circuits_of ns cs) i) (λ c. c.name ≡ name)
name_index ns cs i name l near e = at ns cs i l near (sym (e ∙ get_or-any ns i name near))
  where
    at : (ns : List (List ℕ)) (cs : List Course) (i : ℕ) → length ns ≡ length cs → i < length ns → get_or ns i [] ≡ name → IfSome (slice_get (circuits_of ns cs) i) (λ c. c.name ≡ name)
    at [] cs i l near e = absurd (omega arith)
    at (n ∷ ns) [] i l near e = absurd (omega arith)
    at (n ∷ ns) (c ∷ cs) zero l near e = e
    at (n ∷ ns) (c ∷ cs) (suc i) l near e = at ns cs i (omega arith) (omega arith) e
