-- Two lists of items have one cut.
use Rattle.std.proofs.Common.{◌≡◌, ℕ, ◌+◌, ◌-◌, ◌<◌, ◌≤◌, ap, ap₂, sym, ◌∙◌, arith, List, [], length, get_or, take, drop, reverse, subst, inl, inr}
use Rattle.std.proofs.lemmas.List.{get_or-take, get_or-drop, reverse-reverse}
use Rattle.std.proofs.lemmas.Bool.{cases_lt}
use Rattle.ps_prim.specs.declared.prims.Primitive.{Primitive as Prim}
use Rattle.ps_local.specs.declared.cut.Cut.{Cut}
use Rattle.ps_local.specs.Cuts.{IsFront, IsBack, from_back}
use Rattle.ps_local.specs.Exchanges.{IsSplit}
use Rattle.ps_local.specs.LocalLaws.{CutOnce}
use Rattle.ps_local.proofs.Fronting.{fronts_once}

-- the item at k stands in both fronts
same_in_front : (I K : List (List Prim)) (f k : ℕ) → k < f → take f I ≡ take f K → get_or I k [] ≡ get_or K k []
same_in_front I K f k h e = sym (get_or-take f I k [] h) ∙ ap (λ (L : List (List Prim)). get_or L k []) e ∙ get_or-take f K k [] h

no_longer_front : (I K : List (List Prim)) (f g : ℕ) → IsFront I K f → IsFront I K g → f < g → ⊥
no_longer_front I K f g a b h = a.most (let l = b.first in omega arith) (let l = b.second in omega arith) (same_in_front I K g f h b.same)

-- the k-th item from the back stands in both backs
at_back : (I : List (List Prim)) (g k : ℕ) → k < g → g ≤ length I → get_or (drop (length I - g) I) (g - 1 - k) [] ≡ get_or I (length I - 1 - k) []
at_back I g k h l =
    let e : length I - g + (g - 1 - k) ≡ length I - 1 - k = omega arith in
    get_or-drop (length I - g) I (g - 1 - k) [] ∙ ap (λ i. get_or I i []) e

same_at_back : (I K : List (List Prim)) (g k : ℕ) → k < g → g ≤ length I → g ≤ length K → drop (length I - g) I ≡ drop (length K - g) K → get_or I (length I - 1 - k) [] ≡ get_or K (length K - 1 - k) []
same_at_back I K g k h li lk e = sym (at_back I g k h li) ∙ ap (λ (L : List (List Prim)). get_or L (g - 1 - k) []) e ∙ at_back K g k h lk

no_longer_back : (I K : List (List Prim)) (front f g : ℕ) → IsBack I K front f → IsBack I K front g → f < g → ⊥
no_longer_back I K front f g a b h =
    let li = b.first in
    let lk = b.second in
    a.most (omega arith) (omega arith) (same_at_back I K g f h (omega arith) (omega arith) b.same)

one_number : (P : ℕ → Type 0) → ((f g : ℕ) → P f → P g → f < g → ⊥) → (f g : ℕ) → P f → P g → f ≡ g
one_number P w f g a b = elim (cases_lt f g) [
  | inl l ↦ absurd (w f g a b l)
  | inr h ↦ elim (cases_lt g f) [ inl l ↦ absurd (w g f b a l) | inr k ↦ omega arith ]
]

front_once : (I K : List (List Prim)) (f g : ℕ) → IsFront I K f → IsFront I K g → f ≡ g
front_once I K = one_number (IsFront I K) (no_longer_front I K)

back_once : (I K : List (List Prim)) (front f g : ℕ) → IsBack I K front f → IsBack I K front g → f ≡ g
back_once I K front = one_number (IsBack I K front) (no_longer_back I K front)

equal_cuts : (c d : Cut) → c.front ≡ d.front → c.back ≡ d.back → c.first ≡ d.first → c.second ≡ d.second → c ≡ d
equal_cuts c d f b x y =
    ap (λ v. record c { front = v }) f ∙ ap (λ v. record c { front = d.front; back = v }) b
    ∙ ap (λ v. record c { front = d.front; back = d.back; first = v }) x ∙ ap (λ v. record d { second = v }) y

-- one front up to exchanges
record EqualSplits (p q : ℕ) (M M' N N' : List (List Prim)) : Type 0 where
  count : p ≡ q
  first : M ≡ M'
  second : N ≡ N'

split_once : (I K M M' N N' : List (List Prim)) (p q : ℕ) → IsSplit I K p M N → IsSplit I K q M' N' → EqualSplits p q M M' N N'
split_once I K M M' N N' p q a b = let e = fronts_once a.fronts b.fronts in record { count = a.counted ∙ ap length e.front ∙ sym b.counted; first = e.first; second = e.second }

split_at : (I K M N : List (List Prim)) (p : ℕ) {f g : ℕ} → f ≡ g → IsSplit (drop f I) (drop f K) p M N → IsSplit (drop g I) (drop g K) p M N
split_at I K M N p e s = subst (λ k. IsSplit (drop k I) (drop k K) p M N) e s

back_at : {M M' N N' : List (List Prim)} (back : ℕ) → M ≡ M' → N ≡ N' → IsBack M N 0 back → IsBack M' N' 0 back
back_at {M} {M'} {N} back e f b = subst (λ X. IsBack M' X 0 back) f (subst (λ X. IsBack X N 0 back) e b)

back_split_at : {M M' N N' X Y : List (List Prim)} {f g : ℕ} (p : ℕ) → M ≡ M' → N ≡ N' → f ≡ g → IsSplit (from_back M f) (from_back N f) p X Y → IsSplit (from_back M' g) (from_back N' g) p X Y
back_split_at {M} {M'} {N} {N'} {X} {Y} {f} p e h i s =
    subst (λ k. IsSplit (from_back M' k) (from_back N' k) p X Y) i (subst (λ L. IsSplit (from_back M' f) (from_back L f) p X Y) h (subst (λ L. IsSplit (from_back L f) (from_back N f) p X Y) e s))

unreversed : (A B : List (List Prim)) → reverse A ≡ reverse B → A ≡ B
unreversed A B e = sym (reverse-reverse A) ∙ ap (λ (L : List (List Prim)). reverse L) e ∙ reverse-reverse B

pub cut_once : CutOnce
cut_once I K c d a b =
    let f : a.equal_front ≡ b.equal_front = front_once I K a.equal_front b.equal_front a.is_front b.is_front in
    let t = split_once (drop b.equal_front I) (drop b.equal_front K) a.first_left b.first_left a.second_left b.second_left a.moved_front b.moved_front (split_at I K _ _ a.moved_front f a.front_split) b.front_split in
    let k : a.equal_back ≡ b.equal_back = back_once b.first_left b.second_left 0 a.equal_back b.equal_back (back_at a.equal_back t.first t.second a.is_back) b.is_back in
    let u = split_once (from_back b.first_left b.equal_back) (from_back b.second_left b.equal_back) (reverse c.first) (reverse d.first) (reverse c.second) (reverse d.second) a.moved_back b.moved_back
    (back_split_at a.moved_back t.first t.second k a.back_split) b.back_split in
    equal_cuts c d (a.front ∙ ap₂ (λ x y. x + y) f t.count ∙ sym b.front) (a.back ∙ ap₂ (λ x y. x + y) k u.count ∙ sym b.back) (unreversed c.first d.first u.first) (unreversed c.second d.second u.second)
