-- Qubits as bits of a number.
use Rattle.std.proofs.Common.{◌≡◌, ◌≢◌, ℕ, zero, suc, length, take, get_or, ◌+◌, ◌*◌, ◌%◌, ◌^◌, ◌<◌, ◌≤◌, min, max, refl, ap, sym, ◌∙◌, subst, arith, List, [], ◌∷◌, ◌++◌, ◌⊎◌, inl, inr, bit_and, bit_or, w64}
use Rattle.std.proofs.lemmas.List.{take_more}
use Rattle.std.proofs.lemmas.Bool.{cases_eq, cases_lt}
use Rattle.std.proofs.lemmas.Nat.Bits.{bit_at-lt, bit_at-zero, bit_at_and, bit_at_or, bit_at_set_same, bit_at_set_other, bit_at_above, same_from_bits}
use Rattle.std.specs.Int.{bit_at}
use Rattle.ps_prim.specs.declared.prims.Primitive.{Primitive as Prim}
use Rattle.ps_prim.specs.declared.prims.Primitive.TheVariants.{U, Cx}
use Rattle.ps_prim.specs.Maps.{IsWithin, AllWithin}
use Rattle.ps_cut.specs.Orders.{IsOn, IsOnSome, AreDisjoint}
use Rattle.ps_local.specs.Qubits.{IsMask, IsOneMore}
use Rattle.ps_local.proofs.Runs.{on_either}

-- ---- one bit more
record IsSet (m q more : ℕ) : Type 0 where
  only : (k : ℕ) → bit_at more k ≡ 1 → (bit_at m k ≡ 1) ⊎ (k ≡ q)
  before : (k : ℕ) → bit_at m k ≡ 1 → bit_at more k ≡ 1
  added : bit_at more q ≡ 1

set_bit : (m q : ℕ) → q < 64 → IsSet m q (bit_or m (1 * 2 ^ q % 2 ^ 64))
set_bit m q h = record {
  only = λ k e. elim (cases_eq k q) [ inl i ↦ inr i | inr d ↦ inl (sym (bit_at_set_other w64 m q h k d) ∙ e) ];
  before = λ k e. elim (cases_eq k q) [ inl i ↦ ap (bit_at (bit_or m (1 * 2 ^ q % 2 ^ 64))) i ∙ bit_at_set_same w64 m q h | inr d ↦ bit_at_set_other w64 m q h k d ∙ e ];
  added = bit_at_set_same w64 m q h;
}

pub more_u : (m theta phi lambda q : ℕ) → q < 64 → IsOneMore m (U theta phi lambda q) (bit_or m (1 * 2 ^ q % 2 ^ 64))
more_u m theta phi lambda q h = let s = set_bit m q h in record { only = s.only; before = s.before; added = λ k e. ap (bit_at (bit_or m (1 * 2 ^ q % 2 ^ 64))) e ∙ s.added }

pub more_cx : (m c t : ℕ) → c < 64 → t < 64 → IsOneMore m (Cx c t) (bit_or (bit_or m (1 * 2 ^ c % 2 ^ 64)) (1 * 2 ^ t % 2 ^ 64))
more_cx m c t hc ht =
    let a = set_bit m c hc in
    let b = set_bit (bit_or m (1 * 2 ^ c % 2 ^ 64)) t ht in
    record {
      only = λ k e. elim (b.only k e) [ inl x ↦ elim (a.only k x) [ inl y ↦ inl y | inr y ↦ inr (inl y) ] | inr x ↦ inr (inr x) ];
      before = λ k e. b.before k (a.before k e);
      added = λ k h. elim h [
        | inl x ↦ b.before k (ap (bit_at (bit_or m (1 * 2 ^ c % 2 ^ 64))) x ∙ a.added)
        | inr x ↦ ap (bit_at (bit_or (bit_or m (1 * 2 ^ c % 2 ^ 64)) (1 * 2 ^ t % 2 ^ 64))) x ∙ b.added
      ];
    }

-- ---- masks of lists
pub on_first : (k : ℕ) (A B : List Prim) → IsOnSome k A → IsOnSome k (A ++ B)
on_first k [] B h = absurd h
on_first k (g ∷ A) B (inl h) = inl h
on_first k (g ∷ A) B (inr h) = inr (on_first k A B h)

pub on_second : (k : ℕ) (A B : List Prim) → IsOnSome k B → IsOnSome k (A ++ B)
on_second k [] B h = h
on_second k (g ∷ A) B h = inr (on_second k A B h)

pub mask_none : IsMask 0 []
mask_none = record { only = λ k e. absurd (let z = bit_at-zero k in omega arith); all = λ k h. absurd h }

pub mask_more : (m more : ℕ) (A : List Prim) (g : Prim) → IsOneMore m g more → IsMask m A → IsMask more (A ++ g ∷ [])
mask_more m more A g o h = record {
  only = λ k e. elim (o.only k e) [ inl x ↦ on_first k A (g ∷ []) (h.only k x) | inr x ↦ on_second k A (g ∷ []) (inl x) ];
  all = λ k x. elim (on_either k A (g ∷ []) x) [ inl y ↦ o.before k (h.all k y) | inr y ↦ o.added k (alone k y) ];
}
  where
    alone : (k : ℕ) → IsOnSome k (g ∷ []) → IsOn k g
    alone k (inl x) = x
    alone k (inr x) = absurd x

max_one : (a b : ℕ) → max a b ≡ 1 → (a ≡ 1) ⊎ (b ≡ 1)
max_one a b e = elim (cases_eq a 1) [ inl x ↦ inl x | inr x ↦ inr (omega arith) ]

pub mask_both : (a b : ℕ) (A B : List Prim) → IsMask a A → IsMask b B → IsMask (bit_or a b) (A ++ B)
mask_both a b A B x y = record {
  only = λ k e. elim (max_one (bit_at a k) (bit_at b k) (sym (bit_at_or a b k) ∙ e)) [ inl h ↦ on_first k A B (x.only k h) | inr h ↦ on_second k A B (y.only k h) ];
  all = λ k h. bit_at_or a b k ∙ elim (on_either k A B h) as (λ _. max (bit_at a k) (bit_at b k) ≡ 1) [
    | inl u ↦ (let i = x.all k u in let l = bit_at-lt b k in omega arith)
    | inr u ↦ (let i = y.all k u in let l = bit_at-lt a k in omega arith)
  ];
}

-- ---- common qubits
pub no_common : (a b : ℕ) (A B : List Prim) → IsMask a A → IsMask b B → bit_and a b ≡ 0 → AreDisjoint A B
no_common a b A B x y e k u v =
    let i = x.all k u in
    let j = y.all k v in
    let z : bit_at (bit_and a b) k ≡ 0 = ap (λ m. bit_at m k) e ∙ bit_at-zero k in
    let w = bit_at_and a b k in
    omega arith

both_zero : (p q : ℕ) → p < 2 → q < 2 → (p ≡ 1 → q ≡ 1 → ⊥) → min p q ≡ 0
both_zero p q hp hq f = elim (cases_eq p 1) [
  | inl a ↦ elim (cases_eq q 1) [ inl b ↦ absurd (f a b) | inr b ↦ omega arith ]
  | inr a ↦ omega arith
]

pub disjoint_masks : (a b : ℕ) (A B : List Prim) → IsMask a A → IsMask b B → AreDisjoint A B → bit_and a b ≡ 0
disjoint_masks a b A B x y d =
    same_from_bits (bit_and a b) 0 (λ i. bit_at_and a b i ∙ both_zero (bit_at a i) (bit_at b i) (bit_at-lt a i) (bit_at-lt b i) (λ p q. d i (x.only i p) (y.only i q)) ∙ sym (bit_at-zero i))

-- no bit below 64 is in both
pub no_bit : (a m : ℕ) → m < 2 ^ 64 → ((q : ℕ) → q < 64 → bit_at m q ≡ 1 → bit_at a q ≡ 0) → bit_and a m ≡ 0
no_bit a m h f =
    same_from_bits (bit_and a m) 0 (λ i. bit_at_and a m i ∙ both_zero (bit_at a i) (bit_at m i) (bit_at-lt a i) (bit_at-lt m i) (λ p q. clash i p q (cases_lt i 64)) ∙ sym (bit_at-zero i))
  where
    clash : (i : ℕ) → bit_at a i ≡ 1 → bit_at m i ≡ 1 → (i < 64) ⊎ (64 ≤ i) → ⊥
    clash i p q (inl l) = let z = f i l q in omega arith
    clash i p q (inr l) = let z = bit_at_above m 64 i h l in omega arith

pub common_bit : (a m q : ℕ) → bit_at a q ≡ 1 → bit_at m q ≡ 1 → bit_and a m ≢ 0
common_bit a m q x y e =
    let z : bit_at (bit_and a m) q ≡ 0 = ap (λ k. bit_at k q) e ∙ bit_at-zero q in
    let w = bit_at_and a m q in
    omega arith

-- ---- a list without prims
pub some_qubit : (g : List Prim) → g ≢ [] → (k : ℕ) × IsOnSome k g
some_qubit [] h = absurd (h refl)
some_qubit (U theta phi lambda q ∷ gs) h = (q, inl refl)
some_qubit (Cx c t ∷ gs) h = (c, inl (inl refl))

pub mask_some : (g : List Prim) (m : ℕ) → IsMask m g → m ≢ 0 → g ≢ []
mask_some g m x d e = d (same_from_bits m 0 (λ i. let l = bit_at-lt m i in none i (cases_eq (bit_at m i) 1) l ∙ sym (bit_at-zero i)))
  where
    none : (i : ℕ) → (bit_at m i ≡ 1) ⊎ (bit_at m i ≢ 1) → bit_at m i < 2 → bit_at m i ≡ 0
    none i (inl a) l = absurd (subst (IsOnSome i) e (x.only i a))
    none i (inr a) l = omega arith

pub mask_zero : (g : List Prim) (m : ℕ) → IsMask m g → m ≡ 0 → ¬ (g ≢ [])
mask_zero g m x e h =
    let s = some_qubit g h in
    let b = x.all s.0 s.1 in
    let z : bit_at m s.0 ≡ 0 = ap (λ k. bit_at k s.0) e ∙ bit_at-zero s.0 in
    omega arith

-- ---- the code's steps
pub more_u_at : (m : ℕ) (g : Prim) (theta phi lambda q : ℕ) → g ≡ U theta phi lambda q → IsWithin 64 g → IsOneMore m g (bit_or m (1 * 2 ^ q % 2 ^ 64))
more_u_at m g theta phi lambda q e w = subst (λ (h : Prim). IsOneMore m h (bit_or m (1 * 2 ^ q % 2 ^ 64))) (sym e) (more_u m theta phi lambda q (subst (IsWithin 64) e w))

pub more_cx_at : (m : ℕ) (g : Prim) (c t : ℕ) → g ≡ Cx c t → IsWithin 64 g → IsOneMore m g (bit_or (bit_or m (1 * 2 ^ c % 2 ^ 64)) (1 * 2 ^ t % 2 ^ 64))
more_cx_at m g c t e w =
    let v : IsWithin 64 (Cx c t) = subst (IsWithin 64) e w in
    subst (λ (h : Prim). IsOneMore m h (bit_or (bit_or m (1 * 2 ^ c % 2 ^ 64)) (1 * 2 ^ t % 2 ^ 64))) (sym e) (more_cx m c t v.0 v.1)

within_place : (L : List Prim) (i : ℕ) (d : Prim) → i < length L → AllWithin 64 L → IsWithin 64 (get_or L i d)
within_place [] i d h w = absurd (omega arith)
within_place (g ∷ gs) zero d h w = w.0
within_place (g ∷ gs) (suc i) d h w = within_place gs i d (omega arith) w.1

pub within_at : (L A : List Prim) (i : ℕ) (g : Prim) → i < length L → g ≡ get_or L i g → L ≡ A → AllWithin 64 A → IsWithin 64 g
within_at L A i g h e s w = subst (IsWithin 64) (sym e) (within_place L i g h (subst (AllWithin 64) (sym s) w))

pub mask_step : (m more : ℕ) (L : List Prim) (i : ℕ) (g : Prim) → i < length L → g ≡ get_or L i g → IsOneMore m g more → IsMask m (take i L) → IsMask more (take (i + 1) L)
mask_step m more L i g h e o k = subst (IsMask more) (ap (λ (x : Prim). take i L ++ x ∷ []) e ∙ sym (take_more L i g h)) (mask_more m more (take i L) g o k)
