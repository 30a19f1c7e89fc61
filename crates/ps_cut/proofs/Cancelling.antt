-- What is one map behind a front and before a back is one map, and what differs there makes the whole differ.
use Rattle.std.proofs.Common.{◌≡◌, ℕ, zero, suc, refl, ap, sym, arith, true, false, List, [], ◌∷◌, ◌++◌, length, append_assoc, append-nil, subst, ◌⊎◌, inl, inr}
use Rattle.ps_prim.specs.declared.prims.Primitive.{Primitive as Prim}
use Rattle.ps_prim.specs.Amplitudes.{Truths}
use Rattle.ps_prim.specs.Maps.{AllWithin, SameAt, SameMap, DiffersAt}
use Rattle.ps_prim.proofs.Deciding.{same_or_differs}
use Rattle.ps_cut.specs.Inverses.{undo}
use Rattle.ps_cut.specs.EndLaws.{MapCancels, DiffersBetween, DiffersSomewhere, DiffersBefore}
use Rattle.ps_cut.proofs.Congruence.{same_at_trans, same_at_append, map_reflexive, map_symmetric, map_transitive, map_append}
use Rattle.ps_cut.proofs.Undoing.{undo_behind, undo_before}

-- ---- what stands behind
-- a list, and behind it one that does nothing
nothing_behind : (n : ℕ) (M S T : List Prim) → SameMap n (S ++ T) [] → SameMap n ((M ++ S) ++ T) M
nothing_behind n M S T h =
    subst (λ (A : List Prim). SameMap n A M) (sym (append_assoc M S T))
    (subst (λ (A : List Prim). SameMap n (M ++ (S ++ T)) A) (append-nil M) (map_append n M M (S ++ T) [] (map_reflexive n M) h))

pub back_cancels_at : (n : ℕ) (M N S : List Prim) (x : Truths) → AllWithin n S → length x ≡ n → SameAt n (M ++ S) (N ++ S) x → SameAt n M N x
back_cancels_at n M N S x hS lx h =
    let u = undo_behind n S hS in
    let m : SameAt n M ((M ++ S) ++ undo S) x = map_symmetric n _ _ (nothing_behind n M S (undo S) u) x lx in
    let e : SameAt n ((M ++ S) ++ undo S) ((N ++ S) ++ undo S) x = same_at_append n (M ++ S) (N ++ S) (undo S) (undo S) x h (map_reflexive n (undo S)) in
    same_at_trans n M _ N x m (same_at_trans n _ _ N x e (nothing_behind n N S (undo S) u x lx))

pub back_cancels : (n : ℕ) (M N S : List Prim) → AllWithin n S → SameMap n (M ++ S) (N ++ S) → SameMap n M N
back_cancels n M N S hS h x lx = back_cancels_at n M N S x hS lx (h x lx)

-- ---- what stands in front
nothing_before : (n : ℕ) (T P M : List Prim) → SameMap n (T ++ P) [] → SameMap n (T ++ (P ++ M)) M
nothing_before n T P M h = subst (λ (A : List Prim). SameMap n A M) (append_assoc T P M) (map_append n (T ++ P) [] M M h (map_reflexive n M))

pub front_cancels : (n : ℕ) (P M N : List Prim) → AllWithin n P → SameMap n (P ++ M) (P ++ N) → SameMap n M N
front_cancels n P M N hP h =
    let u = undo_before n P hP in
    let e : SameMap n (undo P ++ (P ++ M)) (undo P ++ (P ++ N)) = map_append n (undo P) (undo P) (P ++ M) (P ++ N) (map_reflexive n (undo P)) h in
    map_transitive n M _ N (map_symmetric n _ _ (nothing_before n (undo P) P M u)) (map_transitive n _ _ N e (nothing_before n (undo P) P N u))

pub map_cancels : MapCancels
map_cancels n P M N S hP hS h = back_cancels n M N S hS (front_cancels n P (M ++ S) (N ++ S) hP h)

-- ---- differences
pub not_both : (n : ℕ) (A B : List Prim) (x : Truths) → DiffersAt n A B x → ¬ (SameAt n A B x)
not_both n A B x d s = d.2.1 (s d.0 d.1 d.2.0)

pub differs_between : DiffersBetween
differs_between n P M N S x hP hS lx d h = not_both n M N x d (map_cancels n P M N S hP hS h x lx)

pub differs_before : DiffersBefore
differs_before n M N S x hS lx d = elim (same_or_differs n (M ++ S) (N ++ S) x) [
  | inl s ↦ absurd (not_both n M N x d (back_cancels_at n M N S x hS lx s))
  | inr e ↦ e
]

-- all lists of n bits have the one, or some has the other
all_or_some : (n : ℕ) (G H : Truths → Type 0) → ((x : Truths) → G x ⊎ H x) → ((x : Truths) → length x ≡ n → G x) ⊎ ((x : Truths) × (length x ≡ n) × H x)
all_or_some zero G H f = elim (f []) [ inl g ↦ inl (λ x l. at_none x l g) | inr h ↦ inr ([], refl, h) ]
  where
    at_none : (x : Truths) → length x ≡ 0 → G [] → G x
    at_none [] l g = g
    at_none (b ∷ x) l g = absurd (omega arith)
all_or_some (suc n) G H f = elim (all_or_some n (λ x. G (false ∷ x)) (λ x. H (false ∷ x)) (λ x. f (false ∷ x))) [
  | inr r ↦ inr (false ∷ r.0, ap suc r.1, r.2)
  | inl g ↦ elim (all_or_some n (λ x. G (true ∷ x)) (λ x. H (true ∷ x)) (λ x. f (true ∷ x))) [
    | inr r ↦ inr (true ∷ r.0, ap suc r.1, r.2)
    | inl h ↦ inl (λ x l. at_both x l g h)
  ]
]
  where
    at_both : (x : Truths) → length x ≡ suc n → ((y : Truths) → length y ≡ n → G (false ∷ y)) → ((y : Truths) → length y ≡ n → G (true ∷ y)) → G x
    at_both [] l g h = absurd (omega arith)
    at_both (false ∷ x) l g h = g x (omega arith)
    at_both (true ∷ x) l g h = h x (omega arith)

pub same_or_some : (n : ℕ) (A B : List Prim) → SameMap n A B ⊎ ((x : Truths) × (length x ≡ n) × DiffersAt n A B x)
same_or_some n A B = all_or_some n (SameAt n A B) (DiffersAt n A B) (same_or_differs n A B)

pub differs_somewhere : DiffersSomewhere
differs_somewhere n P M N S x hP hS lx d = elim (same_or_some n (P ++ (M ++ S)) (P ++ (N ++ S))) [
  | inl s ↦ absurd (differs_between n P M N S x hP hS lx d s)
  | inr r ↦ r
]
