-- The first place of a list with a qubit of a mask, and whether an item comes out of the list.
use Rattle.std.proofs.Common.{◌≡◌, ◌≢◌, ℕ, ◌+◌, ◌^◌, ◌<◌, ◌≤◌, min, refl, ap, sym, ◌∙◌, subst, arith, Bool, true, false, List, [], ◌∷◌, length, get_or, set, ◌⊎◌, inl, inr, bit_and}
use Rattle.std.proofs.lemmas.Bool.{cases_lt}
use Rattle.std.specs.Int.{bit_at}
use Rattle.ps_prim.specs.declared.prims.Primitive.{Primitive as Prim}
use Rattle.ps_reach.specs.Runs.{run_of}
use Rattle.ps_cut.specs.Orders.{AreDisjoint}
use Rattle.ps_local.specs.Qubits.{IsMask}
use Rattle.ps_local.specs.Wires.{kept, IsClear, AreMasks}
use Rattle.ps_local.specs.Exchanges.{AllApart, Pulls, Comes}
use Rattle.ps_local.proofs.Runs.{apart_run}
use Rattle.ps_local.proofs.Masks.{on_first, on_second, no_common, disjoint_masks, no_bit, common_bit, mask_some, mask_zero}
use Rattle.ps_local.proofs.Keeping.{ClearBefore, pulls_kept, none_pulled, other_pulled}

-- ---- the first place, as far as the qubits below q were looked for
pub record FirstSoFar (masks : List ℕ) (out : List Bool) (mask first q : ℕ) : Type 0 where
  pub inside : first ≤ length masks
  pub before : (k : ℕ) → k < first → get_or out k true ≡ false → (i : ℕ) → i < q → bit_at mask i ≡ 1 → bit_at (get_or masks k 0) i ≡ 0
  pub stands : first < length masks → get_or out first true ≡ false
  pub meets : first < length masks → bit_and (get_or masks first 0) mask ≢ 0

pub first_none : (masks : List ℕ) (out : List Bool) (mask first : ℕ) → first ≡ length masks → FirstSoFar masks out mask first 0
first_none masks out mask first e = record {
  inside = omega arith;
  before = λ k h o i l b. absurd (omega arith);
  stands = λ h. absurd (omega arith);
  meets = λ h. absurd (omega arith);
}

pub first_skips : (masks : List ℕ) (out : List Bool) (mask first q : ℕ) → bit_at mask q ≢ 1 → FirstSoFar masks out mask first q → FirstSoFar masks out mask first (q + 1)
first_skips masks out mask first q n f = record {
  inside = f.inside;
  before = λ k h o i l b. elim (cases_lt i q) [ inl s ↦ f.before k h o i s b | inr s ↦ absurd (n (subst (λ j. bit_at mask j ≡ 1) (one i l s) b)) ];
  stands = f.stands;
  meets = f.meets;
}
  where
    one : (i : ℕ) → i < q + 1 → q ≤ i → i ≡ q
    one i l s = omega arith

-- a qubit was looked for up to this place
pub record NextOn (masks : List ℕ) (out : List Bool) (q place : ℕ) : Type 0 where
  pub inside : place ≤ length masks
  pub clear : IsClear masks out q place
  pub stands : place < length masks → get_or out place true ≡ false
  pub on : place < length masks → bit_at (get_or masks place 0) q ≡ 1

pub same_next : (masks masks' : List ℕ) (out out' : List Bool) (q place : ℕ) → masks' ≡ masks → out' ≡ out → NextOn masks' out' q place → NextOn masks out q place
same_next masks masks' out out' q place e f n = subst (λ m. NextOn m out q place) e (subst (λ o. NextOn masks' o q place) f n)

pub first_looks : (masks : List ℕ) (out : List Bool) (mask first q place next : ℕ) → bit_at mask q ≡ 1 → NextOn masks out q place → next ≡ min first place
    → FirstSoFar masks out mask first q → FirstSoFar masks out mask next (q + 1)
first_looks masks out mask first q place next b n e f = by (cases_lt place first)
  where
    same : (i : ℕ) → i < q + 1 → q ≤ i → i ≡ q
    same i l s = omega arith

    before : (k : ℕ) → k < first → k < place → get_or out k true ≡ false → (i : ℕ) → i < q + 1 → bit_at mask i ≡ 1 → bit_at (get_or masks k 0) i ≡ 0
    before k h m o i l c = elim (cases_lt i q) [ inl s ↦ f.before k h o i s c | inr s ↦ ap (bit_at (get_or masks k 0)) (same i l s) ∙ n.clear k m o ]

    by : (place < first) ⊎ (first ≤ place) → FirstSoFar masks out mask next (q + 1)
    by (inl l) =
        let s : place ≡ next = omega arith in
        subst (λ f. FirstSoFar masks out mask f (q + 1)) s (record {
          inside = n.inside;
          before = λ k h o i m c. before k (omega arith) h o i m c;
          stands = n.stands;
          meets = λ h. common_bit (get_or masks place 0) mask q (n.on h) b;
        })
    by (inr l) =
        let s : first ≡ next = omega arith in
        subst (λ f. FirstSoFar masks out mask f (q + 1)) s (record { inside = f.inside; before = λ k h o i m c. before k h (omega arith) o i m c; stands = f.stands; meets = f.meets })

pub first_all : (masks : List ℕ) (out : List Bool) (mask first q : ℕ) → mask < 2 ^ 64 → 64 ≤ q → FirstSoFar masks out mask first q → (k : ℕ) → k < first → get_or out k true ≡ false → bit_and (get_or masks k 0) mask ≡ 0
first_all masks out mask first q r l f k h o = no_bit (get_or masks k 0) mask r (λ i m b. f.before k h o i (omega arith) b)

-- ---- an item, looked for in what is kept
pub record Looked (masks : List ℕ) (out : List Bool) (K : List (List Prim)) (mask : ℕ) (g : List Prim) (place : ℕ) : Type 0 where
  pub are : AreMasks masks K
  pub many : length masks ≡ length K
  pub outs : length out ≡ length masks
  pub is : IsMask mask g
  pub some : mask ≢ 0
  pub inside : place ≤ length masks
  pub before : (k : ℕ) → k < place → get_or out k true ≡ false → bit_and (get_or masks k 0) mask ≡ 0
  pub stands : place < length masks → get_or out place true ≡ false
  pub meets : place < length masks → bit_and (get_or masks place 0) mask ≢ 0

clear_before : (masks : List ℕ) (out : List Bool) (K : List (List Prim)) (mask : ℕ) (g : List Prim) (place : ℕ) → Looked masks out K mask g place → ClearBefore out K g place
clear_before masks out K mask g place l i h o =
    let e = l.many in
    let b = l.inside in
    no_common (get_or masks i 0) mask (get_or K i []) g (l.are i (omega arith)) l.is (l.before i h o)

pub comes_zero : (stays X : List (List Prim)) (g : List Prim) (mask : ℕ) → IsMask mask g → mask ≡ 0 → Comes false stays g X X
comes_zero stays X g mask m e = (refl, λ other n. mask_zero g mask m e n.some)

pub comes_blocked : (stays X : List (List Prim)) (g : List Prim) (mask blocked : ℕ) → IsMask mask g → IsMask blocked (run_of stays) → bit_and mask blocked ≢ 0 → Comes false stays g X X
comes_blocked stays X g mask blocked m b e = (refl, λ other n. e (disjoint_masks mask blocked g (run_of stays) m b (λ k x y. apart_run stays g n.apart k y x)))

pub comes_end : (masks : List ℕ) (out out' : List Bool) (K stays : List (List Prim)) (mask : ℕ) (g : List Prim) (place : ℕ) → Looked masks out K mask g place → place ≡ length K → out' ≡ out → Comes false stays g (kept out K) (kept out' K)
comes_end masks out out' K stays mask g place l e s =
    (ap (λ o. kept o K) s, λ other n. none_pulled out K g (l.outs ∙ l.many) n.some (subst (ClearBefore out K g) e (clear_before masks out K mask g place l)) other n.pulls)

pub comes_other : (masks : List ℕ) (out out' : List Bool) (K stays : List (List Prim)) (mask : ℕ) (g : List Prim) (place : ℕ) → Looked masks out K mask g place → place < length K → get_or K place [] ≢ g → out' ≡ out
    → Comes false stays g (kept out K) (kept out' K)
comes_other masks out out' K stays mask g place l h e s =
    let many = l.many in (
      ap (λ o. kept o K) s,
      λ other n. other_pulled out K g place (l.outs ∙ l.many) h (l.stands (omega arith)) e
          (λ d. l.meets (omega arith) (disjoint_masks (get_or masks place 0) mask (get_or K place []) g (l.are place h) l.is d)) n.some (clear_before masks out K mask g place l) other n.pulls,
    )

all_apart : (L : List (List Prim)) (g : List Prim) → AreDisjoint (run_of L) g → AllApart L g
unfolding run_of
all_apart [] g d = tt
all_apart (h ∷ L) g d = (λ k x y. d k (on_first k h (run_of L) x) y, all_apart L g (λ k x y. d k (on_second k h (run_of L) x) y))

flip : (A B : List Prim) → AreDisjoint A B → AreDisjoint B A
flip A B d k b a = d k a b

pub comes_true : (masks : List ℕ) (out out' : List Bool) (K stays : List (List Prim)) (mask blocked : ℕ) (g : List Prim) (place : ℕ) → Looked masks out K mask g place → place < length K → get_or K place [] ≡ g → out' ≡ set out place true
    → bit_and mask blocked ≡ 0 → IsMask blocked (run_of stays) → Comes true stays g (kept out K) (kept out' K)
comes_true masks out out' K stays mask blocked g place l h e s z b =
    let many = l.many in
    let some = mask_some g mask l.is l.some in
    record {
      some = some;
      apart = all_apart stays g (flip g (run_of stays) (no_common mask blocked g (run_of stays) l.is b z));
      pulls = subst (λ o. Pulls g (kept out K) (kept o K)) (sym s) (pulls_kept out K g place (l.outs ∙ l.many) h (l.stands (omega arith)) e some (clear_before masks out K mask g place l));
    }
