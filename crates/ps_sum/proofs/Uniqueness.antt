-- Two path sums with the same numbers and the same values are the same.
use Rattle.std.proofs.Common.{◌≡◌, ◌≤ℤ◌, ℕ, zero, suc, ◌+◌, ◌%◌, refl, ap, ap₂, sym, ◌∙◌, subst, arith, ◌<◌, ◌≤◌, Bool, true, false, nat_lt, List, [], ◌∷◌, ◌++◌, length}
use Rattle.std.proofs.lemmas.Bool.Decides.{nat_tests}
use Rattle.std.specs.Coded.{le_prop}
use Rattle.std.proofs.Props.{props}
use Rattle.std.proofs.Math.IntN.{ℤ, pos, negsuc}
use Rattle.ps_ring.specs.Truths.{Truths, bit}
use Rattle.ps_ring.specs.Readings.{Assignment, taken}
use Rattle.ps_bool.specs.Polys.{bool_value, occurs, IsPoly}
use Rattle.ps_bool.proofs.Unique.{one_form, bool_value-agree}
use Rattle.ps_phase.specs.declared.terms.Term.{Term}
use Rattle.ps_phase.specs.Phases.{phase_value, phase_occurs, IsPhasePoly}
use Rattle.ps_phase.proofs.Unique.{same_terms}
use Rattle.ps_phase.proofs.Values.{phase_agree}
use Rattle.ps_phase.proofs.Adding.{neither}
use Rattle.ps_sum.specs.Forms.{AllPolys, IsFormed, IsFormed-prop}
use Rattle.ps_sum.specs.Outs.{values, outs_occur}
use Rattle.ps_sum.specs.Sums.{SameValues}
use Rattle.ps_sum.specs.declared.sums.PathSum.{PathSum}

-- ---- the values of an assignment as lists
pub taken_length : (lo n : ℕ) (a : Assignment) → length (taken lo n a) ≡ n
unfolding taken
taken_length lo zero a = refl
taken_length lo (suc n) a = ap suc (taken_length (suc lo) n a)

pub bit_taken : (lo n u : ℕ) (a : Assignment) → u < n → bit (taken lo n a) u ≡ a (lo + u)
unfolding taken
bit_taken lo zero u a h = absurd (omega arith)
bit_taken lo (suc n) zero a h = ap a (omega arith)
bit_taken lo (suc n) (suc u) a h = bit_taken (suc lo) n u a (omega arith) ∙ ap a (omega arith)

pub taken_apart : (lo n m : ℕ) (a : Assignment) → taken lo (n + m) a ≡ taken lo n a ++ taken (lo + n) m a
unfolding taken
taken_apart lo zero m a =
    let e : lo ≡ lo + 0 = omega arith in
    let d : 0 + m ≡ m = omega arith in
    ap₂ (λ (k j : ℕ). taken k j a) e d
taken_apart lo (suc n) m a =
    let e : suc n + m ≡ suc (n + m) = omega arith in
    let d : suc lo + n ≡ lo + suc n = omega arith in
    ap (λ (k : ℕ). taken lo k a) e ∙ ap (λ (r : Truths). a lo ∷ r) (taken_apart (suc lo) n m a ∙ ap (λ (k : ℕ). taken (suc lo) n a ++ taken k m a) d)

-- the values of n + m variables, cut after the first n
pub bit_apart : (n m u : ℕ) (a : Assignment) → u < n + m → bit (taken 0 n a ++ taken n m a) u ≡ a u
bit_apart n m u a h = ap (λ w. bit w u) (sym (taken_apart 0 n m a ∙ ap (λ k. taken 0 n a ++ taken k m a) (omega arith))) ∙ bit_taken 0 (n + m) u a h ∙ ap a (omega arith)

-- ---- polynomials that know no variable from n + m on are read at such lists
below : (n m v : ℕ) (b : Bool) → (n + m ≤ v → b ≡ false) → b ≡ true → v < n + m
below n m v b h e = by (nat_lt v (n + m)) refl
  where
    clash : {c : Bool} → c ≡ true → c ≡ false → ⊥
    clash p q = cc

    by : (t : Bool) → nat_lt v (n + m) ≡ t → v < n + m
    by true l = grind (arith, nat_tests)
    by false l = absurd (clash e (h (grind (arith, nat_tests))))

pub phase_read : (n m : ℕ) (f : List Term) → ((v : ℕ) → n + m ≤ v → phase_occurs v f ≡ false) → (a : Assignment) → phase_value f a ≡ phase_value f (bit (taken 0 n a ++ taken n m a))
phase_read n m f h a = phase_agree f a _ (λ v o. sym (bit_apart n m v a (below n m v _ (h v) o)))

pub bool_read : (n m : ℕ) (f : List (List ℕ)) → ((v : ℕ) → n + m ≤ v → occurs v f ≡ false) → (a : Assignment) → bool_value f a ≡ bool_value f (bit (taken 0 n a ++ taken n m a))
bool_read n m f h a = bool_value-agree f a _ (λ v o. sym (bit_apart n m v a (below n m v _ (h v) o)))

-- ---- one form
phase_only : (n m : ℕ) (f g : List Term) → IsPhasePoly f → IsPhasePoly g → ((v : ℕ) → n + m ≤ v → phase_occurs v f ≡ false) → ((v : ℕ) → n + m ≤ v → phase_occurs v g ≡ false)
    → ((x y : Truths) → length x ≡ n → length y ≡ m → phase_value f (bit (x ++ y)) % 4294967296 ≡ phase_value g (bit (x ++ y)) % 4294967296) → f ≡ g
phase_only n m f g ff fg bf bg e = same_terms f g ff fg (λ a.
    ap (λ p. p % 4294967296) (phase_read n m f bf a) ∙ e (taken 0 n a) (taken n m a) (taken_length 0 n a) (taken_length n m a) ∙ sym (ap (λ p. p % 4294967296) (phase_read n m g bg a)))

bool_only : (n m : ℕ) (f g : List (List ℕ)) → IsPoly f → IsPoly g → ((v : ℕ) → n + m ≤ v → occurs v f ≡ false) → ((v : ℕ) → n + m ≤ v → occurs v g ≡ false)
    → ((x y : Truths) → length x ≡ n → length y ≡ m → bool_value f (bit (x ++ y)) ≡ bool_value g (bit (x ++ y))) → f ≡ g
bool_only n m f g ff fg bf bg e = one_form f g ff fg (λ a. bool_read n m f bf a ∙ e (taken 0 n a) (taken n m a) (taken_length 0 n a) (taken_length n m a) ∙ sym (bool_read n m g bg a))

outs_only : (n m : ℕ) (fs gs : List (List (List ℕ))) → AllPolys fs → AllPolys gs → ((v : ℕ) → n + m ≤ v → outs_occur v fs ≡ false) → ((v : ℕ) → n + m ≤ v → outs_occur v gs ≡ false)
    → ((x y : Truths) → length x ≡ n → length y ≡ m → values fs (bit (x ++ y)) ≡ values gs (bit (x ++ y))) → fs ≡ gs
unfolding values outs_occur
outs_only n m [] [] pf pg bf bg e = refl
outs_only n m [] (g ∷ gs) pf pg bf bg e = absurd (none (ap length (e (taken 0 n (λ u. false)) (taken n m (λ u. false)) (taken_length 0 n _) (taken_length n m _))))
  where
    none : {k : ℕ} → zero ≡ suc k → ⊥
    none h = omega arith
outs_only n m (f ∷ fs) [] pf pg bf bg e = absurd (none (ap length (e (taken 0 n (λ u. false)) (taken n m (λ u. false)) (taken_length 0 n _) (taken_length n m _))))
  where
    none : {k : ℕ} → suc k ≡ zero → ⊥
    none h = omega arith
outs_only n m (f ∷ fs) (g ∷ gs) pf pg bf bg e =
    ap₂ (λ (r : List (List ℕ)) (rs : List (List (List ℕ))). r ∷ rs)
    (bool_only n m f g pf.0 pg.0 (λ v l. (neither _ _ (bf v l)).0) (λ v l. (neither _ _ (bg v l)).0) (λ x y lx ly. ap (λ w. bit w 0) (e x y lx ly)))
    (outs_only n m fs gs pf.1 pg.1 (λ v l. (neither _ _ (bf v l)).1) (λ v l. (neither _ _ (bg v l)).1) (λ x y lx ly. tails (e x y lx ly)))
  where
    tails : {a b : Bool} {xs ys : List Bool} → a ∷ xs ≡ b ∷ ys → xs ≡ ys
    tails h = cc

-- ---- two sums with the same parts are the same, since what else they keep are propositions
record Parts : Type 0 where
  n : ℕ
  m : ℕ
  k : ℤ
  phase : List Term
  outs : List (List (List ℕ))

record Facts (q : Parts) : Type 0 where
  qubits : (1 ≤ q.n) × (q.n ≤ 64)
  named : q.n + q.m ≤ 512
  scaled : (negsuc 1999999999 ≤ℤ q.k) × (q.k ≤ℤ pos 2000000000)
  phase_below : (v : ℕ) → q.n + q.m ≤ v → phase_occurs v q.phase ≡ false
  outs_below : (v : ℕ) → q.n + q.m ≤ v → outs_occur v q.outs ≡ false
  width : 0 < length q.outs → length q.outs ≡ q.n
  formed : IsFormed q.phase q.outs

facts_prop : (q : Parts) → IsProp (Facts q)
facts_prop q =
    let forms : IsProp (IsFormed q.phase q.outs) = IsFormed-prop q.phase q.outs in
    hlevel (props, le_prop)

abbrev parts : PathSum → Parts
parts S = record { n = S.n; m = S.m; k = S.k; phase = S.phase; outs = S.outs }

abbrev facts : (S : PathSum) → Facts (parts S)
facts S = record { qubits = S.qubits; named = S.named; scaled = S.scaled; phase_below = S.phase_below; outs_below = S.outs_below; width = S.width; formed = S.formed }

abbrev made : (q : Parts) → Facts q → PathSum
made q f = record { n = q.n; m = q.m; k = q.k; phase = q.phase; outs = q.outs; qubits = f.qubits; named = f.named; scaled = f.scaled; phase_below = f.phase_below; outs_below = f.outs_below; width = f.width; formed = f.formed }

made_same : (q r : Parts) → q ≡ r → (f : Facts q) (g : Facts r) → made q f ≡ made r g
made_same q r e f = subst (λ (s : Parts). (g : Facts s) → made q f ≡ made s g) e (λ g. ap (made q) (facts_prop q f g))

abbrev put : ℕ → ℕ → ℤ → List Term → List (List (List ℕ)) → Parts
put n m k phase outs = record { n = n; m = m; k = k; phase = phase; outs = outs }

same_parts : (q r : Parts) → q.n ≡ r.n → q.m ≡ r.m → q.k ≡ r.k → q.phase ≡ r.phase → q.outs ≡ r.outs → q ≡ r
same_parts q r n m k p o =
    ap (λ (x : ℕ). put x q.m q.k q.phase q.outs) n ∙ ap (λ (x : ℕ). put r.n x q.k q.phase q.outs) m ∙ ap (λ (x : ℤ). put r.n r.m x q.phase q.outs) k
    ∙ ap (λ (x : List Term). put r.n r.m r.k x q.outs) p ∙ ap (λ (x : List (List (List ℕ))). put r.n r.m r.k r.phase x) o

pub sum_ext : (S S' : PathSum) → S.n ≡ S'.n → S.m ≡ S'.m → S.k ≡ S'.k → S.phase ≡ S'.phase → S.outs ≡ S'.outs → S ≡ S'
sum_ext S S' n m k p o = made_same (parts S) (parts S') (same_parts (parts S) (parts S') n m k p o) (facts S) (facts S')

pub sum_only : (S S' : PathSum) → SameValues S S' → S ≡ S'
sum_only S S' e = sum_ext S S' e.n_is e.m_is e.k_is
    (phase_only S.n S.m S.phase S'.phase S.formed.0 S'.formed.0 S.phase_below (λ v l. S'.phase_below v (subst (λ b. b ≤ v) (ap₂ (λ x y. x + y) e.n_is e.m_is) l)) e.phase_is)
    (outs_only S.n S.m S.outs S'.outs S.formed.1 S'.formed.1 S.outs_below (λ v l. S'.outs_below v (subst (λ b. b ≤ v) (ap₂ (λ x y. x + y) e.n_is e.m_is) l)) e.outs_is)
