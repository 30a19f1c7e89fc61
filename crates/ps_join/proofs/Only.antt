-- One sum, and one limit.
use Rattle.std.proofs.Common.{◌≡◌, ℕ, zero, suc, ◌+◌, ◌%◌, refl, ap, sym, ◌∙◌, subst, arith, ◌<◌, ◌≤◌, Bool, List, [], ◌∷◌, ◌++◌, length, Option, Some, None, ◌⊎◌, inl, inr}
use Rattle.ps_ring.specs.Truths.{Truths}
use Rattle.ps_ring.specs.Joins.{PlainSum, TurnedSum}
use Rattle.ps_prim.specs.declared.prims.Primitive.{Primitive as Prim}
use Rattle.ps_prim.specs.declared.prims.Primitive.TheVariants.{U, Cx}
use Rattle.ps_bool.proofs.Unique.{one_form}
use Rattle.ps_phase.specs.declared.terms.Term.{Term}
use Rattle.ps_phase.proofs.Unique.{same_terms}
use Rattle.ps_sum.specs.Counts.{raw_phase, raw_bool}
use Rattle.ps_sum.specs.Sums.{path_values}
use Rattle.ps_sum.specs.declared.sums.PathSum.{PathSum}
use Rattle.ps_sum.specs.declared.faults.What.TheVariants.{Terms}
use Rattle.ps_sum.proofs.Uniqueness.{sum_only}
use Rattle.ps_join.specs.Joining.{PhaseAfter, BoolAfter, told, Chain, PhaseChain, OutputChain, OutputChains, Then, JoinChain}
use Rattle.ps_join.specs.Laws.{OneLeaf, OneIdentity, OneJoin, OnePassed, FitsOrPasses}

-- ---- one sum
pub none_of : (y : Truths) → length y ≡ 0 → y ≡ []
none_of [] h = refl
none_of (b ∷ y) h = absurd (omega arith)

plain_only : (n : ℕ) (f : Truths → Truths) (F : Truths → ℕ) (S S' : PathSum) → S.n ≡ n → S'.n ≡ n → PlainSum n f F (path_values S) → PlainSum n f F (path_values S') → S ≡ S'
plain_only n f F S S' e e' a b = sum_only S S' (record {
  n_is = e ∙ sym e';
  m_is = a.m_is ∙ sym b.m_is;
  k_is = a.k_is ∙ sym b.k_is;
  phase_is = λ x y lx ly.
      let z : y ≡ [] = none_of y (ly ∙ a.m_is) in
      subst (λ (w : Truths). (path_values S).phase x w % 4294967296 ≡ (path_values S').phase x w % 4294967296) (sym z) (a.phase_is x (lx ∙ e) ∙ sym (b.phase_is x (lx ∙ e)));
  outs_is = λ x y lx ly.
      let z : y ≡ [] = none_of y (ly ∙ a.m_is) in
      subst (λ (w : Truths). (path_values S).outs x w ≡ (path_values S').outs x w) (sym z) (a.outs_is x (lx ∙ e) ∙ sym (b.outs_is x (lx ∙ e)));
})

record Two (y : Truths) : Type 0 where
  first : Bool
  second : Bool
  whole : y ≡ first ∷ second ∷ []

two_of : (y : Truths) → length y ≡ 2 → Two y
two_of [] h = absurd (omega arith)
two_of (a ∷ []) h = absurd (omega arith)
two_of (a ∷ b ∷ []) h = record { first = a; second = b; whole = refl }
two_of (a ∷ b ∷ c ∷ y) h = absurd (omega arith)

cancel : (x y t u : ℕ) → (x + t) % 4294967296 ≡ u % 4294967296 → (y + t) % 4294967296 ≡ u % 4294967296 → x % 4294967296 ≡ y % 4294967296
cancel x y t u e f = omega arith

turned_only : (n theta phi lambda q : ℕ) (S S' : PathSum) → S.n ≡ n → S'.n ≡ n → TurnedSum n theta phi lambda q (path_values S) → TurnedSum n theta phi lambda q (path_values S') → S ≡ S'
turned_only n theta phi lambda q S S' e e' a b = sum_only S S' (record {
  n_is = e ∙ sym e';
  m_is = a.m_is ∙ sym b.m_is;
  k_is = a.k_is ∙ sym b.k_is;
  phase_is = λ x y lx ly.
      let t = two_of y (ly ∙ a.m_is) in
      subst (λ (w : Truths). (path_values S).phase x w % 4294967296 ≡ (path_values S').phase x w % 4294967296) (sym t.whole)
      (cancel _ _ theta _ (a.phase_is x t.first t.second (lx ∙ e)) (b.phase_is x t.first t.second (lx ∙ e)));
  outs_is = λ x y lx ly.
      let t = two_of y (ly ∙ a.m_is) in
      subst (λ (w : Truths). (path_values S).outs x w ≡ (path_values S').outs x w) (sym t.whole) (a.outs_is x t.first t.second (lx ∙ e) ∙ sym (b.outs_is x t.first t.second (lx ∙ e)));
})

pub leaf_only : OneLeaf
leaf_only n (U zero phi lambda q) S S' a b = plain_only n _ _ S S' a.n_is b.n_is a.values_are b.values_are
leaf_only n (U (suc theta) phi lambda q) S S' a b = turned_only n (suc theta) phi lambda q S S' a.n_is b.n_is a.values_are b.values_are
leaf_only n (Cx c t) S S' a b = plain_only n _ _ S S' a.n_is b.n_is a.values_are b.values_are

pub identity_only : OneIdentity
identity_only n S S' a b = plain_only n _ _ S S' a.n_is b.n_is a.values_are b.values_are

record Halves (a b : ℕ) (y : Truths) : Type 0 where
  first : Truths
  second : Truths
  whole : y ≡ first ++ second
  first_wide : length first ≡ a
  second_wide : length second ≡ b

halves_of : (a b : ℕ) (y : Truths) → length y ≡ a + b → Halves a b y
halves_of zero b y h = record { first = []; second = y; whole = refl; first_wide = refl; second_wide = omega arith }
halves_of (suc a) b [] h = absurd (omega arith)
halves_of (suc a) b (x ∷ y) h =
    let r = halves_of a b y (omega arith) in
    record { first = x ∷ r.first; second = r.second; whole = ap (λ (w : Truths). x ∷ w) r.whole; first_wide = ap suc r.first_wide; second_wide = r.second_wide }

pub join_only : OneJoin
join_only S1 S2 S S' a b = sum_only S S' (record {
  n_is = a.n_is ∙ sym b.n_is;
  m_is = a.values_are.m_is ∙ sym b.values_are.m_is;
  k_is = a.values_are.k_is ∙ sym b.values_are.k_is;
  phase_is = λ x y lx ly.
      let t = halves_of S1.m S2.m y (ly ∙ a.values_are.m_is) in
      subst (λ (w : Truths). (path_values S).phase x w % 4294967296 ≡ (path_values S').phase x w % 4294967296) (sym t.whole)
      (a.values_are.phase_is x t.first t.second (lx ∙ a.n_is) t.first_wide t.second_wide ∙ sym (b.values_are.phase_is x t.first t.second (lx ∙ a.n_is) t.first_wide t.second_wide));
  outs_is = λ x y lx ly.
      let t = halves_of S1.m S2.m y (ly ∙ a.values_are.m_is) in
      subst (λ (w : Truths). (path_values S).outs x w ≡ (path_values S').outs x w) (sym t.whole)
      (a.values_are.outs_is x t.first t.second (lx ∙ a.n_is) t.first_wide t.second_wide ∙ sym (b.values_are.outs_is x t.first t.second (lx ∙ a.n_is) t.first_wide t.second_wide));
})

-- ---- one end of a chain
phase_after_one : (v : ℕ) (f : List (List ℕ)) (p q r : List Term) → PhaseAfter v f p q → PhaseAfter v f p r → q ≡ r
phase_after_one v f p q r a b = same_terms q r a.form b.form (λ x. a.value x ∙ sym (b.value x))

bool_after_one : (v : ℕ) (f p q r : List (List ℕ)) → BoolAfter v f p q → BoolAfter v f p r → q ≡ r
bool_after_one v f p q r a b = one_form q r a.form b.form (λ x. a.value x ∙ sym (b.value x))

chain_one : (X : Type 0) (raw : ℕ → ℕ → X → ℕ) (After : ℕ → List (List ℕ) → X → X → Type 0) → ((v : ℕ) (f : List (List ℕ)) (p q r : X) → After v f p q → After v f p r → q ≡ r)
    → (fs : List (List (List ℕ))) (v : ℕ) (p : X) (e d : Option ℕ) → Chain X raw After v fs p e → Chain X raw After v fs p d → e ≡ d
chain_one X raw After one [] v p e d a b = a ∙ sym b
chain_one X raw After one (f ∷ fs) v p e d a b = by a b (chain_one X raw After one fs (suc v))
  where
    by : ((65536 < raw v (length f) p) × (e ≡ Some (told (raw v (length f) p)))) ⊎ ((raw v (length f) p ≤ 65536) × ((q : X) × (After v f p q × Chain X raw After (suc v) fs q e)))
        → ((65536 < raw v (length f) p) × (d ≡ Some (told (raw v (length f) p)))) ⊎ ((raw v (length f) p ≤ 65536) × ((q : X) × (After v f p q × Chain X raw After (suc v) fs q d)))
        → ((q : X) (x y : Option ℕ) → Chain X raw After (suc v) fs q x → Chain X raw After (suc v) fs q y → x ≡ y) → e ≡ d
    by (inl h) (inl k) r = h.1 ∙ sym k.1
    by (inl h) (inr k) r = absurd (omega (arith, h.0, k.0))
    by (inr h) (inl k) r = absurd (omega (arith, h.0, k.0))
    by (inr h) (inr k) r = r k.1.0 e d (subst (λ (q : X). Chain X raw After (suc v) fs q e) (one v f p h.1.0 k.1.0 h.1.1.0 k.1.1.0) h.1.1.1) k.1.1.1

phase_chain_one : (n m1 m2 : ℕ) (fs : List (List (List ℕ))) (p : List Term) (e d : Option ℕ) → PhaseChain n m1 m2 fs p e → PhaseChain n m1 m2 fs p d → e ≡ d
phase_chain_one n m1 m2 fs p e d a b =
    let same : a.0 ≡ b.0 = same_terms a.0 b.0 a.1.0.form b.1.0.form (λ x. a.1.0.value x ∙ sym (b.1.0.value x)) in
    chain_one (List Term) raw_phase PhaseAfter phase_after_one fs (n + (m1 + m2)) b.0 e d (subst (λ (q : List Term). Chain (List Term) raw_phase PhaseAfter (n + (m1 + m2)) fs q e) same a.1.1) b.1.1

output_chain_one : (n m1 m2 : ℕ) (fs : List (List (List ℕ))) (g : List (List ℕ)) (e d : Option ℕ) → OutputChain n m1 m2 fs g e → OutputChain n m1 m2 fs g d → e ≡ d
output_chain_one n m1 m2 fs g e d a b =
    let same : a.0 ≡ b.0 = one_form a.0 b.0 a.1.0.form b.1.0.form (λ x. a.1.0.value x ∙ sym (b.1.0.value x)) in
    chain_one (List (List ℕ)) raw_bool BoolAfter bool_after_one fs (n + (m1 + m2)) b.0 e d (subst (λ (q : List (List ℕ)). Chain (List (List ℕ)) raw_bool BoolAfter (n + (m1 + m2)) fs q e) same a.1.1) b.1.1

some_none : (c : ℕ) → Some c ≡ None → ⊥
some_none c e = cc

then_one : (First Next : Option ℕ → Type 0) → ((e d : Option ℕ) → First e → First d → e ≡ d) → ((e d : Option ℕ) → Next e → Next d → e ≡ d) → (e d : Option ℕ) → Then First Next e → Then First Next d → e ≡ d
then_one First Next f g e d (inl a) (inl b) = a.1.1 ∙ f (Some a.0) (Some b.0) a.1.0 b.1.0 ∙ sym b.1.1
then_one First Next f g e d (inl a) (inr b) = absurd (some_none a.0 (f (Some a.0) None a.1.0 b.0))
then_one First Next f g e d (inr a) (inl b) = absurd (some_none b.0 (f (Some b.0) None b.1.0 a.0))
then_one First Next f g e d (inr a) (inr b) = g e d a.1 b.1

output_chains_one : (n m1 m2 : ℕ) (fs gs : List (List (List ℕ))) (e d : Option ℕ) → OutputChains n m1 m2 fs gs e → OutputChains n m1 m2 fs gs d → e ≡ d
output_chains_one n m1 m2 fs [] e d a b = a ∙ sym b
output_chains_one n m1 m2 fs (g ∷ gs) e d a b = then_one (OutputChain n m1 m2 fs g) (OutputChains n m1 m2 fs gs) (output_chain_one n m1 m2 fs g) (output_chains_one n m1 m2 fs gs) e d a b

pub join_chain_one : (S1 S2 : PathSum) (e d : Option ℕ) → JoinChain S1 S2 e → JoinChain S1 S2 d → e ≡ d
join_chain_one S1 S2 e d a b = then_one (PhaseChain S1.n S1.m S2.m S1.outs S2.phase) (OutputChains S1.n S1.m S2.m S1.outs S2.outs) (phase_chain_one S1.n S1.m S2.m S1.outs S2.phase) (output_chains_one S1.n S1.m S2.m S1.outs S2.outs) e d a b

same_count : (c d : ℕ) → Some c ≡ Some d → c ≡ d
same_count c d e = cc

pub passed_only : OnePassed
passed_only S1 S2 p p' (inl a) (inl b) = a.1 ∙ sym b.1
passed_only S1 S2 p p' (inl a) (inr b) = absurd (omega (arith, a.0, b.0))
passed_only S1 S2 p p' (inr a) (inl b) = absurd (omega (arith, a.0, b.0))
passed_only S1 S2 p p' (inr a) (inr b) = a.1.1.1 ∙ ap (λ (c : ℕ). record { what = Terms; count = c }) (same_count _ _ (join_chain_one S1 S2 _ _ a.1.1.0 b.1.1.0)) ∙ sym b.1.1.1

pub fits_or_passes : FitsOrPasses
fits_or_passes S1 S2 p f (inl a) = omega (arith, a.0, f.variables)
fits_or_passes S1 S2 p f (inr a) = some_none a.1.0 (join_chain_one S1 S2 _ _ a.1.1.0 f.terms)
