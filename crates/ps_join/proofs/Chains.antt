-- Chains of replacements, one step after the other.
use Rattle.std.proofs.Common.{◌≡◌, ◌≢◌, ℕ, zero, suc, ◌+◌, ◌%◌, refl, ap, ap₂, sym, ◌∙◌, subst, arith, ◌<◌, ◌≤◌, Bool, true, false, cond, not, nat_eq, ◌&&◌, ◌||◌, min, List, [], ◌∷◌, ◌++◌, length, drop, get_or, length-append, Option, Some, None, ◌⊎◌, inl, inr}
use Rattle.std.specs.Prelude.{slice_get, IsTrue}
use Rattle.std.specs.Cmp.Lexicographic.{pointwise}
use Rattle.std.proofs.Math.Seq.{drop-cons, get_or-append_seam}
use Rattle.ps_bool.proofs.Values.{mono_eq}
use Rattle.std.proofs.lemmas.Bool.{cases_lt}
use Rattle.std.proofs.lemmas.List.{get_or_default}
use Rattle.std.proofs.Math.ListN.{get_or-append}
use Rattle.ps_mono.specs.Sets.{stands}
use Rattle.ps_mono.specs.Lists.{nat_eq_true, nat_eq_same}
use Rattle.ps_mono.specs.Truth.{with_value}
use Rattle.ps_ring.specs.Readings.{Assignment, second_name}
use Rattle.ps_bool.specs.Polys.{bool_value, occurs, IsPoly}
use Rattle.ps_bool.proofs.Unique.{bool_value-agree}
use Rattle.ps_bool.proofs.Laws.{bool_value-var, bool_value-with_value}
use Rattle.ps_phase.specs.declared.terms.Term.{Term}
use Rattle.ps_phase.specs.Phases.{phase_value, phase_occurs, IsPhasePoly}
use Rattle.ps_phase.proofs.Adding.{neither, no_or}
use Rattle.ps_phase.proofs.Values.{phase_agree}
use Rattle.ps_sum.specs.Counts.{raw_phase, raw_bool}
use Rattle.ps_sum.specs.Forms.{AllPolys}
use Rattle.ps_sum.specs.Outs.{outs_occur}
use Rattle.ps_sum.specs.declared.faults.What.TheVariants.{Terms}
use Rattle.ps_sum.specs.declared.faults.JoinFault.{JoinFault}
use Rattle.ps_sum.specs.declared.faults.JoinFault.TheVariants.{Passed, Memory}
use Rattle.ps_join.specs.Joining.{told, Chain, PhaseAfter, BoolAfter, PhaseNamed, BoolNamed, PhaseChain, OutputChain, OutputChains}
use Rattle.ps_join.specs.Faults.{IsOver, IsChainFault}
use Rattle.ps_join.specs.Naming.{Agrees}
use Rattle.ps_join.specs.Parts.{PhasePart, BoolPart, OutputPart, OutputParts}
use Rattle.ps_join.proofs.Outputs.{get_value, get_free, var_poly, var_free}
use Rattle.ps_join.proofs.NamedParts.{name_of_own, name_past, name_front}

clash : {b : Bool} → b ≡ true → b ≡ false → ⊥
clash e f = cc

pub never : (r s : Bool) → (r ≡ true → s ≡ true) → s ≡ false → r ≡ false
never true s h e = sym (h refl) ∙ e
never false s h e = refl

-- ---- one replacement
-- as many are told, counted up to the greatest number told
pub over_told : (made count : ℕ) (e : JoinFault) → count ≡ min made 1000000000000 → IsOver count e → IsOver made e
over_told made count (Passed passed) c o = (omega (arith, o.0), o.1 ∙ ap (λ n. record { what = Terms; count = n }) (omega arith))
over_told made count Memory c o = tt

pub over_same : (made count : ℕ) (e : JoinFault) → count ≡ made → IsOver count e → IsOver made e
over_same made count e c o = subst (λ (n : ℕ). IsOver n e) c o

-- a variable that does not occur
pub idle_phase_count : (v t : ℕ) (ts : List Term) → phase_occurs v ts ≡ false → raw_phase v t ts ≡ length ts
unfolding raw_phase phase_occurs
idle_phase_count v t [] h = refl
idle_phase_count v t (x ∷ ts) h =
    let n = neither (stands v x.mono) (phase_occurs v ts) h in
    rw (n.0, idle_phase_count v t ts n.1) (omega arith)

pub idle_bool_count : (v t : ℕ) (f : List (List ℕ)) → occurs v f ≡ false → raw_bool v t f ≡ length f
unfolding raw_bool occurs
idle_bool_count v t [] h = refl
idle_bool_count v t (m ∷ f) h =
    let n = neither (stands v m) (occurs v f) h in
    rw (n.0, idle_bool_count v t f n.1) (omega arith)

idle_value : (v : ℕ) (ts : List Term) (a : Assignment) (b : Bool) → phase_occurs v ts ≡ false → phase_value ts a ≡ phase_value ts (with_value a v b)
idle_value v ts a b n = phase_agree ts a (with_value a v b) (λ u t. by u t (nat_eq u v) refl)
  where
    by : (u : ℕ) → phase_occurs u ts ≡ true → (c : Bool) → nat_eq u v ≡ c → a u ≡ cond c b (a u)
    by u t true e = absurd (clash t (ap (λ w. phase_occurs w ts) (nat_eq_true u v e) ∙ n))
    by u t false e = refl

pub idle_phase : (v : ℕ) (f : List (List ℕ)) (ts : List Term) → IsPhasePoly ts → phase_occurs v ts ≡ false → PhaseAfter v f ts ts
idle_phase v f ts h n = record { form = h; value = λ a. ap (λ k. k % 4294967296) (idle_value v ts a (bool_value f a) n) }

pub idle_bool : (v : ℕ) (f p : List (List ℕ)) → IsPoly p → occurs v p ≡ false → BoolAfter v f p p
idle_bool v f p h n = record { form = h; value = λ a. sym (bool_value-with_value p v a (bool_value f a) n) }

pub idle_variables : (v u : ℕ) (p q r : Bool) → (u ≡ v → p ≡ false) → p ≡ true → ((p && not (nat_eq u v)) || r) ≡ true
idle_variables v u p q r h e = by (nat_eq u v) refl
  where
    by : (c : Bool) → nat_eq u v ≡ c → ((p && not c) || r) ≡ true
    by true k = absurd (clash e (h (nat_eq_true u v k)))
    by false k = rw e refl

-- ---- a chain's next step
cut : (fs : List (List (List ℕ))) (i : ℕ) (f : List (List ℕ)) → i < length fs → f ≡ get_or fs i f → drop i fs ≡ f ∷ drop (i + 1) fs
cut fs i f h e =
    let s : suc i ≡ i + 1 = omega arith in
    drop-cons fs i f h ∙ ap₂ (λ (x : List (List ℕ)) (xs : List (List (List ℕ))). x ∷ xs) (sym e) (ap (λ k. drop k fs) s)

chain_next : (X : Type 0) (raw : ℕ → ℕ → X → ℕ) (After : ℕ → List (List ℕ) → X → X → Type 0) (b : ℕ) (fs : List (List (List ℕ))) (i v : ℕ) (f : List (List ℕ)) (p q : X) (end : Option ℕ) → i < length fs → f ≡ get_or fs i f → v ≡ b + i
    → raw v (length f) p ≤ 65536 → After v f p q → Chain X raw After (b + (i + 1)) (drop (i + 1) fs) q end → Chain X raw After (b + i) (drop i fs) p end
chain_next X raw After b fs i v f p q end h e d w a c =
    let s : b + (i + 1) ≡ suc v = omega arith in
    subst (λ (gs : List (List (List ℕ))). Chain X raw After (b + i) gs p end) (sym (cut fs i f h e))
    (subst (λ (k : ℕ). Chain X raw After k (f ∷ drop (i + 1) fs) p end) d (inr (w, (q, (a, subst (λ (k : ℕ). Chain X raw After k (drop (i + 1) fs) q end) s c)))))

chain_stop : (X : Type 0) (raw : ℕ → ℕ → X → ℕ) (After : ℕ → List (List ℕ) → X → X → Type 0) (b : ℕ) (fs : List (List (List ℕ))) (i v : ℕ) (f : List (List ℕ)) (p : X) → i < length fs → f ≡ get_or fs i f → v ≡ b + i
    → 65536 < raw v (length f) p → Chain X raw After (b + i) (drop i fs) p (Some (told (raw v (length f) p)))
chain_stop X raw After b fs i v f p h e d w =
    subst (λ (gs : List (List (List ℕ))). Chain X raw After (b + i) gs p (Some (told (raw v (length f) p)))) (sym (cut fs i f h e))
    (subst (λ (k : ℕ). Chain X raw After k (f ∷ drop (i + 1) fs) p (Some (told (raw v (length f) p)))) d (inl (w, refl)))

drop_rest : (fs : List (List (List ℕ))) (i : ℕ) → length fs ≤ i → drop i fs ≡ []
drop_rest [] zero h = refl
drop_rest [] (suc i) h = refl
drop_rest (f ∷ fs) zero h = absurd (omega arith)
drop_rest (f ∷ fs) (suc i) h = drop_rest fs i (omega arith)

chain_done : (X : Type 0) (raw : ℕ → ℕ → X → ℕ) (After : ℕ → List (List ℕ) → X → X → Type 0) (b : ℕ) (fs : List (List (List ℕ))) (i : ℕ) (p : X) → length fs ≤ i → Chain X raw After (b + i) (drop i fs) p None
chain_done X raw After b fs i p h = subst (λ (gs : List (List (List ℕ))). Chain X raw After (b + i) gs p None) (sym (drop_rest fs i h)) refl

-- the own name of an input has the value of its output
same_there : (n m1 m2 i v : ℕ) (fs : List (List (List ℕ))) (f : List (List ℕ)) (a : Assignment) → length fs ≡ n → i < n → f ≡ get_or fs i f → v ≡ n + (m1 + m2) + i → Agrees n m1 m2 fs a → (u : ℕ) → with_value a v (bool_value f a) u ≡ a u
same_there n m1 m2 i v fs f a w h e d g u = by (nat_eq u v) refl
  where
    inside : i < length fs
    inside = omega (arith, w)

    by : (c : Bool) → nat_eq u v ≡ c → cond c (bool_value f a) (a u) ≡ a u
    by true k = ap (λ (r : List (List ℕ)). bool_value r a) e ∙ get_value fs i f a inside ∙ sym (g i h) ∙ sym (ap a (nat_eq_true u v k ∙ d))
    by false k = refl

-- what may stand after a replacement
free_after : (u v : ℕ) (p q r : Bool) → (u ≢ v → p ≡ false) → q ≡ false → (r ≡ true → ((p && not (nat_eq u v)) || q) ≡ true) → r ≡ false
free_after u v p q r h k f = never r ((p && not (nat_eq u v)) || q) f (by (nat_eq u v) refl)
  where
    kept : (b c : Bool) → b ≡ false → (b && c) ≡ false
    kept b c e = ap (λ x. x && c) e

    none : (b : Bool) → (b && false) ≡ false
    none true = refl
    none false = refl

    by : (c : Bool) → nat_eq u v ≡ c → ((p && not c) || q) ≡ false
    by true e = no_or _ _ (none p) k
    by false e = no_or _ _ (kept p true (h (λ s. clash (ap (λ x. nat_eq x v) s ∙ nat_eq_same v) e))) k

-- an output of the first, behind its names
own_free : (n m1 m2 u i : ℕ) (fs : List (List (List ℕ))) (f : List (List ℕ)) → i < length fs → f ≡ get_or fs i f → ((v : ℕ) → n + m1 ≤ v → outs_occur v fs ≡ false) → n + (m1 + m2) ≤ u → occurs u f ≡ false
own_free n m1 m2 u i fs f h e b l = ap (occurs u) e ∙ get_free fs i f u h (b u (omega arith))

-- ---- the replacements in the phase, i of them made
pub record PhaseLoop (n m1 m2 : ℕ) (fs : List (List (List ℕ))) (p : List Term) (i : ℕ) (q : List Term) : Type 0 where
  pub form : IsPhasePoly q
  pub value : (a : Assignment) → Agrees n m1 m2 fs a → phase_value q a % 4294967296 ≡ phase_value p (λ v. a (second_name n m1 m2 v)) % 4294967296
  pub gone : (u : ℕ) → n + (m1 + m2) ≤ u → u < n + (m1 + m2) + i → phase_occurs u q ≡ false
  pub past : (u : ℕ) → n + (m1 + m2) + n ≤ u → phase_occurs u q ≡ false
  pub idle : (u : ℕ) → i ≤ u → u < n → phase_occurs u p ≡ false → phase_occurs (n + (m1 + m2) + u) q ≡ false
  pub chain : (end : Option ℕ) → Chain (List Term) raw_phase PhaseAfter (n + (m1 + m2) + i) (drop i fs) q end → PhaseChain n m1 m2 fs p end

pub phase_start : (n m1 m2 : ℕ) (fs : List (List (List ℕ))) (p q : List Term) → ((v : ℕ) → n + m2 ≤ v → phase_occurs v p ≡ false) → PhaseNamed n m1 m2 p q
    → ((w : ℕ) → ((u : ℕ) → w ≡ second_name n m1 m2 u → phase_occurs u p ≡ false) → phase_occurs w q ≡ false) → PhaseLoop n m1 m2 fs p 0 q
phase_start n m1 m2 fs p q b e f = record {
  form = e.form;
  value = λ a g. e.value a;
  gone = λ u l h. absurd (omega arith);
  past = λ u l. f u (λ v d. b v (name_past n m1 m2 u v l d));
  idle = λ u l h k. f (n + (m1 + m2) + u) (λ v d. by u v k (name_of_own n m1 m2 u v h d));
  chain = λ end c. (q, (e, let z : n + (m1 + m2) + 0 ≡ n + (m1 + m2) = omega arith in subst (λ (x : ℕ). Chain (List Term) raw_phase PhaseAfter x fs q end) z c));
}
  where
    by : (u v : ℕ) → phase_occurs u p ≡ false → ((v ≡ u) ⊎ (n + m2 ≤ v)) → phase_occurs v p ≡ false
    by u v k (inl d) = ap (λ x. phase_occurs x p) d ∙ k
    by u v k (inr l) = b v l

pub phase_step : (n m1 m2 : ℕ) (fs : List (List (List ℕ))) (p : List Term) (i v : ℕ) (f : List (List ℕ)) (q r : List Term) → length fs ≡ n → ((v : ℕ) → n + m1 ≤ v → outs_occur v fs ≡ false) → i < n → f ≡ get_or fs i f → v ≡ n + (m1 + m2) + i
    → raw_phase v (length f) q ≤ 65536 → PhaseAfter v f q r → ((u : ℕ) → phase_occurs u r ≡ true → ((phase_occurs u q && not (nat_eq u v)) || occurs u f) ≡ true)
    → PhaseLoop n m1 m2 fs p i q → PhaseLoop n m1 m2 fs p (i + 1) r
phase_step n m1 m2 fs p i v f q r w b h e d c a g s =
    let inside : i < length fs = omega (arith, w) in record {
      form = a.form;
      value = λ x y. a.value x ∙ ap (λ k. k % 4294967296) (phase_agree q (with_value x v (bool_value f x)) x (λ u t. same_there n m1 m2 i v fs f x w h e d y u)) ∙ s.value x y;
      gone = λ u l k. free_after u v (phase_occurs u q) (occurs u f) (phase_occurs u r) (λ z. s.gone u l (omega (arith, d, z))) (own_free n m1 m2 u i fs f inside e b l) (g u);
      past = λ u l. free_after u v (phase_occurs u q) (occurs u f) (phase_occurs u r) (λ z. s.past u l) (own_free n m1 m2 u i fs f inside e b (omega arith)) (g u);
      idle = λ u l k o. free_after (n + (m1 + m2) + u) v (phase_occurs (n + (m1 + m2) + u) q) (occurs (n + (m1 + m2) + u) f) (phase_occurs (n + (m1 + m2) + u) r) (λ z. s.idle u (omega arith) k o) (own_free n m1 m2 (n + (m1 + m2) + u) i fs f inside e b (omega arith)) (g (n + (m1 + m2) + u));
      chain = λ end k. s.chain end (chain_next (List Term) raw_phase PhaseAfter (n + (m1 + m2)) fs i v f q r end inside e d c a k);
    }

pub phase_part : (n m1 m2 : ℕ) (fs : List (List (List ℕ))) (p : List Term) (i : ℕ) (q : List Term) → n ≤ i → PhaseLoop n m1 m2 fs p i q → PhasePart n m1 m2 fs p q
phase_part n m1 m2 fs p i q h s = record { form = s.form; value = s.value; below = λ v l. by v l (cases_lt v (n + (m1 + m2) + i)) }
  where
    by : (v : ℕ) → n + (m1 + m2) ≤ v → ((v < n + (m1 + m2) + i) ⊎ (n + (m1 + m2) + i ≤ v)) → phase_occurs v q ≡ false
    by v l (inl k) = s.gone v l k
    by v l (inr k) = s.past v (omega arith)

pub phase_fits : (n m1 m2 : ℕ) (fs : List (List (List ℕ))) (p : List Term) (i : ℕ) (q : List Term) → length fs ≡ n → n ≤ i → PhaseLoop n m1 m2 fs p i q → PhaseChain n m1 m2 fs p None
phase_fits n m1 m2 fs p i q w h s = s.chain None (chain_done (List Term) raw_phase PhaseAfter (n + (m1 + m2)) fs i q (omega (arith, w)))

pub phase_over : (n m1 m2 : ℕ) (fs : List (List (List ℕ))) (p : List Term) (i v : ℕ) (f : List (List ℕ)) (q : List Term) (e : JoinFault) → length fs ≡ n → i < n → f ≡ get_or fs i f → v ≡ n + (m1 + m2) + i
    → IsOver (raw_phase v (length f) q) e → PhaseLoop n m1 m2 fs p i q → IsChainFault (PhaseChain n m1 m2 fs p) e
phase_over n m1 m2 fs p i v f q (Passed passed) w h e d o s = (told (raw_phase v (length f) q), (s.chain _ (chain_stop (List Term) raw_phase PhaseAfter (n + (m1 + m2)) fs i v f q (omega (arith, w)) e d o.0), o.1))
phase_over n m1 m2 fs p i v f q Memory w h e d o s = tt

pub phase_idle : (n m1 m2 : ℕ) (fs : List (List (List ℕ))) (p : List Term) (i v : ℕ) (q : List Term) (k : List ℕ) (may : Bool) → i < n → v ≡ n + (m1 + m2) + i → ((u : ℕ) → stands u k ≡ phase_occurs u p) → may ≡ stands i k → may ≡ false
    → PhaseLoop n m1 m2 fs p i q → phase_occurs v q ≡ false
phase_idle n m1 m2 fs p i v q k may h d f e z s = ap (λ x. phase_occurs x q) d ∙ s.idle i (omega arith) h (sym (f i) ∙ sym e ∙ z)

-- ---- the same in an output
pub record BoolLoop (n m1 m2 : ℕ) (fs : List (List (List ℕ))) (p : List (List ℕ)) (i : ℕ) (q : List (List ℕ)) : Type 0 where
  pub form : IsPoly q
  pub value : (a : Assignment) → Agrees n m1 m2 fs a → bool_value q a ≡ bool_value p (λ v. a (second_name n m1 m2 v))
  pub gone : (u : ℕ) → n + (m1 + m2) ≤ u → u < n + (m1 + m2) + i → occurs u q ≡ false
  pub past : (u : ℕ) → n + (m1 + m2) + n ≤ u → occurs u q ≡ false
  pub idle : (u : ℕ) → i ≤ u → u < n → occurs u p ≡ false → occurs (n + (m1 + m2) + u) q ≡ false
  pub chain : (end : Option ℕ) → Chain (List (List ℕ)) raw_bool BoolAfter (n + (m1 + m2) + i) (drop i fs) q end → OutputChain n m1 m2 fs p end

pub bool_start : (n m1 m2 : ℕ) (fs : List (List (List ℕ))) (p q : List (List ℕ)) → ((v : ℕ) → n + m2 ≤ v → occurs v p ≡ false) → BoolNamed n m1 m2 p q
    → ((w : ℕ) → ((u : ℕ) → w ≡ second_name n m1 m2 u → occurs u p ≡ false) → occurs w q ≡ false) → BoolLoop n m1 m2 fs p 0 q
bool_start n m1 m2 fs p q b e f = record {
  form = e.form;
  value = λ a g. e.value a;
  gone = λ u l h. absurd (omega arith);
  past = λ u l. f u (λ v d. b v (name_past n m1 m2 u v l d));
  idle = λ u l h k. f (n + (m1 + m2) + u) (λ v d. by u v k (name_of_own n m1 m2 u v h d));
  chain = λ end c. (q, (e, let z : n + (m1 + m2) + 0 ≡ n + (m1 + m2) = omega arith in subst (λ (x : ℕ). Chain (List (List ℕ)) raw_bool BoolAfter x fs q end) z c));
}
  where
    by : (u v : ℕ) → occurs u p ≡ false → ((v ≡ u) ⊎ (n + m2 ≤ v)) → occurs v p ≡ false
    by u v k (inl d) = ap (λ x. occurs x p) d ∙ k
    by u v k (inr l) = b v l

pub bool_step : (n m1 m2 : ℕ) (fs : List (List (List ℕ))) (p : List (List ℕ)) (i v : ℕ) (f : List (List ℕ)) (q r : List (List ℕ)) → length fs ≡ n → ((v : ℕ) → n + m1 ≤ v → outs_occur v fs ≡ false) → i < n → f ≡ get_or fs i f → v ≡ n + (m1 + m2) + i
    → raw_bool v (length f) q ≤ 65536 → BoolAfter v f q r → ((u : ℕ) → occurs u r ≡ true → ((occurs u q && not (nat_eq u v)) || occurs u f) ≡ true)
    → BoolLoop n m1 m2 fs p i q → BoolLoop n m1 m2 fs p (i + 1) r
bool_step n m1 m2 fs p i v f q r w b h e d c a g s =
    let inside : i < length fs = omega (arith, w) in record {
      form = a.form;
      value = λ x y. a.value x ∙ bool_value-agree q (with_value x v (bool_value f x)) x (λ u t. same_there n m1 m2 i v fs f x w h e d y u) ∙ s.value x y;
      gone = λ u l k. free_after u v (occurs u q) (occurs u f) (occurs u r) (λ z. s.gone u l (omega (arith, d, z))) (own_free n m1 m2 u i fs f inside e b l) (g u);
      past = λ u l. free_after u v (occurs u q) (occurs u f) (occurs u r) (λ z. s.past u l) (own_free n m1 m2 u i fs f inside e b (omega arith)) (g u);
      idle = λ u l k o. free_after (n + (m1 + m2) + u) v (occurs (n + (m1 + m2) + u) q) (occurs (n + (m1 + m2) + u) f) (occurs (n + (m1 + m2) + u) r) (λ z. s.idle u (omega arith) k o) (own_free n m1 m2 (n + (m1 + m2) + u) i fs f inside e b (omega arith)) (g (n + (m1 + m2) + u));
      chain = λ end k. s.chain end (chain_next (List (List ℕ)) raw_bool BoolAfter (n + (m1 + m2)) fs i v f q r end inside e d c a k);
    }

pub bool_part : (n m1 m2 : ℕ) (fs : List (List (List ℕ))) (p : List (List ℕ)) (i : ℕ) (q : List (List ℕ)) → n ≤ i → BoolLoop n m1 m2 fs p i q → BoolPart n m1 m2 fs p q
bool_part n m1 m2 fs p i q h s = record { form = s.form; value = s.value; below = λ v l. by v l (cases_lt v (n + (m1 + m2) + i)) }
  where
    by : (v : ℕ) → n + (m1 + m2) ≤ v → ((v < n + (m1 + m2) + i) ⊎ (n + (m1 + m2) + i ≤ v)) → occurs v q ≡ false
    by v l (inl k) = s.gone v l k
    by v l (inr k) = s.past v (omega arith)

pub bool_fits : (n m1 m2 : ℕ) (fs : List (List (List ℕ))) (p : List (List ℕ)) (i : ℕ) (q : List (List ℕ)) → length fs ≡ n → n ≤ i → BoolLoop n m1 m2 fs p i q → OutputChain n m1 m2 fs p None
bool_fits n m1 m2 fs p i q w h s = s.chain None (chain_done (List (List ℕ)) raw_bool BoolAfter (n + (m1 + m2)) fs i q (omega (arith, w)))

pub bool_over : (n m1 m2 : ℕ) (fs : List (List (List ℕ))) (p : List (List ℕ)) (i v : ℕ) (f : List (List ℕ)) (q : List (List ℕ)) (e : JoinFault) → length fs ≡ n → i < n → f ≡ get_or fs i f → v ≡ n + (m1 + m2) + i
    → IsOver (raw_bool v (length f) q) e → BoolLoop n m1 m2 fs p i q → IsChainFault (OutputChain n m1 m2 fs p) e
bool_over n m1 m2 fs p i v f q (Passed passed) w h e d o s = (told (raw_bool v (length f) q), (s.chain _ (chain_stop (List (List ℕ)) raw_bool BoolAfter (n + (m1 + m2)) fs i v f q (omega (arith, w)) e d o.0), o.1))
bool_over n m1 m2 fs p i v f q Memory w h e d o s = tt

pub bool_idle : (n m1 m2 : ℕ) (fs : List (List (List ℕ))) (p : List (List ℕ)) (i v : ℕ) (q : List (List ℕ)) (k : List ℕ) (may : Bool) → i < n → v ≡ n + (m1 + m2) + i → ((u : ℕ) → stands u k ≡ occurs u p) → may ≡ stands i k → may ≡ false
    → BoolLoop n m1 m2 fs p i q → occurs v q ≡ false
bool_idle n m1 m2 fs p i v q k may h d f e z s = ap (λ x. occurs x q) d ∙ s.idle i (omega arith) h (sym (f i) ∙ sym e ∙ z)

-- ---- an output that is its input
pub one_input : (p : List (List ℕ)) (m k : List ℕ) (r : Bool) (i : ℕ) → length p ≡ 1 → slice_get p 0 ≡ Some m → k ≡ i ∷ [] → r ≡ pointwise nat_eq m k → (IsTrue r → p ≡ (i ∷ []) ∷ []) × (p ≡ (i ∷ []) ∷ [] → IsTrue r)
one_input [] m k r i l e d f = absurd (omega arith)
one_input (x ∷ y ∷ p) m k r i l e d f = absurd (omega arith)
one_input (x ∷ []) m k r i l e d f = (λ t. ap (λ (z : List ℕ). z ∷ []) (same e ∙ (mono_eq m k).0 (sym f ∙ t) ∙ d), λ t. f ∙ (mono_eq m k).1 (sym (same e) ∙ heads t ∙ sym d))
  where
    same : slice_get (x ∷ []) 0 ≡ Some m → x ≡ m
    same g = cc

    heads : x ∷ [] ≡ (i ∷ []) ∷ [] → x ≡ i ∷ []
    heads g = cc

-- where no variable from v on stands in p
pub idle_chain : (fs : List (List (List ℕ))) (v : ℕ) (p : List (List ℕ)) → IsPoly p → ((u : ℕ) → v ≤ u → occurs u p ≡ false) → length p ≤ 65536 → Chain (List (List ℕ)) raw_bool BoolAfter v fs p None
idle_chain [] v p h f l = refl
idle_chain (g ∷ fs) v p h f l = let e : raw_bool v (length g) p ≡ length p = idle_bool_count v (length g) p (f v (omega arith)) in inr (omega arith, (p, (idle_bool v g p h (f v (omega arith)), idle_chain fs (suc v) p h (λ u k. f u (omega arith)) l)))

pub own_count : (w t : ℕ) → raw_bool w t ((w ∷ []) ∷ []) ≡ t
unfolding raw_bool stands
own_count w t = rw (nat_eq_same w) (omega arith)

own_after : (w : ℕ) (f : List (List ℕ)) → IsPoly f → BoolAfter w f ((w ∷ []) ∷ []) f
own_after w f h = record { form = h; value = λ a. sym (bool_value-var w (with_value a w (bool_value f a)) ∙ ap (λ c. cond c (bool_value f a) (a w)) (nat_eq_same w)) }

-- the d-th of the polynomials in place of a variable that stands alone
var_chain : (fs : List (List (List ℕ))) (v w d : ℕ) (f : List (List ℕ)) → d < length fs → w ≡ v + d → w < 512 → f ≡ get_or fs d f → AllPolys fs → ((u : ℕ) → v ≤ u → outs_occur u fs ≡ false) → length f ≤ 65536 → Chain (List (List ℕ)) raw_bool BoolAfter v fs ((w ∷ []) ∷ []) None
unfolding outs_occur
var_chain [] v w d f h e z g p o l = absurd (omega arith)
var_chain (x ∷ fs) v w zero f h e z g p o l =
    let same : v ≡ w = omega arith in
    subst (λ (k : ℕ). Chain (List (List ℕ)) raw_bool BoolAfter k (x ∷ fs) ((w ∷ []) ∷ []) None) (sym same)
    (inr (omega (arith, own_count w (length x), ap length g), (x, (own_after w x p.0, idle_chain fs (suc w) x p.0 (λ u k. (neither _ _ (o u (omega arith))).0) (omega (arith, ap length g))))))
var_chain (x ∷ fs) v w (suc d) f h e z g p o l =
    let other : v ≢ w = omega arith in
    inr (omega (arith, idle_bool_count v (length x) ((w ∷ []) ∷ []) (var_free w v other)), ((w ∷ []) ∷ [], (idle_bool v x ((w ∷ []) ∷ []) (var_poly w z) (var_free w v other), var_chain fs (suc v) w d f (omega arith) (omega arith) z g p.1 (λ u k. (neither _ _ (o u (omega arith))).1) l)))

var_stop : (fs : List (List (List ℕ))) (v w d : ℕ) (f : List (List ℕ)) → d < length fs → w ≡ v + d → w < 512 → f ≡ get_or fs d f → 65536 < length f → Chain (List (List ℕ)) raw_bool BoolAfter v fs ((w ∷ []) ∷ []) (Some (told (length f)))
var_stop [] v w d f h e z g l = absurd (omega arith)
var_stop (x ∷ fs) v w zero f h e z g l =
    let same : v ≡ w = omega arith in
    subst (λ (k : ℕ). Chain (List (List ℕ)) raw_bool BoolAfter k (x ∷ fs) ((w ∷ []) ∷ []) (Some (told (length f)))) (sym same)
    (inl (omega (arith, own_count w (length x), ap length g), ap (λ k. Some (told k)) (ap length g ∙ sym (own_count w (length x)))))
var_stop (x ∷ fs) v w (suc d) f h e z g l =
    let other : v ≢ w = omega arith in
    inr (omega (arith, idle_bool_count v (length x) ((w ∷ []) ∷ []) (var_free w v other)), ((w ∷ []) ∷ [], (idle_bool v x ((w ∷ []) ∷ []) (var_poly w z) (var_free w v other), var_stop fs (suc v) w d f (omega arith) (omega arith) z g l)))

input_named : (n m1 m2 i : ℕ) → i < n → n + n + m1 + m2 ≤ 512 → BoolNamed n m1 m2 ((i ∷ []) ∷ []) (((n + (m1 + m2) + i) ∷ []) ∷ [])
input_named n m1 m2 i h r = record {
  form = var_poly (n + (m1 + m2) + i) (omega arith);
  value = λ a. bool_value-var (n + (m1 + m2) + i) a ∙ ap a (name_front n m1 m2 i (n + (m1 + m2) + i) h refl) ∙ sym (bool_value-var i (λ v. a (second_name n m1 m2 v)));
}

-- an output that is its input
pub kept_fits : (n m1 m2 i : ℕ) (fs : List (List (List ℕ))) (f g : List (List ℕ)) → i < n → length fs ≡ n → n + n + m1 + m2 ≤ 512 → f ≡ get_or fs i f → AllPolys fs → ((v : ℕ) → n + m1 ≤ v → outs_occur v fs ≡ false) → g ≡ (i ∷ []) ∷ [] → length f ≤ 65536
    → OutputChain n m1 m2 fs g None
kept_fits n m1 m2 i fs f g h w r e p o d l =
    subst (λ (x : List (List ℕ)). OutputChain n m1 m2 fs x None) (sym d)
    (((n + (m1 + m2) + i) ∷ []) ∷ [], (input_named n m1 m2 i h r, var_chain fs (n + (m1 + m2)) (n + (m1 + m2) + i) i f (omega (arith, w)) refl (omega arith) e p (λ u k. o u (omega arith)) l))

pub kept_over : (n m1 m2 i : ℕ) (fs : List (List (List ℕ))) (f g : List (List ℕ)) (e : JoinFault) → i < n → length fs ≡ n → n + n + m1 + m2 ≤ 512 → f ≡ get_or fs i f → g ≡ (i ∷ []) ∷ [] → IsOver (length f) e → IsChainFault (OutputChain n m1 m2 fs g) e
kept_over n m1 m2 i fs f g (Passed passed) h w r e d o = (
  told (length f),
  (
    subst (λ (x : List (List ℕ)). OutputChain n m1 m2 fs x (Some (told (length f)))) (sym d)
        (((n + (m1 + m2) + i) ∷ []) ∷ [], (input_named n m1 m2 i h r, var_stop fs (n + (m1 + m2)) (n + (m1 + m2) + i) i f (omega (arith, w)) refl (omega arith) e o.0)),
    o.1,
  ),
)
kept_over n m1 m2 i fs f g Memory h w r e d o = tt

-- ---- the outputs, i of them replaced
pub record OutputsLoop (n m1 m2 : ℕ) (fs gs : List (List (List ℕ))) (i : ℕ) (qs : List (Option (List (List ℕ)))) : Type 0 where
  pub wide : length qs ≡ i
  pub each : (j : ℕ) → j < i → OutputPart n m1 m2 fs j (get_or gs j []) (get_or qs j None)
  pub chain : (end : Option ℕ) → OutputChains n m1 m2 fs (drop i gs) end → OutputChains n m1 m2 fs gs end

pub outputs_start : (n m1 m2 : ℕ) (fs gs : List (List (List ℕ))) (qs : List (Option (List (List ℕ)))) → qs ≡ [] → OutputsLoop n m1 m2 fs gs 0 qs
outputs_start n m1 m2 fs gs qs e = record { wide = ap length e; each = λ j h. absurd (omega arith); chain = λ end c. c }

pub output_below : (gs : List (List (List ℕ))) (i b : ℕ) (g : List (List ℕ)) → i < length gs → g ≡ get_or gs i g → ((v : ℕ) → b ≤ v → outs_occur v gs ≡ false) → (v : ℕ) → b ≤ v → occurs v g ≡ false
output_below gs i b g h e f v l = ap (occurs v) e ∙ get_free gs i g v h (f v l)

pub outputs_step : (n m1 m2 : ℕ) (fs gs : List (List (List ℕ))) (i : ℕ) (g : List (List ℕ)) (qs rs : List (Option (List (List ℕ)))) (q : Option (List (List ℕ))) → i < length gs → g ≡ get_or gs i g → rs ≡ qs ++ q ∷ []
    → OutputPart n m1 m2 fs i g q → OutputChain n m1 m2 fs g None → OutputsLoop n m1 m2 fs gs i qs → OutputsLoop n m1 m2 fs gs (i + 1) rs
outputs_step n m1 m2 fs gs i g qs rs q h e r p c s = record {
  wide = ap length r ∙ length-append qs (q ∷ []) ∙ ap (λ k. k + 1) s.wide;
  each = λ j l. subst (λ (x : Option (List (List ℕ))). OutputPart n m1 m2 fs j (get_or gs j []) x) (ap (λ (x : List (Option (List (List ℕ)))). get_or x j None) (sym r)) (by j l (cases_lt j i));
  chain = λ end d. s.chain end (subst (λ (x : List (List (List ℕ))). OutputChains n m1 m2 fs x end) (sym (cut gs i g h e)) (inr (c, d)));
}
  where
    by : (j : ℕ) → j < i + 1 → ((j < i) ⊎ (i ≤ j)) → OutputPart n m1 m2 fs j (get_or gs j []) (get_or (qs ++ q ∷ []) j None)
    by j l (inl k) = subst (λ (x : Option (List (List ℕ))). OutputPart n m1 m2 fs j (get_or gs j []) x) (sym (get_or-append qs (q ∷ []) None j (omega (arith, s.wide)))) (s.each j k)
    by j l (inr k) =
        let same : j ≡ length qs = omega (arith, s.wide) in
        let there : j ≡ i = omega arith in
        let read : get_or gs j [] ≡ g = ap (λ x. get_or gs x []) there ∙ sym (e ∙ get_or_default gs i g [] h) in
        let last : get_or (qs ++ q ∷ []) j None ≡ q = ap (λ x. get_or (qs ++ q ∷ []) x None) same ∙ get_or-append_seam qs q [] None in
        subst (λ (x : Option (List (List ℕ))). OutputPart n m1 m2 fs j (get_or gs j []) x) (sym last)
        (subst (λ (x : List (List ℕ)). OutputPart n m1 m2 fs j x q) (sym read) (subst (λ (x : ℕ). OutputPart n m1 m2 fs x g q) (sym there) p))

pub outputs_parts : (n m1 m2 : ℕ) (fs gs : List (List (List ℕ))) (i : ℕ) (qs : List (Option (List (List ℕ)))) → i ≡ length gs → OutputsLoop n m1 m2 fs gs i qs → OutputParts n m1 m2 fs gs qs
outputs_parts n m1 m2 fs gs i qs e s = record { wide = s.wide ∙ e; each = λ j h. s.each j (omega (arith, e)) }

pub outputs_fit : (n m1 m2 : ℕ) (fs gs : List (List (List ℕ))) (i : ℕ) (qs : List (Option (List (List ℕ)))) → i ≡ length gs → OutputsLoop n m1 m2 fs gs i qs → OutputChains n m1 m2 fs gs None
outputs_fit n m1 m2 fs gs i qs e s = s.chain None (subst (λ (x : List (List (List ℕ))). OutputChains n m1 m2 fs x None) (sym (drop_rest gs i (omega (arith, e)))) refl)

pub outputs_over : (n m1 m2 : ℕ) (fs gs : List (List (List ℕ))) (i : ℕ) (g : List (List ℕ)) (qs : List (Option (List (List ℕ)))) (e : JoinFault) → i < length gs → g ≡ get_or gs i g → IsChainFault (OutputChain n m1 m2 fs g) e
    → OutputsLoop n m1 m2 fs gs i qs → IsChainFault (OutputChains n m1 m2 fs gs) e
outputs_over n m1 m2 fs gs i g qs (Passed passed) h d o s =
    (o.0, (s.chain (Some o.0) (subst (λ (x : List (List (List ℕ))). OutputChains n m1 m2 fs x (Some o.0)) (sym (cut gs i g h d)) (inl (o.0, (o.1.0, refl)))), o.1.1))
outputs_over n m1 m2 fs gs i g qs Memory h d o s = tt
