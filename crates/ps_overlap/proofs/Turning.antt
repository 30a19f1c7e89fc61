-- Where the phase of a closed sum without path variables turns.
use Rattle.std.proofs.Common.{◌≡◌, ◌≢◌, ℕ, ◌+◌, ◌%◌, refl, ap, sym, ◌∙◌, subst, arith, ◌<◌, ◌≤◌, Bool, true, false, ◌||◌, cond, nat_eq, List, [], ◌∷◌, ◌++◌, length, get_or, Ordering, Less, Equal, Greater, ◌⊎◌, inl, inr}
use Rattle.std.proofs.Math.IntN.{pos}
use Rattle.ps_ring.specs.Truths.{Truths, bit}
use Rattle.ps_mono.specs.Sets.{mono_cmp, holds, stands}
use Rattle.ps_mono.specs.Lists.{nat_eq_true}
use Rattle.std.specs.Prelude.{◌==◌}
use Rattle.std.proofs.lemmas.Bool.Decides.{nat_tests}
use Rattle.std.specs.Cmp.Lexicographic.{pointwise}
use Rattle.ps_mono.specs.Truth.{times}
use Rattle.ps_mono.proofs.Orders.{mono_equal, mono_flip, never_self, cmp_length}
use Rattle.ps_phase.specs.declared.terms.Term.{Term}
use Rattle.ps_phase.specs.Phases.{phase_value, phase_occurs, coefficient, TermBefore, IsPhasePoly}
use Rattle.ps_phase.proofs.Values.{phase_agree}
use Rattle.ps_prim.specs.Overlaps.{IsTurn}
use Rattle.ps_prim.proofs.Phases.{plain_is_turn, turn_is_plain}
use Rattle.ps_sum.specs.declared.sums.PathSum.{PathSum}
use Rattle.ps_sum.specs.Outs.{values}
use Rattle.ps_sum.specs.Sums.{path_values}
use Rattle.ps_overlap.specs.Overlapping.{EachTerm, SomeTerm, point, IsLeastMono, IsConstant, HasVariable, IsTurningPoint}
use Rattle.ps_overlap.proofs.LeastPoints.{point_bit, turn_there, first_mono_least, below_all}

-- ---- monomials with a variable
some_list : (m : List ℕ) → (m ≡ []) ⊎ (m ≢ [])
some_list [] = inl refl
some_list (v ∷ m) = inr (λ e. cc)

-- what comes before another has none, or that one has some
before_some : (m k : List ℕ) → mono_cmp m k ≡ Less → k ≢ []
before_some [] k l e = never_self [] (subst (λ x. mono_cmp [] x ≡ Less) e l)
before_some (v ∷ m) k l e = let h = cmp_length (v ∷ m) k l in let z = ap length e in absurd (omega arith)

-- the terms behind another all have variables
rest_some : (m : List ℕ) (ts : List Term) → TermBefore m ts → EachTerm (λ t. t.mono ≢ []) ts
rest_some m [] b = tt
rest_some m (t ∷ ts) b = (before_some m t.mono b.0, rest_some m ts b.1)

-- ---- where no variable is true
nowhere : ℕ → Bool
nowhere u = false

holds_nowhere : (m : List ℕ) → m ≢ [] → holds m nowhere ≡ false
unfolding holds nowhere
holds_nowhere [] n = absurd (n refl)
holds_nowhere (v ∷ m) n = refl

value_nowhere : (ts : List Term) → EachTerm (λ t. t.mono ≢ []) ts → phase_value ts nowhere ≡ 0
unfolding phase_value times
value_nowhere [] e = refl
value_nowhere (t ∷ ts) e =
    let h : times (holds t.mono nowhere) t.phase ≡ 0 = ap (λ b. times b t.phase) (holds_nowhere t.mono e.0) in
    let r = value_nowhere ts e.1 in
    omega arith

no_length : (m : List ℕ) → length m ≡ 0 → m ≡ []
no_length [] e = refl
no_length (v ∷ m) e = absurd (omega arith)

-- ---- a constant phase
constant_value : (ts : List Term) (p : ℕ) → IsPhasePoly ts → IsConstant ts p → (a : ℕ → Bool) → phase_value ts a ≡ p
unfolding phase_value times coefficient holds
constant_value [] p f c a = sym c.value
constant_value (t ∷ []) p f c a =
    ap (λ m. times (holds m a) t.phase + 0) c.alone.0 ∙ (let e : t.phase + 0 ≡ t.phase = omega arith in e) ∙ ap (λ m. cond (pointwise nat_eq [] m) t.phase 0) (sym c.alone.0) ∙ sym c.value
constant_value (t ∷ u ∷ ts) p f c a = absurd (before_some t.mono u.mono f.1.0 c.alone.1.0)

-- a sum without path variables whose phase is constant stands for it at each input
pub constant_turn : (S : PathSum) (p : ℕ) (x : Truths) → S.outs ≡ [] → S.m ≡ 0 → S.k ≡ pos 0 → IsConstant S.phase p → IsTurn (path_values S) x p
unfolding values
constant_turn S p x o m k c =
    plain_is_turn (path_values S) x p m (ap (λ (fs : List (List (List ℕ))). values fs (bit (x ++ []))) o) k (ap (λ (n : ℕ). n % 4294967296) (constant_value S.phase p S.formed.0 c (bit (x ++ []))))

pub constant_only : (ts : List Term) (p q : ℕ) → IsConstant ts p → IsConstant ts q → p ≡ q
constant_only ts p q c d = c.value ∙ sym d.value

-- ---- where it turns
-- a phase as a constant and terms that have variables
record Parted (ts : List Term) (bits : List ℕ) : Type 0 where
  constant : ℕ
  others : List Term
  form : IsPhasePoly others
  some : EachTerm (λ t. t.mono ≢ []) others
  inside : (v : ℕ) → phase_occurs v ts ≡ false → phase_occurs v others ≡ false
  value : (a : ℕ → Bool) → phase_value ts a ≡ constant + phase_value others a
  least : IsLeastMono others bits

each_least : (bits : List ℕ) (ts : List Term) → EachTerm (λ t. t.mono ≢ []) ts → EachTerm (λ t. t.mono ≢ [] → mono_cmp t.mono bits ≢ Less) ts → EachTerm (λ t. mono_cmp t.mono bits ≢ Less) ts
each_least bits [] s e = tt
each_least bits (t ∷ ts) s e = (e.0 s.0, each_least bits ts s.1 e.1)

parted : (ts : List Term) (bits : List ℕ) → IsPhasePoly ts → IsTurningPoint ts bits → Parted ts bits
unfolding phase_value phase_occurs times holds
parted [] bits f q = absurd q.one_of
parted (t ∷ ts) bits f q = by (some_list t.mono)
  where
    behind : (t.mono ≡ bits) ⊎ SomeTerm (λ u. u.mono ≡ bits) ts → t.mono ≡ [] → SomeTerm (λ u. u.mono ≡ bits) ts
    behind (inl e) z = absurd (q.some (sym e ∙ z))
    behind (inr s) z = s

    later : (x y : Bool) → (x || y) ≡ false → y ≡ false
    later true y e = cc
    later false y e = e

    by : (t.mono ≡ []) ⊎ (t.mono ≢ []) → Parted (t ∷ ts) bits
    by (inl z) = record {
      constant = t.phase;
      others = ts;
      form = f.2;
      some = rest_some t.mono ts f.1;
      inside = λ v o. later (stands v t.mono) (phase_occurs v ts) o;
      value = λ a. ap (λ m. times (holds m a) t.phase + phase_value ts a) z;
      least = record { one_of = behind q.one_of z; least = each_least bits ts (rest_some t.mono ts f.1) q.least.1 };
    }
    by (inr n) = record {
      constant = 0;
      others = t ∷ ts;
      form = f;
      some = (n, rest_some t.mono ts f.1);
      inside = λ v o. o;
      value = λ a. omega arith;
      least = record { one_of = q.one_of; least = each_least bits (t ∷ ts) (n, rest_some t.mono ts f.1) q.least };
    }

-- the truth values of the input without a bit
no_bit : (n : ℕ) (ts : List Term) → ((v : ℕ) → n + 0 ≤ v → phase_occurs v ts ≡ false) → phase_value ts (bit (point n [] ++ [])) ≡ phase_value ts nowhere
unfolding nowhere stands
no_bit n ts b = phase_agree ts (bit (point n [] ++ [])) nowhere (λ u o. point_bit n u [] [] (below_all n u (phase_occurs u ts) (λ l. b u (omega arith)) o))

apart : (c x y r : ℕ) → (c + x) % 4294967296 ≡ r → (c + y) % 4294967296 ≡ r → x ≡ 0 → y % 4294967296 ≡ 0
apart c x y r e f z = omega arith

-- one phase does not do for both the input without a bit and the turning point
pub turning_apart : (n : ℕ) (ts : List Term) (bits : List ℕ) (r : ℕ) → IsPhasePoly ts → ((v : ℕ) → n + 0 ≤ v → phase_occurs v ts ≡ false) → IsTurningPoint ts bits
    → phase_value ts (bit (point n [] ++ [])) % 4294967296 ≡ r → phase_value ts (bit (point n bits ++ [])) % 4294967296 ≡ r → ⊥
turning_apart n ts bits r f b q e g =
    let w = parted ts bits f q in
    let low : (v : ℕ) → n + 0 ≤ v → phase_occurs v w.others ≡ false = λ v l. w.inside v (b v l) in
    let zero_there : phase_value w.others (bit (point n [] ++ [])) ≡ 0 = no_bit n w.others low ∙ value_nowhere w.others w.some in
    turn_there n w.others bits w.form low w.least
    (apart w.constant (phase_value w.others (bit (point n [] ++ []))) (phase_value w.others (bit (point n bits ++ []))) r
    (ap (λ (k : ℕ). k % 4294967296) (sym (w.value (bit (point n [] ++ [])))) ∙ e) (ap (λ (k : ℕ). k % 4294967296) (sym (w.value (bit (point n bits ++ [])))) ∙ g) zero_there)

-- so the sum does not stand for one phase at both
pub turning_no_turn : (S : PathSum) (bits : List ℕ) (p : ℕ) → S.outs ≡ [] → S.m ≡ 0 → IsTurningPoint S.phase bits → IsTurn (path_values S) (point S.n []) p → IsTurn (path_values S) (point S.n bits) p → ⊥
unfolding values
turning_no_turn S bits p o m q h g =
    turning_apart S.n S.phase bits (p % 4294967296) S.formed.0 (λ v l. S.phase_below v (let e : S.m ≡ 0 = m in omega arith)) q
    (turn_is_plain (path_values S) (point S.n []) p m (ap (λ (fs : List (List (List ℕ))). values fs (bit (point S.n [] ++ []))) o) h).1
    (turn_is_plain (path_values S) (point S.n bits) p m (ap (λ (fs : List (List (List ℕ))). values fs (bit (point S.n bits ++ []))) o) g).1

-- ---- one turning point
meet : (ts : List Term) (b c : List ℕ) → b ≢ [] → SomeTerm (λ t. t.mono ≡ b) ts → EachTerm (λ t. t.mono ≢ [] → mono_cmp t.mono c ≢ Less) ts → mono_cmp b c ≢ Less
meet [] b c n s e = absurd s
meet (t ∷ ts) b c n (inl s) e = λ l. e.0 (λ z. n (sym s ∙ z)) (ap (λ (m : List ℕ). mono_cmp m c) s ∙ l)
meet (t ∷ ts) b c n (inr s) e = meet ts b c n s e.1

pub turning_only : (ts : List Term) (b c : List ℕ) → IsTurningPoint ts b → IsTurningPoint ts c → b ≡ c
turning_only ts b c p q = by (mono_cmp b c) refl
  where
    by : (o : Ordering) → mono_cmp b c ≡ o → b ≡ c
    by Less e = absurd (meet ts b c p.some p.one_of q.least e)
    by Equal e = mono_equal b c e
    by Greater e = absurd (meet ts c b q.some q.one_of p.least (mono_flip b c e))

-- a phase is constant or turns, and not both
constant_or_turns : (ts : List Term) (p : ℕ) → IsConstant ts p → HasVariable ts → ⊥
constant_or_turns ts p c h = no ts c.alone h
  where
    no : (ts : List Term) → EachTerm (λ t. t.mono ≡ []) ts → HasVariable ts → ⊥
    no [] e s = s
    no (t ∷ ts) e (inl n) = n e.0
    no (t ∷ ts) e (inr s) = no ts e.1 s

turning_has : (ts : List Term) (bits : List ℕ) → bits ≢ [] → SomeTerm (λ t. t.mono ≡ bits) ts → HasVariable ts
turning_has [] bits n s = s
turning_has (t ∷ ts) bits n (inl e) = inl (λ z. n (sym e ∙ z))
turning_has (t ∷ ts) bits n (inr s) = inr (turning_has ts bits n s)

pub constant_not_turning : (ts : List Term) (p : ℕ) (bits : List ℕ) → IsConstant ts p → IsTurningPoint ts bits → ⊥
constant_not_turning ts p bits c q = constant_or_turns ts p c (turning_has ts bits q.some q.one_of)

any_least : (m : List ℕ) (ts : List Term) → EachTerm (λ t. mono_cmp t.mono m ≢ Less) ts → EachTerm (λ t. t.mono ≢ [] → mono_cmp t.mono m ≢ Less) ts
any_least m [] e = tt
any_least m (t ∷ ts) e = (λ n. e.0, any_least m ts e.1)

-- ---- what the code answers
pub none_constant : (ts : List Term) (p : ℕ) → length ts ≡ 0 → p ≡ 0 → IsConstant ts p
unfolding coefficient
none_constant [] p l e = record { alone = tt; value = e }
none_constant (t ∷ ts) p l e = absurd (omega arith)

pub one_constant : (ts : List Term) (t : Term) → length ts ≡ 1 → t ≡ get_or ts 0 t → length t.mono ≡ 0 → IsConstant ts t.phase
unfolding coefficient
one_constant [] t l e z = absurd (omega arith)
one_constant (u ∷ []) t l e z = subst (λ (x : Term). IsConstant (u ∷ []) x.phase) (sym e) (record {
  alone = (no_length u.mono (ap (λ (x : Term). length x.mono) (sym e) ∙ z), tt);
  value = ap (λ m. cond (pointwise nat_eq [] m) u.phase 0) (sym (no_length u.mono (ap (λ (x : Term). length x.mono) (sym e) ∙ z)));
})
one_constant (u ∷ v ∷ ts) t l e z = absurd (omega arith)

pub one_turns : (ts : List Term) (t : Term) → t ≡ get_or ts 0 t → 0 < length ts → (length t.mono ≡ 0 → ⊥) → HasVariable ts
one_turns [] t e l n = absurd (omega arith)
one_turns (u ∷ ts) t e l n = inl (λ z. n (ap (λ (x : Term). length x.mono) e ∙ ap length z))

pub more_turn : (ts : List Term) → IsPhasePoly ts → 1 < length ts → HasVariable ts
more_turn [] f l = absurd (omega arith)
more_turn (t ∷ []) f l = absurd (omega arith)
more_turn (t ∷ u ∷ ts) f l = inr (inl (before_some t.mono u.mono f.1.0))

-- the first monomial, or the one behind the constant, is the least with a variable
pub second_turning : (ts : List Term) (t u : Term) (bits : List ℕ) → IsPhasePoly ts → 1 < length ts → t ≡ get_or ts 0 t → u ≡ get_or ts 1 u → length t.mono ≡ 0 → bits ≡ u.mono → IsTurningPoint ts bits
second_turning [] t u bits f l e g z b = absurd (omega arith)
second_turning (x ∷ []) t u bits f l e g z b = absurd (omega arith)
second_turning (x ∷ y ∷ ts) t u bits f l e g z b =
    let c : bits ≡ y.mono = b ∙ ap (λ (k : Term). k.mono) g in
    subst (IsTurningPoint (x ∷ y ∷ ts)) (sym c) (record {
      some = before_some x.mono y.mono f.1.0;
      one_of = inr (inl refl);
      least = (λ n. absurd (n (no_length x.mono (ap (λ (k : Term). length k.mono) (sym e) ∙ z))), any_least y.mono (y ∷ ts) (first_mono_least y ts f.2).least);
    })

pub first_turning : (ts : List Term) (t : Term) (bits : List ℕ) → IsPhasePoly ts → 0 < length ts → t ≡ get_or ts 0 t → (length t.mono ≡ 0 → ⊥) → bits ≡ t.mono → IsTurningPoint ts bits
first_turning [] t bits f l e n b = absurd (omega arith)
first_turning (x ∷ ts) t bits f l e n b =
    let c : bits ≡ x.mono = b ∙ ap (λ (k : Term). k.mono) e in
    subst (IsTurningPoint (x ∷ ts)) (sym c) (record {
      some = λ z. n (ap (λ (k : Term). length k.mono) e ∙ ap length z);
      one_of = inl refl;
      least = any_least x.mono (x ∷ ts) (first_mono_least x ts f).least;
    })

-- the terms behind a first one without variables have the other ones
pub some_behind : (ts : List Term) (t : Term) → HasVariable ts → t ≡ get_or ts 0 t → length t.mono ≡ 0 → 1 < length ts
some_behind [] t h e z = absurd h
some_behind (x ∷ []) t (inl n) e z = absurd (n (no_length x.mono (ap (λ (k : Term). length k.mono) (sym e) ∙ z)))
some_behind (x ∷ []) t (inr s) e z = absurd s
some_behind (x ∷ y ∷ ts) t h e z = omega arith

pub some_there : (ts : List Term) → HasVariable ts → 0 < length ts
some_there [] h = absurd h
some_there (x ∷ ts) h = omega arith

pub terms_at : (a b : List Term) (i : ℕ) (t : Term) → a ≡ b → t ≡ get_or a i t → t ≡ get_or b i t
terms_at a b i t e h = h ∙ ap (λ (x : List Term). get_or x i t) e

-- the test whether there are terms
pub no_terms : (n : ℕ) (b : Bool) → b ≡ (n == 0) → b ≡ true → n ≡ 0
no_terms n b e t = nat_eq_true n 0 (sym e ∙ t)

pub some_terms : (n : ℕ) (b : Bool) → b ≡ (n == 0) → b ≡ false → 0 < n
some_terms n b e f = let g : nat_eq n 0 ≡ false = sym e ∙ f in above n g
  where
    above : (n : ℕ) → nat_eq n 0 ≡ false → 0 < n
    above n g = grind (arith, nat_tests)
