-- Sums that change one output, behind others.
use Rattle.std.proofs.Common.{◌≡◌, ◌≢◌, ℕ, zero, suc, ◌+◌, ◌-◌, ◌*◌, refl, ap, ap₂, sym, ◌∙◌, subst, arith, ◌<◌, ◌≤◌, Bool, true, false, nat_eq, ◌&&◌, ◌||◌, not, List, [], ◌∷◌, length, get_or, set, Option, Some, None, ◌⊎◌, inl, inr}
use Rattle.std.specs.Prelude.{slice_get}
use Rattle.std.proofs.lemmas.Bool.{cases_eq, cases_lt}
use Rattle.std.proofs.lemmas.List.{get_or_default, get_or-set_same, get_or-set_other, length-set}
use Rattle.ps_mono.specs.Sets.{holds, stands, IsVarSet}
use Rattle.ps_mono.specs.Lists.{members_empty, nat_eq_same}
use Rattle.ps_mono.specs.Truth.{differ}
use Rattle.ps_ring.specs.Readings.{Assignment, second_name}
use Rattle.ps_bool.specs.Polys.{bool_value, occurs, IsPoly}
use Rattle.ps_bool.specs.Merging.{merge}
use Rattle.ps_bool.proofs.Merges.{merge_value, merge_poly}
use Rattle.ps_bool.proofs.Laws.{bool_value-var}
use Rattle.ps_phase.specs.declared.terms.Term.{Term}
use Rattle.ps_phase.specs.Phases.{phase_value, phase_occurs}
use Rattle.ps_phase.proofs.Adding.{no_or}
use Rattle.ps_sum.specs.Counts.{raw_phase}
use Rattle.ps_sum.specs.Forms.{AllPolys}
use Rattle.ps_sum.specs.Outs.{outs_occur}
use Rattle.ps_sum.specs.declared.sums.PathSum.{PathSum}
use Rattle.ps_join.specs.declared.changes.Change.{Change}
use Rattle.ps_join.specs.declared.changes.Change.TheVariants.{Stay, Path, Flip, More}
use Rattle.ps_join.specs.Joining.{PhaseAfter, PhaseNamed, BoolNamed, PhaseChain, OutputChain, OutputChains, JoinFits}
use Rattle.ps_join.specs.Parts.{PhasePart, BoolPart, OutputPart, OutputParts, Placed, chosen}
use Rattle.ps_join.specs.Changing.{OthersStay, OneIs, IsChange, IsKind, OnlyInput, AllShort}
use Rattle.ps_join.proofs.Outputs.{get_value, get_free, var_poly, var_free}
use Rattle.ps_join.proofs.NamedParts.{name_front, name_back}
use Rattle.ps_join.proofs.Chains.{PhaseLoop, phase_start, phase_step, idle_phase, idle_phase_count, idle_variables, idle_chain, kept_fits, never}
use Rattle.ps_join.proofs.Merging.{Outputs, outputs_made}
use Rattle.ps_join.proofs.Pairs.{half_chain, one_variable}

pub here : (fs : List (List (List ℕ))) (i : ℕ) → i < length fs → get_or fs i [] ≡ get_or fs i (get_or fs i [])
here fs i h = get_or_default fs i [] (get_or fs i []) h

pub there : (fs : List (List (List ℕ))) (i : ℕ) (f : List (List ℕ)) → i < length fs → f ≡ get_or fs i f → f ≡ get_or fs i []
there fs i f h e = e ∙ get_or_default fs i f [] h

-- ---- the phase, where at most one input stands in it
idle_step : (n m1 m2 : ℕ) (fs : List (List (List ℕ))) (p : List Term) (i : ℕ) (q : List Term) → length fs ≡ n → ((v : ℕ) → n + m1 ≤ v → outs_occur v fs ≡ false) → i < n → phase_occurs (n + (m1 + m2) + i) q ≡ false → length q ≤ 65536
    → PhaseLoop n m1 m2 fs p i q → PhaseLoop n m1 m2 fs p (i + 1) q
idle_step n m1 m2 fs p i q w b h z l s =
    let v : ℕ = n + (m1 + m2) + i in
    let f : List (List ℕ) = get_or fs i [] in
    phase_step n m1 m2 fs p i v f q q w b h (here fs i (omega (arith, w))) refl (omega (arith, idle_phase_count v (length f) q z, l)) (idle_phase v f q s.form z)
    (λ u t. idle_variables v u (phase_occurs u q) (phase_occurs u q) (occurs u f) (λ e. ap (λ x. phase_occurs x q) e ∙ z) t) s

idle_run : (n m1 m2 : ℕ) (fs : List (List (List ℕ))) (p : List Term) (d i : ℕ) (q : List Term) → length fs ≡ n → ((v : ℕ) → n + m1 ≤ v → outs_occur v fs ≡ false) → i + d ≤ n
    → ((j : ℕ) → i ≤ j → j < i + d → phase_occurs (n + (m1 + m2) + j) q ≡ false) → length q ≤ 65536 → PhaseLoop n m1 m2 fs p i q → PhaseLoop n m1 m2 fs p (i + d) q
idle_run n m1 m2 fs p zero i q w b h z l s = let e : i ≡ i + zero = omega arith in subst (λ (x : ℕ). PhaseLoop n m1 m2 fs p x q) e s
idle_run n m1 m2 fs p (suc d) i q w b h z l s =
    let e : (i + 1) + d ≡ i + suc d = omega arith in
    subst (λ (x : ℕ). PhaseLoop n m1 m2 fs p x q) e
    (idle_run n m1 m2 fs p d (i + 1) q w b (omega arith) (λ j k t. z j (omega arith) (omega arith)) l (idle_step n m1 m2 fs p i q w b (omega arith) (z i (omega arith) (omega arith)) l s))

pub lone_loop : (n m1 m2 : ℕ) (fs : List (List (List ℕ))) (p : List Term) (c v : ℕ) (f : List (List ℕ)) (q r : List Term) → length fs ≡ n → ((v : ℕ) → n + m1 ≤ v → outs_occur v fs ≡ false) → ((v : ℕ) → n + m2 ≤ v → phase_occurs v p ≡ false)
    → c < n → OnlyInput n c p → f ≡ get_or fs c f → v ≡ n + (m1 + m2) + c → PhaseNamed n m1 m2 p q → ((w : ℕ) → ((u : ℕ) → w ≡ second_name n m1 m2 u → phase_occurs u p ≡ false) → phase_occurs w q ≡ false) → length q ≤ 65536
    → raw_phase v (length f) q ≤ 65536 → PhaseAfter v f q r → ((u : ℕ) → phase_occurs u r ≡ true → ((phase_occurs u q && not (nat_eq u v)) || occurs u f) ≡ true) → length r ≤ 65536 → PhaseLoop n m1 m2 fs p n r
lone_loop n m1 m2 fs p c v f q r w b below h only e d named names lq raw after vars lr =
    let start : PhaseLoop n m1 m2 fs p 0 q = phase_start n m1 m2 fs p q below named names in
    let first : PhaseLoop n m1 m2 fs p (0 + c) q = idle_run n m1 m2 fs p c 0 q w b (omega (arith, h)) (λ j k t. start.idle j k (omega (arith, t, h)) (only j (omega (arith, t, h)) (omega (arith, t)))) lq start in
    let second : PhaseLoop n m1 m2 fs p (0 + c + 1) r = phase_step n m1 m2 fs p (0 + c) v f q r w b (omega (arith, h)) (e ∙ ap (λ k. get_or fs k f) (omega arith)) (omega (arith, d)) raw after vars first in
    let all : 0 + c + 1 + (n - (c + 1)) ≡ n = omega (arith, h) in
    subst (λ (x : ℕ). PhaseLoop n m1 m2 fs p x r) all
    (idle_run n m1 m2 fs p (n - (c + 1)) (0 + c + 1) r w b (omega (arith, h)) (λ j k t. second.idle j k (omega (arith, t, h)) (only j (omega (arith, t, h)) (omega (arith, k)))) lr second)

no_terms : (p : List Term) → length p ≡ 0 → p ≡ []
no_terms [] e = refl
no_terms (t ∷ p) e = absurd (omega (arith, e))

empty_loop : (n m1 m2 : ℕ) (fs : List (List (List ℕ))) → length fs ≡ n → ((v : ℕ) → n + m1 ≤ v → outs_occur v fs ≡ false) → PhaseLoop n m1 m2 fs [] n []
unfolding phase_occurs phase_value
empty_loop n m1 m2 fs w b = let z : 0 + n ≡ n = omega arith in subst (λ (x : ℕ). PhaseLoop n m1 m2 fs [] x []) z (idle_run n m1 m2 fs [] n 0 [] w b (omega arith) (λ j k t. refl) (omega arith) (phase_start n m1 m2 fs [] [] (λ v l. refl) (record { form = tt; value = λ a. refl }) (λ w f. refl)))

pub no_phase : (n m1 m2 : ℕ) (fs : List (List (List ℕ))) (p r : List Term) → length fs ≡ n → ((v : ℕ) → n + m1 ≤ v → outs_occur v fs ≡ false) → length p ≡ 0 → r ≡ [] → PhaseLoop n m1 m2 fs p n r
no_phase n m1 m2 fs p r w b e d =
    subst (λ (x : List Term). PhaseLoop n m1 m2 fs x n r) (sym (no_terms p e)) (subst (λ (x : List Term). PhaseLoop n m1 m2 fs [] n x) (sym d) (empty_loop n m1 m2 fs w b))

-- ---- outputs
pub stay_fits : (n m1 m2 i : ℕ) (fs : List (List (List ℕ))) (g : List (List ℕ)) → i < n → length fs ≡ n → n + n + m1 + m2 ≤ 512 → AllPolys fs → ((v : ℕ) → n + m1 ≤ v → outs_occur v fs ≡ false) → AllShort fs → g ≡ (i ∷ []) ∷ [] → OutputChain n m1 m2 fs g None
stay_fits n m1 m2 i fs g h w r p b s e = kept_fits n m1 m2 i fs (get_or fs i []) g h w r (here fs i (omega (arith, w, h))) p b e (omega (arith, s i (omega (arith, w, h))))

path_named : (n m1 m2 y : ℕ) → n ≤ y → y + m1 < 512 → BoolNamed n m1 m2 ((y ∷ []) ∷ []) (((y + m1) ∷ []) ∷ [])
path_named n m1 m2 y h l = record { form = var_poly (y + m1) l; value = λ a. bool_value-var (y + m1) a ∙ ap a (name_back n m1 m2 y h) ∙ sym (bool_value-var y (λ v. a (second_name n m1 m2 v))) }

path_fits : (n m1 m2 y : ℕ) (fs : List (List (List ℕ))) → n ≤ y → y < n + m2 → n + n + m1 + m2 ≤ 512 → OutputChain n m1 m2 fs ((y ∷ []) ∷ []) None
path_fits n m1 m2 y fs h l r =
    (((y + m1) ∷ []) ∷ [], (path_named n m1 m2 y h (omega (arith, h, l, r)), idle_chain fs (n + (m1 + m2)) (((y + m1) ∷ []) ∷ []) (var_poly (y + m1) (omega (arith, h, l, r))) (λ u k. var_free (y + m1) u (apart u k)) (omega arith)))
  where
    apart : (u : ℕ) → n + (m1 + m2) ≤ u → u ≢ y + m1
    apart u k = omega (arith, k, l)

pub path_part : (n m1 m2 y : ℕ) (fs : List (List (List ℕ))) (g p : List (List ℕ)) → n ≤ y → y < n + m2 → y + m1 < 512 → g ≡ (y ∷ []) ∷ [] → p ≡ ((y + m1) ∷ []) ∷ [] → BoolPart n m1 m2 fs g p
path_part n m1 m2 y fs g p h l r e d =
    let named : BoolNamed n m1 m2 ((y ∷ []) ∷ []) (((y + m1) ∷ []) ∷ []) = path_named n m1 m2 y h r in
    subst (λ (x : List (List ℕ)). BoolPart n m1 m2 fs x p) (sym e)
    (subst (λ (x : List (List ℕ)). BoolPart n m1 m2 fs ((y ∷ []) ∷ []) x) (sym d) (record { form = named.form; value = λ a k. named.value a; below = λ u k. var_free (y + m1) u (apart u k) }))
  where
    apart : (u : ℕ) → n + (m1 + m2) ≤ u → u ≢ y + m1
    apart u k = omega (arith, k, l)

one_set : IsVarSet []
unfolding stands
one_set = members_empty (λ v. stands v []) 0 512 (λ v l. refl)

one_poly : IsPoly ([] ∷ [])
one_poly = record { in_order = (tt, tt); sets = (one_set, tt) }

pub one_free : (v : ℕ) → occurs v ([] ∷ []) ≡ false
unfolding occurs stands
one_free v = refl

pub one_value : (a : Assignment) → bool_value ([] ∷ []) a ≡ true
unfolding bool_value holds differ
one_value a = refl

flip_value : (q : ℕ) (a : Assignment) → bool_value ([] ∷ (q ∷ []) ∷ []) a ≡ differ true (a q)
unfolding bool_value holds
flip_value q a = ap (differ true) (bool_value-var q a)

flip_named : (n m1 m2 q : ℕ) → q < n → n + n + m1 + m2 ≤ 512 → BoolNamed n m1 m2 ([] ∷ (q ∷ []) ∷ []) (merge ([] ∷ []) (((n + (m1 + m2) + q) ∷ []) ∷ []))
flip_named n m1 m2 q h r = record {
  form = merge_poly ([] ∷ []) (((n + (m1 + m2) + q) ∷ []) ∷ []) one_poly (var_poly (n + (m1 + m2) + q) (omega (arith, h, r)));
  value = λ a. merge_value ([] ∷ []) (((n + (m1 + m2) + q) ∷ []) ∷ []) a ∙ ap₂ differ (one_value a) (bool_value-var (n + (m1 + m2) + q) a ∙ ap a (name_front n m1 m2 q (n + (m1 + m2) + q) h refl)) ∙ sym (flip_value q (λ v. a (second_name n m1 m2 v)));
}

flip_fits : (n m1 m2 q : ℕ) (fs : List (List (List ℕ))) → q < n → length fs ≡ n → n + n + m1 + m2 ≤ 512 → AllPolys fs → ((v : ℕ) → n + m1 ≤ v → outs_occur v fs ≡ false) → AllShort fs → OutputChain n m1 m2 fs ([] ∷ (q ∷ []) ∷ []) None
flip_fits n m1 m2 q fs h w r p b s = (
  merge ([] ∷ []) (((n + (m1 + m2) + q) ∷ []) ∷ []),
  (
    flip_named n m1 m2 q h r,
    half_chain fs (n + (m1 + m2)) (n + (m1 + m2) + q) q ([] ∷ []) (get_or fs q []) (omega (arith, w, h)) refl (omega (arith, h, r)) (here fs q (omega (arith, w, h))) p (λ u k. b u (omega (arith, k))) one_poly (λ u k. one_free u) (omega arith) (s q (omega (arith, w, h))),
  ),
)

differ_turn : (x : Bool) → differ x true ≡ differ true x
unfolding differ
differ_turn true = refl
differ_turn false = refl

pub flip_part : (n m1 m2 q : ℕ) (fs : List (List (List ℕ))) (f one g p : List (List ℕ)) → q < n → length fs ≡ n → ((v : ℕ) → n + m1 ≤ v → outs_occur v fs ≡ false) → f ≡ get_or fs q f → one ≡ [] ∷ [] → g ≡ [] ∷ (q ∷ []) ∷ []
    → IsPoly p → ((a : Assignment) → bool_value p a ≡ differ (bool_value f a) (bool_value one a)) → ((v : ℕ) → occurs v p ≡ true → (occurs v f || occurs v one) ≡ true) → BoolPart n m1 m2 fs g p
flip_part n m1 m2 q fs f one g p h w b e o d form value vars =
    let inside : q < length fs = omega (arith, w, h) in
    subst (λ (x : List (List ℕ)). BoolPart n m1 m2 fs x p) (sym d) (record {
      form = form;
      value = λ a k. value a ∙ ap₂ differ (ap (λ (x : List (List ℕ)). bool_value x a) e ∙ get_value fs q f a inside ∙ sym (k q h) ∙ ap a (name_front n m1 m2 q (n + (m1 + m2) + q) h refl)) (ap (λ (x : List (List ℕ)). bool_value x a) o ∙ one_value a)
          ∙ differ_turn (a (second_name n m1 m2 q)) ∙ sym (flip_value q (λ v. a (second_name n m1 m2 v)));
      below = λ v l. never (occurs v p) (occurs v f || occurs v one) (vars v) (no_or _ _ (ap (occurs v) e ∙ get_free fs q f v inside (b v (omega (arith, l)))) (ap (occurs v) o ∙ one_free v));
    })

own_occurs : (y : ℕ) → occurs y ((y ∷ []) ∷ []) ≡ true
unfolding occurs stands
own_occurs y = ap (λ b. (b || false) || false) (nat_eq_same y)

y_below : (b y : ℕ) → ((v : ℕ) → b ≤ v → occurs v ((y ∷ []) ∷ []) ≡ false) → y < b
y_below b y f = by (cases_lt y b)
  where
    clash : {x : Bool} → x ≡ true → x ≡ false → ⊥
    clash e g = cc

    by : ((y < b) ⊎ (b ≤ y)) → y < b
    by (inl h) = h
    by (inr h) = absurd (clash (own_occurs y) (f y h))

-- the path variable that an output is
pub path_below : (n m2 q y : ℕ) (gs : List (List (List ℕ))) → q < length gs → get_or gs q [] ≡ (y ∷ []) ∷ [] → ((v : ℕ) → n + m2 ≤ v → outs_occur v gs ≡ false) → y < n + m2
path_below n m2 q y gs h e f = y_below (n + m2) y (λ v l. sym (ap (occurs v) e) ∙ get_free gs q [] v h (f v l))

-- ---- all outputs fit
pub each_fits : (n m1 m2 : ℕ) (fs gs : List (List (List ℕ))) → ((i : ℕ) → i < length gs → OutputChain n m1 m2 fs (get_or gs i []) None) → OutputChains n m1 m2 fs gs None
each_fits n m1 m2 fs [] f = refl
each_fits n m1 m2 fs (g ∷ gs) f = inr (f 0 (omega arith), each_fits n m1 m2 fs gs (λ i h. f (suc i) (omega (arith, h))))

-- one output, and those that stay
pub one_fits : (n m1 m2 q : ℕ) (fs gs : List (List (List ℕ))) (g : List (List ℕ)) → length gs ≡ n → length fs ≡ n → n + n + m1 + m2 ≤ 512 → AllPolys fs → ((v : ℕ) → n + m1 ≤ v → outs_occur v fs ≡ false) → AllShort fs → OneIs q gs g → OutputChain n m1 m2 fs g None → OutputChains n m1 m2 fs gs None
one_fits n m1 m2 q fs gs g x w r p b s o c = each_fits n m1 m2 fs gs (λ i h. by i h (cases_eq i q))
  where
    by : (i : ℕ) → i < length gs → ((i ≡ q) ⊎ (i ≡ q → ⊥)) → OutputChain n m1 m2 fs (get_or gs i []) None
    by i h (inl e) = subst (λ (z : List (List ℕ)). OutputChain n m1 m2 fs z None) (sym (ap (λ k. get_or gs k []) e ∙ o.1.0)) c
    by i h (inr d) = stay_fits n m1 m2 i fs (get_or gs i []) (omega (arith, h, x)) w r p b s (o.1.1 i h d)

pub changes_fit : (n m1 m2 : ℕ) (fs gs : List (List (List ℕ))) (c : Change) → IsChange n gs c → c ≢ More → length gs ≡ n → length fs ≡ n → n + n + m1 + m2 ≤ 512 → AllPolys fs → ((v : ℕ) → n + m1 ≤ v → outs_occur v fs ≡ false) → ((v : ℕ) → n + m2 ≤ v → outs_occur v gs ≡ false)
    → AllShort fs → OutputChains n m1 m2 fs gs None
changes_fit n m1 m2 fs gs Stay k d x w r p b l s = each_fits n m1 m2 fs gs (λ i h. stay_fits n m1 m2 i fs (get_or gs i []) (omega (arith, h, x)) w r p b s (k.stay refl i h))
changes_fit n m1 m2 fs gs (Path q y) k d x w r p b l s =
    let o = k.path q y refl in
    one_fits n m1 m2 q fs gs ((y ∷ []) ∷ []) x w r p b s o.0 (path_fits n m1 m2 y fs o.1 (path_below n m2 q y gs o.0.0 o.0.1.0 l) r)
changes_fit n m1 m2 fs gs (Flip q) k d x w r p b l s = let o = k.flip q refl in one_fits n m1 m2 q fs gs ([] ∷ (q ∷ []) ∷ []) x w r p b s o (flip_fits n m1 m2 q fs (omega (arith, o.0, x)) w r p b s)
changes_fit n m1 m2 fs gs More k d x w r p b l s = absurd (d refl)

-- ---- the changed output in its place
-- the changed output of the second's outputs gs, with its place, behind the first's outputs fs; None: each is its input
abbrev pub BecomesOne : ℕ → ℕ → ℕ → List (List (List ℕ)) → List (List (List ℕ)) → Option (ℕ × List (List ℕ)) → Type 0
BecomesOne n m1 m2 fs gs None = (i : ℕ) → i < length gs → get_or gs i [] ≡ (i ∷ []) ∷ []
BecomesOne n m1 m2 fs gs (Some o) = (o.0 < length gs) × (OthersStay o.0 gs × BoolPart n m1 m2 fs (get_or gs o.0 []) o.1)

-- it stands in its place
abbrev pub put_output : Option (ℕ × List (List ℕ)) → List (List (List ℕ)) → List (List (List ℕ))
put_output None fs = fs
put_output (Some o) fs = set fs o.0 o.1

nones : ℕ → List (Option (List (List ℕ)))
nones zero = []
nones (suc n) = None ∷ nones n

nones_length : (n : ℕ) → length (nones n) ≡ n
unfolding nones
nones_length zero = refl
nones_length (suc n) = ap suc (nones_length n)

nones_get : (n i : ℕ) → get_or (nones n) i None ≡ None
unfolding nones
nones_get zero zero = refl
nones_get zero (suc i) = refl
nones_get (suc n) zero = refl
nones_get (suc n) (suc i) = nones_get n i

parts_of : ℕ → Option (ℕ × List (List ℕ)) → List (Option (List (List ℕ)))
parts_of n None = nones n
parts_of n (Some o) = set (nones n) o.0 (Some o.1)

become_parts : (n m1 m2 : ℕ) (fs gs : List (List (List ℕ))) (o : Option (ℕ × List (List ℕ))) → length gs ≡ n → BecomesOne n m1 m2 fs gs o → OutputParts n m1 m2 fs gs (parts_of n o)
unfolding parts_of
become_parts n m1 m2 fs gs None x b = record { wide = nones_length n ∙ sym x; each = λ i h. subst (λ (z : Option (List (List ℕ))). OutputPart n m1 m2 fs i (get_or gs i []) z) (sym (nones_get n i)) (b i h) }
become_parts n m1 m2 fs gs (Some (q, f)) x b = record { wide = length-set (nones n) q (Some f) ∙ nones_length n ∙ sym x; each = λ i h. by i h (cases_eq i q) }
  where
    by : (i : ℕ) → i < length gs → ((i ≡ q) ⊎ (i ≡ q → ⊥)) → OutputPart n m1 m2 fs i (get_or gs i []) (get_or (set (nones n) q (Some f)) i None)
    by i h (inl e) =
        let one : get_or (set (nones n) q (Some f)) i None ≡ Some f = ap (λ k. get_or (set (nones n) q (Some f)) k None) e ∙ get_or-set_same (nones n) q (Some f) None (omega (arith, nones_length n, b.0, x)) in
        subst (λ (z : Option (List (List ℕ))). OutputPart n m1 m2 fs i (get_or gs i []) z) (sym one) (subst (λ (k : ℕ). BoolPart n m1 m2 fs (get_or gs k []) f) (sym e) b.1.1)
    by i h (inr d) =
        subst (λ (z : Option (List (List ℕ))). OutputPart n m1 m2 fs i (get_or gs i []) z) (sym (get_or-set_other (nones n) q i (Some f) None d ∙ nones_get n i)) (b.1.0 i h d)

become_placed : (n m1 m2 : ℕ) (fs gs : List (List (List ℕ))) (o : Option (ℕ × List (List ℕ))) → length gs ≡ n → length fs ≡ n → BecomesOne n m1 m2 fs gs o → Placed fs (parts_of n o) (put_output o fs)
unfolding parts_of
become_placed n m1 m2 fs gs None x w b = record { wide = refl; each = λ i h. sym (ap (λ (z : Option (List (List ℕ))). chosen z (get_or fs i [])) (nones_get n i)) }
become_placed n m1 m2 fs gs (Some (q, f)) x w b = record { wide = length-set fs q f; each = λ i h. by i h (cases_eq i q) }
  where
    by : (i : ℕ) → i < length fs → ((i ≡ q) ⊎ (i ≡ q → ⊥)) → get_or (set fs q f) i [] ≡ chosen (get_or (set (nones n) q (Some f)) i None) (get_or fs i [])
    by i h (inl e) =
        let one : get_or (set (nones n) q (Some f)) i None ≡ Some f = ap (λ k. get_or (set (nones n) q (Some f)) k None) e ∙ get_or-set_same (nones n) q (Some f) None (omega (arith, nones_length n, b.0, x)) in
        ap (λ k. get_or (set fs q f) k []) e ∙ get_or-set_same fs q f [] (omega (arith, b.0, x, w)) ∙ sym (ap (λ (z : Option (List (List ℕ))). chosen z (get_or fs i [])) one)
    by i h (inr d) = get_or-set_other fs q i f [] d ∙ sym (ap (λ (z : Option (List (List ℕ))). chosen z (get_or fs i [])) (get_or-set_other (nones n) q i (Some f) None d ∙ nones_get n i))

-- ---- the parts of a join
pub gated_outputs : (S1 S2 : PathSum) (fs gs rs : List (List (List ℕ))) (o : Option (ℕ × List (List ℕ))) → S1.n ≡ S2.n → 0 < length S1.outs → 0 < length S2.outs → fs ≡ S1.outs → gs ≡ put_output o fs → rs ≡ gs → BecomesOne S1.n S1.m S2.m S1.outs S2.outs o
    → Outputs S1.n S1.m S2.m S1.outs S2.outs rs
gated_outputs S1 S2 fs gs rs o e o1 o2 f g r b =
    let wide : length S1.outs ≡ S1.n = S1.width o1 in
    let second_wide : length S2.outs ≡ S1.n = S2.width o2 ∙ sym e in
    let there : rs ≡ put_output o S1.outs = r ∙ g ∙ ap (put_output o) f in
    outputs_made S1.n S1.m S2.m S1.outs S2.outs rs (parts_of S1.n o) wide second_wide S1.outs_below S1.formed.1 (become_parts S1.n S1.m S2.m S1.outs S2.outs o second_wide b)
    (subst (λ (x : List (List (List ℕ))). Placed S1.outs (parts_of S1.n o) x) (sym there) (become_placed S1.n S1.m S2.m S1.outs S2.outs o second_wide wide b))

pub gate_fits : (S1 S2 : PathSum) (n m1 m2 : ℕ) (fs : List (List (List ℕ))) (p : List Term) (c : Change) → n ≡ S1.n → m1 ≡ S1.m → m2 ≡ S2.m → fs ≡ S1.outs → p ≡ S2.phase → S1.n ≡ S2.n → 0 < length S1.outs → 0 < length S2.outs → 2 * S1.n + S1.m + S2.m ≤ 512
    → PhaseChain n m1 m2 fs p None → IsChange S2.n S2.outs c → c ≢ More → AllShort fs → JoinFits S1 S2
gate_fits S1 S2 n m1 m2 fs p c en em1 em2 ef ep e o1 o2 room chain k d s =
    let wide : length S1.outs ≡ S1.n = S1.width o1 in
    let second_wide : length S2.outs ≡ S1.n = S2.width o2 ∙ sym e in
    let first : PhaseChain S1.n S1.m S2.m S1.outs S2.phase None =
    subst (λ (x : ℕ). PhaseChain x S1.m S2.m S1.outs S2.phase None) en (subst (λ (x : ℕ). PhaseChain n x S2.m S1.outs S2.phase None) em1 (subst (λ (x : ℕ). PhaseChain n m1 x S1.outs S2.phase None) em2
    (subst (λ (x : List (List (List ℕ))). PhaseChain n m1 m2 x S2.phase None) ef (subst (λ (x : List Term). PhaseChain n m1 m2 fs x None) ep chain)))) in
    let below : (v : ℕ) → S1.n + S2.m ≤ v → outs_occur v S2.outs ≡ false = λ v l. S2.outs_below v (omega (arith, e, l)) in
    record {
      variables = room;
      terms = inr (first, changes_fit S1.n S1.m S2.m S1.outs S2.outs c (subst (λ (x : ℕ). IsChange x S2.outs c) (sym e) k) d second_wide wide (omega (arith, room)) S1.formed.1 S1.outs_below below (subst AllShort ef s));
    }

pub part_there : (S1 S2 : PathSum) (n m1 m2 : ℕ) (fs : List (List (List ℕ))) (p q : List Term) → n ≡ S1.n → m1 ≡ S1.m → m2 ≡ S2.m → fs ≡ S1.outs → p ≡ S2.phase → PhasePart n m1 m2 fs p q → PhasePart S1.n S1.m S2.m S1.outs S2.phase q
part_there S1 S2 n m1 m2 fs p q en em1 em2 ef ep t =
    subst (λ (x : ℕ). PhasePart x S1.m S2.m S1.outs S2.phase q) en (subst (λ (x : ℕ). PhasePart n x S2.m S1.outs S2.phase q) em1 (subst (λ (x : ℕ). PhasePart n m1 x S1.outs S2.phase q) em2
    (subst (λ (x : List (List (List ℕ))). PhasePart n m1 m2 x S2.phase q) ef (subst (λ (x : List Term). PhasePart n m1 m2 fs x q) ep t))))

-- ---- which polynomials are such
pub is_path : (g : List (List ℕ)) (m : List ℕ) (y : ℕ) → length g ≡ 1 → slice_get g 0 ≡ Some m → length m ≡ 1 → y ≡ get_or m 0 0 → g ≡ (y ∷ []) ∷ []
is_path [] m y l e a b = absurd (omega (arith, l))
is_path (x ∷ z ∷ g) m y l e a b = absurd (omega (arith, l))
is_path (x ∷ []) m y l e a b = ap (λ (u : List ℕ). u ∷ []) (first e ∙ one_variable m y a b)
  where
    first : slice_get (x ∷ []) 0 ≡ Some m → x ≡ m
    first g = cc

no_variable : (m : List ℕ) → length m ≡ 0 → m ≡ []
no_variable [] e = refl
no_variable (v ∷ m) e = absurd (omega (arith, e))

pub is_flip : (g : List (List ℕ)) (m k : List ℕ) (q y : ℕ) → length g ≡ 2 → slice_get g 0 ≡ Some m → slice_get g 1 ≡ Some k → length m ≡ 0 → length k ≡ 1 → y ≡ get_or k 0 0 → y ≡ q → g ≡ [] ∷ (q ∷ []) ∷ []
is_flip [] m k q y l e f a b c d = absurd (omega (arith, l))
is_flip (x ∷ []) m k q y l e f a b c d = absurd (omega (arith, l))
is_flip (x ∷ z ∷ t ∷ g) m k q y l e f a b c d = absurd (omega (arith, l))
is_flip (x ∷ z ∷ []) m k q y l e f a b c d = ap₂ (λ (u w : List ℕ). u ∷ w ∷ []) (first e ∙ no_variable m a) (second f ∙ one_variable k q b (sym d ∙ c))
  where
    first : slice_get (x ∷ z ∷ []) 0 ≡ Some m → x ≡ m
    first g = cc

    second : slice_get (x ∷ z ∷ []) 1 ≡ Some k → z ≡ k
    second g = cc

pub path_kind : (n q y : ℕ) (g : List (List ℕ)) → g ≡ (y ∷ []) ∷ [] → n ≤ y → IsKind n q g (Path q y)
path_kind n q y g e h = record {
  stay = λ t. other t;
  path = λ r z t. let k = same r z t in (k.0, (e ∙ ap (λ x. (x ∷ []) ∷ []) (sym k.1), subst (λ x. n ≤ x) (sym k.1) h));
  flip = λ r t. absurd (another r t);
}
  where
    other : Path q y ≡ Stay → ⊥
    other t = cc

    same : (r z : ℕ) → Path q y ≡ Path r z → (r ≡ q) × (z ≡ y)
    same r z t = (cc, cc)

    another : (r : ℕ) → Path q y ≡ Flip r → ⊥
    another r t = cc

pub flip_kind : (n q : ℕ) (g : List (List ℕ)) → g ≡ [] ∷ (q ∷ []) ∷ [] → IsKind n q g (Flip q)
flip_kind n q g e = record {
  stay = λ t. other t;
  path = λ r z t. absurd (another r z t);
  flip = λ r t. let k = same r t in (k, e ∙ ap (λ x. [] ∷ (x ∷ []) ∷ []) (sym k));
}
  where
    other : Flip q ≡ Stay → ⊥
    other t = cc

    same : (r : ℕ) → Flip q ≡ Flip r → r ≡ q
    same r t = cc

    another : (r z : ℕ) → Flip q ≡ Path r z → ⊥
    another r z t = cc

pub kind_change : (n q : ℕ) (gs : List (List (List ℕ))) (g : List (List ℕ)) (c : Change) → q < length gs → g ≡ get_or gs q g → OthersStay q gs → IsKind n q g c → IsChange n gs c
kind_change n q gs g c h e o k = record {
  stay = λ t. absurd (k.stay t);
  path = λ r y t. let p = k.path r y t in (one r ((y ∷ []) ∷ []) p.0 p.1.0, p.1.1);
  flip = λ r t. let p = k.flip r t in one r ([] ∷ (r ∷ []) ∷ []) p.0 p.1;
}
  where
    one : (r : ℕ) (f : List (List ℕ)) → r ≡ q → g ≡ f → OneIs r gs f
    one r f d s = subst (λ (x : ℕ). OneIs x gs f) (sym d) (h, (sym (there gs q g h e) ∙ s, o))
