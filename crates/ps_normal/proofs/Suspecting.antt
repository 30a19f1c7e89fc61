-- Behind a sum that no step reduces, a gate that changes one output leaves few variables at which a step may apply: those of the output that it puts away.
use Rattle.std.proofs.Common.{◌≡◌, ◌≢◌, ℕ, zero, suc, ◌+◌, ◌%◌, ◌≤◌, ◌<◌, refl, ap, ap₂, sym, ◌∙◌, subst, arith, Bool, true, false, cond, ◌||◌, List, [], ◌∷◌, ◌++◌, length, get_or, get_or-append-add, ◌⊎◌, inl, inr, Option, Some, None}
use Rattle.std.specs.Prelude.{IfSome}
use Rattle.std.proofs.Math.ListN.{get_or-append}
use Rattle.std.proofs.lemmas.Bool.{cases_lt, cases_eq}
use Rattle.ps_ring.specs.Truths.{Truths, bit}
use Rattle.ps_ring.specs.Readings.{Assignment, taken}
use Rattle.ps_mono.specs.Sets.{stands, holds}
use Rattle.ps_mono.specs.Lists.{nat_eq_same, nat_eq_other}
use Rattle.ps_mono.specs.Truth.{differ, with_value}
use Rattle.ps_bool.specs.Polys.{bool_value, occurs, IsPoly}
use Rattle.ps_bool.proofs.Laws.{bool_value-var}
use Rattle.ps_phase.specs.Phases.{phase_value}
use Rattle.ps_phase.specs.Adding.{terms_with}
use Rattle.ps_phase.proofs.Adding.{no_or}
use Rattle.ps_sum.specs.declared.sums.PathSum.{PathSum}
use Rattle.ps_sum.specs.Forms.{AllPolys}
use Rattle.ps_sum.specs.Outs.{values, outs_occur}
use Rattle.ps_sum.proofs.Closings.{length_values}
use Rattle.ps_sum.proofs.Uniqueness.{taken_length, taken_apart, phase_read}
use Rattle.ps_rules.specs.declared.steps.Move.{Move}
use Rattle.ps_rules.specs.declared.steps.Move.TheVariants.{Join}
use Rattle.ps_rules.specs.Rules.{IsInner, IsIrreducible}
use Rattle.ps_rules.proofs.Suspects.{spoken_irreducible}
use Rattle.ps_join.specs.declared.changes.Change.{Change}
use Rattle.ps_join.specs.declared.changes.Change.TheVariants.{Stay, Path, Flip, More}
use Rattle.ps_join.specs.Changing.{IsChange}
use Rattle.ps_join.specs.Joining.{IsJoinOf, JoinFits}
use Rattle.ps_join.proofs.Outputs.{get_value, get_free, own_stands}
use Rattle.ps_reach.specs.Reductions.{rest}
use Rattle.ps_reach.specs.Fillings.{kept, Joins, reduces}
use Rattle.ps_normal.specs.Pieces.{Joinable}
use Rattle.ps_normal.specs.Suspecting.{NoneBeside, AreSuspects}
use Rattle.ps_normal.proofs.Plains.{quiet_none, off, inner_of, same_with, unread, outs_same, outs_read, moved_phase}

-- ---- the join by its values at an assignment of all variables
-- what the second sum is read at
abbrev fed : PathSum → ℕ → Assignment → Assignment
fed S m a = bit (values S.outs a ++ taken (S.n + S.m) m a)

record JoinedAt (S L T : PathSum) : Type 0 where
  n_is : T.n ≡ S.n
  m_is : T.m ≡ S.m + L.m
  phase_is : (a : Assignment) → phase_value T.phase a % 4294967296 ≡ (phase_value S.phase a + phase_value L.phase (fed S L.m a)) % 4294967296
  outs_is : (a : Assignment) → values T.outs a ≡ values L.outs (fed S L.m a)

joined_at : (S L T : PathSum) → IsJoinOf S L T → JoinedAt S L T
joined_at S L T j = record {
  n_is = j.n_is;
  m_is = j.values_are.m_is;
  phase_is = λ a.
      ap (λ x. x % 4294967296) (phase_read S.n (S.m + L.m) T.phase (λ v l. T.phase_below v (below v l)) a ∙ ap (λ y. phase_value T.phase (bit (taken 0 S.n a ++ y))) (taken_apart S.n S.m L.m a))
      ∙ j.values_are.phase_is (taken 0 S.n a) (taken S.n S.m a) (taken (S.n + S.m) L.m a) (taken_length 0 S.n a) (taken_length S.n S.m a) (taken_length (S.n + S.m) L.m a)
      ∙ ap₂ (λ (x : ℕ) (z : Truths). (x + phase_value L.phase (bit (z ++ taken (S.n + S.m) L.m a))) % 4294967296) (sym (phase_read S.n S.m S.phase S.phase_below a)) (sym (outs_read S.n S.m S.outs S.outs_below a));
  outs_is = λ a.
      outs_read S.n (S.m + L.m) T.outs (λ v l. T.outs_below v (below v l)) a ∙ ap (λ y. values T.outs (bit (taken 0 S.n a ++ y))) (taken_apart S.n S.m L.m a)
      ∙ j.values_are.outs_is (taken 0 S.n a) (taken S.n S.m a) (taken (S.n + S.m) L.m a) (taken_length 0 S.n a) (taken_length S.n S.m a) (taken_length (S.n + S.m) L.m a)
      ∙ ap (λ (z : Truths). values L.outs (bit (z ++ taken (S.n + S.m) L.m a))) (sym (outs_read S.n S.m S.outs S.outs_below a));
}
  where
    below : (v : ℕ) → S.n + (S.m + L.m) ≤ v → T.n + T.m ≤ v
    below v l = omega (arith, l, j.values_are.m_is, j.n_is)

-- ---- a variable that stands in no output of the first
taken_below : (lo m v : ℕ) (a : Assignment) (b : Bool) → v < lo → taken lo m (with_value a v b) ≡ taken lo m a
unfolding taken
taken_below lo zero v a b h = refl
taken_below lo (suc m) v a b h = ap₂ (λ (x : Bool) (xs : Truths). x ∷ xs) (ap (λ (c : Bool). cond c b (a lo)) (nat_eq_other lo v (λ e. omega (arith, h, e)))) (taken_below (suc lo) m v a b (omega (arith, h)))

fed_same : (S : PathSum) (m v : ℕ) (a : Assignment) (b : Bool) → v < S.n + S.m → outs_occur v S.outs ≡ false → fed S m (with_value a v b) ≡ fed S m a
fed_same S m v a b h o = ap₂ (λ (x y : Truths). bit (x ++ y)) (outs_same v S.outs a b o) (taken_below (S.n + S.m) m v a b h)

terms_stay : (S L T : PathSum) (v : ℕ) → JoinedAt S L T → v < S.n + S.m → outs_occur v S.outs ≡ false → terms_with v T.phase ≡ terms_with v S.phase
terms_stay S L T v j h o = same_with v T.phase S.phase T.formed.0 S.formed.0
    (λ a. moved_phase (phase_value T.phase a) (phase_value S.phase a) (phase_value T.phase (with_value a v false)) (phase_value S.phase (with_value a v false))
    (phase_value L.phase (fed S L.m a)) (phase_value L.phase (fed S L.m (with_value a v false)))
    (j.phase_is a) (j.phase_is (with_value a v false)) (ap (phase_value L.phase) (fed_same S L.m v a false h o)))

-- ---- one output
front_bit : (s t : Truths) (u : ℕ) → u < length s → bit (s ++ t) u ≡ bit s u
front_bit s t u l = get_or-append s t false u l

back_bit : (s t : Truths) (n u : ℕ) → length s ≡ n → bit (s ++ t) (n + u) ≡ bit t u
back_bit s t n u l = ap (λ k. bit (s ++ t) (k + u)) (sym l) ∙ get_or-append-add s t u false

fed_output : (S : PathSum) (m i : ℕ) (a : Assignment) → i < length S.outs → fed S m a i ≡ bool_value (get_or S.outs i []) a
fed_output S m i a h = front_bit (values S.outs a) (taken (S.n + S.m) m a) i (omega (arith, h, length_values S.outs a)) ∙ sym (get_value S.outs i [] a h)

flip_value : (i : ℕ) (a : Assignment) → bool_value ([] ∷ (i ∷ []) ∷ []) a ≡ differ true (a i)
unfolding bool_value holds
flip_value i a = ap (differ true) (bool_value-var i a)

differ_cancel : (x y : Bool) → differ true x ≡ differ true y → x ≡ y
unfolding differ
differ_cancel true true e = refl
differ_cancel true false e = cc
differ_cancel false true e = cc
differ_cancel false false e = refl

-- the second's output i is its input, or that flipped, or v stands not in the first's
abbrev Tells : PathSum → PathSum → ℕ → ℕ → Type 0
Tells S L v i = (get_or L.outs i [] ≡ (i ∷ []) ∷ []) ⊎ ((get_or L.outs i [] ≡ [] ∷ (i ∷ []) ∷ []) ⊎ (occurs v (get_or S.outs i []) ≡ false))

poly_there : (fs : List (List (List ℕ))) (i : ℕ) → AllPolys fs → i < length fs → IsPoly (get_or fs i [])
poly_there [] i p h = absurd (omega (arith, h))
poly_there (f ∷ fs) zero p h = p.0
poly_there (f ∷ fs) (suc i) p h = poly_there fs i p.1 (omega (arith, h))

one_silent : (S L T : PathSum) (v i : ℕ) → JoinedAt S L T → outs_occur v T.outs ≡ false → i < length S.outs → i < length L.outs → Tells S L v i → occurs v (get_or S.outs i []) ≡ false
one_silent S L T v i j o h k (inl e) = unread v (get_or S.outs i []) (poly_there S.outs i S.formed.1 h) (λ a. sym (here (with_value a v false)) ∙ ap (λ (z : Truths). bit z i) (outs_same v T.outs a false o) ∙ here a)
  where
    here : (a : Assignment) → bit (values T.outs a) i ≡ bool_value (get_or S.outs i []) a
    here a = ap (λ (z : Truths). bit z i) (j.outs_is a) ∙ sym (get_value L.outs i [] (fed S L.m a) k) ∙ ap (λ (f : List (List ℕ)). bool_value f (fed S L.m a)) e ∙ bool_value-var i (fed S L.m a) ∙ fed_output S L.m i a h
one_silent S L T v i j o h k (inr (inl e)) = unread v (get_or S.outs i []) (poly_there S.outs i S.formed.1 h) (λ a. differ_cancel _ _ (sym (here (with_value a v false)) ∙ ap (λ (z : Truths). bit z i) (outs_same v T.outs a false o) ∙ here a))
  where
    here : (a : Assignment) → bit (values T.outs a) i ≡ differ true (bool_value (get_or S.outs i []) a)
    here a = ap (λ (z : Truths). bit z i) (j.outs_is a) ∙ sym (get_value L.outs i [] (fed S L.m a) k) ∙ ap (λ (f : List (List ℕ)). bool_value f (fed S L.m a)) e ∙ flip_value i (fed S L.m a) ∙ ap (differ true) (fed_output S L.m i a h)
one_silent S L T v i j o h k (inr (inr e)) = e

none_there : (v : ℕ) (fs : List (List (List ℕ))) → ((i : ℕ) → i < length fs → occurs v (get_or fs i []) ≡ false) → outs_occur v fs ≡ false
unfolding outs_occur
none_there v [] h = refl
none_there v (f ∷ fs) h = no_or _ _ (h 0 (omega arith)) (none_there v fs (λ i l. h (suc i) (omega (arith, l))))

each_silent : (S L T : PathSum) (v : ℕ) → JoinedAt S L T → length S.outs ≡ length L.outs → outs_occur v T.outs ≡ false → ((i : ℕ) → i < length L.outs → Tells S L v i) → outs_occur v S.outs ≡ false
each_silent S L T v j w o t = none_there v S.outs (λ i h. one_silent S L T v i j o h (omega (arith, h, w)) (t i (omega (arith, h, w))))

-- ---- what is looked at
-- the gate has no path variable and leaves each output or flips one, or it has one, which replaces the output whose variables are m
abbrev pub Suspects : Change → PathSum → PathSum → List ℕ → Type 0
Suspects Stay S L m = L.m ≡ 0
Suspects (Path q y) S L m = (L.m ≡ 1) × ((v : ℕ) → stands v m ≡ occurs v (get_or S.outs q []))
Suspects (Flip q) S L m = L.m ≡ 0
Suspects More S L m = ⊥

tells : (c : Change) (S L : PathSum) (m : List ℕ) (v : ℕ) → IsChange L.n L.outs c → Suspects c S L m → stands v m ≡ false → (i : ℕ) → i < length L.outs → Tells S L v i
tells Stay S L m v c s o i h = inl (c.stay refl i h)
tells (Path q y) S L m v c s o i h = by (cases_eq i q)
  where
    by : ((i ≡ q) ⊎ (i ≢ q)) → Tells S L v i
    by (inl e) = inr (inr (ap (λ (k : ℕ). occurs v (get_or S.outs k [])) e ∙ sym (s.1 v) ∙ o))
    by (inr d) = inl ((c.path q y refl).0.1.1 i h d)
tells (Flip q) S L m v c s o i h = by (cases_eq i q)
  where
    by : ((i ≡ q) ⊎ (i ≢ q)) → Tells S L v i
    by (inl e) = inr (inl (ap (λ (k : ℕ). get_or L.outs k []) e ∙ (c.flip q refl).1.0 ∙ ap (λ (k : ℕ). [] ∷ (k ∷ []) ∷ []) (sym e)))
    by (inr d) = inl ((c.flip q refl).1.1 i h d)
tells More S L m v c s o i h = absurd s

-- ---- the gate's own path variable stands in the output that it replaces
var_occurs : (y : ℕ) → occurs y ((y ∷ []) ∷ []) ≡ true
unfolding occurs
var_occurs y = ap (λ b. b || false) (own_stands y)

-- a variable that is an output is one of the sum
path_below : (L : PathSum) (q y : ℕ) → q < length L.outs → get_or L.outs q [] ≡ (y ∷ []) ∷ [] → y < L.n + L.m
path_below L q y h e = by (cases_lt y (L.n + L.m))
  where
    by : ((y < L.n + L.m) ⊎ (L.n + L.m ≤ y)) → y < L.n + L.m
    by (inl l) = l
    by (inr l) = absurd (off (ap (occurs y) e ∙ var_occurs y) (get_free L.outs q [] y h (L.outs_below y l)))

fed_new : (S : PathSum) (m : ℕ) (a : Assignment) → length S.outs ≡ S.n → m ≡ 1 → fed S m a S.n ≡ a (S.n + S.m)
unfolding taken
fed_new S m a w e =
    let z : S.n ≡ S.n + 0 = omega arith in
    ap (λ (k : ℕ). fed S k a S.n) e ∙ ap (fed S 1 a) z ∙ back_bit (values S.outs a) (a (S.n + S.m) ∷ []) S.n 0 (length_values S.outs a ∙ w)

there_value : (a : Assignment) (v : ℕ) (b : Bool) → with_value a v b v ≡ b
there_value a v b = ap (λ (t : Bool). cond t b (a v)) (nat_eq_same v)

new_spoken : (S L T : PathSum) (q y : ℕ) → JoinedAt S L T → length S.outs ≡ S.n → L.n ≡ S.n → L.m ≡ 1 → q < length L.outs → get_or L.outs q [] ≡ (y ∷ []) ∷ [] → L.n ≤ y → outs_occur (S.n + S.m) T.outs ≡ false → ⊥
new_spoken S L T q y j w en em h e low o = off (seen true) (seen false)
  where
    v : ℕ
    v = S.n + S.m

    zero_at : Assignment
    zero_at u = false

    y_is : y ≡ S.n
    y_is = omega (arith, path_below L q y h e, low, en, em)

    here : (a : Assignment) → bit (values T.outs a) q ≡ a v
    here a = ap (λ (z : Truths). bit z q) (j.outs_is a) ∙ sym (get_value L.outs q [] (fed S L.m a) h) ∙ ap (λ (f : List (List ℕ)). bool_value f (fed S L.m a)) e ∙ bool_value-var y (fed S L.m a) ∙ ap (fed S L.m a) y_is ∙ fed_new S L.m a w em

    seen : (b : Bool) → bit (values T.outs zero_at) q ≡ b
    seen b = sym (ap (λ (z : Truths). bit z q) (outs_same v T.outs zero_at b o)) ∙ here (with_value zero_at v b) ∙ there_value zero_at v b

old_name : (c : Change) (S L T : PathSum) (m : List ℕ) (y : ℕ) → JoinedAt S L T → length S.outs ≡ S.n → L.n ≡ S.n → IsChange L.n L.outs c → Suspects c S L m → IsInner T y → y < S.m
old_name Stay S L T m y j w en c s i = omega (arith, i.inside, j.m_is, s)
old_name (Path q p) S L T m y j w en c s i = by (cases_lt y S.m)
  where
    last : S.m ≤ y → T.n + y ≡ S.n + S.m
    last l = omega (arith, l, i.inside, j.m_is, j.n_is, s.0)

    by : ((y < S.m) ⊎ (S.m ≤ y)) → y < S.m
    by (inl l) = l
    by (inr l) = absurd (new_spoken S L T q p j w en s.0 (c.path q p refl).0.0 (c.path q p refl).0.1.0 (c.path q p refl).1 (subst (λ k. outs_occur k T.outs ≡ false) (last l) i.silent))
old_name (Flip q) S L T m y j w en c s i = omega (arith, i.inside, j.m_is, s)
old_name More S L T m y j w en c s i = absurd s

suspect_none : (c : Change) (S L T : PathSum) (m : List ℕ) → IsIrreducible S → IsJoinOf S L T → length S.outs ≡ S.n → length L.outs ≡ S.n → IsChange L.n L.outs c → Suspects c S L m → NoneBeside T m
suspect_none c S L T m i j w wl ch s y free t e a =
    let at : JoinedAt S L T = joined_at S L T j in
    let inner : IsInner T y = subst (IsInner T) e (inner_of T t a) in
    let inside : y < S.m = old_name c S L T m y at w j.second_n_is ch s inner in
    let silent : outs_occur (S.n + y) S.outs ≡ false =
    subst (λ k. outs_occur (k + y) S.outs ≡ false) at.n_is (each_silent S L T (T.n + y) at (w ∙ sym wl) inner.silent (tells c S L m (T.n + y) ch s free))
    in
    quiet_none S T y i (record { n_is = at.n_is; inside = inside; silent = silent; terms_same = terms_stay S L T (S.n + y) at (omega (arith, inside)) silent }) t e a

-- ---- as the gate tells it
are_suspects : (c d : Change) (S L : PathSum) (m : List ℕ) → Joinable S L → IsChange L.n L.outs c → c ≡ d → Suspects d S L m → AreSuspects S L m
are_suspects c d S L m r ch e s i T j = suspect_none d S L T m i j (r.first.wide ∙ sym r.first.n_is) (r.second.wide ∙ sym r.first.n_is) (subst (IsChange L.n L.outs) e ch) s

pub path_place : (S L : PathSum) (c : Change) (q y : ℕ) → Joinable S L → IsChange L.n L.outs c → c ≡ Path q y → q < length S.outs
path_place S L c q y r ch e = omega (arith, (ch.path q y e).0.0, r.first.wide, r.second.wide)

pub path_suspects : (S L D : PathSum) (c : Change) (q y : ℕ) (m : List ℕ) → Joinable S L → IsChange L.n L.outs c → c ≡ Path q y → D ≡ L → D.m ≡ 1 → ((v : ℕ) → stands v m ≡ occurs v (get_or S.outs q [])) → AreSuspects S L m
path_suspects S L D c q y m r ch e d h s = are_suspects c (Path q y) S L m r ch e (sym (ap (λ (R : PathSum). R.m) d) ∙ h, s)

pub stay_suspects : (S L D : PathSum) (c : Change) (m : List ℕ) → Joinable S L → IsChange L.n L.outs c → c ≡ Stay → D ≡ L → D.m ≡ 0 → AreSuspects S L m
stay_suspects S L D c m r ch e d h = are_suspects c Stay S L m r ch e (sym (ap (λ (R : PathSum). R.m) d) ∙ h)

pub flip_suspects : (S L D : PathSum) (c : Change) (q : ℕ) (m : List ℕ) → Joinable S L → IsChange L.n L.outs c → c ≡ Flip q → D ≡ L → D.m ≡ 0 → AreSuspects S L m
flip_suspects S L D c q m r ch e d h = are_suspects c (Flip q) S L m r ch e (sym (ap (λ (R : PathSum). R.m) d) ∙ h)

pub beside_joined : (S L T : PathSum) (o : Option (List ℕ)) → IsIrreducible S → IsJoinOf S L T → IfSome o (λ m. AreSuspects S L m) → IfSome o (λ m. NoneBeside T m)
beside_joined S L T None i j h = tt
beside_joined S L T (Some m) i j h = h i T j

-- ---- where each of them stands in an output
pub spoken_still : (S : PathSum) (outs : List (List (List ℕ))) (n : ℕ) (m : List ℕ) → outs ≡ S.outs → n ≡ S.n → NoneBeside S m → ((v : ℕ) → n ≤ v → stands v m ≡ true → outs_occur v outs ≡ true) → IsIrreducible S
spoken_still S outs n m o e h spoken = spoken_irreducible S m h (λ v l t. ap (outs_occur v) (sym o) ∙ spoken v (omega (arith, e, l)) t)

pub still_joins : (from middle to : ℕ) (S1 S2 S : PathSum) (ms ms' : List Move) → IsIrreducible S → JoinFits S1 S2 → IsJoinOf S1 S2 S → ms' ≡ ms ++ Join ∷ [] → Joins from middle to S1 S2 ms (kept S ms')
still_joins from middle to S1 S2 S ms ms' h f j e = subst (λ x. Joins from middle to S1 S2 ms (kept S x)) (sym e) (reduces f j (record { taken = rest; ended = h }))
