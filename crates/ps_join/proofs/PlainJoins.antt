-- Gates without path variables behind a sum.
use Rattle.std.proofs.Common.{◌≡◌, ◌≢◌, ℕ, zero, suc, ◌+◌, ◌*◌, ◌%◌, refl, ap, ap₂, sym, ◌∙◌, subst, arith, ◌<◌, ◌≤◌, Bool, true, false, cond, ◌||◌, List, [], ◌∷◌, ◌++◌, length, append-nil, set, get_or, Option, Some, None, ◌⊎◌, inl, inr}
use Rattle.std.specs.Prelude.{IfSome}
use Rattle.std.proofs.lemmas.List.{get_or_default, length-set}
use Rattle.std.proofs.lemmas.Int.{ints}
use Rattle.std.proofs.lemmas.Bool.{cases_eq, cases_lt}
use Rattle.ps_mono.specs.Sets.{stands}
use Rattle.ps_mono.specs.Lists.{nat_eq_same}
use Rattle.ps_mono.specs.Truth.{times, differ, with_value}
use Rattle.ps_ring.specs.Truths.{Truths, bit}
use Rattle.ps_ring.specs.Joins.{PlainSum}
use Rattle.ps_ring.specs.Readings.{Assignment, second_name}
use Rattle.ps_prim.specs.declared.prims.Primitive.{Primitive as Prim}
use Rattle.ps_prim.specs.declared.prims.Primitive.TheVariants.{U, Cx}
use Rattle.ps_prim.specs.Amplitudes.{exchanged}
use Rattle.ps_prim.specs.Maps.{IsWithin}
use Rattle.ps_prim.specs.Sums.{Denotes}
use Rattle.ps_bool.specs.Polys.{bool_value, occurs, IsPoly}
use Rattle.ps_bool.specs.Merging.{merge}
use Rattle.ps_bool.proofs.Laws.{bool_value-var}
use Rattle.ps_bool.proofs.Merges.{merge_value, merge_poly}
use Rattle.ps_phase.specs.declared.terms.Term.{Term}
use Rattle.ps_phase.specs.Phases.{phase_value, phase_occurs}
use Rattle.ps_phase.proofs.Adding.{no_or}
use Rattle.ps_sum.specs.Counts.{raw_term, raw_phase}
use Rattle.ps_sum.specs.Forms.{AllPolys}
use Rattle.ps_sum.specs.Outs.{values, outs_occur}
use Rattle.ps_sum.specs.Sums.{path_values}
use Rattle.ps_sum.specs.declared.sums.PathSum.{PathSum}
use Rattle.ps_sum.proofs.Closings.{length_values}
use Rattle.ps_join.specs.Joining.{IsLeafOf, IsJoinOf, JoinFits, PhaseChain, OutputChain}
use Rattle.ps_join.specs.Changing.{AllShort}
use Rattle.ps_join.specs.Plainly.{IsBehind, IsAdded, IsLift, IsNear}
use Rattle.ps_join.proofs.Outputs.{get_value, get_free, var_poly, own_stands, set_free, set_polys, set_values}
use Rattle.ps_join.proofs.NamedParts.{name_front}
use Rattle.ps_join.proofs.LeafSums.{denotes_leaf, denotes_wide, exchanged_is}
use Rattle.ps_join.proofs.Chains.{PhaseLoop, phase_fits, never}
use Rattle.ps_join.proofs.Merging.{join_means}
use Rattle.ps_join.proofs.Only.{none_of}
use Rattle.ps_join.proofs.Pairs.{pair_chain}
use Rattle.ps_join.proofs.Touching.{here, lone_loop, no_phase, stay_fits, each_fits, one_fits}
use Rattle.ps_join.proofs.PlainSums.{LeafThere, one_turn, turn_form, turn_worth, turn_free, turned, turn_phase, turn_output, exchange_phase, exchange_other, exchange_value, turn_leaf, exchange_leaf}

-- ---- the join by values
sum_mod : (x y z : ℕ) → y % 4294967296 ≡ z % 4294967296 → (x + y) % 4294967296 ≡ (x + z) % 4294967296
sum_mod x y z e = omega (arith, e)

plain_join : (f : Truths → Truths) (P : Truths → ℕ) (S1 S2 S : PathSum) → length S1.outs ≡ S1.n → S2.n ≡ S1.n → PlainSum S1.n f P (path_values S2) → IsBehind S1 f P S → IsJoinOf S1 S2 S
plain_join f P S1 S2 S w e p b = record {
  n_is = b.n_is;
  second_n_is = e;
  values_are = record {
    m_is = omega (arith, b.m_is, p.m_is);
    k_is = omega (arith, ints, b.k_is, p.k_is);
    phase_is = λ x y z lx ly lz.
        subst (λ (v : Truths). phase_value S.phase (bit (x ++ (y ++ v))) % 4294967296 ≡ (phase_value S1.phase (bit (x ++ y)) + phase_value S2.phase (bit (values S1.outs (bit (x ++ y)) ++ v))) % 4294967296) (sym (none_of z (lz ∙ p.m_is)))
        (ap (λ (v : Truths). phase_value S.phase (bit (x ++ v)) % 4294967296) (append-nil y) ∙ b.phase_is (bit (x ++ y)) ∙ sum_mod _ _ _ (sym (p.phase_is (values S1.outs (bit (x ++ y))) (length_values S1.outs _ ∙ w))));
    outs_is = λ x y z lx ly lz.
        subst (λ (v : Truths). values S.outs (bit (x ++ (y ++ v))) ≡ values S2.outs (bit (values S1.outs (bit (x ++ y)) ++ v))) (sym (none_of z (lz ∙ p.m_is)))
        (ap (λ (v : Truths). values S.outs (bit (x ++ v))) (append-nil y) ∙ b.outs_are (bit (x ++ y)) ∙ sym (p.outs_is (values S1.outs (bit (x ++ y))) (length_values S1.outs _ ∙ w)));
  };
}

pub exchange_join : (c t : ℕ) (S1 S2 S : PathSum) → length S1.outs ≡ S1.n → IsLeafOf S1.n (Cx c t) S2 → IsBehind S1 (exchanged c t) (λ x. 0) S → IsJoinOf S1 S2 S
exchange_join c t S1 S2 S w l b = plain_join (exchanged c t) (λ x. 0) S1 S2 S w l.n_is l.values_are b

added_behind : (phi lambda q w : ℕ) (more : List Term) (S1 S : PathSum) → q < length S1.outs → w ≡ ((2 * phi) % 4294967296 + (2 * lambda) % 4294967296) % 4294967296 → IsLift (get_or S1.outs q []) w more → IsAdded S1 more S
    → IsBehind S1 (λ x. x) (λ x. cond (bit x q) (2 * phi + 2 * lambda) 0) S
added_behind phi lambda q w more S1 S h e t b = record {
  n_is = b.n_is;
  m_is = b.m_is;
  k_is = b.k_is;
  wide = ap length b.outs_are;
  phase_is = λ a.
      b.phase_is a
      ∙ sum_mod (phase_value S1.phase a) _ _ (t.value a ∙ ap (λ (x : Bool). times x w % 4294967296) (get_value S1.outs q [] a h) ∙ sym (turned (bit (values S1.outs a) q) w phi lambda e));
  outs_are = λ a. ap (λ o. values o a) b.outs_are;
}

pub turn_join : (phi lambda q w : ℕ) (more : List Term) (S1 S2 S : PathSum) → q < S1.n → length S1.outs ≡ S1.n → w ≡ ((2 * phi) % 4294967296 + (2 * lambda) % 4294967296) % 4294967296 → IsLift (get_or S1.outs q []) w more → IsAdded S1 more S
    → IsLeafOf S1.n (U 0 phi lambda q) S2 → IsJoinOf S1 S2 S
turn_join phi lambda q w more S1 S2 S h x e t b l = plain_join (λ x. x) (λ x. cond (bit x q) (2 * phi + 2 * lambda) 0) S1 S2 S x l.n_is l.values_are (added_behind phi lambda q w more S1 S (omega (arith, h, x)) e t b)

-- what stands in the phase that is added
pub lift_below : (q w v : ℕ) (more : List Term) (S : PathSum) → q < length S.outs → IsLift (get_or S.outs q []) w more → S.n + S.m ≤ v → phase_occurs v more ≡ false
lift_below q w v more S h t l = never (phase_occurs v more) (occurs v (get_or S.outs q [])) (t.variables v) (get_free S.outs q [] v h (S.outs_below v l))

-- ---- the limits
clash : {b : Bool} → b ≡ true → b ≡ false → ⊥
clash e f = cc

turn_there : (q w : ℕ) → phase_occurs q (one_turn q (suc w)) ≡ true
unfolding one_turn phase_occurs
turn_there q w = ap (λ b. b || false) (own_stands q)

turn_names : (n m1 m2 q w : ℕ) → q < n → (u : ℕ) → ((v : ℕ) → u ≡ second_name n m1 m2 v → phase_occurs v (one_turn q w) ≡ false) → phase_occurs u (one_turn (n + (m1 + m2) + q) w) ≡ false
unfolding one_turn phase_occurs
turn_names n m1 m2 q zero h u f = refl
turn_names n m1 m2 q (suc w) h u f = by (cases_eq u (n + (m1 + m2) + q))
  where
    by : ((u ≡ n + (m1 + m2) + q) ⊎ (u ≡ n + (m1 + m2) + q → ⊥)) → phase_occurs u (one_turn (n + (m1 + m2) + q) (suc w)) ≡ false
    by (inl e) = absurd (clash (turn_there q w) (f q (name_front n m1 m2 q u h e)))
    by (inr d) = turn_free (n + (m1 + m2) + q) (suc w) u d

turn_short : (v w : ℕ) → length (one_turn v w) ≤ 65536
unfolding one_turn
turn_short v zero = omega arith
turn_short v (suc w) = omega arith

turn_raw : (v w t : ℕ) → raw_phase v t (one_turn v w) ≤ raw_term w t
unfolding one_turn raw_phase
turn_raw v zero t = omega arith
turn_raw v (suc w) t =
    let e : cond (stands v (v ∷ [])) (raw_term (suc w) t) 1 ≡ raw_term (suc w) t = ap (λ b. cond b (raw_term (suc w) t) 1) (own_stands v) in
    omega (arith, e)

or_last : (x y : Bool) → y ≡ true → (x || y) ≡ true
or_last true y e = refl
or_last false y e = e

turn_loop : (n m1 m2 : ℕ) (fs : List (List (List ℕ))) (q w : ℕ) (r : List Term) → q < n → length fs ≡ n → n + n + m1 + m2 ≤ 512 → w < 4294967296 → ((v : ℕ) → n + m1 ≤ v → outs_occur v fs ≡ false) → IsLift (get_or fs q []) w r → PhaseLoop n m1 m2 fs (one_turn q w) n r
turn_loop n m1 m2 fs q w r h x room small b t =
    let own : ℕ = n + (m1 + m2) + q in
    let f : List (List ℕ) = get_or fs q [] in
    lone_loop n m1 m2 fs (one_turn q w) q own f (one_turn own w) r x b (λ v l. turn_free q w v (omega (arith, l, h))) h (λ u k d. turn_free q w u d) (here fs q (omega (arith, h, x))) refl
    (record {
      form = turn_form own w (omega (arith, h, room)) small;
      value = λ a. ap (λ k. k % 4294967296) (turn_worth own w a ∙ ap (λ y. times (a y) w) (name_front n m1 m2 q own h refl) ∙ sym (turn_worth q w (λ v. a (second_name n m1 m2 v))));
    })
    (turn_names n m1 m2 q w h) (turn_short own w) (omega (arith, turn_raw own w (length f), t.made))
    (record {
      form = t.form;
      value = λ a. t.value a ∙ ap (λ k. k % 4294967296) (sym (turn_worth own w (with_value a own (bool_value f a)) ∙ ap (λ c. times (cond c (bool_value f a) (a own)) w) (nat_eq_same own)));
    })
    (λ u k. or_last _ _ (t.variables u k)) t.few

pub turn_fits : (phi lambda q w : ℕ) (r : List Term) (S1 S2 : PathSum) → q < S1.n → length S1.outs ≡ S1.n → w ≡ ((2 * phi) % 4294967296 + (2 * lambda) % 4294967296) % 4294967296 → IsNear S1 → IsLift (get_or S1.outs q []) w r
    → IsLeafOf S1.n (U 0 phi lambda q) S2 → JoinFits S1 S2
turn_fits phi lambda q w r S1 S2 h x e near t l =
    let p : S2.phase ≡ one_turn q w = turn_phase S1.n phi lambda q w S2 h S1.qubits.1 l e in
    let second : length S2.outs ≡ S1.n = denotes_wide S1.n S2 _ (denotes_leaf S1.n (U 0 phi lambda q) S2 h l) in
    let none : S2.m ≡ 0 = l.values_are.m_is in
    let room : S1.n + S1.n + S1.m + S2.m ≤ 512 = omega (arith, near.named, none) in
    record {
      variables = omega (arith, near.named, none);
      terms = inr (
        subst (λ (y : List Term). PhaseChain S1.n S1.m S2.m S1.outs y None) (sym p)
            (phase_fits S1.n S1.m S2.m S1.outs (one_turn q w) S1.n r x (omega arith) (turn_loop S1.n S1.m S2.m S1.outs q w r h x room (omega (arith, e)) S1.outs_below t)),
        each_fits S1.n S1.m S2.m S1.outs S2.outs (λ i k.
            let inside : i < S1.n = omega (arith, k, second) in
            stay_fits S1.n S1.m S2.m i S1.outs (get_or S2.outs i []) inside x room S1.formed.1 S1.outs_below near.short (turn_output S1.n phi lambda q i S2 S1.qubits.1 l second inside)),
      );
    }

-- the sum of two inputs
two_fit : (n m1 m2 i j : ℕ) (fs : List (List (List ℕ))) (g : List (List ℕ)) → i < j → j < n → ((b : Assignment) → bool_value g b ≡ differ (b i) (b j)) → length fs ≡ n → n + n + m1 + m2 ≤ 512 → AllPolys fs → ((v : ℕ) → n + m1 ≤ v → outs_occur v fs ≡ false)
    → AllShort fs → OutputChain n m1 m2 fs g None
two_fit n m1 m2 i j fs g d h value x room polys b short =
    let w : ℕ = n + (m1 + m2) + i in
    let u : ℕ = n + (m1 + m2) + j in
    let low : i < n = omega (arith, d, h) in
    let first : i < length fs = omega (arith, low, x) in
    let second : j < length fs = omega (arith, h, x) in
    let small : u < 512 = omega (arith, h, room) in (
      merge ((w ∷ []) ∷ []) ((u ∷ []) ∷ []),
      (
        record {
          form = merge_poly ((w ∷ []) ∷ []) ((u ∷ []) ∷ []) (var_poly w (omega (arith, d, small))) (var_poly u small);
          value = λ a.
              merge_value ((w ∷ []) ∷ []) ((u ∷ []) ∷ []) a
              ∙ ap₂ differ (bool_value-var w a ∙ ap a (name_front n m1 m2 i w low refl)) (bool_value-var u a ∙ ap a (name_front n m1 m2 j u h refl))
              ∙ sym (value (λ v. a (second_name n m1 m2 v)));
        },
        pair_chain fs (n + (m1 + m2)) w u i j (get_or fs i []) (get_or fs j []) d second refl refl small (here fs i first) (here fs j second) polys (λ v k. b v (omega (arith, k))) (short i first) (short j second),
      ),
    )

differ_turned : (x y : Bool) → differ x y ≡ differ y x
unfolding differ
differ_turned true true = refl
differ_turned true false = refl
differ_turned false true = refl
differ_turned false false = refl

sum_fits : (n m1 m2 c t : ℕ) (fs : List (List (List ℕ))) (g : List (List ℕ)) → IsWithin n (Cx c t) → ((b : Assignment) → bool_value g b ≡ differ (b t) (b c)) → length fs ≡ n → n + n + m1 + m2 ≤ 512 → AllPolys fs → ((v : ℕ) → n + m1 ≤ v → outs_occur v fs ≡ false)
    → AllShort fs → OutputChain n m1 m2 fs g None
sum_fits n m1 m2 c t fs g h value x room polys b short = by (cases_lt c t)
  where
    by : ((c < t) ⊎ (t ≤ c)) → OutputChain n m1 m2 fs g None
    by (inl d) = two_fit n m1 m2 c t fs g d h.1 (λ a. value a ∙ differ_turned (a t) (a c)) x room polys b short
    by (inr d) = let apart : c ≢ t = h.2 in two_fit n m1 m2 t c fs g (omega (arith, d, apart)) h.0 value x room polys b short

pub exchange_fits : (c t : ℕ) (S1 S2 : PathSum) → IsWithin S1.n (Cx c t) → length S1.outs ≡ S1.n → IsNear S1 → IsLeafOf S1.n (Cx c t) S2 → JoinFits S1 S2
exchange_fits c t S1 S2 h x near l =
    let second : length S2.outs ≡ S1.n = denotes_wide S1.n S2 _ (denotes_leaf S1.n (Cx c t) S2 h l) in
    let none : S2.m ≡ 0 = l.values_are.m_is in
    let room : S1.n + S1.n + S1.m + S2.m ≤ 512 = omega (arith, near.named, none) in
    record {
      variables = omega (arith, near.named, none);
      terms = inr (
        phase_fits S1.n S1.m S2.m S1.outs S2.phase S1.n [] x (omega arith) (no_phase S1.n S1.m S2.m S1.outs S2.phase [] x S1.outs_below (ap length (exchange_phase S1.n c t S2 l)) refl),
        one_fits S1.n S1.m S2.m t S1.outs S2.outs (get_or S2.outs t []) second x room S1.formed.1 S1.outs_below near.short
            (omega (arith, second, h.1), (refl, λ i k d. exchange_other S1.n c t i S2 S1.qubits.1 l second (omega (arith, k, second)) d))
            (sum_fits S1.n S1.m S2.m c t S1.outs (get_or S2.outs t []) h (exchange_value S1.n c t S2 h l second) x room S1.formed.1 S1.outs_below near.short),
      );
    }

-- ---- what they stand for
means_by : (g : Prim) (S1 S : PathSum) → IsWithin S1.n g → LeafThere S1.n g → ((S2 : PathSum) → IsLeafOf S1.n g S2 → IsJoinOf S1 S2 S) → (A : List Prim) → Denotes S1.n (path_values S1) A → Denotes S1.n (path_values S) (A ++ g ∷ [])
means_by g S1 S h t j A d = join_means S1 t.sum S (j t.sum t.is_leaf) A (g ∷ []) d (denotes_leaf S1.n g t.sum h t.is_leaf)

pub exchange_means : (c t : ℕ) (S1 S : PathSum) → IsWithin S1.n (Cx c t) → ((S2 : PathSum) → IsLeafOf S1.n (Cx c t) S2 → IsJoinOf S1 S2 S) → (A : List Prim) → Denotes S1.n (path_values S1) A → Denotes S1.n (path_values S) (A ++ Cx c t ∷ [])
exchange_means c t S1 S h j A d = means_by (Cx c t) S1 S h (exchange_leaf S1.n c t S1.qubits h) j A d

pub turn_means : (phi lambda q : ℕ) (S1 S : PathSum) → q < S1.n → ((S2 : PathSum) → IsLeafOf S1.n (U 0 phi lambda q) S2 → IsJoinOf S1 S2 S) → (A : List Prim) → Denotes S1.n (path_values S1) A → Denotes S1.n (path_values S) (A ++ U 0 phi lambda q ∷ [])
turn_means phi lambda q S1 S h j A d = means_by (U 0 phi lambda q) S1 S h (turn_leaf S1.n phi lambda q S1.qubits h) j A d

-- ---- as the code has them
pub turn_units : (w a b phi lambda : ℕ) → w ≡ (a + b) % 4294967296 → a ≡ (2 * phi) % 4294967296 → b ≡ (2 * lambda) % 4294967296 → w ≡ ((2 * phi) % 4294967296 + (2 * lambda) % 4294967296) % 4294967296
turn_units w a b phi lambda e f g = e ∙ ap₂ (λ (x y : ℕ). (x + y) % 4294967296) f g

pub lift_there : (q w : ℕ) (fs : List (List (List ℕ))) (f : List (List ℕ)) (r : Option (List Term)) (more : List Term) (S : PathSum) → q < length S.outs → fs ≡ S.outs → f ≡ get_or fs q f → r ≡ Some more → IfSome r (λ p. IsLift f w p) → IsLift (get_or S.outs q []) w more
lift_there q w fs f r more S h e i s t =
    let same : f ≡ get_or S.outs q [] = i ∙ ap (λ (o : List (List (List ℕ))). get_or o q f) e ∙ get_or_default S.outs q f [] h in
    subst (λ (g : List (List ℕ)). IsLift g w more) same (subst (λ x. IfSome x (λ p. IsLift f w p)) s t)

-- the outputs where one is added to another
pub record Exchanged (S : PathSum) (c t : ℕ) (rs : List (List (List ℕ))) : Type 0 where
  pub below : (v : ℕ) → S.n + S.m ≤ v → outs_occur v rs ≡ false
  pub wide : length rs ≡ length S.outs
  pub polys : AllPolys rs
  pub outs_are : (a : Assignment) → values rs a ≡ exchanged c t (values S.outs a)

pub exchanged_outs : (S : PathSum) (c t : ℕ) (fs rs : List (List (List ℕ))) (x y s : List (List ℕ)) → c < length S.outs → t < length S.outs → fs ≡ S.outs → x ≡ get_or fs t x → y ≡ get_or fs c y
    → IsPoly s → ((a : Assignment) → bool_value s a ≡ differ (bool_value x a) (bool_value y a)) → ((v : ℕ) → occurs v s ≡ true → (occurs v x || occurs v y) ≡ true) → rs ≡ set fs t s → Exchanged S c t rs
exchanged_outs S c t fs rs x y s hc ht e ex ey form value vars r =
    let there : rs ≡ set S.outs t s = r ∙ ap (λ (o : List (List (List ℕ))). set o t s) e in
    let fx : x ≡ get_or S.outs t x = ex ∙ ap (λ (o : List (List (List ℕ))). get_or o t x) e in
    let fy : y ≡ get_or S.outs c y = ey ∙ ap (λ (o : List (List (List ℕ))). get_or o c y) e in
    record {
      below = λ v l.
          let b : outs_occur v S.outs ≡ false = S.outs_below v l in
          ap (outs_occur v) there
          ∙ set_free S.outs t s v b
          (never (occurs v s) (occurs v x || occurs v y) (vars v) (no_or _ _ (ap (occurs v) fx ∙ get_free S.outs t x v ht b) (ap (occurs v) fy ∙ get_free S.outs c y v hc b)));
      wide = ap length there ∙ length-set S.outs t s;
      polys = subst AllPolys (sym there) (set_polys S.outs t s S.formed.1 form);
      outs_are = λ a.
          ap (λ o. values o a) there ∙ set_values S.outs t s a
          ∙ ap (set (values S.outs a) t) (value a
          ∙ ap₂ differ (ap (λ (z : List (List ℕ)). bool_value z a) fx ∙ get_value S.outs t x a ht) (ap (λ (z : List (List ℕ)). bool_value z a) fy ∙ get_value S.outs c y a hc))
          ∙ sym (exchanged_is c t (values S.outs a));
    }
