-- The parts of a join put together.
use Rattle.std.proofs.Common.{◌≡◌, ℕ, suc, ◌+◌, ◌%◌, refl, ap, ap₂, sym, ◌∙◌, subst, arith, ◌<◌, ◌≤◌, Bool, true, false, ◌||◌, List, [], ◌∷◌, ◌++◌, length, get_or, Option, Some, None, ◌⊎◌, inl, inr}
use Rattle.std.proofs.Math.IntN.{ℤ, ◌+ℤ◌}
use Rattle.std.proofs.lemmas.Bool.{cases_lt}
use Rattle.ps_ring.specs.Truths.{Truths}
use Rattle.ps_ring.specs.Readings.{Assignment, second_name, read_sum, JoinReading, IsUnder}
use Rattle.ps_ring.specs.Joins.{JoinedSum}
use Rattle.ps_ring.proofs.ReadJoins.{join_read}
use Rattle.ps_prim.specs.declared.prims.Primitive.{Primitive as Prim}
use Rattle.ps_prim.specs.Sums.{Denotes}
use Rattle.ps_prim.proofs.Joins.{join_denotes}
use Rattle.ps_bool.specs.Polys.{bool_value, occurs, IsPoly}
use Rattle.ps_bool.proofs.Unique.{bool_value-agree}
use Rattle.ps_bool.proofs.Laws.{bool_value-var}
use Rattle.ps_phase.specs.declared.terms.Term.{Term}
use Rattle.ps_phase.specs.Phases.{phase_value, phase_occurs, IsPhasePoly}
use Rattle.ps_phase.proofs.Adding.{no_or}
use Rattle.ps_phase.proofs.Values.{phase_agree}
use Rattle.ps_sum.specs.Forms.{AllPolys}
use Rattle.ps_sum.specs.Outs.{values, outs_occur}
use Rattle.ps_sum.specs.Sums.{path_values}
use Rattle.ps_sum.specs.declared.sums.PathSum.{PathSum}
use mir.Syntax.{w32}
use mir.Val.{SFits, to_z, of_z}
use Rattle.std.proofs.lemmas.Int.{to_z-of_z}
use Rattle.ps_sum.specs.declared.faults.JoinFault.{JoinFault}
use Rattle.ps_sum.specs.declared.faults.JoinFault.TheVariants.{Passed, Memory}
use Rattle.ps_sum.proofs.Closings.{length_values}
use Rattle.ps_join.specs.Joining.{IsJoinOf, PhaseChain, OutputChains, named_count}
use Rattle.ps_join.specs.Faults.{IsChainFault, IsJoinFault}
use Rattle.ps_join.proofs.Outputs.{get_value, get_free, get_poly}
use Rattle.ps_join.proofs.NamedParts.{name_front}
use Rattle.ps_join.specs.Naming.{Agrees}
use Rattle.ps_join.specs.Parts.{PhasePart, OutputPart, OutputParts, chosen, Placed}

-- ---- outputs put in their places, from the last on
pub record Placing (fs : List (List (List ℕ))) (qs rest : List (Option (List (List ℕ)))) (outs : List (List (List ℕ))) : Type 0 where
  pub wide : length outs ≡ length fs
  pub parts : length qs ≡ length fs
  pub few : length rest ≤ length qs
  pub left : (i : ℕ) → i < length rest → get_or rest i None ≡ get_or qs i None
  pub early : (i : ℕ) → i < length rest → get_or outs i [] ≡ get_or fs i []
  pub late : (i : ℕ) → length rest ≤ i → i < length fs → get_or outs i [] ≡ chosen (get_or qs i None) (get_or fs i [])

-- ---- outputs by their places
free_by_places : (gs : List (List (List ℕ))) (v : ℕ) → ((i : ℕ) → i < length gs → occurs v (get_or gs i []) ≡ false) → outs_occur v gs ≡ false
unfolding outs_occur
free_by_places [] v f = refl
free_by_places (g ∷ gs) v f = no_or _ _ (f 0 (omega arith)) (free_by_places gs v (λ i h. f (suc i) (omega arith)))

polys_by_places : (gs : List (List (List ℕ))) → ((i : ℕ) → i < length gs → IsPoly (get_or gs i [])) → AllPolys gs
polys_by_places [] f = tt
polys_by_places (g ∷ gs) f = (f 0 (omega arith), polys_by_places gs (λ i h. f (suc i) (omega arith)))

values_by_places : (gs hs : List (List (List ℕ))) (a b : Assignment) → length gs ≡ length hs → ((i : ℕ) → i < length gs → bool_value (get_or gs i []) a ≡ bool_value (get_or hs i []) b) → values gs a ≡ values hs b
unfolding values
values_by_places [] [] a b e f = refl
values_by_places [] (h ∷ hs) a b e f = absurd (omega arith)
values_by_places (g ∷ gs) [] a b e f = absurd (omega arith)
values_by_places (g ∷ gs) (h ∷ hs) a b e f = ap₂ (λ (x : Bool) (xs : Truths). x ∷ xs) (f 0 (omega arith)) (values_by_places gs hs a b (omega arith) (λ i l. f (suc i) (omega arith)))

-- ---- one output of the join
part_value : (n m1 m2 i : ℕ) (fs : List (List (List ℕ))) (h : List (List ℕ)) (q : Option (List (List ℕ))) (a : Assignment) → length fs ≡ n → i < n → OutputPart n m1 m2 fs i h q → Agrees n m1 m2 fs a → bool_value (chosen q (get_or fs i [])) a ≡ bool_value h (λ v. a (second_name n m1 m2 v))
part_value n m1 m2 i fs h None a w l p g =
    get_value fs i [] a (omega (arith, w)) ∙ sym (g i l) ∙ ap a (name_front n m1 m2 i (n + (m1 + m2) + i) l refl)
    ∙ sym (ap (λ (f : List (List ℕ)). bool_value f (λ v. a (second_name n m1 m2 v))) p ∙ bool_value-var i (λ v. a (second_name n m1 m2 v)))
part_value n m1 m2 i fs h (Some q) a w l p g = p.value a g

part_free : (n m1 m2 i v : ℕ) (fs : List (List (List ℕ))) (h : List (List ℕ)) (q : Option (List (List ℕ))) → length fs ≡ n → i < n → OutputPart n m1 m2 fs i h q → ((u : ℕ) → n + m1 ≤ u → outs_occur u fs ≡ false) → n + (m1 + m2) ≤ v → occurs v (chosen q (get_or fs i [])) ≡ false
part_free n m1 m2 i v fs h None w l p b k = get_free fs i [] v (omega (arith, w)) (b v (omega arith))
part_free n m1 m2 i v fs h (Some q) w l p b k = p.below v k

part_poly : (n m1 m2 i : ℕ) (fs : List (List (List ℕ))) (h : List (List ℕ)) (q : Option (List (List ℕ))) → length fs ≡ n → i < n → OutputPart n m1 m2 fs i h q → AllPolys fs → IsPoly (chosen q (get_or fs i []))
part_poly n m1 m2 i fs h None w l p f = get_poly fs i [] (omega (arith, w)) f
part_poly n m1 m2 i fs h (Some q) w l p f = p.form

-- ---- all outputs of the join
pub record Outputs (n m1 m2 : ℕ) (fs hs gs : List (List (List ℕ))) : Type 0 where
  pub wide : length gs ≡ n
  pub value : (a : Assignment) → Agrees n m1 m2 fs a → values gs a ≡ values hs (λ v. a (second_name n m1 m2 v))
  pub below : (v : ℕ) → n + (m1 + m2) ≤ v → outs_occur v gs ≡ false
  pub polys : AllPolys gs

pub outputs_made : (n m1 m2 : ℕ) (fs hs gs : List (List (List ℕ))) (qs : List (Option (List (List ℕ)))) → length fs ≡ n → length hs ≡ n → ((u : ℕ) → n + m1 ≤ u → outs_occur u fs ≡ false) → AllPolys fs → OutputParts n m1 m2 fs hs qs → Placed fs qs gs → Outputs n m1 m2 fs hs gs
outputs_made n m1 m2 fs hs gs qs w x b f p g = record {
  wide = g.wide ∙ w;
  value = λ a y. values_by_places gs hs a (λ v. a (second_name n m1 m2 v)) (g.wide ∙ w ∙ sym x) (λ i l.
      ap (λ (r : List (List ℕ)). bool_value r a) (g.each i (omega (arith, g.wide))) ∙ part_value n m1 m2 i fs (get_or hs i []) (get_or qs i None) a w (omega (arith, g.wide, w)) (p.each i (omega (arith, g.wide, w, x))) y);
  below = λ v k. free_by_places gs v (λ i l.
      ap (occurs v) (g.each i (omega (arith, g.wide))) ∙ part_free n m1 m2 i v fs (get_or hs i []) (get_or qs i None) w (omega (arith, g.wide, w)) (p.each i (omega (arith, g.wide, w, x))) b k);
  polys = polys_by_places gs (λ i l.
      subst IsPoly (sym (g.each i (omega (arith, g.wide)))) (part_poly n m1 m2 i fs (get_or hs i []) (get_or qs i None) w (omega (arith, g.wide, w)) (p.each i (omega (arith, g.wide, w, x))) f));
}

-- ---- what polynomials below a name know
clash : {b : Bool} → b ≡ true → b ≡ false → ⊥
clash e f = cc

under : (b v : ℕ) (o : Bool) → (b ≤ v → o ≡ false) → o ≡ true → v < b
under b v o f e = by (cases_lt v b)
  where
    by : ((v < b) ⊎ (b ≤ v)) → v < b
    by (inl l) = l
    by (inr l) = absurd (clash e (f l))

phase_under : (b : ℕ) (ts : List Term) → ((v : ℕ) → b ≤ v → phase_occurs v ts ≡ false) → IsUnder ℕ b (phase_value ts)
phase_under b ts f x y e = phase_agree ts x y (λ v o. e v (under b v _ (f v) o))

values_under : (b : ℕ) (fs : List (List (List ℕ))) → ((v : ℕ) → b ≤ v → outs_occur v fs ≡ false) → IsUnder Truths b (values fs)
values_under b fs f x y e = values_by_places fs fs x y refl (λ i l. bool_value-agree (get_or fs i []) x y (λ v o. e v (under b v _ (λ k. get_free fs i [] v l (f v k)) o)))

-- ---- the join
pub joined_phase_below : (n m1 m2 : ℕ) (p q r : List Term) → ((v : ℕ) → n + m1 ≤ v → phase_occurs v p ≡ false) → ((v : ℕ) → n + (m1 + m2) ≤ v → phase_occurs v q ≡ false) → ((v : ℕ) → phase_occurs v r ≡ true → (phase_occurs v p || phase_occurs v q) ≡ true)
    → (v : ℕ) → n + (m1 + m2) ≤ v → phase_occurs v r ≡ false
joined_phase_below n m1 m2 p q r f g h v l = never (phase_occurs v r) (phase_occurs v p || phase_occurs v q) (h v) (no_or _ _ (f v (omega arith)) (g v l))
  where
    never : (x y : Bool) → (x ≡ true → y ≡ true) → y ≡ false → x ≡ false
    never true y h e = sym (h refl) ∙ e
    never false y h e = refl

pub joined : (S1 S2 S : PathSum) (q : List Term) → S1.n ≡ S2.n → length S1.outs ≡ S1.n → S.n ≡ S1.n → S.m ≡ S1.m + S2.m → S.k ≡ S1.k +ℤ S2.k → PhasePart S1.n S1.m S2.m S1.outs S2.phase q
    → ((a : Assignment) → phase_value S.phase a % 4294967296 ≡ (phase_value S1.phase a + phase_value q a) % 4294967296) → Outputs S1.n S1.m S2.m S1.outs S2.outs S.outs → IsJoinOf S1 S2 S
joined S1 S2 S q e w sn sm sk p v o =
    let N = S1.n + (S1.m + S2.m) in
    let reading : JoinReading S1.n S1.m S2.m (phase_value S1.phase) (phase_value S2.phase) (phase_value S.phase) (values S1.outs) (values S2.outs) (values S.outs) = record {
      width = λ a. length_values S1.outs a ∙ w;
      first_phase = phase_under (S1.n + S1.m) S1.phase S1.phase_below;
      first_outs = values_under (S1.n + S1.m) S1.outs S1.outs_below;
      second_phase = phase_under (S1.n + S2.m) S2.phase (λ u l. S2.phase_below u (omega (arith, e)));
      second_outs = values_under (S1.n + S2.m) S2.outs (λ u l. S2.outs_below u (omega (arith, e)));
      phase_under = phase_under N S.phase (λ u l. S.phase_below u (omega (arith, sn, sm)));
      outs_under = values_under N S.outs (λ u l. S.outs_below u (omega (arith, sn, sm)));
      phase_is = λ a g. v a ∙ plus (phase_value S1.phase a) (phase_value q a) _ (p.value a g);
      outs_is = λ a g. o.value a g;
    } in record {
      n_is = sn;
      second_n_is = sym e;
      values_are =
          subst (λ (m : ℕ). JoinedSum S1.n (path_values S1) (path_values S2) (read_sum m S.k (phase_value S.phase) (values S.outs))) (sym sm)
          (subst (λ (k : ℤ). JoinedSum S1.n (path_values S1) (path_values S2) (read_sum (S1.m + S2.m) k (phase_value S.phase) (values S.outs))) (sym sk)
          (join_read S1.n S1.m S2.m S1.k S2.k (phase_value S1.phase) (phase_value S2.phase) (phase_value S.phase) (values S1.outs) (values S2.outs) (values S.outs) reading));
    }
  where
    plus : (x y z : ℕ) → y % 4294967296 ≡ z % 4294967296 → (x + y) % 4294967296 ≡ (x + z) % 4294967296
    plus x y z f = omega arith

pub open_wide : (S : PathSum) → 0 < length S.outs → length S.outs ≡ S.n
open_wide S h = S.width h

pub join_means : (S1 S2 S : PathSum) → IsJoinOf S1 S2 S → (A1 A2 : List Prim) → Denotes S1.n (path_values S1) A1 → Denotes S1.n (path_values S2) A2 → Denotes S1.n (path_values S) (A1 ++ A2)
join_means S1 S2 S j A1 A2 d1 d2 = join_denotes S1.n (path_values S1) (path_values S2) (path_values S) A1 A2 j.values_are d1 d2

pub join_of_copy : (C S1 S2 S : PathSum) → C ≡ S1 → IsJoinOf C S2 S → IsJoinOf S1 S2 S
join_of_copy C S1 S2 S e j = subst (λ (x : PathSum). IsJoinOf x S2 S) e j

-- ---- scales as 32 bits
pub one_k : (k : ℤ) → SFits w32 k → to_z w32 (of_z w32 k) ≡ k
one_k k f = to_z-of_z w32 k f

pub two_k : (k l : ℤ) → SFits w32 k → SFits w32 l → SFits w32 (k +ℤ l) → to_z w32 (of_z w32 (to_z w32 (of_z w32 k) +ℤ to_z w32 (of_z w32 l))) ≡ k +ℤ l
two_k k l f g h = ap₂ (λ (x y : ℤ). to_z w32 (of_z w32 (x +ℤ y))) (to_z-of_z w32 k f) (to_z-of_z w32 l g) ∙ to_z-of_z w32 (k +ℤ l) h

-- ---- a limit that a chain passes
pub chain_fault : (S1 S2 : PathSum) (n m1 m2 : ℕ) (fs hs : List (List (List ℕ))) (e : JoinFault) → n ≡ S1.n → m1 ≡ S1.m → m2 ≡ S2.m → fs ≡ S1.outs → hs ≡ S2.outs → named_count S1 S2 ≤ 512
    → PhaseChain n m1 m2 fs S2.phase None → IsChainFault (OutputChains n m1 m2 fs hs) e → IsJoinFault S1 S2 e
chain_fault S1 S2 n m1 m2 fs hs (Passed passed) en e1 e2 ef eh l c o = inr (l, (o.0, (inr (placed PhasePlace c, placed OutputPlace o.1.0), o.1.1)))
  where
    PhasePlace : ℕ → ℕ → ℕ → List (List (List ℕ)) → List (List (List ℕ)) → Type 0
    PhasePlace a b d f h = PhaseChain a b d f S2.phase None

    OutputPlace : ℕ → ℕ → ℕ → List (List (List ℕ)) → List (List (List ℕ)) → Type 0
    OutputPlace a b d f h = OutputChains a b d f h (Some o.0)

    placed : (P : ℕ → ℕ → ℕ → List (List (List ℕ)) → List (List (List ℕ)) → Type 0) → P n m1 m2 fs hs → P S1.n S1.m S2.m S1.outs S2.outs
    placed P p =
        subst (λ (x : List (List (List ℕ))). P S1.n S1.m S2.m S1.outs x) eh (subst (λ (x : List (List (List ℕ))). P S1.n S1.m S2.m x hs) ef
        (subst (λ (x : ℕ). P S1.n S1.m x fs hs) e2 (subst (λ (x : ℕ). P S1.n x m2 fs hs) e1 (subst (λ (x : ℕ). P x m1 m2 fs hs) en p))))
chain_fault S1 S2 n m1 m2 fs hs Memory en e1 e2 ef eh l c o = tt

-- ---- a copy
pub record CopiedParts (S : PathSum) (p : List Term) (gs : List (List (List ℕ))) : Type 0 where
  pub phase_below : (v : ℕ) → S.n + S.m ≤ v → phase_occurs v p ≡ false
  pub outs_below : (v : ℕ) → S.n + S.m ≤ v → outs_occur v gs ≡ false
  pub width : 0 < length gs → length gs ≡ S.n
  pub formed : IsPhasePoly p × AllPolys gs

pub copied_parts : (S : PathSum) (p : List Term) (gs : List (List (List ℕ))) → p ≡ S.phase → gs ≡ S.outs → CopiedParts S p gs
copied_parts S p gs e f =
    subst (λ (q : List Term). CopiedParts S q gs) (sym e) (subst (λ (hs : List (List (List ℕ))). CopiedParts S S.phase hs) (sym f)
    (record { phase_below = S.phase_below; outs_below = S.outs_below; width = S.width; formed = S.formed }))

pub outputs_kept : (S1 S2 : PathSum) (fs gs rs : List (List (List ℕ))) (qs : List (Option (List (List ℕ)))) → S1.n ≡ S2.n → 0 < length S1.outs → 0 < length S2.outs → fs ≡ S1.outs → rs ≡ gs → OutputParts S1.n S1.m S2.m S1.outs S2.outs qs → Placed fs qs gs
    → Outputs S1.n S1.m S2.m S1.outs S2.outs rs
outputs_kept S1 S2 fs gs rs qs e o1 o2 f r p g =
    outputs_made S1.n S1.m S2.m S1.outs S2.outs rs qs (S1.width o1) (S2.width o2 ∙ sym e) S1.outs_below S1.formed.1 p
    (subst (λ (x : List (List (List ℕ))). Placed S1.outs qs x) (sym r) (subst (λ (x : List (List (List ℕ))). Placed x qs gs) f g))
