-- Bodies done application by application come to what the definition says.
use Rattle.std.proofs.Common.{◌≡◌, ◌≢◌, ◌<◌, ◌≤◌, ℕ, zero, suc, ◌+◌, ◌-◌, length, get_or, drop, drop-cons, add-one, zero-add, arith, List, [], ◌∷◌, ◌++◌, map, reverse, refl, sym, ◌∙◌, ap, subst, append_assoc, append-nil, true, Some, Result, Ok, Err}
use Rattle.std.specs.Prelude.{slice_get}
use Rattle.std.specs.List.{range_with_len}
use Rattle.std.proofs.lemmas.List.{reverse-append, map-append, length-map}
use Rattle.ps_prim.specs.declared.prims.Primitive.{Primitive as Prim}
use Rattle.ps_prim.specs.Maps.{AllWithin}
use Rattle.qasm_angle.specs.declared.types.Op.{Op}
use Rattle.qasm_angle.specs.declared.types.Pair.{Pair}
use Rattle.qasm_angle.specs.declared.types.AngleFault.{AngleFault}
use Rattle.qasm_expand.specs.declared.defs.Called.{Called}
use Rattle.qasm_expand.specs.declared.defs.Called.TheVariants.{U, Cx, Def as ADef}
use Rattle.qasm_expand.specs.declared.defs.Inner.{Inner}
use Rattle.qasm_expand.specs.declared.defs.Def.{Def}
use Rattle.qasm_expand.specs.declared.broken.Broken.{Broken}
use Rattle.qasm_expand.specs.declared.broken.Stop.{Stop}
use Rattle.qasm_expand.specs.declared.broken.Broken.TheVariants.{Own, Inside}
use Rattle.qasm_expand.specs.declared.frame.Frame.{Frame}
use Rattle.qasm_expand.specs.Tables.{size_of, size_of_def, args_of, defs_sound}
use Rattle.qasm_expand.specs.Bodies.{on_qubits, all_on, fault_of, joined, IsValue, Each, unless_memory, Answers, call, rest, Comes, replaced, no_value, ended, applied, broken}
use Rattle.qasm_expand.specs.Frames.{InnerFits, BodyFits, body_of_def, left_of, Left, all_done, one_done, one_stops, works, work, frame_work, stack_work, Opens}
use Rattle.qasm_expand.proofs.Expressions.{unless_map}
use Rattle.qasm_expand.proofs.Fitting.{def_fits}
use Rattle.qasm_expand.proofs.Prims.{all_both, all_on_range, comes_within}

-- ---- lists
pub flip : {X : Type 0} (xs ys : List X) (x : X) → xs ≡ ys ++ (x ∷ []) → reverse xs ≡ x ∷ reverse ys
flip xs ys x e = ap reverse e ∙ reverse-append ys (x ∷ [])

pub joined_more : (gs hs : List Prim) (r : Result (List Prim) Broken) → joined gs (joined hs r) ≡ joined (gs ++ hs) r
joined_more gs hs (Ok ks) = ap Ok (sym (append_assoc gs hs ks))
joined_more gs hs (Err b) = refl

pub joined_none : (r : Result (List Prim) Broken) → joined [] r ≡ r
joined_none (Ok gs) = refl
joined_none (Err b) = refl

joined_end : (gs : List Prim) → joined gs (Ok []) ≡ Ok gs
joined_end gs = ap Ok (append-nil gs)

joined_on : (qs : List ℕ) (gs hs : List Prim) (r : Result (List Prim) Broken) → joined (all_on qs (gs ++ hs)) r ≡ joined (all_on qs gs) (joined (all_on qs hs) r)
joined_on qs gs hs r = ap (λ x. joined x r) (map-append (on_qubits qs) gs hs) ∙ sym (joined_more (all_on qs gs) (all_on qs hs) r)

-- ---- the application at hand
module _ (defs : List Def) where
  pub fits_from : (n args : ℕ) (is : List Inner) (k : ℕ) → BodyFits defs n args is → BodyFits defs n args (drop k is)
  fits_from n args is zero h = h
  fits_from n args [] (suc k) h = h
  fits_from n args (i ∷ is) (suc k) h = fits_from n args is k h.1

  pub left_is : (f : Frame) (g : Def) → slice_get defs f.def ≡ Some g → left_of defs f ≡ drop f.next g.body
  left_is f g e = ap (λ o. drop f.next (body_of_def o)) e

  pub left_cons : (f f' : Frame) (g : Def) (i : Inner) → slice_get defs f.def ≡ Some g → f.next < length g.body → i ≡ get_or g.body f.next i → f'.def ≡ f.def → f'.next ≡ f.next + 1 → left_of defs f ≡ i ∷ left_of defs f'
  left_cons f f' g i e lt h d n =
      let p : drop f.next g.body ≡ i ∷ drop (f.next + 1) g.body = rw add-one (drop-cons g.body f.next i lt ∙ ap (λ a. a ∷ drop (suc f.next) g.body) (sym h)) in
      let q : slice_get defs f'.def ≡ Some g = ap (slice_get defs) d ∙ e in
      let r : left_of defs f' ≡ drop (f.next + 1) g.body = left_is f' g q ∙ ap (λ k. drop k g.body) n in
      left_is f g e ∙ p ∙ ap (λ a. i ∷ a) (sym r)

  pub left_fits : (f : Frame) (g : Def) → defs_sound defs ≡ true → slice_get defs f.def ≡ Some g → BodyFits defs f.def g.args (left_of defs f)
  left_fits f g s e = subst (λ is. BodyFits defs f.def g.args is) (sym (left_is f g e)) (fits_from f.def g.args g.body f.next (def_fits defs f.def g s e).body)

  pub now_fits : (n args : ℕ) (is js : List Inner) (i : Inner) → is ≡ i ∷ js → BodyFits defs n args is → InnerFits defs n args i
  now_fits n args is js i e h = (subst (λ ks. BodyFits defs n args ks) e h).0

-- ---- what frames come to
module _ (defs : List Def) (f f' : Frame) (fs : List Frame) (i : Inner) (ev : f'.values.items ≡ f.values.items) (ep : f'.places.items ≡ f.places.items) (eo : left_of defs f ≡ i ∷ left_of defs f') where
  moved : (r : Result (List Prim) Broken) → Comes defs f'.values.items (rest (left_of defs f')) r → Comes defs f.values.items (rest (left_of defs f')) r
  moved r h = subst (λ vs. Comes defs vs (rest (left_of defs f')) r) ev h

  back : (r : Result (List Prim) Broken) → Comes defs f.values.items (rest (i ∷ left_of defs f')) r → Comes defs f.values.items (rest (left_of defs f)) r
  back r h = subst (λ is. Comes defs f.values.items (rest is) r) (sym eo) h

  -- the application comes to prims, and the frames go on behind it
  pub left_before : (gs : List Prim) (r : Result (List Prim) Broken) → Comes defs f.values.items (call i.gate i.params) (Ok gs) → Left defs (f' ∷ fs) r → Left defs (f ∷ fs) (joined (all_on f.places.items (all_on i.args gs)) r)
  left_before gs r c (one_done {gs = hs} {r = s} h k) =
      let e : joined (all_on f.places.items (all_on i.args gs ++ hs)) s ≡ joined (all_on f.places.items (all_on i.args gs)) (joined (all_on f'.places.items hs) s) =
      joined_on f.places.items (all_on i.args gs) hs s ∙ ap (λ ps. joined (all_on f.places.items (all_on i.args gs)) (joined (all_on ps hs) s)) (sym ep) in
      subst (λ z. Left defs (f ∷ fs) z) e (one_done (back (Ok (all_on i.args gs ++ hs)) (applied c (moved (Ok hs) h))) k)
  left_before gs r c (one_stops {x = x} h) = one_stops (back (Err (Inside x)) (applied c (moved (Err (Inside x)) h)))

  pub left_broken : (b : Broken) (x : AngleFault) → fault_of b ≡ x → Comes defs f.values.items (call i.gate i.params) (Err b) → Left defs (f ∷ fs) (Err (Inside x))
  left_broken b x e c = subst (λ z. Left defs (f ∷ fs) (Err (Inside z))) e (one_stops (back (Err (Inside (fault_of b))) (broken c)))

  left_opened_at : (b : Frame) (r : Result (List Prim) Broken) → defs_sound defs ≡ true → length i.args ≡ args_of defs i.gate → Opens defs f i b → Left defs (b ∷ (f' ∷ fs)) r → Left defs (f ∷ fs) r
  left_opened_at b r s t o (one_done {gs = gs} {r = u} h k) =
      let c = o.comes (Ok gs) h in
      let w : AllWithin (length i.args) gs = subst (λ m. AllWithin m gs) (sym t) (comes_within defs s c) in
      let e : all_on f.places.items (all_on i.args gs) ≡ all_on b.places.items gs = all_both f.places.items i.args gs w ∙ ap (λ ps. all_on ps gs) (sym o.places) in
      subst (λ z. Left defs (f ∷ fs) (joined z u)) e (left_before gs u c k)
  left_opened_at b r s t o (one_stops {x = x} h) = left_broken (Inside x) x refl (o.comes (Err (Inside x)) h)

  -- the application's body is a frame of its own
  pub left_opened : (b : Frame) (r : Result (List Prim) Broken) → defs_sound defs ≡ true → length i.args ≡ args_of defs i.gate → Opens defs f i b → Left defs (b ∷ (f' ∷ fs)) r → Left defs (f ∷ fs) r
  left_opened b r s t o l = left_opened_at b r s t o l

pub left_ended : (defs : List Def) (f : Frame) (fs : List Frame) (r : Result (List Prim) Broken) → left_of defs f ≡ [] → Left defs fs r → Left defs (f ∷ fs) r
left_ended defs f fs r e l = subst (λ z. Left defs (f ∷ fs) z) (joined_none r) (one_done (subst (λ is. Comes defs f.values.items (rest is) (Ok [])) (sym e) ended) l)

none_left : (defs : List Def) (s : Result (List Prim) Broken) → Left defs [] s → s ≡ Ok []
none_left defs s all_done = refl

-- one frame with each argument in its own place
alone_at : (defs : List Def) (f : Frame) (g : Def) (r : Result (List Prim) Broken) → defs_sound defs ≡ true → slice_get defs f.def ≡ Some g → f.places.items ≡ range_with_len 0 g.args → Left defs (f ∷ []) r → Comes defs f.values.items (rest (left_of defs f)) r
alone_at defs f g r s e p (one_done {gs = gs} {r = u} h k) =
    let w : AllWithin g.args gs = comes_within defs s h f.def g.args (left_fits defs f g s e) in
    let q : all_on f.places.items gs ≡ gs = ap (λ ps. all_on ps gs) p ∙ all_on_range g.args gs w in
    let t : joined (all_on f.places.items gs) u ≡ Ok gs = ap (λ z. joined (all_on f.places.items gs) z) (none_left defs u k) ∙ joined_end (all_on f.places.items gs) ∙ ap Ok q in
    subst (λ z. Comes defs f.values.items (rest (left_of defs f)) z) (sym t) h
alone_at defs f g r s e p (one_stops h) = h

pub alone : (defs : List Def) (f : Frame) (g : Def) (r : Result (List Prim) Broken) → defs_sound defs ≡ true → slice_get defs f.def ≡ Some g → f.next ≡ 0 → f.places.items ≡ range_with_len 0 g.args → Left defs (f ∷ []) r → Comes defs f.values.items (rest g.body) r
alone defs f g r s e n p l = subst (λ is. Comes defs f.values.items (rest is) r) (left_is defs f g e ∙ ap (λ k. drop k g.body) n) (alone_at defs f g r s e p l)

-- ---- how much there is to do
module _ (defs : List Def) where
  pub work_some : (n : ℕ) (c : Called) → 0 < work defs n c
  work_some n U = omega arith
  work_some n Cx = omega arith
  work_some zero (ADef e) = omega arith
  work_some (suc n) (ADef e) = omega arith

  works_up : (v w : Called → ℕ) → ((c : Called) → v c ≤ w c) → (is : List Inner) → works v is ≤ works w is
  works_up v w h [] = omega arith
  works_up v w h (i ∷ is) = let a = h i.gate in let b = works_up v w h is in omega arith

  work_next : (n : ℕ) (c : Called) → work defs n c ≤ work defs (suc n) c
  work_next n U = omega arith
  work_next n Cx = omega arith
  work_next zero (ADef e) = omega arith
  work_next (suc n) (ADef e) = let a = works_up (work defs n) (work defs (suc n)) (work_next n) (body_of_def (slice_get defs e)) in omega arith

  work_further : (m k : ℕ) (c : Called) → work defs m c ≤ work defs (k + m) c
  work_further m zero c = subst (λ n. work defs m c ≤ work defs n c) (sym (zero-add m)) (omega arith)
  work_further m (suc k) c =
      let a = work_further m k c in
      let b = work_next (k + m) c in
      let e : suc (k + m) ≡ suc k + m = omega arith in
      let d : work defs (suc (k + m)) c ≡ work defs (suc k + m) c = ap (λ n. work defs n c) e in
      omega (arith, a, b, d)

  work_up : (m n : ℕ) (c : Called) → m ≤ n → work defs m c ≤ work defs n c
  work_up m n c le = let e : n - m + m ≡ n = omega arith in subst (λ k. work defs m c ≤ work defs k c) e (work_further m (n - m) c)

  -- a body is less work than its application
  body_less : (d e : ℕ) → e < d → 1 + works (work defs e) (body_of_def (slice_get defs e)) < work defs d (ADef e)
  body_less zero e lt = absurd (omega arith)
  body_less (suc m) e lt =
      let le : e ≤ m = omega arith in
      let a = works_up (work defs e) (work defs m) (λ c. work_up e m c le) (body_of_def (slice_get defs e)) in
      omega arith

  pub opens_less : (d e : ℕ) (b : Frame) → e < d → b.def ≡ e → b.next ≡ 0 → frame_work defs b < work defs d (ADef e)
  opens_less d e b lt h n =
      let l : left_of defs b ≡ body_of_def (slice_get defs e) = ap (λ k. drop k (body_of_def (slice_get defs b.def))) n ∙ ap (λ k. body_of_def (slice_get defs k)) h in
      let q : frame_work defs b ≡ 1 + works (work defs e) (body_of_def (slice_get defs e)) = ap (λ is. 1 + works (work defs b.def) is) l ∙ ap (λ k. 1 + works (work defs k) (body_of_def (slice_get defs e))) h in
      let a = body_less d e lt in
      omega (arith, a, q)

  pub frame_less : (f f' : Frame) (i : Inner) → left_of defs f ≡ i ∷ left_of defs f' → f'.def ≡ f.def → frame_work defs f ≡ work defs f.def i.gate + frame_work defs f'
  frame_less f f' i e d =
      let a : frame_work defs f ≡ 1 + (work defs f.def i.gate + works (work defs f.def) (left_of defs f')) = ap (λ is. 1 + works (work defs f.def) is) e in
      let b : frame_work defs f' ≡ 1 + works (work defs f.def) (left_of defs f') = ap (λ k. 1 + works (work defs k) (left_of defs f')) d in
      omega (arith, a, b)

  pub stack_work_more : (fs : List Frame) (f : Frame) → stack_work defs (fs ++ (f ∷ [])) ≡ stack_work defs fs + frame_work defs f
  stack_work_more [] f = omega arith
  stack_work_more (g ∷ fs) f = let h = stack_work_more fs f in omega (arith, h)

-- ---- opening a body
open_values : (vs ws : List Pair) (es fs : List (List Op)) (s : Result (List Pair) Stop) → es ≡ fs → vs ≡ ws → Each (IsValue vs) es s → Each (IsValue ws) fs s
open_values vs ws es fs s e d h = subst (λ xs. Each (IsValue xs) fs s) d (subst (λ xs. Each (IsValue vs) xs s) e h)

some_gate : (defs : List Def) (e : ℕ) → e < length defs → (g : Def) × (slice_get defs e ≡ Some g)
some_gate [] e lt = absurd (omega arith)
some_gate (g ∷ defs) zero lt = (g, refl)
some_gate (g ∷ defs) (suc e) lt = some_gate defs e (omega arith)

module _ (defs : List Def) (f : Frame) (i : Inner) (e : ℕ) (gate : i.gate ≡ ADef e) (there : e < length defs) (some : size_of defs (ADef e) ≢ 0) where
  some_size : (g : Def) → slice_get defs e ≡ Some g → g.size ≢ 0
  some_size g h n = some (ap size_of_def h ∙ n)

  called : (r : Result (List Prim) Broken) → Comes defs f.values.items (call (ADef e) i.params) r → Comes defs f.values.items (call i.gate i.params) r
  called r h = subst (λ c. Comes defs f.values.items (call c i.params) r) (sym gate) h

  no_values : (s : Stop) → Each (IsValue f.values.items) i.params (Err s) → (b : Broken) × (fault_of b ≡ s.fault) × Comes defs f.values.items (call i.gate i.params) (Err b)
  no_values s h = let g = some_gate defs e there in (Own s, refl, called (Err (Own s)) (no_value (some_size g.0 g.1) g.1 h))

  pub open_faulty : (s : Stop) (es : List (List Op)) (vs : List Pair) → es ≡ i.params → vs ≡ f.values.items → Answers (Err s) (Each (IsValue vs) es) → unless_memory s.fault ((b : Broken) × (fault_of b ≡ s.fault) × Comes defs f.values.items (call i.gate i.params) (Err b))
  open_faulty s es vs p q h = unless_map _ _ s.fault (λ a. no_values s (open_values vs f.values.items es i.params (Err s) p q a)) h

  pub open_frame : e < f.def → length i.args ≡ args_of defs i.gate → (b : Frame) → b.def ≡ e → b.next ≡ 0 → (es : List (List Op)) (vs : List Pair) → es ≡ i.params → vs ≡ f.values.items → Each (IsValue vs) es (Ok b.values.items) → b.places.items ≡ map (λ q. get_or f.places.items q 0) i.args → Opens defs f i b
  open_frame lt takes b d n es vs p q h m =
      let g = some_gate defs e there in
      let t : slice_get defs b.def ≡ Some g.0 = ap (slice_get defs) d ∙ g.1 in
      let l : left_of defs b ≡ g.0.body = left_is defs b g.0 t ∙ ap (λ k. drop k g.0.body) n in
      record {
        fits = record {
          there = subst (λ k. k < length defs) (sym d) there;
          takes = ap length m ∙ length-map i.args (λ q. get_or f.places.items q 0) ∙ takes ∙ ap (args_of defs) gate ∙ ap (λ k. args_of defs (ADef k)) (sym d);
        };
        places = m;
        comes = λ r c. called r (replaced (some_size g.0 g.1) g.1 (open_values vs f.values.items es i.params (Ok b.values.items) p q h) (subst (λ is. Comes defs b.values.items (rest is) r) l c));
        smaller = subst (λ c. frame_work defs b < work defs f.def c) (sym gate) (opens_less defs f.def e b lt d n);
      }
