-- What the calls that do a body's applications promise, from what they read.
use Rattle.std.proofs.Common.{◌≡◌, ◌≢◌, ◌<◌, ◌≤◌, ℕ, ◌+◌, length, get_or, arith, List, [], ◌∷◌, ◌++◌, map, reverse, refl, sym, ◌∙◌, ap, subst, append-nil, true, Some, Result, Ok, Err}
use Rattle.std.specs.Prelude.{slice_get, MatchResult, IfOk}
use Rattle.std.specs.declared.vec.Vec.{Vec}
use Rattle.std.specs.declared.alloc.Global.{Global}
use Rattle.std.proofs.lemmas.List.FromFn.{length-range_with_len}
use Rattle.ps_prim.specs.Maps.{AllWithin}
use Rattle.qasm_angle.specs.declared.types.AngleFault.TheVariants.{Memory}
use Rattle.std.specs.List.{range_with_len}
use Rattle.std.proofs.lemmas.List.{get_or_read}
use Rattle.std.proofs.lemmas.Option.{slice_get_read}
use Rattle.std.proofs.Math.ListN.{drop_of_length-le}
use Rattle.ps_prim.specs.declared.prims.Primitive.{Primitive as Prim}
use Rattle.ps_prim.specs.declared.prims.Primitive.TheVariants.{U as UPrim, Cx as CxPrim}
use Rattle.qasm_angle.specs.declared.types.Op.{Op}
use Rattle.qasm_angle.specs.declared.types.Pair.{Pair}
use Rattle.qasm_angle.specs.declared.types.AngleFault.{AngleFault}
use Rattle.qasm_expand.specs.declared.defs.Called.{Called}
use Rattle.qasm_expand.specs.declared.defs.Called.TheVariants.{U, Cx, Def as ADef}
use Rattle.qasm_expand.specs.declared.defs.Inner.{Inner}
use Rattle.qasm_expand.specs.declared.defs.Def.{Def}
use Rattle.qasm_expand.specs.declared.broken.Stop.{Stop}
use Rattle.qasm_expand.specs.declared.broken.Broken.{Broken}
use Rattle.qasm_expand.specs.declared.broken.Broken.TheVariants.{Own, Inside}
use Rattle.qasm_expand.specs.declared.frame.Frame.{Frame}
use Rattle.qasm_expand.specs.Tables.{params_of, size_of, size_of_def, args_of, args_of_def, all_below, is_earlier, defs_sound}
use Rattle.qasm_expand.specs.Bodies.{IsValue, IsTurn, Each, Answers, Tells, on_qubits, all_on, fault_of, joined, unless_memory, call, Comes, nothing, universal, no_angle, controlled, replaced, no_value}
use Rattle.qasm_expand.specs.Frames.{InnerFits, left_of, FrameFits, Left, all_done, frame_work, stack_work, Opens, Steps, Turned, TurnedIn, work}
use Rattle.qasm_expand.proofs.Expressions.{unless_map}
use Rattle.qasm_expand.proofs.Fitting.{earlier_lt}
use Rattle.qasm_expand.proofs.Prims.{below_at, comes_count, comes_within}
use Rattle.qasm_expand.proofs.Machine.{flip, joined_none, joined_more, alone, left_is, left_cons, left_fits, now_fits, left_before, left_broken, left_opened, left_ended, frame_less, stack_work_more, work_some}

-- ---- reads
pub get_some : {X : Type 0} (xs : List X) (k : ℕ) (x : X) → k < length xs → x ≡ get_or xs k x → slice_get xs k ≡ Some x
get_some xs k x lt h = slice_get_read xs (length xs) k x refl lt h

pub places_at : (outer vs args as' items : List ℕ) → items ≡ map (λ q. get_or outer q 0) args → outer ≡ vs → args ≡ as' → items ≡ map (λ q. get_or vs q 0) as'
places_at outer vs args as' items h e f = h ∙ ap (λ xs. map (λ q. get_or xs q 0) args) e ∙ ap (λ xs. map (λ q. get_or vs q 0) xs) f

pub place_below : (v xs args : List ℕ) (k n : ℕ) → n ≡ length v → xs ≡ args → all_below (length v) args ≡ true → k < length args → get_or xs k 0 < n
place_below v xs args k n e h b lt =
    let l = below_at (length v) args k b lt in
    let q : get_or xs k 0 ≡ get_or args k 0 = ap (λ ys. get_or ys k 0) h in
    omega (arith, l, q, e)

pub place_read : (v xs args : List ℕ) (k x : ℕ) → xs ≡ args → x ≡ get_or v (get_or xs k 0) x → all_below (length v) args ≡ true → k < length args → x ≡ get_or v (get_or args k 0) 0
place_read v xs args k x h e b lt = get_or_read v (get_or xs k 0) x (place_below v xs args k (length v) refl h b lt) e 0 ∙ ap (λ ys. get_or v (get_or ys k 0) 0) h

pub three_are : {X : Type 0} (es : List X) (a b c : X) → length es ≡ 3 → a ≡ get_or es 0 a → b ≡ get_or es 1 b → c ≡ get_or es 2 c → a ∷ (b ∷ (c ∷ [])) ≡ es
three_are [] a b c n p q r = absurd (omega arith)
three_are (x ∷ []) a b c n p q r = absurd (omega arith)
three_are (x ∷ (y ∷ [])) a b c n p q r = absurd (omega arith)
three_are (x ∷ (y ∷ (z ∷ []))) a b c n p q r = cc
three_are (x ∷ (y ∷ (z ∷ (w ∷ es)))) a b c n p q r = absurd (omega arith)

pub turned_in : (vs ws : List Pair) (es fs : List (List Op)) (q p : ℕ) (g : Prim) → vs ≡ ws → es ≡ fs → q ≡ p → Turned vs es q (Ok g) → TurnedIn ws fs p (Ok g)
turned_in vs ws es fs q p g a b c (t, u, l, e, h) =
    (t, u, l, e ∙ ap (UPrim t u l) c, subst (λ xs. Each (IsTurn xs) fs (Ok (t ∷ u ∷ l ∷ []))) a (subst (λ xs. Each (IsTurn vs) xs (Ok (t ∷ u ∷ l ∷ []))) b h))

-- ---- what an application comes to
pub gate_below : (n d : ℕ) (c : Called) → c ≡ ADef d → is_earlier n c ≡ true → d < n
gate_below n d c e h = earlier_lt n d (subst (λ g. is_earlier n g ≡ true) e h)

none_of : (es : List (List Op)) → length es ≡ 0 → es ≡ []
none_of [] n = refl
none_of (x ∷ es) n = absurd (omega arith)

module _ (defs : List Def) (f : Frame) (i : Inner) where
  abbrev Called_comes : Result (List Prim) Broken → Type 0
  Called_comes r = Comes defs f.values.items (call i.gate i.params) r

  same_gate : (c : Called) (r : Result (List Prim) Broken) → i.gate ≡ c → Comes defs f.values.items (call c i.params) r → Called_comes r
  same_gate c r e h = subst (λ g. Comes defs f.values.items (call g i.params) r) (sym e) h

  pub none_made : (d : ℕ) (g : Def) → i.gate ≡ ADef d → d < length defs → g ≡ get_or defs d g → g.size ≡ 0 → Called_comes (Ok [])
  none_made d g e lt h n = same_gate (ADef d) (Ok []) e (nothing (ap size_of_def (get_some defs d g lt h) ∙ n))

  pub some_made : (d : ℕ) (g : Def) → d < length defs → g ≡ get_or defs d g → g.size ≢ 0 → size_of defs (ADef d) ≢ 0
  some_made d g lt h n z = n (sym (ap size_of_def (get_some defs d g lt h)) ∙ z)

  pub universal_made : (g : Prim) → i.gate ≡ U → TurnedIn f.values.items i.params (get_or f.places.items (get_or i.args 0 0) 0) (Ok g) → (h : Prim) × (g ≡ on_qubits f.places.items (on_qubits i.args h)) × Called_comes (Ok (h ∷ []))
  universal_made g e (t, p, l, q, h) = (UPrim t p l 0, q, same_gate U (Ok (UPrim t p l 0 ∷ [])) e (universal h))

  pub universal_off : (x : AngleFault) → i.gate ≡ U → TurnedIn f.values.items i.params (get_or f.places.items (get_or i.args 0 0) 0) (Err x) → unless_memory x ((b : Broken) × (fault_of b ≡ x) × Called_comes (Err b))
  universal_off x e h = unless_map _ _ x (λ (a : (s : Stop) × (s.fault ≡ x) × Each (IsTurn f.values.items) i.params (Err s)). (Own a.0, a.1, same_gate U (Err (Own a.0)) e (no_angle a.2))) h

  pub controlled_made : (g : Prim) → i.gate ≡ Cx → length i.params ≡ params_of defs i.gate → g ≡ CxPrim (get_or f.places.items (get_or i.args 0 0) 0) (get_or f.places.items (get_or i.args 1 0) 0) → (h : Prim) × (g ≡ on_qubits f.places.items (on_qubits i.args h)) × Called_comes (Ok (h ∷ []))
  controlled_made g e n h =
      let z : i.params ≡ [] = none_of i.params (n ∙ ap (params_of defs) e) in
      (CxPrim 0 1, h, same_gate Cx (Ok (CxPrim 0 1 ∷ [])) e (subst (λ es. Comes defs f.values.items (call Cx es) (Ok (CxPrim 0 1 ∷ []))) (sym z) controlled))

-- ---- steps
pub body_done : (defs : List Def) (f : Frame) (g : Def) → f.def < length defs → g ≡ get_or defs f.def g → length g.body ≤ f.next → left_of defs f ≡ []
body_done defs f g lt h le = left_is defs f g (get_some defs f.def g lt h) ∙ drop_of_length-le g.body le

pub step_fits : (defs : List Def) (f : Frame) (g : Def) (i : Inner) (body : List Inner) → defs_sound defs ≡ true → f.def < length defs → g ≡ get_or defs f.def g → body ≡ g.body → f.next < length body → i ≡ get_or body f.next i → InnerFits defs f.def (args_of defs (ADef f.def)) i
step_fits defs f g i body s lt h e k q =
    let t = get_some defs f.def g lt h in
    let r : i ≡ get_or g.body f.next i = q ∙ ap (λ is. get_or is f.next i) e in
    let m : f.next < length g.body = subst (λ is. f.next < length is) e k in
    let f' : Frame = record f { next = f.next + 1 } in
    subst (λ n. InnerFits defs f.def n i) (ap args_of_def (sym t)) (now_fits defs f.def g.args (left_of defs f) (left_of defs f') i (left_cons defs f f' g i t m r refl refl) (left_fits defs f g s t))

module _ (defs : List Def) (f f' : Frame) (S : List Frame) (out : List Prim) (g : Def) (i : Inner) (body : List Inner) (sound : defs_sound defs ≡ true) (there : f.def < length defs) (gate : g ≡ get_or defs f.def g) (same : body ≡ g.body) (lt : f.next < length body) (read : i ≡ get_or body f.next i) (moves : f' ≡ record f { next = f.next + 1 }) where
  cons : left_of defs f ≡ i ∷ left_of defs f'
  cons = left_cons defs f f' g i (get_some defs f.def g there gate) (subst (λ is. f.next < length is) same lt) (read ∙ ap (λ is. get_or is f.next i) same) (ap (λ h. h.def) moves) (ap (λ h. h.next) moves)

  abbrev Onto : List Frame → List Prim → Type 0
  Onto new more = (r : Result (List Prim) Broken) → Left defs (reverse new) r → Left defs (reverse (S ++ (f ∷ []))) (joined more r)

  onto_old : (r : Result (List Prim) Broken) → Left defs (f ∷ reverse S) r → Left defs (reverse (S ++ (f ∷ []))) r
  onto_old r h = subst (λ fs. Left defs fs r) (sym (flip (S ++ (f ∷ [])) S f refl)) h

  before : (gs : List Prim) (new : List Frame) → new ≡ S ++ (f' ∷ []) → Comes defs f.values.items (call i.gate i.params) (Ok gs) → Onto new (all_on f.places.items (all_on i.args gs))
  before gs new e c r h = onto_old _ (left_before defs f f' (reverse S) i (ap (λ h. h.values.items) moves) (ap (λ h. h.places.items) moves) cons gs r c (subst (λ fs. Left defs fs r) (flip new S f' e) h))

  pub step_none : (new : List Frame) → new ≡ S ++ (f' ∷ []) → Comes defs f.values.items (call i.gate i.params) (Ok []) → Steps defs (S ++ (f ∷ [])) new out out (Ok tt)
  step_none new e c = ([], sym (append-nil out), before [] new e c)

  pub step_prim : (new : List Frame) (made : List Prim) (p : Prim) → new ≡ S ++ (f' ∷ []) → made ≡ out ++ (p ∷ []) → (h : Prim) × (p ≡ on_qubits f.places.items (on_qubits i.args h)) × Comes defs f.values.items (call i.gate i.params) (Ok (h ∷ [])) → Steps defs (S ++ (f ∷ [])) new out made (Ok tt)
  step_prim new made p e m (h, q, c) = (p ∷ [], m, subst (λ x. Onto new (x ∷ [])) (sym q) (before (h ∷ []) new e c))

  pub step_body : (mid new : List Frame) (b : Frame) → mid ≡ S ++ (f' ∷ []) → new ≡ mid ++ (b ∷ []) → Opens defs f i b → Steps defs (S ++ (f ∷ [])) new out out (Ok tt)
  step_body mid new b e m o =
      let fit = step_fits defs f g i body sound there gate same lt read in
      let t : reverse new ≡ b ∷ (f' ∷ reverse S) = flip new mid b m ∙ ap (λ fs. b ∷ fs) (flip mid S f' e) in (
        [],
        sym (append-nil out),
        λ r h. onto_old _ (subst (λ z. Left defs (f ∷ reverse S) z) (sym (joined_none r))
            (left_opened defs f f' (reverse S) i (ap (λ h. h.values.items) moves) (ap (λ h. h.places.items) moves) cons b r sound fit.takes o (subst (λ fs. Left defs fs r) t h))),
      )

  pub step_off : (new : List Frame) (made : List Prim) (x : AngleFault) → unless_memory x ((b : Broken) × (fault_of b ≡ x) × Comes defs f.values.items (call i.gate i.params) (Err b)) → Steps defs (S ++ (f ∷ [])) new out made (Err x)
  step_off new made x h = unless_map _ _ x (λ (a : (b : Broken) × (fault_of b ≡ x) × Comes defs f.values.items (call i.gate i.params) (Err b)). onto_old (Err (Inside x)) (left_broken defs f f' (reverse S) i (ap (λ h. h.values.items) moves) (ap (λ h. h.places.items) moves) cons a.0 x a.1 a.2)) h

  -- ---- less to do
  frame_is : frame_work defs f ≡ work defs f.def i.gate + frame_work defs f'
  frame_is = frame_less defs f f' i cons (ap (λ h. h.def) moves)

  pub less_one : (new : List Frame) → new ≡ S ++ (f' ∷ []) → stack_work defs new < stack_work defs S + frame_work defs f
  less_one new e =
      let a : stack_work defs new ≡ stack_work defs S + frame_work defs f' = ap (stack_work defs) e ∙ stack_work_more defs S f' in
      let b = frame_is in
      let c = work_some defs f.def i.gate in
      omega (arith, a, b, c)

  pub less_body : (mid new : List Frame) (b : Frame) → mid ≡ S ++ (f' ∷ []) → new ≡ mid ++ (b ∷ []) → Opens defs f i b → stack_work defs new < stack_work defs S + frame_work defs f
  less_body mid new b e m o =
      let a : stack_work defs mid ≡ stack_work defs S + frame_work defs f' = ap (stack_work defs) e ∙ stack_work_more defs S f' in
      let d : stack_work defs new ≡ stack_work defs mid + frame_work defs b = ap (stack_work defs) m ∙ stack_work_more defs mid b in
      let h = frame_is in
      let k = o.smaller in
      omega (arith, a, d, h, k)

pub step_end : (defs : List Def) (f : Frame) (S : List Frame) (out : List Prim) → left_of defs f ≡ [] → Steps defs (S ++ (f ∷ [])) S out out (Ok tt)
step_end defs f S out e = ([], sym (append-nil out), λ r h. subst (λ z. Left defs (reverse (S ++ (f ∷ []))) z) (sym (joined_none r)) (subst (λ fs. Left defs fs r) (sym (flip (S ++ (f ∷ [])) S f refl)) (left_ended defs f (reverse S) r e h)))

-- ---- all steps
pub whole_next : (defs : List Def) (first : Frame) (old mid new : List Frame) (f : Frame) (out made : List Prim) → ((r : Result (List Prim) Broken) → Left defs (reverse old) r → Left defs (first ∷ []) (joined out r)) → old ≡ mid ++ (f ∷ []) → Steps defs (mid ++ (f ∷ [])) new out made (Ok tt) → (r : Result (List Prim) Broken) → Left defs (reverse new) r → Left defs (first ∷ []) (joined made r)
whole_next defs first old mid new f out made k e (more, m, s) r h =
    subst (λ z. Left defs (first ∷ []) (joined z r)) (sym m) (subst (λ z. Left defs (first ∷ []) z) (joined_more out more r) (k (joined more r) (subst (λ fs. Left defs (reverse fs) (joined more r)) (sym e) (s r h))))

pub whole_off : (defs : List Def) (first : Frame) (old mid new : List Frame) (f : Frame) (out made : List Prim) (x : AngleFault) → ((r : Result (List Prim) Broken) → Left defs (reverse old) r → Left defs (first ∷ []) (joined out r)) → old ≡ mid ++ (f ∷ []) → Steps defs (mid ++ (f ∷ [])) new out made (Err x) → unless_memory x (Left defs (first ∷ []) (Err (Inside x)))
whole_off defs first old mid new f out made x k e s = unless_map _ _ x (λ (h : Left defs (reverse (mid ++ (f ∷ []))) (Err (Inside x))). k (Err (Inside x)) (subst (λ fs. Left defs (reverse fs) (Err (Inside x))) (sym e) h)) s

pub whole_start : (defs : List Def) (first : Frame) (stack : List Frame) (out : List Prim) → stack ≡ [] ++ (first ∷ []) → out ≡ [] → (r : Result (List Prim) Broken) → Left defs (reverse stack) r → Left defs (first ∷ []) (joined out r)
whole_start defs first stack out e m r h = subst (λ z. Left defs (first ∷ []) (joined z r)) (sym m) (subst (λ z. Left defs (first ∷ []) z) (sym (joined_none r)) (subst (λ fs. Left defs fs r) (flip stack [] first e) h))

pub whole_end : (defs : List Def) (first : Frame) (stack : List Frame) (out : List Prim) → ((r : Result (List Prim) Broken) → Left defs (reverse stack) r → Left defs (first ∷ []) (joined out r)) → stack ≡ [] → Left defs (first ∷ []) (Ok out)
whole_end defs first stack out k e = subst (λ z. Left defs (first ∷ []) (Ok z)) (append-nil out) (k (Ok []) (subst (λ fs. Left defs (reverse fs) (Ok [])) (sym e) all_done))

-- ---- an application outside bodies
module _ (defs : List Def) (d : ℕ) (g : Def) (es : List (List Op)) (there : d < length defs) (read : g ≡ get_or defs d g) where
  pub own_none : (gs : List Prim) → g.size ≡ 0 → gs ≡ [] → Comes defs [] (call (ADef d) es) (Ok gs)
  own_none gs n e = subst (λ z. Comes defs [] (call (ADef d) es) (Ok z)) (sym e) (nothing (ap size_of_def (get_some defs d g there read) ∙ n))

  pub own_off : (s : Stop) → g.size ≢ 0 → Answers (Err s) (Each (IsValue []) es) → unless_memory s.fault (Comes defs [] (call (ADef d) es) (Err (Own s)))
  own_off s n h = unless_map _ _ s.fault (λ (a : Each (IsValue []) es (Err s)). no_value n (get_some defs d g there read) a) h

  pub first_fits : (f : Frame) → f.def ≡ d → f.places.items ≡ range_with_len 0 g.args → FrameFits defs f
  first_fits f e p = record {
    there = subst (λ k. k < length defs) (sym e) there;
    takes = ap length p ∙ length-range_with_len 0 g.args ∙ sym (ap args_of_def (ap (slice_get defs) e ∙ get_some defs d g there read));
  }

  pub own_made : (f : Frame) (r : Result (List Prim) Broken) → defs_sound defs ≡ true → g.size ≢ 0 → f.def ≡ d → f.next ≡ 0 → f.places.items ≡ range_with_len 0 g.args → Each (IsValue []) es (Ok f.values.items) → Left defs (f ∷ []) r → Comes defs [] (call (ADef d) es) r
  own_made f r s n e z p h l =
      let t = get_some defs d g there read in
      replaced n t h (alone defs f g r s (ap (slice_get defs) e ∙ t) z p l)

  pub own_stopped : (f : Frame) (x : AngleFault) → defs_sound defs ≡ true → g.size ≢ 0 → f.def ≡ d → f.next ≡ 0 → f.places.items ≡ range_with_len 0 g.args → Each (IsValue []) es (Ok f.values.items) → unless_memory x (Left defs (f ∷ []) (Err (Inside x))) → unless_memory x (Comes defs [] (call (ADef d) es) (Err (Inside x)))
  own_stopped f x s n e z p h l = unless_map _ _ x (λ (a : Left defs (f ∷ []) (Err (Inside x))). own_made f (Err (Inside x)) s n e z p h a) l

-- ---- what the whole call promises
module _ (defs : List Def) (gate : Called) (es : List (List Op)) where
  abbrev Told : Result (Vec Prim Global) Broken → Type 0
  Told r = Tells r (Comes defs [] (call gate es))

  pub told_one : (r : Result (Vec Prim Global) Broken) (p : Prim) → MatchResult r (λ v. v.items ≡ p ∷ []) (λ b. b ≡ Inside Memory) → Comes defs [] (call gate es) (Ok (p ∷ [])) → Told r
  told_one (Ok v) p m h = subst (λ z. Comes defs [] (call gate es) (Ok z)) (sym m) h
  told_one (Err b) p m h = subst (λ z. Told (Err z)) (sym m) tt

  pub told_count : (r : Result (Vec Prim Global) Broken) → defs_sound defs ≡ true → size_of defs gate ≤ 4096 → Told r → IfOk r (λ v. length v.items ≤ size_of defs gate)
  told_count (Ok v) s le h = let e = comes_count defs s h le in omega (arith, e)
  told_count (Err b) s le h = tt

  pub told_within : (r : Result (Vec Prim Global) Broken) → defs_sound defs ≡ true → Told r → IfOk r (λ v. AllWithin (args_of defs gate) v.items)
  told_within (Ok v) s h = comes_within defs s h
  told_within (Err b) s h = tt

  pub told_universal : (p : Prim) → gate ≡ U → Turned [] es 0 (Ok p) → Comes defs [] (call gate es) (Ok (p ∷ []))
  told_universal p e (t, u, l, q, h) = subst (λ c. Comes defs [] (call c es) (Ok (p ∷ []))) (sym e) (subst (λ z. Comes defs [] (call U es) (Ok (z ∷ []))) (sym q) (universal h))

  pub told_no_angle : (s : Stop) → gate ≡ U → Turned [] es 0 (Err s) → Told (Err (Own s))
  told_no_angle s e h = unless_map _ _ s.fault (λ (a : Each (IsTurn []) es (Err s)). subst (λ c. Comes defs [] (call c es) (Err (Own s))) (sym e) (no_angle a)) h

  pub told_controlled : gate ≡ Cx → length es ≡ params_of defs gate → Comes defs [] (call gate es) (Ok (CxPrim 0 1 ∷ []))
  told_controlled e n = subst (λ c. Comes defs [] (call c es) (Ok (CxPrim 0 1 ∷ []))) (sym e) (subst (λ xs. Comes defs [] (call Cx xs) (Ok (CxPrim 0 1 ∷ []))) (sym (none_of es (n ∙ ap (params_of defs) e))) controlled)

  pub told_replaced : (r : Result (Vec Prim Global) Broken) (d : ℕ) → gate ≡ ADef d → Tells r (Comes defs [] (call (ADef d) es)) → Told r
  told_replaced r d e h = subst (λ c. Tells r (Comes defs [] (call c es))) (sym e) h

pub no_frames : (fs : List Frame) → length fs ≡ 0 → fs ≡ []
no_frames [] n = refl
no_frames (f ∷ fs) n = absurd (omega arith)
