-- What holds of a gate that passed the checks of its definition.
use Rattle.std.proofs.Common.{◌≡◌, ◌<◌, ◌≤◌, ◌+◌, ℕ, zero, suc, Bool, true, false, ◌&&◌, ◌||◌, not, if◌then◌else◌, Option, Some, None, option_map, List, [], ◌∷◌, ◌++◌, map, length, get_or, Result, Ok, Err, refl, sym, ap, ap₂, ◌∙◌, subst, subst₂, arith, append_assoc, append-nil, true≢false, lt-ltb, ltb-true, eq-eqb, eqb-true, nat_eq, nat_lt, bytes_eq, All}
use Rattle.std.proofs.lemmas.List.{length-map}
use Rattle.qasm_parse.specs.declared.program.Span.{Span}
use Rattle.qasm_parse.specs.declared.program.Formula.{Formula}
use Rattle.qasm_parse.specs.declared.program.Call.{Call}
use Rattle.qasm_parse.specs.declared.program.Called.{Called as Word}
use Rattle.qasm_parse.specs.declared.program.Called.TheVariants.{U as UWord, Cx as CxWord, Named}
use Rattle.qasm_parse.specs.declared.program.Inner.{Inner as Stated}
use Rattle.qasm_parse.specs.declared.program.Inner.TheVariants.{Apply, Barrier}
use Rattle.qasm_parse.specs.Places.{IdBelow, FormulaIn, CallIn, InnerIn}
use Rattle.qasm_angle.specs.declared.types.Op.{Op}
use Rattle.qasm_angle.specs.declared.types.Op.TheVariants.{Id}
use Rattle.qasm_expand.specs.declared.defs.Called.{Called}
use Rattle.qasm_expand.specs.declared.defs.Called.TheVariants.{U, Cx, Def as ADef}
use Rattle.qasm_expand.specs.declared.defs.Inner.{Inner}
use Rattle.qasm_expand.specs.declared.defs.Def.{Def}
use Rattle.qasm_expand.specs.declared.fault.FaultName.{FaultName}
use Rattle.qasm_expand.specs.declared.fault.FaultName.TheVariants.{Unknown, NoParameter}
use Rattle.qasm_expand.specs.declared.fault.ReadFault.{ReadFault}
use Rattle.qasm_expand.specs.Checks.{spelled, and_then, or_fault, unless, refuse}
use Rattle.qasm_expand.specs.Tables.{Bound, meaning, rebound, params_of, args_of, body_size, is_among, all_different, all_below, op_below, ops_below, exprs_below, is_earlier, inner_sound, body_sound, def_sound, defs_sound_from, defs_sound, bound_sound}
use Rattle.qasm_expand.specs.Gates.{place_of, places, numbers, before, renumbered, expression, expressions, first_repeated, arg_names, called, wrong_arity, inner_of, body_of, def_of, names, first_again}
use Rattle.qasm_expand.proofs.Stepping.{each, place_at, places_each, numbers_each, expressions_each}

-- ---- tests
pub and_both : (a b : Bool) → (a && b) ≡ true → (a ≡ true) × (b ≡ true)
and_both true b e = (refl, e)
and_both false b e = absurd (true≢false (sym e))

pub both_and : {a b : Bool} → a ≡ true → b ≡ true → (a && b) ≡ true
both_and e f = ap₂ (λ a b. a && b) e f

-- ---- what went well
inv_then : {A B : Type 0} (r : Result A ReadFault) (k : A → Result B ReadFault) (b : B) → and_then r k ≡ Ok b → (a : A) × (r ≡ Ok a) × (k a ≡ Ok b)
inv_then (Ok a) k b e = (a, refl, e)
inv_then (Err f) k b e = absurd (cc)

inv_before : {A : Type 0} (a : A) (r : Result (List A) ReadFault) (bs : List A) → before a r ≡ Ok bs → (cs : List A) × (r ≡ Ok cs) × (a ∷ cs ≡ bs)
inv_before a (Ok cs) bs e = (cs, refl, cc)
inv_before a (Err f) bs e = absurd (cc)

inv_refuse : {A : Type 0} (t : Bool) (n : FaultName) (p : Span) (r : Result A ReadFault) (x : A) → refuse t n p r ≡ Ok x → (t ≡ false) × (r ≡ Ok x)
inv_refuse true n p r x e = absurd (cc)
inv_refuse false n p r x e = (refl, e)

inv_unless : {A : Type 0} (n : FaultName) (o : Option Span) (r : Result A ReadFault) (x : A) → unless n o r ≡ Ok x → (o ≡ None) × (r ≡ Ok x)
inv_unless n (Some p) r x e = absurd (cc)
inv_unless n None r x e = (refl, e)

inv_or_fault : {A : Type 0} (n : FaultName) (p : Span) (o : Option A) (x : A) → or_fault n p o ≡ Ok x → o ≡ Some x
inv_or_fault n p (Some a) x e = ap Some (cc)
inv_or_fault n p None x e = absurd (cc)

-- ---- one by one
abbrev Zip : {A B : Type 0} → (A → B → Type 0) → List A → List B → Type 0
Zip R [] [] = Unit {0}
Zip R [] (b ∷ bs) = ⊥
Zip R (a ∷ us) [] = ⊥
Zip R (a ∷ us) (b ∷ bs) = R a b × Zip R us bs

zip_each : {A B : Type 0} (f : A → Result B ReadFault) (us : List A) (bs : List B) → each f us ≡ Ok bs → Zip (λ a b. f a ≡ Ok b) us bs
zip_each f [] [] e = tt
zip_each f [] (b ∷ bs) e = absurd (cc)
zip_each {A} {B} f (a ∷ us) bs e =
    let p = inv_then (f a) (λ b. before b (each f us)) bs e in
    let q = inv_before p.0 (each f us) bs p.2 in
    subst (Zip (λ a b. f a ≡ Ok b) (a ∷ us)) q.2 (p.1, zip_each f us q.0 q.1)

zip_length : {A B : Type 0} (R : A → B → Type 0) (us : List A) (bs : List B) → Zip R us bs → length bs ≡ length us
zip_length R [] [] h = refl
zip_length R [] (b ∷ bs) h = absurd h
zip_length R (a ∷ us) [] h = absurd h
zip_length R (a ∷ us) (b ∷ bs) h = ap suc (zip_length R us bs h.1)

zip_below : {A : Type 0} (R : A → ℕ → Type 0) (n : ℕ) → ((a : A) (b : ℕ) → R a b → b < n) → (us : List A) (bs : List ℕ) → Zip R us bs → all_below n bs ≡ true
unfolding all_below
zip_below R n go us [] h = refl
zip_below R n go [] (b ∷ bs) h = absurd h
zip_below R n go (a ∷ us) (b ∷ bs) h = both_and (lt-ltb b n (go a b h.0)) (zip_below R n go us bs h.1)

-- ---- places
place_below : (ws : List (List ℕ)) (name : List ℕ) (i : ℕ) → place_of ws name ≡ Some i → i < length ws
unfolding place_of
place_below [] name i e = absurd (cc)
place_below (w ∷ ws) name i e = by (bytes_eq w name) (place_of ws name) (λ j f. place_below ws name j f) e
  where
    by : (b : Bool) (o : Option ℕ) → ((j : ℕ) → o ≡ Some j → j < length ws) → (if b then Some 0 else option_map suc o) ≡ Some i → i < length (w ∷ ws)
    by true o ih e = let h : 0 ≡ i = cc in omega (arith, h)
    by false None ih e = absurd (cc)
    by false (Some j) ih e = let h : suc j ≡ i = cc in let k = ih j refl in omega (arith, h, k)

pub places_sound : (bytes : List ℕ) (formals : List (List ℕ)) (ps : List Span) (qs : List ℕ) → places bytes formals ps ≡ Ok qs → (all_below (length formals) qs ≡ true) × (length qs ≡ length ps)
places_sound bytes formals ps qs e =
    let z = zip_each (place_at bytes formals Unknown) ps qs (sym (places_each bytes formals ps) ∙ e) in
    (zip_below _ (length formals) (λ p i h. place_below formals (spelled bytes p) i (inv_or_fault Unknown p _ i h)) ps qs z, zip_length _ ps qs z)

pub numbers_sound : (bytes : List ℕ) (formals : List (List ℕ)) (ps : List Span) (qs : List ℕ) → numbers bytes formals ps ≡ Ok qs → (all_below (length formals) qs ≡ true) × (length qs ≡ length ps)
numbers_sound bytes formals ps qs e =
    let z = zip_each (place_at bytes formals NoParameter) ps qs (sym (numbers_each bytes formals ps) ∙ e) in
    (zip_below _ (length formals) (λ p i h. place_below formals (spelled bytes p) i (inv_or_fault NoParameter p _ i h)) ps qs z, zip_length _ ps qs z)

different : (seen qs : List ℕ) (ps : List Span) → length qs ≡ length ps → first_repeated seen qs ps ≡ None → (all_different qs ≡ true) × ((x : ℕ) → is_among x seen ≡ true → is_among x qs ≡ false)
unfolding first_repeated all_different is_among
different seen [] ps l e = (refl, λ x h. refl)
different seen (q ∷ qs) [] l e = absurd (let h : length (q ∷ qs) ≡ length qs + 1 = omega arith in omega (arith, l, h))
different seen (q ∷ qs) (p ∷ ps) l e = by (is_among q seen) refl (different (q ∷ seen) qs ps (let k : length qs ≡ length ps = omega (arith, l) in k)) e
  where
    self : (b : Bool) → b ≡ true → (if b then true else is_among q seen) ≡ true
    self b h = ap (λ b. if b then true else is_among q seen) h

    old : (x : ℕ) → is_among x seen ≡ true → (b : Bool) → (if b then true else is_among x seen) ≡ true
    old x h true = refl
    old x h false = h

    new : (x : ℕ) → is_among x seen ≡ true → is_among q seen ≡ false → is_among x qs ≡ false → (b : Bool) → nat_eq x q ≡ b → (if b then true else is_among x qs) ≡ false
    new x h n i true t = absurd (true≢false (sym h ∙ ap (λ y. is_among y seen) (eqb-true x q t) ∙ n))
    new x h n i false t = i

    by : (b : Bool) → is_among q seen ≡ b → (first_repeated (q ∷ seen) qs ps ≡ None → (all_different qs ≡ true) × ((x : ℕ) → is_among x (q ∷ seen) ≡ true → is_among x qs ≡ false)) → (if b then Some p else first_repeated (q ∷ seen) qs ps) ≡ None → (all_different (q ∷ qs) ≡ true) × ((x : ℕ) → is_among x seen ≡ true → is_among x (q ∷ qs) ≡ false)
    by true n rest g = absurd (cc)
    by false n rest g =
        let ih = rest g in
        (ap₂ (λ a b. not a && b) (ih.1 q (self (nat_eq q q) (eq-eqb q q refl))) ih.0, λ x h. new x h n (ih.1 x (old x h (nat_eq x q))) (nat_eq x q) refl)

-- ---- expressions
get_below : (n : ℕ) (is : List ℕ) (i : ℕ) → all_below n is ≡ true → i < length is → nat_lt (get_or is i 0) n ≡ true
unfolding all_below
get_below n [] i h l = absurd (omega (arith, l))
get_below n (q ∷ is) zero h l = (and_both (nat_lt q n) (all_below n is) h).0
get_below n (q ∷ is) (suc i) h l = get_below n is i (and_both (nat_lt q n) (all_below n is) h).1 (omega (arith, l))

op_kept : (n : ℕ) (is : List ℕ) (op : Op) → all_below n is ≡ true → IdBelow (length is) op → op_below n (renumbered is op) ≡ true
unfolding op_below
op_kept n is (Id i) h l = get_below n is i h l
op_kept n is op h l = refl

ops_kept : (n : ℕ) (is : List ℕ) (ops : List Op) → all_below n is ≡ true → All (IdBelow (length is)) ops → ops_below n (map (renumbered is) ops) ≡ true
unfolding ops_below
ops_kept n is [] h l = refl
ops_kept n is (op ∷ ops) h l = both_and (op_kept n is op h (l 0 op (omega arith))) (ops_kept n is ops h (λ k d lt. l (suc k) d (omega (arith, lt))))

expression_sound : (bytes : List ℕ) (formals : List (List ℕ)) (f : Formula) (e : List Op) → FormulaIn bytes f → expression bytes formals f ≡ Ok e → ops_below (length formals) e ≡ true
expression_sound bytes formals f e h g =
    let p = inv_then (numbers bytes formals f.ids) (λ is. Ok (map (renumbered is) f.expr)) e g in
    let s = numbers_sound bytes formals f.ids p.0 p.1 in
    let w = p.2 in let o : map (renumbered p.0) f.expr ≡ e = cc in
    subst (λ x. ops_below (length formals) x ≡ true) o (ops_kept (length formals) p.0 f.expr s.0 (subst (λ n. All (IdBelow n) f.expr) (sym s.1) h.1))

zip_exprs : (bytes : List ℕ) (formals : List (List ℕ)) (fs : List Formula) (es : List (List Op)) → All (FormulaIn bytes) fs → Zip (λ f e. expression bytes formals f ≡ Ok e) fs es → exprs_below (length formals) es ≡ true
unfolding exprs_below
zip_exprs bytes formals fs [] h z = refl
zip_exprs bytes formals [] (e ∷ es) h z = absurd z
zip_exprs bytes formals (f ∷ fs) (e ∷ es) h z = both_and (expression_sound bytes formals f e (h 0 f (omega arith)) z.0) (zip_exprs bytes formals fs es (λ k d lt. h (suc k) d (omega (arith, lt))) z.1)

pub expressions_sound : (bytes : List ℕ) (formals : List (List ℕ)) (fs : List Formula) (es : List (List Op)) → All (FormulaIn bytes) fs → expressions bytes formals fs ≡ Ok es → (exprs_below (length formals) es ≡ true) × (length es ≡ length fs)
expressions_sound bytes formals fs es h e =
    let z = zip_each (expression bytes formals) fs es (sym (expressions_each bytes formals fs) ∙ e) in
    (zip_exprs bytes formals fs es h z, zip_length _ fs es z)

-- ---- gates by name
meaning_earlier : (n : ℕ) (bound : List Bound) (name : List ℕ) (d : ℕ) → bound_sound n bound ≡ true → meaning bound name ≡ Some d → nat_lt d n ≡ true
unfolding meaning bound_sound
meaning_earlier n [] name d h e = absurd (cc)
meaning_earlier n (b ∷ bs) name d h e = by (bytes_eq b.name name) (and_both (nat_lt b.def n) (bound_sound n bs) h) (meaning_earlier n bs name d) e
  where
    by : (t : Bool) → (nat_lt b.def n ≡ true) × (bound_sound n bs ≡ true) → (bound_sound n bs ≡ true → meaning bs name ≡ Some d → nat_lt d n ≡ true) → (if t then Some b.def else meaning bs name) ≡ Some d → nat_lt d n ≡ true
    by true p ih e = let k : b.def ≡ d = cc in subst (λ x. nat_lt x n ≡ true) k p.0
    by false p ih e = ih p.1 e

named_earlier : (n : ℕ) (p : Span) (o : Option ℕ) (gate : Called) → ((d : ℕ) → o ≡ Some d → nat_lt d n ≡ true) → or_fault Unknown p (option_map ADef o) ≡ Ok gate → is_earlier n gate ≡ true
unfolding is_earlier
named_earlier n p (Some d) gate h e = let k : ADef d ≡ gate = cc in subst (λ g. is_earlier n g ≡ true) k (h d refl)
named_earlier n p None gate h e = absurd (cc)

called_earlier : (n : ℕ) (bytes : List ℕ) (bound : List Bound) (w : Word) (p : Span) (gate : Called) → bound_sound n bound ≡ true → called bytes bound w p ≡ Ok gate → is_earlier n gate ≡ true
unfolding is_earlier
called_earlier n bytes bound UWord p gate h e = let k : U ≡ gate = cc in subst (λ g. is_earlier n g ≡ true) k refl
called_earlier n bytes bound CxWord p gate h e = let k : Cx ≡ gate = cc in subst (λ g. is_earlier n g ≡ true) k refl
called_earlier n bytes bound Named p gate h e = named_earlier n p (meaning bound (spelled bytes p)) gate (λ d g. meaning_earlier n bound (spelled bytes p) d h g) e

-- ---- applications and bodies
arity_right : (a b : Bool) → (not a || not b) ≡ false → (a ≡ true) × (b ≡ true)
arity_right true true e = (refl, refl)
arity_right true false e = absurd (true≢false e)
arity_right false b e = absurd (true≢false e)

abbrev record_of : Called → List (List Op) → List ℕ → Inner
record_of gate es qs = record { gate = gate; params = es; args = qs }

inner_is_sound : (bytes : List ℕ) (defs : List Def) (bound : List Bound) (params args : List (List ℕ)) (c : Call) (i : Inner) → bound_sound (length defs) bound ≡ true → CallIn bytes c → inner_of bytes defs bound params args c ≡ Ok i → inner_sound defs (length params) (length args) i ≡ true
unfolding inner_sound
inner_is_sound bytes defs bound params args c i h within e =
    let g = inv_then (called bytes bound c.gate c.at) _ i e in
    let t = inv_refuse (wrong_arity defs g.0 (length c.params) (length c.args)) _ _ _ i g.2 in
    let q = inv_then (places bytes args (arg_names c.args)) _ i t.1 in
    let d = inv_unless _ (first_repeated [] q.0 (arg_names c.args)) _ i q.2 in
    let x = inv_then (expressions bytes params c.params) _ i d.1 in
    let n = arity_right (nat_eq (length c.params) (params_of defs g.0)) (nat_eq (length c.args) (args_of defs g.0)) t.0 in
    let ps = places_sound bytes args (arg_names c.args) q.0 q.1 in
    let xs = expressions_sound bytes params c.params x.0 within.1 x.1 in
    let w = x.2 in let k : record_of g.0 x.0 q.0 ≡ i = cc in
    subst (λ y. inner_sound defs (length params) (length args) y ≡ true) k
    (both_and (called_earlier (length defs) bytes bound c.gate c.at g.0 h g.1) (both_and (ap (λ m. nat_eq m (params_of defs g.0)) xs.1 ∙ n.0) (both_and xs.0
    (both_and (ap (λ m. nat_eq m (args_of defs g.0)) (ps.1 ∙ length-map c.args (λ a. a.name)) ∙ n.1) (both_and ps.0 (different [] q.0 (arg_names c.args) ps.1 d.0).0)))))

pub body_is_sound : (bytes : List ℕ) (defs : List Def) (bound : List Bound) (params args : List (List ℕ)) (ss : List Stated) (is : List Inner) → bound_sound (length defs) bound ≡ true → All (InnerIn bytes) ss → body_of bytes defs bound params args ss ≡ Ok is → body_sound defs (length params) (length args) is ≡ true
unfolding body_of body_sound
body_is_sound bytes defs bound params args [] is h within e = let k : [] ≡ is = cc in subst (λ y. body_sound defs (length params) (length args) y ≡ true) k refl
body_is_sound bytes defs bound params args (Apply c ∷ ss) is h within e =
    let p = inv_then (inner_of bytes defs bound params args c) (λ i. before i (body_of bytes defs bound params args ss)) is e in
    let q = inv_before p.0 (body_of bytes defs bound params args ss) is p.2 in
    subst (λ y. body_sound defs (length params) (length args) y ≡ true) q.2
    (both_and (inner_is_sound bytes defs bound params args c p.0 h (within 0 (Apply c) (omega arith)) p.1) (body_is_sound bytes defs bound params args ss q.0 h (λ k d lt. within (suc k) d (omega (arith, lt))) q.1))
body_is_sound bytes defs bound params args (Barrier ps ∷ ss) is h within e =
    let p = inv_then (places bytes args ps) (λ qs. body_of bytes defs bound params args ss) is e in
    body_is_sound bytes defs bound params args ss is h (λ k d lt. within (suc k) d (omega (arith, lt))) p.2

abbrev made : List Def → List Span → List Span → List Inner → Def
made defs params args is = record { params = length params; args = length args; size = body_size defs is; body = is }

pub def_is_sound : (bytes : List ℕ) (defs : List Def) (bound : List Bound) (params args : List Span) (ss : List Stated) (d : Def) → bound_sound (length defs) bound ≡ true → All (InnerIn bytes) ss → def_of bytes defs bound params args ss ≡ Ok d → def_sound defs d ≡ true
def_is_sound bytes defs bound params args ss d h within e =
    let a = inv_unless _ (first_again bytes [] params) _ d e in
    let b = inv_unless _ (first_again bytes [] args) _ d a.1 in
    let p = inv_then (body_of bytes defs bound (names bytes params) (names bytes args) ss) _ d b.1 in
    let w = p.2 in let k : made defs params args p.0 ≡ d = cc in
    let s = body_is_sound bytes defs bound (names bytes params) (names bytes args) ss p.0 h within p.1 in
    subst (λ y. def_sound defs y ≡ true) k (both_and (subst₂ (λ m n. body_sound defs m n p.0 ≡ true) (length-map params (spelled bytes)) (length-map args (spelled bytes)) s) (eq-eqb (body_size defs p.0) (body_size defs p.0) refl))

-- ---- lists of gates and of names
defs_from : (before : List Def) (ds : List Def) (d : Def) → defs_sound_from before ds ≡ true → def_sound (before ++ ds) d ≡ true → defs_sound_from before (ds ++ d ∷ []) ≡ true
unfolding defs_sound_from
defs_from before [] d h g = both_and (subst (λ b. def_sound b d ≡ true) (append-nil before) g) refl
defs_from before (e ∷ ds) d h g =
    let p = and_both (def_sound before e) (defs_sound_from (before ++ e ∷ []) ds) h in
    both_and p.0 (defs_from (before ++ e ∷ []) ds d p.1 (subst (λ b. def_sound b d ≡ true) (sym (append_assoc before (e ∷ []) ds)) g))

pub defs_more : (ds : List Def) (d : Def) → defs_sound ds ≡ true → def_sound ds d ≡ true → defs_sound (ds ++ d ∷ []) ≡ true
defs_more ds d h g = defs_from [] ds d h g

pub bound_more : (n m : ℕ) (bs : List Bound) → n ≤ m → bound_sound n bs ≡ true → bound_sound m bs ≡ true
unfolding bound_sound
bound_more n m [] l h = refl
bound_more n m (b ∷ bs) l h =
    let p = and_both (nat_lt b.def n) (bound_sound n bs) h in
    let q = ltb-true b.def n p.0 in
    both_and (lt-ltb b.def m (omega (arith, l, q))) (bound_more n m bs l p.1)

pub rebound_sound : (n : ℕ) (bs : List Bound) (name : List ℕ) (d : ℕ) → bound_sound n bs ≡ true → d < n → bound_sound n (rebound bs name d) ≡ true
unfolding bound_sound rebound
rebound_sound n [] name d h l = both_and (lt-ltb d n l) refl
rebound_sound n (b ∷ bs) name d h l = by (bytes_eq b.name name) (and_both (nat_lt b.def n) (bound_sound n bs) h) (rebound_sound n bs name d)
  where
    by : (t : Bool) → (nat_lt b.def n ≡ true) × (bound_sound n bs ≡ true) → (bound_sound n bs ≡ true → d < n → bound_sound n (rebound bs name d) ≡ true) → bound_sound n (if t then record { name = name; def = d } ∷ bs else b ∷ rebound bs name d) ≡ true
    by true p ih = both_and (lt-ltb d n l) p.1
    by false p ih = both_and p.0 (ih p.1 l)
