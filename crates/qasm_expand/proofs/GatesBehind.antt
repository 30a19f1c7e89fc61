-- Definitions behind other gates come to the same gates, whose numbers are larger by as many as stand before them.
use Rattle.std.proofs.Common.{◌≡◌, ℕ, zero, suc, ◌+◌, Bool, true, false, ◌||◌, not, nat_eq, min, Option, Some, None, List, [], ◌∷◌, ◌++◌, length, length-append, append_assoc, Result, Ok, Err, refl, sym, ◌∙◌, ap, arith, bytes_eq, if◌then◌else◌}
use Rattle.std.specs.Prelude.{map, slice_get, option_map}
use Rattle.std.proofs.lemmas.List.{length-map}
use Rattle.qasm_angle.specs.declared.types.Op.{Op}
use Rattle.qasm_parse.specs.declared.program.Span.{Span}
use Rattle.qasm_parse.specs.declared.program.Call.{Call}
use Rattle.qasm_parse.specs.declared.program.Called.{Called as Word}
use Rattle.qasm_parse.specs.declared.program.Called.TheVariants.{U as UWord, Cx as CxWord, Named}
use Rattle.qasm_parse.specs.declared.program.Inner.{Inner as Stated}
use Rattle.qasm_parse.specs.declared.program.Inner.TheVariants.{Apply, Barrier}
use Rattle.qasm_parse.specs.declared.program.Statement.{Statement}
use Rattle.qasm_parse.specs.declared.program.Statement.TheVariants as statement
use Rattle.qasm_expand.specs.declared.defs.Called.{Called}
use Rattle.qasm_expand.specs.declared.defs.Called.TheVariants.{U, Cx, Def as ADef}
use Rattle.qasm_expand.specs.declared.defs.Inner.{Inner}
use Rattle.qasm_expand.specs.declared.defs.Def.{Def}
use Rattle.qasm_expand.specs.declared.fault.FaultName.TheVariants.{Unknown, Arity, RepeatedQubit, Redeclared}
use Rattle.qasm_expand.specs.declared.fault.ReadFault.{ReadFault}
use Rattle.qasm_expand.specs.Tables.{Bound, meaning, rebound, params_of_def, args_of_def, size_of_def, params_of, args_of, size_of, prim_count, body_size}
use Rattle.qasm_expand.specs.Checks.{spelled, and_then, or_fault, unless, refuse}
use Rattle.qasm_expand.specs.Gates.{called, wrong_arity, before, places, first_repeated, expressions, arg_names, inner_of, body_of, names, first_again, def_of}
use Rattle.qasm_expand.specs.Library.{Gates, with_gate, defined, all_defined}

-- a gate, an application, a definition and a name behind n gates
abbrev pub called_behind : ℕ → Called → Called
called_behind n U = U
called_behind n Cx = Cx
called_behind n (ADef d) = ADef (n + d)

abbrev pub inner_behind : ℕ → Inner → Inner
inner_behind n i = record { gate = called_behind n i.gate; params = i.params; args = i.args }

abbrev pub def_behind : ℕ → Def → Def
def_behind n d = record { params = d.params; args = d.args; size = d.size; body = map (inner_behind n) d.body }

abbrev pub bound_behind : ℕ → Bound → Bound
bound_behind n b = record { name = b.name; def = n + b.def }

-- gates and names behind others
abbrev pub gates_behind : List Def → Gates → Gates
gates_behind front g = record { defs = front ++ map (def_behind (length front)) g.defs; bound = map (bound_behind (length front)) g.bound }

abbrev pub on_ok : {A B E : Type 0} → (A → B) → Result A E → Result B E
on_ok f (Ok a) = Ok (f a)
on_ok f (Err e) = Err e

-- ---- names
meaning_behind : (n : ℕ) (bs : List Bound) (name : List ℕ) → meaning (map (bound_behind n) bs) name ≡ option_map (λ d. n + d) (meaning bs name)
unfolding meaning
meaning_behind n [] name = refl
meaning_behind n (b ∷ bs) name = by (bytes_eq b.name name) (meaning bs name) (meaning_behind n bs name) where
  by : (t : Bool) (o : Option ℕ) → meaning (map (bound_behind n) bs) name ≡ option_map (λ d. n + d) o
      → (if t then Some (n + b.def) else meaning (map (bound_behind n) bs) name) ≡ option_map (λ d. n + d) (if t then Some b.def else o)
  by true o h = refl
  by false o h = h

rebound_behind : (n : ℕ) (bs : List Bound) (name : List ℕ) (d : ℕ) → rebound (map (bound_behind n) bs) name (n + d) ≡ map (bound_behind n) (rebound bs name d)
unfolding rebound
rebound_behind n [] name d = refl
rebound_behind n (b ∷ bs) name d = by (bytes_eq b.name name) (rebound bs name d) (rebound_behind n bs name d) where
  by : (t : Bool) (cs : List Bound) → rebound (map (bound_behind n) bs) name (n + d) ≡ map (bound_behind n) cs
      → (if t then record { name = name; def = n + d } ∷ map (bound_behind n) bs else bound_behind n b ∷ rebound (map (bound_behind n) bs) name (n + d)) ≡ map (bound_behind n) (if t then record { name = name; def = d } ∷ bs else b ∷ cs)
  by true cs h = refl
  by false cs h = ap (λ z. bound_behind n b ∷ z) h

option_called : (n : ℕ) (p : Span) (o : Option ℕ) → or_fault Unknown p (option_map ADef (option_map (λ d. n + d) o)) ≡ on_ok (called_behind n) (or_fault Unknown p (option_map ADef o))
option_called n p (Some d) = refl
option_called n p None = refl

call_behind : (n : ℕ) (bytes : List ℕ) (bs : List Bound) (w : Word) (p : Span) → called bytes (map (bound_behind n) bs) w p ≡ on_ok (called_behind n) (called bytes bs w p)
call_behind n bytes bs UWord p = refl
call_behind n bytes bs CxWord p = refl
call_behind n bytes bs Named p = ap (λ o. or_fault Unknown p (option_map ADef o)) (meaning_behind n bs (spelled bytes p)) ∙ option_called n p (meaning bs (spelled bytes p))

-- ---- what a gate takes
get_behind : (front defs : List Def) (d : ℕ) → slice_get (front ++ defs) (length front + d) ≡ slice_get defs d
get_behind [] defs d = ap (slice_get defs) (let e : 0 + d ≡ d = omega arith in e)
get_behind (f ∷ front) defs d = ap (slice_get (f ∷ (front ++ defs))) (let e : suc (length front) + d ≡ suc (length front + d) = omega arith in e) ∙ get_behind front defs d

get_mapped : (n : ℕ) (defs : List Def) (d : ℕ) → slice_get (map (def_behind n) defs) d ≡ option_map (def_behind n) (slice_get defs d)
get_mapped n [] d = refl
get_mapped n (x ∷ xs) zero = refl
get_mapped n (x ∷ xs) (suc d) = get_mapped n xs d

module _ (front : List Def) where
  abbrev all_behind : List Def → List Def
  all_behind defs = front ++ map (def_behind (length front)) defs

  def_at : (defs : List Def) (d : ℕ) → slice_get (all_behind defs) (length front + d) ≡ option_map (def_behind (length front)) (slice_get defs d)
  def_at defs d = get_behind front (map (def_behind (length front)) defs) d ∙ get_mapped (length front) defs d

  same_params : (o : Option Def) → params_of_def (option_map (def_behind (length front)) o) ≡ params_of_def o
  same_params (Some d) = refl
  same_params None = refl

  same_args : (o : Option Def) → args_of_def (option_map (def_behind (length front)) o) ≡ args_of_def o
  same_args (Some d) = refl
  same_args None = refl

  same_size : (o : Option Def) → size_of_def (option_map (def_behind (length front)) o) ≡ size_of_def o
  same_size (Some d) = refl
  same_size None = refl

  params_behind : (defs : List Def) (c : Called) → params_of (all_behind defs) (called_behind (length front) c) ≡ params_of defs c
  params_behind defs U = refl
  params_behind defs Cx = refl
  params_behind defs (ADef d) = ap params_of_def (def_at defs d) ∙ same_params (slice_get defs d)

  args_behind : (defs : List Def) (c : Called) → args_of (all_behind defs) (called_behind (length front) c) ≡ args_of defs c
  args_behind defs U = refl
  args_behind defs Cx = refl
  args_behind defs (ADef d) = ap args_of_def (def_at defs d) ∙ same_args (slice_get defs d)

  size_behind : (defs : List Def) (c : Called) → size_of (all_behind defs) (called_behind (length front) c) ≡ size_of defs c
  size_behind defs U = refl
  size_behind defs Cx = refl
  size_behind defs (ADef d) = ap size_of_def (def_at defs d) ∙ same_size (slice_get defs d)

  count_behind : (defs : List Def) (is : List Inner) → prim_count (all_behind defs) (map (inner_behind (length front)) is) ≡ prim_count defs is
  unfolding prim_count
  count_behind defs [] = refl
  count_behind defs (i ∷ is) = ap (λ n. n + prim_count (all_behind defs) (map (inner_behind (length front)) is)) (size_behind defs i.gate) ∙ ap (λ n. size_of defs i.gate + n) (count_behind defs is)

  arity_behind : (defs : List Def) (c : Called) (m k : ℕ) → wrong_arity (all_behind defs) (called_behind (length front) c) m k ≡ wrong_arity defs c m k
  arity_behind defs c m k =
      ap (λ z. not (nat_eq m z) || not (nat_eq k (args_of (all_behind defs) (called_behind (length front) c)))) (params_behind defs c)
      ∙ ap (λ z. not (nat_eq m (params_of defs c)) || not (nat_eq k z)) (args_behind defs c)

  -- ---- bodies
  named_by : (gate : Called) (p : Span) (b : Bool) (q : Result (List ℕ) ReadFault) (again : List ℕ → Option Span) (x : Result (List (List Op)) ReadFault)
      → refuse b Arity p (and_then q (λ qs. unless RepeatedQubit (again qs) (and_then x (λ es. Ok (record { gate = called_behind (length front) gate; params = es; args = qs })))))
      ≡ on_ok (inner_behind (length front)) (refuse b Arity p (and_then q (λ qs. unless RepeatedQubit (again qs) (and_then x (λ es. Ok (record { gate = gate; params = es; args = qs }))))))
  named_by gate p true q again x = refl
  named_by gate p false (Err e) again x = refl
  named_by gate p false (Ok qs) again x = once (again qs) x where
    once : (o : Option Span) (x : Result (List (List Op)) ReadFault)
        → unless RepeatedQubit o (and_then x (λ es. Ok (record { gate = called_behind (length front) gate; params = es; args = qs })))
        ≡ on_ok (inner_behind (length front)) (unless RepeatedQubit o (and_then x (λ es. Ok (record { gate = gate; params = es; args = qs }))))
    once (Some s) x = refl
    once None (Ok es) = refl
    once None (Err e) = refl

  module _ (bytes : List ℕ) where
    module _ (defs : List Def) (bound : List Bound) where
      abbrev bound_all : List Bound
      bound_all = map (bound_behind (length front)) bound

      gate_named : (params args : List (List ℕ)) (c : Call) (r : Result Called ReadFault)
          → and_then (on_ok (called_behind (length front)) r) (λ gate. refuse (wrong_arity (all_behind defs) gate (length c.params) (length c.args)) Arity c.at
          (and_then (places bytes args (arg_names c.args)) (λ qs. unless RepeatedQubit (first_repeated [] qs (arg_names c.args)) (and_then (expressions bytes params c.params) (λ es. Ok (record { gate = gate; params = es; args = qs }))))))
          ≡ on_ok (inner_behind (length front)) (and_then r (λ gate. refuse (wrong_arity defs gate (length c.params) (length c.args)) Arity c.at
          (and_then (places bytes args (arg_names c.args)) (λ qs. unless RepeatedQubit (first_repeated [] qs (arg_names c.args)) (and_then (expressions bytes params c.params) (λ es. Ok (record { gate = gate; params = es; args = qs })))))))
      gate_named params args c (Err e) = refl
      gate_named params args c (Ok gate) =
          ap (λ b. refuse b Arity c.at (and_then (places bytes args (arg_names c.args)) (λ qs. unless RepeatedQubit (first_repeated [] qs (arg_names c.args)) (and_then (expressions bytes params c.params)
          (λ es. Ok (record { gate = called_behind (length front) gate; params = es; args = qs })))))) (arity_behind defs gate (length c.params) (length c.args))
          ∙ named_by gate c.at (wrong_arity defs gate (length c.params) (length c.args)) (places bytes args (arg_names c.args)) (λ qs. first_repeated [] qs (arg_names c.args)) (expressions bytes params c.params)

      application : (params args : List (List ℕ)) (c : Call) → inner_of bytes (all_behind defs) bound_all params args c ≡ on_ok (inner_behind (length front)) (inner_of bytes defs bound params args c)
      application params args c =
          ap (λ r. and_then r (λ gate. refuse (wrong_arity (all_behind defs) gate (length c.params) (length c.args)) Arity c.at
          (and_then (places bytes args (arg_names c.args)) (λ qs. unless RepeatedQubit (first_repeated [] qs (arg_names c.args)) (and_then (expressions bytes params c.params) (λ es. Ok (record { gate = gate; params = es; args = qs }))))))) (call_behind (length front) bytes bound c.gate c.at)
          ∙ gate_named params args c (called bytes bound c.gate c.at)

      one_before : (r : Result Inner ReadFault) (s : Result (List Inner) ReadFault)
          → and_then (on_ok (inner_behind (length front)) r) (λ i. before i (on_ok (map (inner_behind (length front))) s)) ≡ on_ok (map (inner_behind (length front))) (and_then r (λ i. before i s))
      one_before (Ok i) (Ok is) = refl
      one_before (Ok i) (Err e) = refl
      one_before (Err e) s = refl

      passed : (q : Result (List ℕ) ReadFault) (s : Result (List Inner) ReadFault) → and_then q (λ qs. on_ok (map (inner_behind (length front))) s) ≡ on_ok (map (inner_behind (length front))) (and_then q (λ qs. s))
      passed (Ok qs) s = refl
      passed (Err e) s = refl

      body_behind : (params args : List (List ℕ)) (ss : List Stated) → body_of bytes (all_behind defs) bound_all params args ss ≡ on_ok (map (inner_behind (length front))) (body_of bytes defs bound params args ss)
      unfolding body_of
      body_behind params args [] = refl
      body_behind params args (Apply c ∷ ss) =
          ap (λ r. and_then r (λ i. before i (body_of bytes (all_behind defs) bound_all params args ss))) (application params args c)
          ∙ ap (λ s. and_then (on_ok (inner_behind (length front)) (inner_of bytes defs bound params args c)) (λ i. before i s)) (body_behind params args ss)
          ∙ one_before (inner_of bytes defs bound params args c) (body_of bytes defs bound params args ss)
      body_behind params args (Barrier ps ∷ ss) =
          ap (λ s. and_then (places bytes args ps) (λ qs. s)) (body_behind params args ss) ∙ passed (places bytes args ps) (body_of bytes defs bound params args ss)

      body_made : (params args : List Span) (r : Result (List Inner) ReadFault)
          → and_then (on_ok (map (inner_behind (length front))) r) (λ is. Ok (record { params = length params; args = length args; size = body_size (all_behind defs) is; body = is }))
          ≡ on_ok (def_behind (length front)) (and_then r (λ is. Ok (record { params = length params; args = length args; size = body_size defs is; body = is })))
      body_made params args (Ok is) = ap (λ n. Ok (record { params = length params; args = length args; size = min n 4097; body = map (inner_behind (length front)) is })) (count_behind defs is)
      body_made params args (Err e) = refl

      def_made : (params args : List Span) (body : List Stated) → def_of bytes (all_behind defs) bound_all params args body ≡ on_ok (def_behind (length front)) (def_of bytes defs bound params args body)
      def_made params args body =
          ap (λ r. unless Redeclared (first_again bytes [] params) (unless Redeclared (first_again bytes [] args) (and_then r (λ is. Ok (record { params = length params; args = length args; size = body_size (all_behind defs) is; body = is })))))
          (body_behind (names bytes params) (names bytes args) body)
          ∙ ap (λ r. unless Redeclared (first_again bytes [] params) (unless Redeclared (first_again bytes [] args) r)) (body_made params args (body_of bytes defs bound (names bytes params) (names bytes args) body))
          ∙ both (first_again bytes [] params) (first_again bytes [] args) (and_then (body_of bytes defs bound (names bytes params) (names bytes args) body) (λ is. Ok (record { params = length params; args = length args; size = body_size defs is; body = is })))
        where
          both : (o q : Option Span) (r : Result Def ReadFault) → unless Redeclared o (unless Redeclared q (on_ok (def_behind (length front)) r)) ≡ on_ok (def_behind (length front)) (unless Redeclared o (unless Redeclared q r))
          both (Some p) q r = refl
          both None (Some p) r = refl
          both None None r = refl

    -- ---- definitions
    map-append : (f : Def → Def) (xs ys : List Def) → map f (xs ++ ys) ≡ map f xs ++ map f ys
    map-append f [] ys = refl
    map-append f (x ∷ xs) ys = ap (λ z. f x ∷ z) (map-append f xs ys)

    gate_behind : (g : Gates) (name : Span) (d : Def) → with_gate bytes (gates_behind front g) name (def_behind (length front) d) ≡ gates_behind front (with_gate bytes g name d)
    gate_behind g name d =
        let n : length (all_behind g.defs) ≡ length front + length g.defs = omega (arith, length-append front (map (def_behind (length front)) g.defs), length-map g.defs (def_behind (length front))) in
        let e : all_behind g.defs ++ (def_behind (length front) d ∷ []) ≡ all_behind (g.defs ++ d ∷ []) =
        append_assoc front (map (def_behind (length front)) g.defs) (def_behind (length front) d ∷ []) ∙ ap (λ z. front ++ z) (sym (map-append (def_behind (length front)) g.defs (d ∷ []))) in
        let f : rebound (map (bound_behind (length front)) g.bound) (spelled bytes name) (length (all_behind g.defs)) ≡ map (bound_behind (length front)) (rebound g.bound (spelled bytes name) (length g.defs)) =
        ap (rebound (map (bound_behind (length front)) g.bound) (spelled bytes name)) n ∙ rebound_behind (length front) g.bound (spelled bytes name) (length g.defs) in
        ap (λ z. record { defs = z; bound = rebound (map (bound_behind (length front)) g.bound) (spelled bytes name) (length (all_behind g.defs)) }) e
        ∙ ap (λ z. record { defs = all_behind (g.defs ++ d ∷ []); bound = z }) f

    made_behind : (g : Gates) (name : Span) (r : Result Def ReadFault)
        → and_then (on_ok (def_behind (length front)) r) (λ d. Ok (with_gate bytes (gates_behind front g) name d)) ≡ on_ok (gates_behind front) (and_then r (λ d. Ok (with_gate bytes g name d)))
    made_behind g name (Ok d) = ap Ok (gate_behind g name d)
    made_behind g name (Err e) = refl

    defined_behind : (g : Gates) (name : Span) (params args : List Span) (body : List Stated) → defined bytes (gates_behind front g) name params args body ≡ on_ok (gates_behind front) (defined bytes g name params args body)
    defined_behind g name params args body =
        ap (λ r. and_then r (λ d. Ok (with_gate bytes (gates_behind front g) name d))) (def_made g.defs g.bound params args body) ∙ made_behind g name (def_of bytes g.defs g.bound params args body)

    -- all definitions are as they are with nothing before them
    pub all_defined_behind : (g : Gates) (ss : List Statement) → all_defined bytes (gates_behind front g) ss ≡ on_ok (gates_behind front) (all_defined bytes g ss)
    unfolding all_defined
    all_defined_behind g [] = refl
    all_defined_behind g (statement.Include p ∷ ss) = all_defined_behind g ss
    all_defined_behind g (statement.Qreg name size ∷ ss) = all_defined_behind g ss
    all_defined_behind g (statement.Creg name size ∷ ss) = all_defined_behind g ss
    all_defined_behind g (statement.Gate name params args body ∷ ss) =
        ap (λ r. and_then r (λ x. all_defined bytes x ss)) (defined_behind g name params args body) ∙ by (defined bytes g name params args body) (λ x. all_defined_behind x ss)
      where
        by : (r : Result Gates ReadFault) → ((x : Gates) → all_defined bytes (gates_behind front x) ss ≡ on_ok (gates_behind front) (all_defined bytes x ss))
            → and_then (on_ok (gates_behind front) r) (λ x. all_defined bytes x ss) ≡ on_ok (gates_behind front) (and_then r (λ x. all_defined bytes x ss))
        by (Ok x) h = h x
        by (Err e) h = refl
    all_defined_behind g (statement.Apply c ∷ ss) = all_defined_behind g ss
    all_defined_behind g (statement.Barrier xs ∷ ss) = all_defined_behind g ss
