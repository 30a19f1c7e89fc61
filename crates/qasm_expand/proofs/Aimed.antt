-- The steps of aiming in order, and what is known of what is aimed.
use Rattle.std.proofs.Common.{◌≡◌, ℕ, zero, suc, ◌+◌, ◌<◌, ◌≤◌, Bool, true, false, not, cond, List, [], ◌∷◌, Option, Some, None, Result, Ok, Err, option_map, refl, sym, ap, subst, ◌∙◌, ◌&&◌, ◌||◌, nat_eq, nat_lt, nat_le, if◌then◌else◌, length, get_or, arith, true≢false}
use Rattle.std.specs.Prelude.{bytes_eq, All}
use Rattle.std.proofs.lemmas.List.{length-map}
use Rattle.std.proofs.lemmas.Bool.Decides.{nat_tests}
use Rattle.std.proofs.lemmas.Bool.{eqb-true}
use Rattle.qasm_parse.specs.declared.program.Span.{Span}
use Rattle.qasm_parse.specs.declared.program.Arg.{Arg}
use Rattle.qasm_parse.specs.declared.program.Call.{Call}
use Rattle.qasm_parse.specs.declared.program.Called.{Called as Word}
use Rattle.qasm_parse.specs.declared.program.Called.TheVariants.{U as UWord, Cx as CxWord, Named}
use Rattle.qasm_expand.specs.declared.defs.Called.{Called}
use Rattle.qasm_expand.specs.declared.defs.Called.TheVariants.{U, Cx, Def as ADef}
use Rattle.qasm_expand.specs.declared.defs.Def.{Def}
use Rattle.qasm_expand.specs.declared.target.Target.{Target}
use Rattle.qasm_expand.specs.declared.target.Target.TheVariants.{Single, Whole}
use Rattle.qasm_expand.specs.declared.target.Aimed.{Aimed}
use Rattle.qasm_expand.specs.declared.fault.FaultName.{FaultName}
use Rattle.qasm_expand.specs.declared.fault.FaultName.TheVariants.{Unknown, Arity, Range, Sizes, RepeatedQubit, TooMany}
use Rattle.qasm_expand.specs.declared.fault.ReadFault.{ReadFault}
use Rattle.qasm_expand.specs.declared.fault.ReadFault.TheVariants.{Fault, Memory}
use Rattle.qasm_expand.specs.Tables.{Register, Bound, register_of, registers_sound, qubit_count, is_among, all_different, meaning, bound_sound, is_earlier, params_of, args_of, size_of}
use Rattle.qasm_expand.specs.Checks.{spelled, number_at, and_then, fault, or_fault, refuse, unless, Known}
use Rattle.qasm_expand.specs.Gates.{before, arg_names, called, wrong_arity}
use Rattle.qasm_expand.specs.Targets.{indexed, of_register, target_of, targets_of, first_uneven, index_count, qubit_at, qubits_at, repeat_at, or_else, repeat_from, too_many, aimed}
use Rattle.qasm_expand.specs.Aims.{Fits, Within}
use Rattle.qasm_expand.proofs.Aiming.{both_left, both_right, register_within, All-cons, even_within}

-- ---- faults that are handed on
abbrev pub HandsOn : {A : Type 0} → Result A ReadFault → ReadFault → Type 0
HandsOn r x = (y : ReadFault) × (r ≡ Err y) × (y ≡ x)

known_fault : {A : Type 0} (P : Result A ReadFault → Type 0) (x : ReadFault) → P (Err x) → Known (Err x) P
known_fault P (Fault name at) h = h
known_fault P Memory h = tt

pub known_err : {A : Type 0} (P : Result A ReadFault → Type 0) (x : ReadFault) (r : Result A ReadFault) → HandsOn r x → P (Err x) → Known r P
known_err P x r (y, e, g) h = subst (λ z. Known z P) (sym (e ∙ ap Err g)) (known_fault P x h)

known_then : {A B : Type 0} (P : Result A ReadFault → Type 0) (Q : Result B ReadFault → Type 0) (x : ReadFault) → (Q (Err x) → P (Err x)) → Known (Err x) Q → Known (Err x) P
known_then P Q (Fault name at) f h = f h
known_then P Q Memory f h = tt

pub known_on : {A B : Type 0} (P : Result A ReadFault → Type 0) (Q : Result B ReadFault → Type 0) (x : ReadFault) (r : Result A ReadFault) → HandsOn r x → (Q (Err x) → P (Err x)) → Known (Err x) Q → Known r P
known_on P Q x r (y, e, g) f h = subst (λ z. Known z P) (sym (e ∙ ap Err g)) (known_then P Q x f h)

ok_same : {A : Type 0} (x y : A) → ◌≡◌ {A = Result A ReadFault} (Ok x) (Ok y) → x ≡ y
ok_same x y e = cc

-- ---- the steps
then_ok : {A B : Type 0} (r : Result A ReadFault) (k : A → Result B ReadFault) (b : B) → and_then r k ≡ Ok b → (a : A) × (r ≡ Ok a) × (k a ≡ Ok b)
then_ok (Ok a) k b e = (a, refl, e)
then_ok (Err f) k b e = cc

refuse_ok : {A : Type 0} (b : Bool) (name : FaultName) (p : Span) (r : Result A ReadFault) (x : A) → refuse b name p r ≡ Ok x → (b ≡ false) × (r ≡ Ok x)
refuse_ok true name p r x e = cc
refuse_ok false name p r x e = (refl, e)

unless_ok : {A : Type 0} (o : Option Span) (name : FaultName) (r : Result A ReadFault) (x : A) → unless name o r ≡ Ok x → (o ≡ None) × (r ≡ Ok x)
unless_ok (Some p) name r x e = cc
unless_ok None name r x e = (refl, e)

counted_fault : {A : Type 0} (o q : Option Span) (n : ℕ) (r : Result A ReadFault) (f : ReadFault) → unless Sizes o (unless RepeatedQubit q (Ok n)) ≡ Err f → unless Sizes o (unless RepeatedQubit q r) ≡ Err f
counted_fault (Some p) q n r f e = cc
counted_fault None (Some p) n r f e = cc
counted_fault None None n r f e = cc

counted_all : {A : Type 0} (o q : Option Span) (n m : ℕ) (r : Result A ReadFault) → unless Sizes o (unless RepeatedQubit q (Ok n)) ≡ Ok m → (unless Sizes o (unless RepeatedQubit q r) ≡ r) × (n ≡ m)
counted_all (Some p) q n m r e = cc
counted_all None (Some p) n m r e = cc
counted_all None None n m r e = (refl, cc)

module _ (bytes : List ℕ) (rs : List Register) (defs : List Def) (bound : List Bound) (made : ℕ) (c : Call) where
  abbrev pub ending : Called → List Target → Result Aimed ReadFault
  ending gate ts = refuse (too_many defs gate made (index_count ts)) TooMany c.at (Ok (record { gate = gate; targets = ts }))

  abbrev pub checked : Called → List Target → Result Aimed ReadFault
  checked gate ts = unless Sizes (first_uneven None ts (arg_names c.args)) (unless RepeatedQubit (repeat_from ts (arg_names c.args) 0 (index_count ts)) (ending gate ts))

  abbrev pub resolved : Called → Result Aimed ReadFault
  resolved gate = refuse (wrong_arity defs gate (length c.params) (length c.args)) Arity c.at (and_then (targets_of bytes rs c.args) (λ ts. checked gate ts))

  pub no_gate : (f : ReadFault) → Err f ≡ called bytes bound c.gate c.at → Err f ≡ aimed bytes rs defs bound made c
  no_gate f e = ap (λ r. and_then r resolved) e

  module _ (gate : Called) (is : Ok gate ≡ called bytes bound c.gate c.at) (b : Bool) (arity : b ≡ wrong_arity defs gate (length c.params) (length c.args)) where
    refused : refuse b Arity c.at (and_then (targets_of bytes rs c.args) (λ ts. checked gate ts)) ≡ aimed bytes rs defs bound made c
    refused = ap (λ b. refuse b Arity c.at (and_then (targets_of bytes rs c.args) (λ ts. checked gate ts))) arity ∙ ap (λ r. and_then r resolved) is

    pub bad_arity : b ≡ true → fault Arity c.at ≡ aimed bytes rs defs bound made c
    bad_arity e = ap (λ b. refuse b Arity c.at (and_then (targets_of bytes rs c.args) (λ ts. checked gate ts))) (sym e) ∙ refused

    module _ (good : b ≡ false) where
      taken : and_then (targets_of bytes rs c.args) (λ ts. checked gate ts) ≡ aimed bytes rs defs bound made c
      taken = ap (λ b. refuse b Arity c.at (and_then (targets_of bytes rs c.args) (λ ts. checked gate ts))) (sym good) ∙ refused

      pub no_targets : (f : ReadFault) → Err f ≡ targets_of bytes rs c.args → Err f ≡ aimed bytes rs defs bound made c
      no_targets f e = ap (λ r. and_then r (λ ts. checked gate ts)) e ∙ taken

      module _ (ts : List Target) (are : Ok ts ≡ targets_of bytes rs c.args) (r : Result ℕ ReadFault)
          (counted : r ≡ unless Sizes (first_uneven None ts (arg_names c.args)) (unless RepeatedQubit (repeat_from ts (arg_names c.args) 0 (index_count ts)) (Ok (index_count ts)))) where
        at_targets : checked gate ts ≡ aimed bytes rs defs bound made c
        at_targets = ap (λ r. and_then r (λ ts. checked gate ts)) are ∙ taken

        pub no_count : (f : ReadFault) → r ≡ Err f → Err f ≡ aimed bytes rs defs bound made c
        no_count f e = sym (counted_fault (first_uneven None ts (arg_names c.args)) (repeat_from ts (arg_names c.args) 0 (index_count ts)) (index_count ts) (ending gate ts) f (sym counted ∙ e)) ∙ at_targets

        module _ (n : ℕ) (ok : r ≡ Ok n) (m : Bool) (many : m ≡ too_many defs gate made n) where
          ended : refuse m TooMany c.at (Ok (record { gate = gate; targets = ts })) ≡ aimed bytes rs defs bound made c
          ended =
              let p = counted_all (first_uneven None ts (arg_names c.args)) (repeat_from ts (arg_names c.args) 0 (index_count ts)) (index_count ts) n (ending gate ts) (sym counted ∙ ok) in
              ap (λ b. refuse b TooMany c.at (Ok (record { gate = gate; targets = ts }))) (many ∙ ap (λ n. too_many defs gate made n) (sym p.1)) ∙ sym p.0 ∙ at_targets

          pub too_much : m ≡ true → fault TooMany c.at ≡ aimed bytes rs defs bound made c
          too_much e = ap (λ b. refuse b TooMany c.at (Ok (record { gate = gate; targets = ts }))) (sym e) ∙ ended

          pub all_aimed : m ≡ false → Ok (record { gate = gate; targets = ts }) ≡ aimed bytes rs defs bound made c
          all_aimed e = ap (λ b. refuse b TooMany c.at (Ok (record { gate = gate; targets = ts }))) (sym e) ∙ ended

-- ---- what is known of what is aimed
pub record Parts (bytes : List ℕ) (rs : List Register) (defs : List Def) (bound : List Bound) (made : ℕ) (c : Call) (a : Aimed) : Type 0 where
  pub gate_is : called bytes bound c.gate c.at ≡ Ok a.gate
  pub arity : wrong_arity defs a.gate (length c.params) (length c.args) ≡ false
  pub targets_are : targets_of bytes rs c.args ≡ Ok a.targets
  pub even : first_uneven None a.targets (arg_names c.args) ≡ None
  pub once : repeat_from a.targets (arg_names c.args) 0 (index_count a.targets) ≡ None
  pub few : too_many defs a.gate made (index_count a.targets) ≡ false

pub parts : (bytes : List ℕ) (rs : List Register) (defs : List Def) (bound : List Bound) (made : ℕ) (c : Call) (a : Aimed) → aimed bytes rs defs bound made c ≡ Ok a → Parts bytes rs defs bound made c a
parts bytes rs defs bound made c a e =
    let g = then_ok (called bytes bound c.gate c.at) (resolved bytes rs defs bound made c) a e in
    let r = refuse_ok (wrong_arity defs g.0 (length c.params) (length c.args)) Arity c.at (and_then (targets_of bytes rs c.args) (λ ts. checked bytes rs defs bound made c g.0 ts)) a g.2 in
    let t = then_ok (targets_of bytes rs c.args) (λ ts. checked bytes rs defs bound made c g.0 ts) a r.1 in
    let s = unless_ok (first_uneven None t.0 (arg_names c.args)) Sizes (unless RepeatedQubit (repeat_from t.0 (arg_names c.args) 0 (index_count t.0)) (ending bytes rs defs bound made c g.0 t.0)) a t.2 in
    let v = unless_ok (repeat_from t.0 (arg_names c.args) 0 (index_count t.0)) RepeatedQubit (ending bytes rs defs bound made c g.0 t.0) a s.1 in
    let f = refuse_ok (too_many defs g.0 made (index_count t.0)) TooMany c.at (Ok (record { gate = g.0; targets = t.0 })) a v.1 in
    subst (Parts bytes rs defs bound made c) (ok_same (record { gate = g.0; targets = t.0 }) a f.1) (record { gate_is = g.1; arity = r.0; targets_are = t.1; even = s.0; once = v.0; few = f.0 })

-- the gate stands among the others
below_choice : (b : Bool) (n m d : ℕ) (o : Option ℕ) → nat_lt m n ≡ true → cond b (Some m) o ≡ Some d → (o ≡ Some d → nat_lt d n ≡ true) → nat_lt d n ≡ true
below_choice true n m d o l e h = subst (λ m. nat_lt m n ≡ true) (the_same e) l
  where
    the_same : Some m ≡ Some d → m ≡ d
    the_same e = cc
below_choice false n m d o l e h = h e

meaning_below : (n : ℕ) (bs : List Bound) (name : List ℕ) (d : ℕ) → bound_sound n bs ≡ true → meaning bs name ≡ Some d → nat_lt d n ≡ true
unfolding meaning bound_sound
meaning_below n [] name d s e = cc
meaning_below n (b ∷ bs) name d s e = below_choice (bytes_eq b.name name) n b.def d (meaning bs name) (both_left _ _ s) e (λ h. meaning_below n bs name d (both_right _ _ s) h)

named_earlier : (n : ℕ) (o : Option ℕ) (p : Span) (gate : Called) → ((d : ℕ) → o ≡ Some d → nat_lt d n ≡ true) → or_fault Unknown p (option_map ADef o) ≡ Ok gate → is_earlier n gate ≡ true
unfolding is_earlier
named_earlier n (Some d) p gate h e = subst (λ g. is_earlier n g ≡ true) (ok_same (ADef d) gate e) (h d refl)
named_earlier n None p gate h e = cc

pub gate_earlier : (n : ℕ) (bytes : List ℕ) (bs : List Bound) (w : Word) (p : Span) (gate : Called) → bound_sound n bs ≡ true → called bytes bs w p ≡ Ok gate → is_earlier n gate ≡ true
unfolding is_earlier
gate_earlier n bytes bs UWord p gate s e = let g : U ≡ gate = cc in ap (λ g. is_earlier n g) (sym g)
gate_earlier n bytes bs CxWord p gate s e = let g : Cx ≡ gate = cc in ap (λ g. is_earlier n g) (sym g)
gate_earlier n bytes bs Named p gate s e = named_earlier n (meaning bs (spelled bytes p)) p gate (λ d h. meaning_below n bs (spelled bytes p) d s h) e

-- it takes so many
right_numbers : (a b c d : ℕ) → (not (nat_eq a b) || not (nat_eq c d)) ≡ false → (a ≡ b) × (c ≡ d)
right_numbers a b c d e = (grind (arith, nat_tests), grind (arith, nat_tests))

pub right_arity : (defs : List Def) (gate : Called) (params args : ℕ) → wrong_arity defs gate params args ≡ false → (params ≡ params_of defs gate) × (args ≡ args_of defs gate)
right_arity defs gate params args e = right_numbers params (params_of defs gate) args (args_of defs gate) e

few_enough : (a b : ℕ) → (nat_lt 4096 a || nat_lt 65536 b) ≡ false → (a ≤ 4096) × (b ≤ 65536)
few_enough a b e = (grind (arith, nat_tests), grind (arith, nat_tests))

pub not_many : (defs : List Def) (gate : Called) (made more : ℕ) → too_many defs gate made more ≡ false → (size_of defs gate ≤ 4096) × (made + more ≤ 65536)
not_many defs gate made more e = few_enough (size_of defs gate) (made + more) e

-- the targets are among the qubits
place_below : (n first size place : ℕ) → first + size ≤ n → nat_le size place ≡ false → first + place < n
place_below n first size place h e = grind (arith, nat_tests)

single_fits : (n first size place : ℕ) (name : Span) (t : Target) → first + size ≤ n → refuse (nat_le size place) Range name (Ok (Single (first + place))) ≡ Ok t → Fits n t
single_fits n first size place name t h e =
    let r = refuse_ok (nat_le size place) Range name (Ok (Single (first + place))) t e in
    subst (Fits n) (ok_same (Single (first + place)) t r.1) (place_below n first size place h r.0)

indexed_fits : (n : ℕ) (r : Register) (bytes : List ℕ) (name : Span) (index : Option Span) (t : Target) → r.first + r.size ≤ n → indexed r bytes name index ≡ Ok t → Fits n t
indexed_fits n r bytes name None t h e = subst (Fits n) (ok_same (Whole r.first r.size) t e) h
indexed_fits n r bytes name (Some p) t h e = single_fits n r.first r.size (number_at bytes p) name t h e

is_quantum : (b : Bool) → not b ≡ false → b ≡ true
is_quantum true e = refl
is_quantum false e = sym e

of_register_fits : (n : ℕ) (o : Option Register) (bytes : List ℕ) (a : Arg) (t : Target) → ((r : Register) → o ≡ Some r → r.quantum ≡ true → r.first + r.size ≤ n) → of_register o bytes a ≡ Ok t → Fits n t
of_register_fits n (Some r) bytes a t h e =
    let q = refuse_ok (not r.quantum) Unknown a.name (indexed r bytes a.name a.index) t e in
    indexed_fits n r bytes a.name a.index t (h r refl (is_quantum r.quantum q.0)) q.1
of_register_fits n None bytes a t h e = cc

pub record Fitting (n len : ℕ) (ts : List Target) : Type 0 where
  pub fit : All (Fits n) ts
  pub same : length ts ≡ len

before_ok : (t : Target) (r : Result (List Target) ReadFault) (ts : List Target) → before t r ≡ Ok ts → (us : List Target) × (r ≡ Ok us) × (t ∷ us ≡ ts)
before_ok t (Ok us) ts e = (us, refl, cc)
before_ok t (Err f) ts e = cc

pub targets_fit : (bytes : List ℕ) (rs : List Register) (args : List Arg) (ts : List Target) → registers_sound rs ≡ true → targets_of bytes rs args ≡ Ok ts → Fitting (qubit_count rs) (length args) ts
unfolding targets_of
targets_fit bytes rs [] ts s e = let n : [] ≡ ts = cc in subst (Fitting (qubit_count rs) 0) n (record { fit = λ k d h. absurd (omega arith); same = refl })
targets_fit bytes rs (a ∷ args) ts s e =
    let t = then_ok (target_of bytes rs a) (λ t. before t (targets_of bytes rs args)) ts e in
    let u = before_ok t.0 (targets_of bytes rs args) ts t.2 in
    let f = targets_fit bytes rs args u.0 s u.1 in
    let one = of_register_fits (qubit_count rs) (register_of rs (spelled bytes a.name)) bytes a t.0 (λ r h q. register_within rs (spelled bytes a.name) r s h q) t.1 in
    subst (Fitting (qubit_count rs) (length (a ∷ args))) u.2 (record { fit = All-cons (Fits (qubit_count rs)) t.0 u.0 one f.fit; same = ap suc f.same })

-- no qubit is repeated
pub record Apart (seen qs : List ℕ) : Type 0 where
  pub different : all_different qs ≡ true
  pub others : (q : ℕ) → is_among q qs ≡ true → is_among q seen ≡ false

repeat_choice : (b : Bool) (p : Span) (o : Option Span) → (if b then Some p else o) ≡ None → (b ≡ false) × (o ≡ None)
repeat_choice true p o e = cc
repeat_choice false p o e = (refl, e)

same_number : (q : ℕ) → nat_eq q q ≡ true
same_number q = grind (arith, nat_tests)

apart_head : (q : ℕ) (qs seen : List ℕ) (b : Bool) → is_among q qs ≡ b → ((x : ℕ) → is_among x qs ≡ true → is_among x (q ∷ seen) ≡ false) → not b ≡ true
unfolding is_among
apart_head q qs seen false e h = refl
apart_head q qs seen true e h = absurd (true≢false (sym (ap (λ b. if b then true else is_among q seen) (same_number q)) ∙ h q e))

number_same : (x q : ℕ) → nat_eq x q ≡ true → x ≡ q
number_same x q e = eqb-true x q e

apart_choice : (x q : ℕ) (qs seen : List ℕ) (b : Bool) → nat_eq x q ≡ b → (if b then true else is_among x qs) ≡ true → is_among q seen ≡ false → ((y : ℕ) → is_among y qs ≡ true → is_among y (q ∷ seen) ≡ false) → is_among x seen ≡ false
unfolding is_among
apart_choice x q qs seen true n e a h = let s = number_same x q n in ap (λ k. is_among k seen) s ∙ a
apart_choice x q qs seen false n e a h = sym (ap (λ b. if b then true else is_among x seen) n) ∙ h x e

pub apart : (seen qs : List ℕ) (ps : List Span) → length qs ≡ length ps → repeat_at seen qs ps ≡ None → Apart seen qs
unfolding repeat_at all_different is_among
apart seen [] ps l e = record { different = refl; others = λ q h. absurd (true≢false (sym h)) }
apart seen (q ∷ qs) [] l e = absurd (omega arith)
apart seen (q ∷ qs) (p ∷ ps) l e =
    let c = repeat_choice (is_among q seen) p (repeat_at (q ∷ seen) qs ps) e in
    let a = apart (q ∷ seen) qs ps (omega arith) c.1 in
    record {
      different = ap (λ b. b && all_different qs) (apart_head q qs seen (is_among q qs) refl a.others) ∙ a.different;
      others = λ x h. apart_choice x q qs seen (nat_eq x q) refl h c.0 a.others;
    }

or_else_none : (o p : Option Span) → or_else o p ≡ None → (o ≡ None) × (p ≡ None)
or_else_none (Some a) p e = cc
or_else_none None p e = (refl, e)

repeat_none_at : (ts : List Target) (ps : List Span) (i n j : ℕ) → repeat_from ts ps i n ≡ None → j < n → repeat_at [] (qubits_at ts (i + j)) ps ≡ None
unfolding repeat_from
repeat_none_at ts ps i zero j e h = absurd (omega arith)
repeat_none_at ts ps i (suc n) zero e h = let z : i + 0 ≡ i = omega arith in ap (λ k. repeat_at [] (qubits_at ts k) ps) z ∙ (or_else_none (repeat_at [] (qubits_at ts i) ps) (repeat_from ts ps (i + 1) n) e).0
repeat_none_at ts ps i (suc n) (suc j) e h =
    let z : i + suc j ≡ (i + 1) + j = omega arith in
    ap (λ k. repeat_at [] (qubits_at ts k) ps) z ∙ repeat_none_at ts ps (i + 1) n j (or_else_none (repeat_at [] (qubits_at ts i) ps) (repeat_from ts ps (i + 1) n) e).1 (omega arith)

repeat_none : (ts : List Target) (ps : List Span) (n j : ℕ) → repeat_from ts ps 0 n ≡ None → j < n → repeat_at [] (qubits_at ts j) ps ≡ None
repeat_none ts ps n j e h = let z : j ≡ 0 + j = omega arith in ap (λ k. repeat_at [] (qubits_at ts k) ps) z ∙ repeat_none_at ts ps 0 n j e h

-- so at each index all qubits are there, and different
pub record Ready (n : ℕ) (args : List Arg) (ts : List Target) : Type 0 where
  pub same : length ts ≡ length args
  pub fit : All (Fits n) ts
  pub within : (i : ℕ) → i < index_count ts → All (Within n i) ts
  pub different : (i : ℕ) → i < index_count ts → all_different (qubits_at ts i) ≡ true

pub ready : (bytes : List ℕ) (rs : List Register) (defs : List Def) (bound : List Bound) (made : ℕ) (c : Call) (a : Aimed) → registers_sound rs ≡ true → Parts bytes rs defs bound made c a → Ready (qubit_count rs) c.args a.targets
ready bytes rs defs bound made c a s p =
    let f = targets_fit bytes rs c.args a.targets s p.targets_are in
    let names = length-map c.args (λ (a : Arg). a.name) in
    let same : length a.targets ≡ length (arg_names c.args) = f.same ∙ sym names in
    record {
      same = f.same;
      fit = f.fit;
      within = λ i h. even_within (qubit_count rs) a.targets (arg_names c.args) i same p.even f.fit h;
      different = λ i h. (apart [] (qubits_at a.targets i) (arg_names c.args) (length-map a.targets (qubit_at i) ∙ same) (repeat_none a.targets (arg_names c.args) (index_count a.targets) i p.once h)).different;
    }

pub fits_more : (n m : ℕ) (ts : List Target) → n ≤ m → All (Fits n) ts → All (Fits m) ts
fits_more n m ts h f k d l = one (get_or ts k d) (f k d l)
  where
    one : (t : Target) → Fits n t → Fits m t
    one (Single q) f = omega arith
    one (Whole q size) f = omega arith
