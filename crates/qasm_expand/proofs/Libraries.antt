-- Definitions one behind the other, and names that are kept or added.
use Rattle.std.proofs.Common.{is_some, ◌≡◌, ◌≢◌, ℕ, ◌+◌, ◌<◌, ◌≤◌, refl, ap, sym, ◌∙◌, subst, arith, Bool, true, false, ◌&&◌, nat_lt, Option, Some, None, List, [], ◌∷◌, ◌++◌, length, drop, get_or, Result, Ok, Err}
use Rattle.std.proofs.lemmas.List.{drop_more, drop_all}
use Rattle.std.proofs.lemmas.Bool.Decides.{nat_tests}
use Rattle.qasm_parse.specs.declared.program.Span.{Span}
use Rattle.qasm_parse.specs.declared.program.Inner.{Inner as Stated}
use Rattle.qasm_parse.specs.declared.program.Statement.{Statement}
use Rattle.qasm_parse.specs.declared.program.Statement.TheVariants as statement
use Rattle.qasm_expand.specs.declared.defs.Def.{Def}
use Rattle.qasm_expand.specs.declared.state.State.{State}
use Rattle.qasm_expand.specs.declared.state.Shelf.{Shelf}
use Rattle.qasm_expand.specs.declared.fault.ReadFault.{ReadFault}
use Rattle.qasm_expand.specs.declared.fault.ReadFault.TheVariants.{Fault, Memory}
use Rattle.qasm_expand.specs.Tables.{Bound, meaning, bound_sound, defs_sound}
use Rattle.qasm_expand.specs.Checks.{and_then, Known}
use Rattle.qasm_expand.specs.Library.{library_text, TextIs, Gates, defined, all_defined, with_library, kept_or, with_all, Includes, first, again}
use Rattle.qasm_expand.specs.States.{Became, Succeeds, IsSound}
use Rattle.qasm_expand.proofs.LibraryText.{no_library_fault, no_gate_fault}

became_eq : {A B : Type 0} (r : Result A ReadFault) (new : B) (x y : Result B ReadFault) → x ≡ y → Became r new (λ z. z ≡ x) → Became r new (λ z. z ≡ y)
became_eq (Ok u) new x y e h = h ∙ e
became_eq (Err (Fault name at)) new x y e h = h ∙ e
became_eq (Err Memory) new x y e h = tt

-- ---- one statement
then_same : (r : Result Gates ReadFault) → and_then r (λ g. Ok g) ≡ r
then_same (Ok g) = refl
then_same (Err f) = refl

pub one_gate : (bytes : List ℕ) (g : Gates) (s : Statement) (name : Span) (params args : List Span) (body : List Stated) → s ≡ statement.Gate name params args body
    → all_defined bytes g (s ∷ []) ≡ defined bytes g name params args body
unfolding all_defined
one_gate bytes g s name params args body e = ap (λ z. all_defined bytes g (z ∷ [])) e ∙ then_same (defined bytes g name params args body)

pub no_gate : (bytes : List ℕ) (g : Gates) (s : Statement) → ((name : Span) (params args : List Span) (body : List Stated) → s ≢ statement.Gate name params args body) → Ok g ≡ all_defined bytes g (s ∷ [])
unfolding all_defined
no_gate bytes g (statement.Include p) h = refl
no_gate bytes g (statement.Qreg name size) h = refl
no_gate bytes g (statement.Creg name size) h = refl
no_gate bytes g (statement.Gate name params args body) h = absurd (h name params args body refl)
no_gate bytes g (statement.Apply c) h = refl
no_gate bytes g (statement.Barrier xs) h = refl

pub gate_defined : (bytes : List ℕ) (g new : Gates) (s : Statement) (name : Span) (params args ps xs : List Span) (body ss : List Stated) (r : Result (Unit {0}) ReadFault) → s ≡ statement.Gate name params args body → ps ≡ params → xs ≡ args → ss ≡ body
    → Became r new (λ z. z ≡ defined bytes g name ps xs ss) → Became r new (λ z. z ≡ all_defined bytes g (s ∷ []))
gate_defined bytes g new s name params args ps xs body ss r e d c b h =
    became_eq r new (defined bytes g name ps xs ss) (all_defined bytes g (s ∷ []))
    (ap (λ z. defined bytes g name z xs ss) d ∙ ap (λ z. defined bytes g name params z ss) c ∙ ap (λ z. defined bytes g name params args z) b ∙ sym (one_gate bytes g s name params args body e)) h

-- ---- all statements
step_defined : (bytes : List ℕ) (g : Gates) (s : Statement) (ss : List Statement) → all_defined bytes g (s ∷ ss) ≡ and_then (all_defined bytes g (s ∷ [])) (λ x. all_defined bytes x ss)
unfolding all_defined
step_defined bytes g (statement.Include p) ss = refl
step_defined bytes g (statement.Qreg name size) ss = refl
step_defined bytes g (statement.Creg name size) ss = refl
step_defined bytes g (statement.Gate name params args body) ss = sym (ap (λ z. and_then z (λ x. all_defined bytes x ss)) (then_same (defined bytes g name params args body)))
step_defined bytes g (statement.Apply c) ss = refl
step_defined bytes g (statement.Barrier xs) ss = refl

-- all definitions come to what those from the i-th on make of these gates
abbrev pub Defining : List ℕ → Gates → List Statement → Gates → ℕ → Type 0
Defining bytes g0 ss g i = all_defined bytes g0 ss ≡ all_defined bytes g (drop i ss)

pub defining_more : (bytes : List ℕ) (g0 g new : Gates) (ss : List Statement) (s : Statement) (i : ℕ) → Defining bytes g0 ss g i → i < length ss → s ≡ get_or ss i s → Ok new ≡ all_defined bytes g (s ∷ []) → Defining bytes g0 ss new (i + 1)
defining_more bytes g0 g new ss s i w h e t =
    w ∙ ap (all_defined bytes g) (drop_more ss i s h) ∙ step_defined bytes g (get_or ss i s) (drop (i + 1) ss)
    ∙ ap (λ z. and_then (all_defined bytes g (z ∷ [])) (λ x. all_defined bytes x (drop (i + 1) ss))) (sym e) ∙ ap (λ z. and_then z (λ x. all_defined bytes x (drop (i + 1) ss))) (sym t)

pub defining_end : (bytes : List ℕ) (g0 g : Gates) (ss : List Statement) (i : ℕ) → Defining bytes g0 ss g i → length ss ≤ i → Ok g ≡ all_defined bytes g0 ss
unfolding all_defined
defining_end bytes g0 g ss i w h = sym (w ∙ ap (all_defined bytes g) (drop_all i ss h))

pub defining_fault : (bytes : List ℕ) (g0 g new : Gates) (ss : List Statement) (s : Statement) (i : ℕ) (f : ReadFault) → Defining bytes g0 ss g i → i < length ss → s ≡ get_or ss i s
    → Became {A = Unit {0}} (Err f) new (λ z. z ≡ all_defined bytes g (s ∷ [])) → Became {A = Unit {0}} (Err f) new (λ z. z ≡ all_defined bytes g0 ss)
defining_fault bytes g0 g new ss s i (Fault name at) w h e t =
    sym (w ∙ ap (all_defined bytes g) (drop_more ss i s h) ∙ step_defined bytes g (get_or ss i s) (drop (i + 1) ss)
    ∙ ap (λ z. and_then (all_defined bytes g (z ∷ [])) (λ x. all_defined bytes x (drop (i + 1) ss))) (sym e) ∙ ap (λ z. and_then z (λ x. all_defined bytes x (drop (i + 1) ss))) (sym t))
defining_fault bytes g0 g new ss s i Memory w h e t = tt

-- what is kept or added is sound
both : (a b : Bool) → (a && b) ≡ true → (a ≡ true) × (b ≡ true)
both true b e = (refl, e)
both false b e = absurd (cc)

join : (a b : Bool) → a ≡ true → b ≡ true → (a && b) ≡ true
join true b e f = f
join false b e f = absurd (cc)

lt_more : (d n m : ℕ) → n ≤ m → nat_lt d n ≡ true → nat_lt d m ≡ true
lt_more d n m h e = grind (arith, nat_tests)

bound_more : (n m : ℕ) (bs : List Bound) → n ≤ m → bound_sound n bs ≡ true → bound_sound m bs ≡ true
unfolding bound_sound
bound_more n m [] h e = refl
bound_more n m (b ∷ bs) h e = let p = both (nat_lt b.def n) (bound_sound n bs) e in join (nat_lt b.def m) (bound_sound m bs) (lt_more b.def n m h p.0) (bound_more n m bs h p.1)

bound_behind : (n : ℕ) (bs : List Bound) (b : Bound) → bound_sound n bs ≡ true → nat_lt b.def n ≡ true → bound_sound n (bs ++ b ∷ []) ≡ true
unfolding bound_sound
bound_behind n [] b e d = join (nat_lt b.def n) true d refl
bound_behind n (a ∷ bs) b e d = let p = both (nat_lt a.def n) (bound_sound n bs) e in join (nat_lt a.def n) (bound_sound n (bs ++ b ∷ [])) p.0 (bound_behind n bs b p.1 d)

kept_sound : (n : ℕ) (m : Option ℕ) (bs : List Bound) (b : Bound) → bound_sound n bs ≡ true → nat_lt b.def n ≡ true → bound_sound n (kept_or m bs b) ≡ true
kept_sound n (Some d) bs b e f = e
kept_sound n None bs b e f = bound_behind n bs b e f

all_sound : (n : ℕ) (old bs : List Bound) → bound_sound n old ≡ true → bound_sound n bs ≡ true → bound_sound n (with_all old bs) ≡ true
unfolding with_all bound_sound
all_sound n old [] e f = e
all_sound n old (b ∷ bs) e f = let p = both (nat_lt b.def n) (bound_sound n bs) f in all_sound n (kept_or (meaning old b.name) old b) bs (kept_sound n (meaning old b.name) old b e p.0) p.1

-- no gate goes away
more_defs : (bytes : List ℕ) (g : Gates) (ss : List Statement) (new : Gates) → Ok new ≡ all_defined bytes g ss → length g.defs ≤ length new.defs
unfolding all_defined
more_defs bytes g [] new e = let d : new ≡ g = same e in subst (λ z. length g.defs ≤ length z.defs) (sym d) (omega arith) where
  same : ◌≡◌ {A = Result Gates ReadFault} (Ok new) (Ok g) → new ≡ g
  same e = cc
more_defs bytes g (statement.Include p ∷ ss) new e = more_defs bytes g ss new e
more_defs bytes g (statement.Qreg name size ∷ ss) new e = more_defs bytes g ss new e
more_defs bytes g (statement.Creg name size ∷ ss) new e = more_defs bytes g ss new e
more_defs bytes g (statement.Gate name params args body ∷ ss) new e = by_def (Rattle.qasm_expand.specs.Gates.def_of bytes g.defs g.bound params args body) e (λ d k. more_defs bytes (Rattle.qasm_expand.specs.Library.with_gate bytes g name d) ss new k) where
  by_def : (r : Result Def ReadFault) → Ok new ≡ and_then (and_then r (λ d. Ok (Rattle.qasm_expand.specs.Library.with_gate bytes g name d))) (λ x. all_defined bytes x ss)
      → ((d : Def) → Ok new ≡ all_defined bytes (Rattle.qasm_expand.specs.Library.with_gate bytes g name d) ss → length (g.defs ++ d ∷ []) ≤ length new.defs) → length g.defs ≤ length new.defs
  by_def (Ok d) e f = let k = f d e in let l : length (g.defs ++ d ∷ []) ≡ length g.defs + 1 = Rattle.std.proofs.lemmas.List.length_push g.defs d in omega (arith, k, l)
  by_def (Err x) e f = absurd (cc)
more_defs bytes g (statement.Apply c ∷ ss) new e = more_defs bytes g ss new e
more_defs bytes g (statement.Barrier xs ∷ ss) new e = more_defs bytes g ss new e

-- ---- the library
pub included_fault : (st new : State) (f : ReadFault) → Known {A = List Statement} (Err f) (TextIs library_text) → Became {A = Unit {0}} (Err f) new (Succeeds (Includes st))
included_fault st new (Fault name at) h = no_library_fault (Fault name at) h
included_fault st new Memory h = tt

pub defining_faulty : (st new : State) (g new_gates : Gates) (ss : List Statement) (f : ReadFault) → TextIs library_text (Ok ss) → g ≡ record { defs = st.defs; bound = [] }
    → Became {A = Unit {0}} (Err f) new_gates (λ z. z ≡ all_defined library_text g ss) → Became {A = Unit {0}} (Err f) new (Succeeds (Includes st))
defining_faulty st new g new_gates ss (Fault name at) h d k = no_gate_fault st.defs ss (Fault name at) h (ap (λ z. all_defined library_text z ss) (sym d) ∙ sym k)
defining_faulty st new g new_gates ss Memory h d k = tt

pub all_included : (st new : State) (g made : Gates) (ss : List Statement) → st.library ≡ None → TextIs library_text (Ok ss) → g ≡ record { defs = st.defs; bound = [] } → Ok made ≡ all_defined library_text g ss
    → new ≡ with_library st made → Includes st new
all_included st new g made ss e h d k n = subst (Includes st) (sym n) (first e h (ap (λ z. all_defined library_text z ss) (sym d) ∙ sym k))

pub library_sound : (st new : State) (g made : Gates) (ss : List Statement) → IsSound st → g ≡ record { defs = st.defs; bound = [] } → Ok made ≡ all_defined library_text g ss → defs_sound made.defs ≡ true → bound_sound (length made.defs) made.bound ≡ true
    → new ≡ with_library st made → IsSound new
library_sound st new g made ss s d k gates names n = subst IsSound (sym n) (record {
  gates = gates;
  names = all_sound (length made.defs) st.bound made.bound (bound_more (length st.defs) (length made.defs) st.bound (subst (λ z. length z.defs ≤ length made.defs) d (more_defs library_text g ss made k)) s.names) names;
  qubits = s.qubits;
  within = s.within;
  few = s.few;
})

-- whether the library is there
shelf_of : (l : Option Shelf) → is_some l ≡ true → (s : Shelf) × (l ≡ Some s)
shelf_of (Some s) e = (s, refl)
shelf_of None e = absurd (cc)

no_shelf : (l : Option Shelf) → is_some l ≡ false → l ≡ None
no_shelf (Some s) e = absurd (cc)
no_shelf None e = refl

pub none_of_shelf : (st : State) → is_some st.library ≡ false → st.library ≡ None
none_of_shelf st e = no_shelf st.library e

pub included_again : (st : State) → is_some st.library ≡ true → Includes st st
included_again st e = let p = shelf_of st.library e in again p.1

pub none_sound : (n : ℕ) (bs : List Bound) → bs ≡ [] → bound_sound n bs ≡ true
unfolding bound_sound
none_sound n bs e = ap (bound_sound n) e

pub text_of : (bytes : List ℕ) (ss xs : List Statement) → bytes ≡ library_text → xs ≡ ss → TextIs bytes (Ok ss) → TextIs library_text (Ok xs)
text_of bytes ss xs e d h = subst (λ z. TextIs library_text (Ok z)) (sym d) (subst (λ z. TextIs z (Ok ss)) e h)

pub fault_by : (bytes : List ℕ) (g new : Gates) (ss : List Statement) (f : ReadFault) → bytes ≡ library_text → Became {A = Unit {0}} (Err f) new (λ z. z ≡ all_defined bytes g ss) → Became {A = Unit {0}} (Err f) new (λ z. z ≡ all_defined library_text g ss)
fault_by bytes g new ss f e h = subst (λ b. Became {A = Unit {0}} (Err f) new (λ z. z ≡ all_defined b g ss)) e h

pub shelved : (st : State) (defs : List Def) (bound now : List Bound) (from to : ℕ) → now ≡ with_all st.bound bound → from ≡ length st.defs → to ≡ length defs
    → record { registers = st.registers; defs = defs; bound = now; library = Some (record { from = from; to = to }); items = st.items } ≡ with_library st (record { defs = defs; bound = bound })
shelved st defs bound now from to e f t =
    ap (λ (z : List Bound). record { registers = st.registers; defs = defs; bound = z; library = Some (record { from = from; to = to }); items = st.items }) e
    ∙ ap (λ z. record { registers = st.registers; defs = defs; bound = with_all st.bound bound; library = Some (record { from = z; to = to }); items = st.items }) f
    ∙ ap (λ z. record { registers = st.registers; defs = defs; bound = with_all st.bound bound; library = Some (record { from = length st.defs; to = z }); items = st.items }) t
