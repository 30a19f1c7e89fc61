-- What is read of texts and blocks is on the qubits of its circuit.
use Rattle.std.proofs.Common.{◌≡◌, ◌<◌, ◌≤◌, ◌+◌, ℕ, Bool, true, false, ◌&&◌, nat_eq, nat_lt, if◌then◌else◌, List, [], ◌∷◌, ◌++◌, length, length-append, Result, Ok, Err, refl, sym, ap, ◌∙◌, subst, arith}
use Rattle.std.specs.Prelude.{All}
use Rattle.std.proofs.lemmas.Bool.Decides.{nat_tests}
use Rattle.std.proofs.lemmas.List.Elements.{All-nil, All-head, All-tail}
use Rattle.ps_prim.specs.declared.prims.Primitive.{Primitive as Prim}
use Rattle.ps_prim.specs.Maps.{AllWithin}
use Rattle.ps_reach.specs.Runs.{run_of}
use Rattle.qasm_lex.specs.declared.types.Token.{Token}
use Rattle.qasm_lex.specs.Tokens.{Reads}
use Rattle.qasm_parse.specs.declared.fault.ParseFault.{ParseFault}
use Rattle.qasm_parse.specs.declared.phrases.Form.TheVariants.{Indexed}
use Rattle.qasm_parse.specs.declared.sort.Sort.{Sort}
use Rattle.qasm_parse.specs.declared.sort.Sort.TheVariants.{Semicolon}
use Rattle.qasm_parse.specs.declared.whence.Whence.TheVariants as whence
use Rattle.qasm_parse.specs.declared.program.Span.{Span}
use Rattle.qasm_parse.specs.declared.program.Arg.{Arg}
use Rattle.qasm_parse.specs.declared.program.Call.{Call}
use Rattle.qasm_parse.specs.declared.program.Inner.{Inner as Stated}
use Rattle.qasm_parse.specs.declared.program.Statement.{Statement}
use Rattle.qasm_parse.specs.declared.program.Statement.TheVariants as statement
use Rattle.qasm_parse.specs.Phrases.{Got, got, miss, Gives, After, Listed, IsArg}
use Rattle.qasm_parse.specs.Sorts.{sorts_of}
use Rattle.qasm_parse.specs.Statements as grammar
use Rattle.qasm_parse.specs.Statements.{IsCall, IsStatement, IsProgram, OfText, OfBlock, answer}
use Rattle.qasm_parse.specs.Places.{InnerIn, StatementIn}
use Rattle.qasm_parse.proofs.Within.{On, Has, gives_has, after_has, then_has, put_has, text_within}
use Rattle.qasm_parse.proofs.Within.{block_within as block_stands}
use Rattle.qasm_expand.specs.declared.defs.Def.{Def}
use Rattle.qasm_expand.specs.declared.state.State.{State}
use Rattle.qasm_expand.specs.declared.fault.FaultName.{FaultName}
use Rattle.qasm_expand.specs.declared.fault.FaultName.TheVariants.{NoQubits}
use Rattle.qasm_expand.specs.declared.fault.ReadFault.{ReadFault}
use Rattle.qasm_expand.specs.declared.fault.ReadFault.TheVariants.{Fault}
use Rattle.qasm_expand.specs.declared.target.Target.{Target}
use Rattle.qasm_expand.specs.Checks.{spelled, number_at, and_then, refuse}
use Rattle.qasm_expand.specs.Tables.{Register, qubit_count, registers_sound, defs_sound, bound_sound}
use Rattle.qasm_expand.specs.Gates.{def_of}
use Rattle.qasm_expand.specs.Library as library
use Rattle.qasm_expand.specs.Library.{TextIs, BlockIs, parsed, library_text, Gates, with_gate, defined, all_defined, Includes, with_library, with_gates, defining}
use Rattle.qasm_expand.specs.States.{ItemsWithin, IsSound}
use Rattle.qasm_expand.specs.Targets as targets
use Rattle.qasm_expand.specs.Targets.{targets_of, index_count, items_from, items_or_fault, Applies}
use Rattle.qasm_expand.specs.Statements as statements
use Rattle.qasm_expand.specs.Statements.{bad_size, declared_as, with_register, with_items, behind, past, Takes, Expands}
use Rattle.qasm_expand.specs.Circuits as circuits
use Rattle.qasm_expand.specs.Circuits.{TableOf, CircuitOf, nothing_yet, circuit_of, closed, behind_text, items_of, ReadsText, ReadsBlock}
use Rattle.qasm_expand.proofs.Aiming.{few_qubits}
use Rattle.qasm_expand.proofs.Prims.{comes_within}
use Rattle.qasm_expand.proofs.Applied.{still_sound}
use Rattle.qasm_expand.proofs.Sounding.{sound_more, nothing_is_sound}
use Rattle.qasm_expand.proofs.Soundness.{def_is_sound, defs_more, bound_more, rebound_sound}
use Rattle.qasm_expand.proofs.Libraries.{library_sound, none_sound}

-- ---- what is kept of a table, and what a text gives
-- its gates and names are sound, and its registers have so many qubits
pub record IsReady (q : ℕ) (table : TableOf) : Type 0 where
  pub gates : defs_sound table.defs ≡ true
  pub names : bound_sound (length table.defs) table.bound ≡ true
  pub registers : registers_sound table.registers ≡ true
  pub count : qubit_count table.registers ≡ q

pub record IsReadable (c : CircuitOf) : Type 0 where
  pub qubits : (1 ≤ c.qubits) × (c.qubits ≤ 64)
  pub table : IsReady c.qubits c.table
  pub few : length c.items ≤ 65536
  pub within : AllWithin c.qubits (run_of c.items)

joined_within : (q : ℕ) (a b : List Prim) → AllWithin q a → AllWithin q b → AllWithin q (a ++ b)
joined_within q [] b h k = k
joined_within q (g ∷ a) b h k = (h.0, joined_within q a b h.1 k)

run_within : (q : ℕ) (items : List (List Prim)) → ItemsWithin q items → AllWithin q (run_of items)
unfolding run_of
run_within q [] h = tt
run_within q (i ∷ is) h = joined_within q i (run_of is) h.0 (run_within q is h.1)

-- ---- what went well
went_on : {A B : Type 0} (r : Result A ReadFault) (k : A → Result B ReadFault) (b : B) → and_then r k ≡ Ok b → (a : A) × (r ≡ Ok a) × (k a ≡ Ok b)
went_on (Ok a) k b e = (a, refl, e)
went_on (Err f) k b e = absurd (cc)

not_refused : {A : Type 0} (t : Bool) (n : FaultName) (p : Span) (r : Result A ReadFault) (x : A) → refuse t n p r ≡ Ok x → (t ≡ false) × (r ≡ Ok x)
not_refused true n p r x e = absurd (cc)
not_refused false n p r x e = (refl, e)

same_ok : {A E : Type 0} (a b : A) → ◌≡◌ {A = Result A E} (Ok a) (Ok b) → a ≡ b
same_ok a b e = cc

-- ---- gates
pub record GatesSound (g : Gates) : Type 0 where
  pub gates : defs_sound g.defs ≡ true
  pub names : bound_sound (length g.defs) g.bound ≡ true

gate_sound : (bytes : List ℕ) (g : Gates) (name : Span) (params args : List Span) (body : List Stated) (d : Def) → GatesSound g
    → All (InnerIn bytes) body → def_of bytes g.defs g.bound params args body ≡ Ok d → GatesSound (with_gate bytes g name d)
gate_sound bytes g name params args body d s h e =
    let n : length (g.defs ++ d ∷ []) ≡ length g.defs + 1 = length-append g.defs (d ∷ []) in
    record {
      gates = defs_more g.defs d s.gates (def_is_sound bytes g.defs g.bound params args body d s.names h e);
      names =
          rebound_sound (length (g.defs ++ d ∷ [])) g.bound (spelled bytes name) (length g.defs)
          (bound_more (length g.defs) (length (g.defs ++ d ∷ [])) g.bound (omega (arith, n)) s.names) (omega (arith, n));
    }

defined_sound : (bytes : List ℕ) (g new : Gates) (name : Span) (params args : List Span) (body : List Stated) → GatesSound g
    → All (InnerIn bytes) body → defined bytes g name params args body ≡ Ok new → GatesSound new
defined_sound bytes g new name params args body s h e =
    let d = went_on (def_of bytes g.defs g.bound params args body) (λ d. Ok (with_gate bytes g name d)) new e in
    subst GatesSound (same_ok (with_gate bytes g name d.0) new d.2) (gate_sound bytes g name params args body d.0 s h d.1)

all_sound : (bytes : List ℕ) (ss : List Statement) (g new : Gates) → GatesSound g → All (StatementIn bytes) ss → all_defined bytes g ss ≡ Ok new
    → GatesSound new
unfolding all_defined
all_sound bytes [] g new s h e = subst GatesSound (same_ok g new e) s
all_sound bytes (statement.Include p ∷ ss) g new s h e = all_sound bytes ss g new s (All-tail (StatementIn bytes) (statement.Include p) ss h) e
all_sound bytes (statement.Qreg name size ∷ ss) g new s h e = all_sound bytes ss g new s (All-tail (StatementIn bytes) (statement.Qreg name size) ss h) e
all_sound bytes (statement.Creg name size ∷ ss) g new s h e = all_sound bytes ss g new s (All-tail (StatementIn bytes) (statement.Creg name size) ss h) e
all_sound bytes (statement.Gate name params args body ∷ ss) g new s h e =
    let d = went_on (defined bytes g name params args body) (λ x. all_defined bytes x ss) new e in
    all_sound bytes ss d.0 new
    (defined_sound bytes g d.0 name params args body s (All-head (StatementIn bytes) (statement.Gate name params args body) ss h).3 d.1)
    (All-tail (StatementIn bytes) (statement.Gate name params args body) ss h) d.2
all_sound bytes (statement.Apply c ∷ ss) g new s h e = all_sound bytes ss g new s (All-tail (StatementIn bytes) (statement.Apply c) ss h) e
all_sound bytes (statement.Barrier args ∷ ss) g new s h e = all_sound bytes ss g new s (All-tail (StatementIn bytes) (statement.Barrier args) ss h) e

-- ---- the statements of a text stand in it
parsed_ok : (r : Result (List Statement) ParseFault) (ss : List Statement) → parsed r ≡ Ok ss → r ≡ Ok ss
parsed_ok (Ok xs) ss e = ap Ok (same_ok xs ss e)
parsed_ok (Err f) ss e = absurd (cc)

text_stands : (bytes : List ℕ) (q : Result (List Statement) ReadFault) (ss : List Statement) → TextIs bytes q → q ≡ Ok ss → All (StatementIn bytes) ss
text_stands bytes q ss (library.bad_tokens e) p = absurd (cc)
text_stands bytes q ss (library.by_grammar {tk = tk} {r = r} e h) p = text_within bytes tk ss e (subst (OfText bytes tk) (parsed_ok r ss p) h)

-- ---- each statement keeps what is known sound
included_sound : (st new : State) → IsSound st → Includes st new → IsSound new
included_sound st new s (library.first {ss = ss} {g = g} e t d) =
    let start : Gates = record { defs = st.defs; bound = [] } in
    let sound : GatesSound g =
    all_sound library_text ss start g (record { gates = s.gates; names = none_sound (length st.defs) [] refl })
    (text_stands library_text (Ok ss) ss t refl) d in
    library_sound st new start g ss s refl (sym d) sound.gates sound.names refl
included_sound st new s (library.again e) = s

some_size : (n : ℕ) → bad_size n ≡ false → 0 < n
some_size n e = grind (arith, nat_tests)

declared_sound : (quantum : Bool) (bytes : List ℕ) (st new : State) (name size : Span) → IsSound st → declared_as quantum bytes st name size ≡ Ok new
    → IsSound new
declared_sound quantum bytes st new name size s e =
    let a = not_refused _ _ name _ new e in
    let b = not_refused (bad_size (number_at bytes size)) _ size _ new a.1 in
    let c = not_refused (quantum && nat_lt 64 (qubit_count st.registers + number_at bytes size)) _ size _ new b.1 in
    let r : Register =
    record { name = spelled bytes name; quantum = quantum; first = if quantum then qubit_count st.registers else 0; size = number_at bytes size } in
    subst IsSound (same_ok (with_register st r) new c.1)
    (sound_more st (with_register st r) (spelled bytes name) quantum (number_at bytes size) s (some_size (number_at bytes size) b.0) c.0 refl refl refl refl)

defining_sound : (bytes : List ℕ) (st new : State) (name : Span) (params args : List Span) (body : List Stated) → IsSound st
    → All (InnerIn bytes) body → defining bytes st name params args body ≡ Ok new → IsSound new
defining_sound bytes st new name params args body s h e =
    let start : Gates = record { defs = st.defs; bound = st.bound } in
    let a = not_refused _ _ name _ new e in
    let d = went_on (defined bytes start name params args body) (λ g. Ok (with_gates st g)) new a.1 in
    let g = defined_sound bytes start d.0 name params args body (record { gates = s.gates; names = s.names }) h d.1 in
    subst IsSound (same_ok (with_gates st d.0) new d.2) (record { gates = g.gates; names = g.names; qubits = s.qubits; within = s.within; few = s.few })

applies_sound : (bytes : List ℕ) (st : State) (c : Call) (r : Result (List (List Prim)) ReadFault) (is : List (List Prim)) → IsSound st
    → Applies bytes st.registers st.defs st.bound (length st.items) c r → r ≡ Ok is → IsSound (with_items st is)
applies_sound bytes st c r is s (targets.missed e) p = absurd (cc)
applies_sound bytes st c r is s (targets.applies {a = a} {r = Ok gs} e h) p =
    let same : items_from gs a.targets 0 (index_count a.targets) ≡ is = same_ok (items_from gs a.targets 0 (index_count a.targets)) is p in
    still_sound bytes st c a e s a.targets refl (index_count a.targets) refl gs gs refl (comes_within st.defs s.gates h) (st.items ++ is)
    (ap (λ xs. st.items ++ xs) (sym same))
applies_sound bytes st c r is s (targets.applies {a = a} {r = Err b} e h) p = absurd (cc)

behind_sound : (st new : State) (r : Result (List (List Prim)) ReadFault) → ((is : List (List Prim)) → r ≡ Ok is → IsSound (with_items st is))
    → behind st r ≡ Ok new → IsSound new
behind_sound st new (Ok is) h e = subst IsSound (same_ok (with_items st is) new e) (h is refl)
behind_sound st new (Err f) h e = absurd (cc)

past_same : (st new : State) (r : Result (List Target) ReadFault) → past st r ≡ Ok new → st ≡ new
past_same st new (Ok ts) e = same_ok st new e
past_same st new (Err f) e = absurd (cc)

taken_sound : (bytes : List ℕ) (st : State) (s : Statement) (r : Result State ReadFault) (new : State) → IsSound st → StatementIn bytes s
    → Takes bytes st s r → r ≡ Ok new → IsSound new
taken_sound bytes st s r new k h (statements.include {st' = other} i) e = subst IsSound (same_ok other new e) (included_sound st other k i)
taken_sound bytes st s r new k h (statements.quantum {name = name} {size = size}) e = declared_sound true bytes st new name size k e
taken_sound bytes st s r new k h (statements.classical {name = name} {size = size}) e = declared_sound false bytes st new name size k e
taken_sound bytes st s r new k h (statements.gate {name = name} {params = params} {args = args} {body = body}) e =
    defining_sound bytes st new name params args body k h.3 e
taken_sound bytes st s r new k h (statements.apply {c = c} {r = q} a) e = behind_sound st new q (λ is p. applies_sound bytes st c q is k a p) e
taken_sound bytes st s r new k h (statements.barrier {args = args}) e = subst IsSound (past_same st new (targets_of bytes st.registers args) e) k

expands_sound : (bytes : List ℕ) (st : State) (ss : List Statement) (r : Result State ReadFault) (new : State) → IsSound st
    → All (StatementIn bytes) ss → Expands bytes st ss r → r ≡ Ok new → IsSound new
expands_sound bytes st ss r new k h statements.ended e = subst IsSound (same_ok st new e) k
expands_sound bytes st ss r new k h (statements.taken {st' = next} {s = s} {ss = more} t x) e =
    expands_sound bytes next more r new (taken_sound bytes st s (Ok next) next k (All-head (StatementIn bytes) s more h) t refl)
    (All-tail (StatementIn bytes) s more h) x e
expands_sound bytes st ss r new k h (statements.faulty t) e = absurd (cc)

-- ---- texts
some_qubit : (n : ℕ) → nat_eq n 0 ≡ false → 1 ≤ n
some_qubit n e = grind (arith, nat_tests)

closed_readable : (text : List ℕ) (r : Result State ReadFault) (c : CircuitOf) → ((st : State) → r ≡ Ok st → IsSound st) → closed text r ≡ Ok c → IsReadable c
closed_readable text (Err f) c h e = absurd (cc)
closed_readable text (Ok st) c h e = by (nat_eq (qubit_count st.registers) 0) refl e
  where
    whole : 1 ≤ qubit_count st.registers → IsReadable (circuit_of st)
    whole some = record {
      qubits = (some, few_qubits st.registers (h st refl).qubits);
      table = record { gates = (h st refl).gates; names = (h st refl).names; registers = (h st refl).qubits; count = refl };
      few = (h st refl).few;
      within = run_within (qubit_count st.registers) st.items (h st refl).within;
    }

    by : (b : Bool) → nat_eq (qubit_count st.registers) 0 ≡ b
        → ◌≡◌ {A = Result CircuitOf ReadFault} (if b then Err (Fault NoQubits (length text)) else Ok (circuit_of st)) (Ok c) → IsReadable c
    by true t p = absurd (cc)
    by false t p = subst IsReadable (same_ok (circuit_of st) c p) (whole (some_qubit (qubit_count st.registers) t))

readable : (text : List ℕ) (q : Result CircuitOf ReadFault) (c : CircuitOf) → ReadsText text q → q ≡ Ok c → IsReadable c
readable text q c (circuits.misread t) e = absurd (cc)
readable text q c (circuits.expanded {ss = ss} {r = r} t x) e =
    closed_readable text r c (λ st p. expands_sound text nothing_yet ss r st nothing_is_sound (text_stands text (Ok ss) ss t refl) x p) e

-- the circuit of a text has 1 to 64 qubits, and at most 65,536 items on them
pub text_readable : (text : List ℕ) (c : CircuitOf) → ReadsText text (Ok c) → IsReadable c
text_readable text c h = readable text (Ok c) c h refl

-- ---- blocks
-- nothing is declared in a block
abbrev IsPlain : Statement → Type 0
IsPlain (statement.Apply c) = Unit {0}
IsPlain (statement.Barrier args) = Unit {0}
IsPlain s = ⊥

abbrev Anything : {A : Type 0} → A → Type 0
Anything a = Unit {0}

anything_has : {A : Type 0} (thing : ℕ → Got A → Type 0) → Has (Anything {A = A}) thing
anything_has thing i (got a j) h = tt
anything_has thing i (miss f) h = tt

not_text : whence.Block ≡ whence.Text → ⊥
not_text e = cc

plain_statement : (bytes : List ℕ) (tk : List Token) (ts : List Sort) → Has IsPlain (IsStatement bytes tk ts whence.Block)
plain_statement bytes tk ts i g (grammar.apply h) =
    then_has (Anything {A = Call}) IsPlain (IsCall bytes tk ts Indexed) (λ c. Gives (statement.Apply c)) (anything_has (IsCall bytes tk ts Indexed))
    (λ c q. gives_has IsPlain (statement.Apply c) tt) i g h
plain_statement bytes tk ts i g (grammar.barrier e h) =
    then_has (Anything {A = List Arg}) IsPlain (Listed ts (IsArg tk ts Indexed)) (λ us. After ts Semicolon (Gives (statement.Barrier us)))
    (anything_has (Listed ts (IsArg tk ts Indexed)))
    (λ us q. after_has ts Semicolon IsPlain (Gives (statement.Barrier us)) (gives_has IsPlain (statement.Barrier us) tt)) (i + 1) g h
plain_statement bytes tk ts i g (grammar.declares e h) = absurd (not_text e)
plain_statement bytes tk ts i g (grammar.outside e) = tt
plain_statement bytes tk ts i g (grammar.opaquely e) = tt
plain_statement bytes tk ts i g (grammar.no_statement e) = tt

plain_program : (bytes : List ℕ) (tk : List Token) (ts : List Sort) → Has (All IsPlain) (IsProgram bytes tk ts whence.Block)
plain_program bytes tk ts i g (grammar.over e) = All-nil IsPlain
plain_program bytes tk ts i g (grammar.statement {j = j} {s = s} {r = r} n h k) =
    put_has IsPlain s r (plain_statement bytes tk ts i (got s j) h) (plain_program bytes tk ts j r k)
plain_program bytes tk ts i g (grammar.faulty n h) = tt

plain_answer : (bytes : List ℕ) (tk : List Token) (g : Got (List Statement)) (ss : List Statement) → Ok ss ≡ answer bytes tk g → On (All IsPlain) g
    → All IsPlain ss
plain_answer bytes tk (got xs j) ss e h = let f : ss ≡ xs = cc in subst (All IsPlain) (sym f) h
plain_answer bytes tk (miss f) ss e h = absurd (cc)

record BlockStands (bytes : List ℕ) (ss : List Statement) : Type 0 where
  pub within : All (StatementIn bytes) ss
  pub plain : All IsPlain ss

block_of : (bytes : List ℕ) (tk : List Token) (ss : List Statement) → Reads bytes 0 (Ok tk) → OfBlock bytes tk (Ok ss) → BlockStands bytes ss
block_of bytes tk ss e h =
    record { within = block_stands bytes tk ss e h; plain = plain_answer bytes tk h.0 ss h.2 (plain_program bytes tk (sorts_of bytes tk) 0 h.0 h.1) }

block_is : (bytes : List ℕ) (q : Result (List Statement) ReadFault) (ss : List Statement) → BlockIs bytes q → q ≡ Ok ss → BlockStands bytes ss
block_is bytes q ss (library.bad_block_tokens e) p = absurd (cc)
block_is bytes q ss (library.by_block_grammar {tk = tk} {r = r} e h) p = block_of bytes tk ss e (subst (OfBlock bytes tk) (parsed_ok r ss p) h)

-- the registers stay
behind_registers : (st new : State) (r : Result (List (List Prim)) ReadFault) → behind st r ≡ Ok new → new.registers ≡ st.registers
behind_registers st new (Ok is) e = ap (λ (x : State). x.registers) (sym (same_ok (with_items st is) new e))
behind_registers st new (Err f) e = absurd (cc)

plain_registers : (bytes : List ℕ) (st : State) (s : Statement) (r : Result State ReadFault) (new : State) → IsPlain s → Takes bytes st s r
    → r ≡ Ok new → new.registers ≡ st.registers
plain_registers bytes st s r new h (statements.include i) e = absurd h
plain_registers bytes st s r new h statements.quantum e = absurd h
plain_registers bytes st s r new h statements.classical e = absurd h
plain_registers bytes st s r new h statements.gate e = absurd h
plain_registers bytes st s r new h (statements.apply {r = q} a) e = behind_registers st new q e
plain_registers bytes st s r new h (statements.barrier {args = args}) e =
    ap (λ (x : State). x.registers) (sym (past_same st new (targets_of bytes st.registers args) e))

expands_registers : (bytes : List ℕ) (st : State) (ss : List Statement) (r : Result State ReadFault) (new : State) → All IsPlain ss
    → Expands bytes st ss r → r ≡ Ok new → new.registers ≡ st.registers
expands_registers bytes st ss r new h statements.ended e = ap (λ (x : State). x.registers) (sym (same_ok st new e))
expands_registers bytes st ss r new h (statements.taken {st' = next} {s = s} {ss = more} t x) e =
    expands_registers bytes next more r new (All-tail IsPlain s more h) x e ∙ plain_registers bytes st s (Ok next) next (All-head IsPlain s more h) t refl
expands_registers bytes st ss r new h (statements.faulty t) e = absurd (cc)

table_sound : (q : ℕ) (table : TableOf) → IsReady q table → IsSound (behind_text table)
table_sound q table r = record { gates = r.gates; names = r.names; qubits = r.registers; within = tt; few = omega arith }

items_there : (r : Result State ReadFault) (items : List (List Prim)) → items_of r ≡ Ok items → (st : State) × (r ≡ Ok st) × (st.items ≡ items)
items_there (Ok st) items e = (st, refl, same_ok st.items items e)
items_there (Err f) items e = absurd (cc)

blocks : (q : ℕ) (table : TableOf) (block : List ℕ) (x : Result (List (List Prim)) ReadFault) (items : List (List Prim)) → IsReady q table
    → ReadsBlock table block x → x ≡ Ok items → AllWithin q (run_of items)
blocks q table block x items ready (circuits.misread_block t) e = absurd (cc)
blocks q table block x items ready (circuits.expanded_block {ss = ss} {r = r} t h) e =
    let s = items_there r items e in
    let stands = block_is block (Ok ss) ss t refl in
    let sound : IsSound s.0 = expands_sound block (behind_text table) ss r s.0 (table_sound q table ready) stands.within h s.1 in
    let same : qubit_count s.0.registers ≡ q = ap qubit_count (expands_registers block (behind_text table) ss r s.0 stands.plain h s.1) ∙ ready.count in
    subst (λ xs. AllWithin q (run_of xs)) s.2 (subst (λ n. AllWithin n (run_of s.0.items)) same (run_within (qubit_count s.0.registers) s.0.items sound.within))

-- the items of a block are on the circuit's qubits
pub block_within : (q : ℕ) (table : TableOf) (block : List ℕ) (items : List (List Prim)) → IsReady q table → ReadsBlock table block (Ok items)
    → AllWithin q (run_of items)
block_within q table block items ready h = blocks q table block (Ok items) items ready h refl
