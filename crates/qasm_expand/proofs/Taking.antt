-- One statement behind the other.
use Rattle.std.proofs.Common.{◌≡◌, ℕ, ◌+◌, ◌<◌, ◌≤◌, refl, ap, sym, ◌∙◌, subst, true, false, List, ◌++◌, length, drop, get_or, Result, Ok, Err}
use Rattle.std.proofs.lemmas.List.{drop_more, drop_all}
use Rattle.ps_prim.specs.declared.prims.Primitive.{Primitive as Prim}
use Rattle.qasm_parse.specs.declared.program.Span.{Span}
use Rattle.qasm_parse.specs.declared.program.Arg.{Arg}
use Rattle.qasm_parse.specs.declared.program.Call.{Call}
use Rattle.qasm_parse.specs.declared.program.Inner.{Inner as Stated}
use Rattle.qasm_parse.specs.declared.program.Statement.{Statement}
use Rattle.qasm_parse.specs.declared.program.Statement.TheVariants as statement
use Rattle.qasm_expand.specs.declared.state.State.{State}
use Rattle.qasm_expand.specs.declared.fault.ReadFault.{ReadFault}
use Rattle.qasm_expand.specs.declared.fault.ReadFault.TheVariants.{Fault, Memory}
use Rattle.qasm_expand.specs.Library.{Includes, defining}
use Rattle.qasm_expand.specs.declared.target.Target.{Target}
use Rattle.qasm_expand.specs.Checks.{Known}
use Rattle.qasm_expand.specs.Names.{checked}
use Rattle.qasm_expand.specs.States.{IsSound, Became, Succeeds, in_block}
use Rattle.qasm_expand.specs.Targets.{Applies, targets_of}
use Rattle.qasm_expand.specs.Statements.{declared_as, behind, past, Takes, include, quantum, classical, gate, apply, barrier, Expands, ended, taken, faulty}

became : {A B : Type 0} (r : Result A ReadFault) (new : B) (P Q : Result B ReadFault → Type 0) → ((x : Result B ReadFault) → P x → Q x) → Became r new P → Became r new Q
became (Ok u) new P Q f h = f _ h
became (Err (Fault name at)) new P Q f h = f _ h
became (Err Memory) new P Q f h = tt

module _ {A : Type 0} (bytes : List ℕ) (st new : State) (s : Statement) (r : Result A ReadFault) where
  as_taken : (P : Result State ReadFault → Type 0) (t : Statement) → s ≡ t → ((x : Result State ReadFault) → P x → Takes bytes st t x) → Became r new P → Became r new (Takes bytes st s)
  as_taken P t e f h = subst (λ z. Became r new (Takes bytes st z)) (sym e) (became r new P (Takes bytes st t) f h)

  included : (p : Span) (x : Result State ReadFault) → Succeeds (Includes st) x → Takes bytes st (statement.Include p) x
  included p (Ok st') i = include i
  included p (Err f) i = absurd i

  pub take_include : (p : Span) → s ≡ statement.Include p → Became r new (Succeeds (Includes st)) → Became r new (Takes bytes st s)
  take_include p e h = as_taken (Succeeds (Includes st)) (statement.Include p) e (included p) h

  pub take_quantum : (name size : Span) → s ≡ statement.Qreg name size → Became r new (λ x. x ≡ declared_as true bytes st name size) → Became r new (Takes bytes st s)
  take_quantum name size e h = as_taken (λ x. x ≡ declared_as true bytes st name size) (statement.Qreg name size) e (λ x i. subst (Takes bytes st (statement.Qreg name size)) (sym i) quantum) h

  pub take_classical : (name size : Span) → s ≡ statement.Creg name size → Became r new (λ x. x ≡ declared_as false bytes st name size) → Became r new (Takes bytes st s)
  take_classical name size e h = as_taken (λ x. x ≡ declared_as false bytes st name size) (statement.Creg name size) e (λ x i. subst (Takes bytes st (statement.Creg name size)) (sym i) classical) h

  pub take_gate : (name : Span) (params args ps as' : List Span) (body ss : List Stated) → s ≡ statement.Gate name params args body → ps ≡ params → as' ≡ args → ss ≡ body
      → Became r new (λ x. x ≡ defining bytes st name ps as' ss) → Became r new (Takes bytes st s)
  take_gate name params args ps as' body ss e d c b h =
      as_taken (λ x. x ≡ defining bytes st name ps as' ss) (statement.Gate name params args body) e
      (λ x i. subst (Takes bytes st (statement.Gate name params args body)) (sym (i ∙ ap (λ z. defining bytes st name z as' ss) d ∙ ap (λ z. defining bytes st name params z ss) c ∙ ap (λ z. defining bytes st name params args z) b)) gate) h

  pub take_apply : (c : Call) → s ≡ statement.Apply c
      → Became r new (λ x. (o : Result (List (List Prim)) ReadFault) × Applies bytes st.registers st.defs st.bound (length st.items) c o × (x ≡ behind st o)) → Became r new (Takes bytes st s)
  take_apply c e h = as_taken (λ x. (o : Result (List (List Prim)) ReadFault) × Applies bytes st.registers st.defs st.bound (length st.items) c o × (x ≡ behind st o)) (statement.Apply c) e
      (λ x i. subst (Takes bytes st (statement.Apply c)) (sym i.2) (apply i.1)) h

  pub take_barrier : (args given : List Arg) → s ≡ statement.Barrier args → given ≡ args → Became r new (λ x. x ≡ past st (targets_of bytes st.registers given)) → Became r new (Takes bytes st s)
  take_barrier args given e d h = as_taken (λ x. x ≡ past st (targets_of bytes st.registers given)) (statement.Barrier args) e
      (λ x i. subst (Takes bytes st (statement.Barrier args)) (sym (i ∙ ap (λ z. past st (targets_of bytes st.registers z)) d)) barrier) h

-- what is known in a block is the same but for the library, which an application and a barrier leave as it is
pub sound_within : (st : State) → IsSound st → IsSound (in_block st.registers st.defs st.bound st.items)
sound_within st s = record { gates = s.gates; names = s.names; qubits = s.qubits; within = s.within; few = s.few }

pub sound_again : (st : State) (new : List (List Prim)) → IsSound (in_block st.registers st.defs st.bound new) → IsSound (record { registers = st.registers; defs = st.defs; bound = st.bound; library = st.library; items = new })
sound_again st new s = record { gates = s.gates; names = s.names; qubits = s.qubits; within = s.within; few = s.few }

abbrev pub Applied : List ℕ → State → Call → Result State ReadFault → Type 0
Applied bytes st c x = (o : Result (List (List Prim)) ReadFault) × Applies bytes st.registers st.defs st.bound (length st.items) c o × (x ≡ behind st o)

items_same : (st : State) (new : List (List Prim)) (o : Result (List (List Prim)) ReadFault) → Ok (in_block st.registers st.defs st.bound new) ≡ behind (in_block st.registers st.defs st.bound st.items) o
    → Ok (record { registers = st.registers; defs = st.defs; bound = st.bound; library = st.library; items = new }) ≡ behind st o
items_same st new (Ok is) e = ap (λ z. Ok (record { registers = st.registers; defs = st.defs; bound = st.bound; library = st.library; items = z })) (same e)
  where
    same : ◌≡◌ {A = Result State ReadFault} (Ok (in_block st.registers st.defs st.bound new)) (Ok (in_block st.registers st.defs st.bound (st.items ++ is))) → new ≡ st.items ++ is
    same e = let h : in_block st.registers st.defs st.bound new ≡ in_block st.registers st.defs st.bound (st.items ++ is) = cc in ap (λ (s : State). s.items) h
items_same st new (Err f) e = absurd (cc)

fault_same : (st : State) (f : ReadFault) (o : Result (List (List Prim)) ReadFault) → Err f ≡ behind (in_block st.registers st.defs st.bound st.items) o → Err f ≡ behind st o
fault_same st f (Ok is) e = absurd (cc)
fault_same st f (Err g) e = let h : f ≡ g = cc in ap Err h

pub applied_again : (bytes : List ℕ) (st : State) (new : List (List Prim)) (c : Call) (r : Result (Unit {0}) ReadFault) → Became r (in_block st.registers st.defs st.bound new) (Applied bytes (in_block st.registers st.defs st.bound st.items) c)
    → Became r (record { registers = st.registers; defs = st.defs; bound = st.bound; library = st.library; items = new }) (Applied bytes st c)
applied_again bytes st new c (Ok u) h = (h.0, h.1, items_same st new h.0 h.2)
applied_again bytes st new c (Err (Fault name at)) h = (h.0, h.1, fault_same st (Fault name at) h.0 h.2)
applied_again bytes st new c (Err Memory) h = tt

pub passed : (st : State) (t : Result (List Target) ReadFault) (r : Result (Unit {0}) ReadFault) → Known r (λ r. r ≡ checked t) → Became r st (λ x. x ≡ past st t)
passed st (Ok ts) (Ok u) h = refl
passed st (Ok ts) (Err (Fault name at)) h = absurd (cc)
passed st (Ok ts) (Err Memory) h = tt
passed st (Err f) (Ok u) h = absurd (cc)
passed st (Err f) (Err (Fault name at)) h = let e : Fault name at ≡ f = cc in ap Err e
passed st (Err f) (Err Memory) h = tt

-- whatever the statements from the i-th on make of this is what all make of the first
abbrev pub Walked : List ℕ → State → List Statement → State → ℕ → Type 0
Walked bytes st0 ss st i = (r : Result State ReadFault) → Expands bytes st (drop i ss) r → Expands bytes st0 ss r

pub walked_more : (bytes : List ℕ) (st0 st new : State) (ss : List Statement) (s : Statement) (i : ℕ) → Walked bytes st0 ss st i → i < length ss → s ≡ get_or ss i s
    → Takes bytes st s (Ok new) → Walked bytes st0 ss new (i + 1)
walked_more bytes st0 st new ss s i w h e t = λ r x. w r (subst (λ z. Expands bytes st z r) (sym (drop_more ss i s h)) (taken (subst (λ z. Takes bytes st z (Ok new)) e t) x))

pub walked_end : (bytes : List ℕ) (st0 st : State) (ss : List Statement) (i : ℕ) → Walked bytes st0 ss st i → length ss ≤ i → Expands bytes st0 ss (Ok st)
walked_end bytes st0 st ss i w h = w (Ok st) (subst (λ z. Expands bytes st z (Ok st)) (sym (drop_all i ss h)) ended)

pub walked_fault : (bytes : List ℕ) (st0 st new : State) (ss : List Statement) (s : Statement) (i : ℕ) (f : ReadFault) → Walked bytes st0 ss st i → i < length ss → s ≡ get_or ss i s
    → Became {A = Unit {0}} (Err f) new (Takes bytes st s) → Became {A = Unit {0}} (Err f) new (Expands bytes st0 ss)
walked_fault bytes st0 st new ss s i (Fault name at) w h e t = w _ (subst (λ z. Expands bytes st z (Err (Fault name at))) (sym (drop_more ss i s h)) (faulty (subst (λ z. Takes bytes st z (Err (Fault name at))) e t)))
walked_fault bytes st0 st new ss s i Memory w h e t = tt
