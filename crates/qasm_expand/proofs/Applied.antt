-- What an application makes of what is known.
use Rattle.std.proofs.Common.{◌≡◌, ℕ, ◌<◌, ◌≤◌, true, List, [], ◌++◌, Result, Ok, Err, refl, sym, ap, subst, ◌∙◌, length, arith}
use Rattle.std.specs.Prelude.{All}
use Rattle.std.proofs.lemmas.List.{length-append}
use Rattle.ps_prim.specs.declared.prims.Primitive.{Primitive as Prim}
use Rattle.ps_prim.specs.Maps.{AllWithin}
use Rattle.qasm_angle.specs.declared.types.AngleFault.{AngleFault}
use Rattle.qasm_angle.specs.declared.types.AngleFault.TheVariants.{NotDyadic, AngleRange, NoParameter, Function, ByZero, Memory as NoMemory}
use Rattle.qasm_parse.specs.declared.program.Formula.{Formula}
use Rattle.qasm_parse.specs.declared.program.Call.{Call}
use Rattle.qasm_expand.specs.declared.target.Target.{Target}
use Rattle.qasm_expand.specs.declared.target.Aimed.{Aimed}
use Rattle.qasm_expand.specs.declared.broken.Broken.{Broken}
use Rattle.qasm_expand.specs.declared.broken.Broken.TheVariants.{Own, Inside}
use Rattle.qasm_expand.specs.declared.state.State.{State}
use Rattle.qasm_expand.specs.declared.fault.ReadFault.{ReadFault}
use Rattle.qasm_expand.specs.declared.fault.ReadFault.TheVariants.{Fault, Memory}
use Rattle.qasm_expand.specs.Tables.{qubit_count, all_different, is_earlier, params_of, args_of, size_of}
use Rattle.qasm_expand.specs.Checks.{of_angle, Known}
use Rattle.qasm_expand.specs.Bodies.{Comes, call, fault_of, unless_memory}
use Rattle.qasm_expand.specs.States.{IsSound, ItemsWithin, Became}
use Rattle.qasm_expand.specs.Targets.{index_count, qubits_at, aimed, items_from, expression_at, broken_at, exprs_of, Applies, missed, applies}
use Rattle.qasm_expand.specs.Statements.{behind}
use Rattle.qasm_expand.specs.Aims.{Within}
use Rattle.qasm_expand.proofs.Aiming.{few_qubits}
use Rattle.qasm_expand.proofs.Aimed.{HandsOn, Parts, parts, gate_earlier, right_arity, not_many, Ready, ready}
use Rattle.qasm_expand.proofs.Placing.{index_more, items_count, items_within, both_within}

abbrev pub Outcome : List ℕ → State → Call → Result State ReadFault → Type 0
Outcome bytes st c r = (o : Result (List (List Prim)) ReadFault) × Applies bytes st.registers st.defs st.bound (length st.items) c o × (r ≡ behind st o)

abbrev pub aim_of : List ℕ → State → Call → Result Aimed ReadFault
aim_of bytes st c = aimed bytes st.registers st.defs st.bound (length st.items) c

-- ---- faults
missed_as : (bytes : List ℕ) (st : State) (c : Call) (x : ReadFault) → Known (Err x) (λ r. r ≡ aim_of bytes st c) → Became {A = Unit {0}} (Err x) st (Outcome bytes st c)
missed_as bytes st c (Fault name at) h = (Err (Fault name at), missed (sym h), refl)
missed_as bytes st c Memory h = tt

pub became_missed : (bytes : List ℕ) (st : State) (c : Call) (x : ReadFault) (r : Result (Unit {0}) ReadFault) → HandsOn r x → Known (Err x) (λ r. r ≡ aim_of bytes st c) → Became r st (Outcome bytes st c)
became_missed bytes st c x r (y, e, g) h = subst (λ z. Became z st (Outcome bytes st c)) (sym (e ∙ ap Err g)) (missed_as bytes st c x h)

broken_as : (st : State) (P : Result State ReadFault → Type 0) (Q : Type 0) (f : AngleFault) (at : ℕ) → (Q → P (Err (of_angle f at))) → unless_memory f Q → Became {A = Unit {0}} (Err (of_angle f at)) st P
broken_as st P Q NotDyadic at k h = k h
broken_as st P Q AngleRange at k h = k h
broken_as st P Q NoParameter at k h = k h
broken_as st P Q Function at k h = k h
broken_as st P Q ByZero at k h = k h
broken_as st P Q NoMemory at k h = tt

module _ (bytes : List ℕ) (st : State) (c : Call) (a : Aimed) (e : aim_of bytes st c ≡ Ok a) where
  broken_by : (b : Broken) → unless_memory (fault_of b) (Comes st.defs [] (call a.gate (exprs_of c.params)) (Err b)) → Became {A = Unit {0}} (Err (broken_at c b)) st (Outcome bytes st c)
  broken_by (Own s) h = broken_as st (Outcome bytes st c) (Comes st.defs [] (call a.gate (exprs_of c.params)) (Err (Own s))) s.fault (expression_at c.params s.at) (λ q. (Err (broken_at c (Own s)), applies e q, refl)) h
  broken_by (Inside f) h = broken_as st (Outcome bytes st c) (Comes st.defs [] (call a.gate (exprs_of c.params)) (Err (Inside f))) f c.at.from (λ q. (Err (broken_at c (Inside f)), applies e q, refl)) h

  pub became_broken : (b : Broken) (f : ReadFault) (fs : List Formula) → f ≡ broken_at c b → fs ≡ c.params → unless_memory (fault_of b) (Comes st.defs [] (call a.gate (exprs_of fs)) (Err b)) → Became {A = Unit {0}} (Err f) st (Outcome bytes st c)
  became_broken b f fs g p h =
      subst (λ f. Became {A = Unit {0}} (Err f) st (Outcome bytes st c)) (sym g)
      (broken_by b (subst (λ fs. unless_memory (fault_of b) (Comes st.defs [] (call a.gate (exprs_of fs)) (Err b))) p h))

  -- ---- what is aimed may be applied
  module _ (s : IsSound st) where
    all_parts : Parts bytes st.registers st.defs st.bound (length st.items) c a
    all_parts = parts bytes st.registers st.defs st.bound (length st.items) c a e

    all_ready : Ready (qubit_count st.registers) c.args a.targets
    all_ready = ready bytes st.registers st.defs st.bound (length st.items) c a s.qubits all_parts

    pub known_gate : is_earlier (length st.defs) a.gate ≡ true
    known_gate = gate_earlier (length st.defs) bytes st.bound c.gate c.at a.gate s.names all_parts.gate_is

    pub known_arity : (fs : List Formula) → fs ≡ c.params → length fs ≡ params_of st.defs a.gate
    known_arity fs p = ap length p ∙ (right_arity st.defs a.gate (length c.params) (length c.args) all_parts.arity).0

    pub known_size : size_of st.defs a.gate ≤ 4096
    known_size = (not_many st.defs a.gate (length st.items) (index_count a.targets) all_parts.few).0

    target_count : args_of st.defs a.gate ≡ length a.targets
    target_count = sym (all_ready.same ∙ (right_arity st.defs a.gate (length c.params) (length c.args) all_parts.arity).1)

    module _ (ts : List Target) (are : ts ≡ a.targets) (n : ℕ) (count : n ≡ index_count ts) where
      pub known_prims : (gs hs : List Prim) → hs ≡ gs → AllWithin (args_of st.defs a.gate) gs → AllWithin (length ts) hs
      known_prims gs hs p w = subst (AllWithin (length ts)) (sym p) (subst (λ k. AllWithin k gs) (target_count ∙ ap length (sym are)) w)

      below : (i : ℕ) → i < n → i < index_count a.targets
      below i h = subst (λ k. i < k) (count ∙ ap index_count are) h

      pub known_targets : (i : ℕ) → i < n → All (Within 64 i) ts
      known_targets i h = subst (All (Within 64 i)) (sym are) (λ k d l. index_more (qubit_count st.registers) 64 i _ (few_qubits st.registers s.qubits) (all_ready.within i (below i h) k d l))

      pub known_different : (i : ℕ) → i < n → all_different (qubits_at ts i) ≡ true
      known_different i h = ap (λ ts. all_different (qubits_at ts i)) are ∙ all_ready.different i (below i h)

      -- ---- what it makes
      module _ (gs hs : List Prim) (made : hs ≡ gs) (w : AllWithin (args_of st.defs a.gate) gs) (new : List (List Prim)) (added : new ≡ st.items ++ items_from hs ts 0 n) where
        all_added : new ≡ st.items ++ items_from gs a.targets 0 (index_count a.targets)
        all_added = added ∙ ap (λ hs. st.items ++ items_from hs ts 0 n) made ∙ ap (λ n. st.items ++ items_from gs ts 0 n) count ∙ ap (λ ts. st.items ++ items_from gs ts 0 (index_count ts)) are

        pub became_applied : (fs : List Formula) → fs ≡ c.params → Comes st.defs [] (call a.gate (exprs_of fs)) (Ok gs)
            → Outcome bytes st c (Ok (record { registers = st.registers; defs = st.defs; bound = st.bound; library = st.library; items = new }))
        became_applied fs p comes = (
          Ok (items_from gs a.targets 0 (index_count a.targets)),
          applies e (subst (λ fs. Comes st.defs [] (call a.gate (exprs_of fs)) (Ok gs)) p comes),
          ap (λ is. Ok (record { registers = st.registers; defs = st.defs; bound = st.bound; library = st.library; items = is })) all_added,
        )

        pub still_sound : IsSound (record { registers = st.registers; defs = st.defs; bound = st.bound; library = st.library; items = new })
        still_sound = record {
          gates = s.gates;
          names = s.names;
          qubits = s.qubits;
          within = subst (ItemsWithin (qubit_count st.registers)) (sym all_added)
              (both_within (qubit_count st.registers) st.items (items_from gs a.targets 0 (index_count a.targets)) s.within
              (items_within (qubit_count st.registers) gs a.targets 0 (index_count a.targets) (λ j l. all_ready.within j (omega arith)) (λ j l. all_ready.different j (omega arith))
              (subst (λ k. AllWithin k gs) target_count w)));
          few =
              let few = (not_many st.defs a.gate (length st.items) (index_count a.targets) all_parts.few).1 in
              let more = items_count gs a.targets 0 (index_count a.targets) in
              let len = ap length all_added ∙ length-append st.items (items_from gs a.targets 0 (index_count a.targets)) in
              omega arith;
        }
