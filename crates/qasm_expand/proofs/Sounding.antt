-- A register more.
use Rattle.std.proofs.Common.{◌≡◌, ℕ, ◌+◌, ◌<◌, ◌≤◌, refl, ap, sym, ◌∙◌, subst, arith, Bool, true, false, ◌&&◌, nat_eq, nat_lt, nat_le, List, [], ◌∷◌, ◌++◌, if◌then◌else◌}
use Rattle.std.proofs.lemmas.Bool.Decides.{nat_tests}
use Rattle.ps_prim.specs.declared.prims.Primitive.{Primitive as Prim}
use Rattle.ps_prim.specs.declared.prims.Primitive.TheVariants.{U, Cx}
use Rattle.ps_prim.specs.Maps.{IsWithin, AllWithin}
use Rattle.qasm_expand.specs.declared.state.State.{State}
use Rattle.qasm_expand.specs.Tables.{Register, qubits_in, qubit_count, registers_follow, registers_sound, defs_sound_from, bound_sound}
use Rattle.qasm_expand.specs.Circuits.{nothing_yet}
use Rattle.qasm_expand.specs.States.{ItemsWithin, IsSound}

pub prim_wider : (n m : ℕ) (g : Prim) → n ≤ m → IsWithin n g → IsWithin m g
prim_wider n m (U theta phi lambda q) h w = omega (arith, h, w)
prim_wider n m (Cx c t) h w = (omega (arith, h, w.0), omega (arith, h, w.1), w.2)

pub wider : (n m : ℕ) (gs : List Prim) → n ≤ m → AllWithin n gs → AllWithin m gs
wider n m [] h w = tt
wider n m (g ∷ gs) h w = (prim_wider n m g h w.0, wider n m gs h w.1)

pub items_wider : (n m : ℕ) (is : List (List Prim)) → n ≤ m → ItemsWithin n is → ItemsWithin m is
items_wider n m [] h w = tt
items_wider n m (i ∷ is) h w = (wider n m i h w.0, items_wider n m is h w.1)

pub one_more : (rs : List Register) (r : Register) → qubit_count (rs ++ r ∷ []) ≡ qubit_count rs + qubits_in r
unfolding qubit_count
one_more [] r = omega arith
one_more (s ∷ rs) r = let e : qubit_count (rs ++ r ∷ []) ≡ qubit_count rs + qubits_in r = one_more rs r in omega (arith, e)

both : (a b : Bool) → (a && b) ≡ true → (a ≡ true) × (b ≡ true)
both true b e = (refl, e)
both false b e = absurd (cc)

join : (a b : Bool) → a ≡ true → b ≡ true → (a && b) ≡ true
join true b e f = f
join false b e f = absurd (cc)

-- the one more follows those that are there
abbrev pub Follows : ℕ → Register → Type 0
Follows from r = (nat_eq r.first (if r.quantum then from else 0) ≡ true) × (nat_lt 0 r.size ≡ true)

pub follow_more : (from : ℕ) (rs : List Register) (r : Register) → registers_follow from rs ≡ true → Follows (from + qubit_count rs) r → registers_follow from (rs ++ r ∷ []) ≡ true
unfolding qubit_count registers_follow
follow_more from [] r h f =
    let e : from + 0 ≡ from = omega arith in
    join (nat_eq r.first (if r.quantum then from else 0)) (nat_lt 0 r.size && true) (subst (λ z. nat_eq r.first (if r.quantum then z else 0) ≡ true) e f.0) (join (nat_lt 0 r.size) true f.1 refl)
follow_more from (s ∷ rs) r h f =
    let p = both (nat_eq s.first (if s.quantum then from else 0)) (nat_lt 0 s.size && registers_follow (from + qubits_in s) rs) h in
    let q = both (nat_lt 0 s.size) (registers_follow (from + qubits_in s) rs) p.1 in
    let e : from + (qubits_in s + qubit_count rs) ≡ (from + qubits_in s) + qubit_count rs = omega arith in
    join (nat_eq s.first (if s.quantum then from else 0)) (nat_lt 0 s.size && registers_follow (from + qubits_in s) (rs ++ r ∷ [])) p.0
    (join (nat_lt 0 s.size) (registers_follow (from + qubits_in s) (rs ++ r ∷ [])) q.0 (follow_more (from + qubits_in s) rs r q.1 (subst (λ z. Follows z r) e f)))

abbrev pub declared : List ℕ → Bool → ℕ → ℕ → Register
declared name quantum count size = record { name = name; quantum = quantum; first = if quantum then count else 0; size = size }

eq_same : (n : ℕ) → nat_eq n n ≡ true
eq_same n = grind (arith, nat_tests)

few_more : (quantum : Bool) (count size : ℕ) → count ≤ 64 → (quantum && nat_lt 64 (count + size)) ≡ false → count + (if quantum then size else 0) ≤ 64
few_more true count size h e = grind (arith, nat_tests)
few_more false count size h e = omega (arith, h)

le_of : (a b : ℕ) → nat_le a b ≡ true → a ≤ b
le_of a b e = grind (arith, nat_tests)

le_is : (a b : ℕ) → a ≤ b → nat_le a b ≡ true
le_is a b e = grind (arith, nat_tests)

lt_is : (a b : ℕ) → a < b → nat_lt a b ≡ true
lt_is a b e = grind (arith, nat_tests)

pub sound_more : (st new : State) (name : List ℕ) (quantum : Bool) (size : ℕ) → IsSound st → 0 < size → (quantum && nat_lt 64 (qubit_count st.registers + size)) ≡ false
    → new.registers ≡ st.registers ++ declared name quantum (qubit_count st.registers) size ∷ [] → new.defs ≡ st.defs → new.bound ≡ st.bound → new.items ≡ st.items → IsSound new
sound_more st new name quantum size s some few e d b i =
    let r : Register = declared name quantum (qubit_count st.registers) size in
    let p = both (registers_follow 0 st.registers) (nat_le (qubit_count st.registers) 64) s.qubits in
    let c : qubit_count new.registers ≡ qubit_count st.registers + qubits_in r = ap qubit_count e ∙ one_more st.registers r in
    let k : qubit_count st.registers + (if quantum then size else 0) ≤ 64 = few_more quantum (qubit_count st.registers) size (le_of (qubit_count st.registers) 64 p.1) few in
    let f : registers_follow 0 new.registers ≡ true = ap (registers_follow 0) e ∙ follow_more 0 st.registers r p.0 (subst (λ z. nat_eq (if quantum then qubit_count st.registers else 0) (if quantum then z else 0) ≡ true) (let z : qubit_count st.registers ≡ 0 + qubit_count st.registers = omega arith in z) (eq_same (if quantum then qubit_count st.registers else 0)), lt_is 0 size some) in
    let m : qubit_count new.registers ≤ 64 = subst (λ z. z ≤ 64) (sym c) k in
    record {
      gates = ap (λ z. Rattle.qasm_expand.specs.Tables.defs_sound z) d ∙ s.gates;
      names = ap (λ z. Rattle.qasm_expand.specs.Tables.bound_sound (Rattle.std.specs.Prelude.length z) new.bound) d ∙ ap (λ z. Rattle.qasm_expand.specs.Tables.bound_sound (Rattle.std.specs.Prelude.length st.defs) z) b ∙ s.names;
      qubits = join (registers_follow 0 new.registers) (nat_le (qubit_count new.registers) 64) f (le_is (qubit_count new.registers) 64 m);
      within = subst (ItemsWithin (qubit_count new.registers)) (sym i) (items_wider (qubit_count st.registers) (qubit_count new.registers) st.items (subst (λ z. qubit_count st.registers ≤ z) (sym c) (omega arith)) s.within);
      few = subst (λ z. Rattle.std.specs.Prelude.length z ≤ 65536) (sym i) s.few;
    }

pub nothing_is_sound : IsSound nothing_yet
unfolding qubit_count registers_follow defs_sound_from bound_sound
nothing_is_sound = record { gates = refl; names = refl; qubits = refl; within = tt; few = omega arith }

pub nothing_sound : (st : State) → st.registers ≡ [] → st.defs ≡ [] → st.bound ≡ [] → st.items ≡ [] → IsSound st
nothing_sound st r d b i = record {
  gates = ap (λ z. Rattle.qasm_expand.specs.Tables.defs_sound z) d ∙ nothing_is_sound.gates;
  names = ap (λ z. bound_sound (Rattle.std.specs.Prelude.length z) st.bound) d ∙ ap (λ z. bound_sound 0 z) b ∙ nothing_is_sound.names;
  qubits = ap registers_sound r ∙ nothing_is_sound.qubits;
  within = subst (ItemsWithin (qubit_count st.registers)) (sym i) tt;
  few = subst (λ z. Rattle.std.specs.Prelude.length z ≤ 65536) (sym i) nothing_is_sound.few;
}
