-- Looking names up in tables, and declaring registers.
use Rattle.std.proofs.Common.{◌≡◌, ℕ, ◌+◌, Bool, true, false, cond, List, [], ◌∷◌, ◌++◌, Option, Some, None, option_map, Vec, Global, refl, sym, ap, ◌∙◌, ◌&&◌, nat_eq, arith}
use Rattle.std.specs.Prelude.{map, bytes_eq}
use Rattle.std.specs.Map.{lookup}
use Rattle.std.proofs.lemmas.Bool.Decides.{nat_tests}
use Rattle.indexmap.specs.IndexMap.{insert_entry}
use Rattle.qasm_expand.specs.declared.registers.Extent.{Extent}
use Rattle.qasm_expand.specs.Tables.{Register, register_of, qubits_in, qubit_count}
use Rattle.qasm_expand.specs.Maps.{extent_of, register_with}

same_numbers : (x y : ℕ) → nat_eq x y ≡ nat_eq y x
same_numbers x y = grind (arith, nat_tests)

pub same_either_way : (xs ys : List ℕ) → bytes_eq xs ys ≡ bytes_eq ys xs
same_either_way [] [] = refl
same_either_way [] (y ∷ ys) = refl
same_either_way (x ∷ xs) [] = refl
same_either_way (x ∷ xs) (y ∷ ys) = ap (λ b. b && bytes_eq xs ys) (same_numbers x y) ∙ ap (λ b. nat_eq y x && b) (same_either_way xs ys)

mapped_choice : {A B : Type 0} (f : A → B) (b : Bool) (x : A) (r : Option A) → option_map f (cond b (Some x) r) ≡ cond b (Some (f x)) (option_map f r)
mapped_choice f true x r = refl
mapped_choice f false x r = refl

-- what the table has for a name
pub found : (name : List ℕ) (es : List ((Vec ℕ Global) × Extent)) → lookup (λ (k : Vec ℕ Global). bytes_eq name k.items) es ≡ option_map extent_of (register_of (map register_with es) name)
unfolding register_of
found name [] = refl
found name (e ∷ es) =
    ap (λ b. cond b (Some e.1) (lookup (λ (k : Vec ℕ Global). bytes_eq name k.items) es)) (same_either_way name e.0.items)
    ∙ ap (λ r. cond (bytes_eq e.0.items name) (Some e.1) r) (found name es)
    ∙ sym (mapped_choice extent_of (bytes_eq e.0.items name) (register_with e) (register_of (map register_with es) name))

-- an entry with a new key goes last
abbrev same_keys : Vec ℕ Global → Vec ℕ Global → Bool
same_keys x y = bytes_eq x.items y.items

behind_one : (b : Bool) (x y : (Vec ℕ Global) × Extent) (es fs gs : List ((Vec ℕ Global) × Extent)) (v : Extent) (l : Option Extent) → cond b (Some v) l ≡ None → (l ≡ None → fs ≡ gs) → cond b (y ∷ es) (x ∷ fs) ≡ x ∷ gs
behind_one true x y es fs gs v l e h = cc
behind_one false x y es fs gs v l e h = ap (λ t. x ∷ t) (h e)

inserted_last : (es : List ((Vec ℕ Global) × Extent)) (k : Vec ℕ Global) (v : Extent) → lookup (same_keys k) es ≡ None → insert_entry same_keys es k v ≡ es ++ (k, v) ∷ []
inserted_last [] k v e = refl
inserted_last (x ∷ es) k v e = behind_one (bytes_eq k.items x.0.items) x (x.0, v) es (insert_entry same_keys es k v) (es ++ (k, v) ∷ []) x.1 (lookup (same_keys k) es) e (inserted_last es k v)

mapped_more : (es : List ((Vec ℕ Global) × Extent)) (e : (Vec ℕ Global) × Extent) → map register_with (es ++ e ∷ []) ≡ map register_with es ++ register_with e ∷ []
mapped_more [] e = refl
mapped_more (x ∷ es) e = ap (λ l. register_with x ∷ l) (mapped_more es e)

-- so the registers with one that is new
pub declared : (old new : List ((Vec ℕ Global) × Extent)) (key : Vec ℕ Global) (e : Extent) (name : List ℕ) (rs : List Register)
    → map register_with old ≡ rs → key.items ≡ name → register_of rs name ≡ None → new ≡ insert_entry same_keys old key e
    → map register_with new ≡ rs ++ record { name = name; quantum = e.quantum; first = e.first; size = e.size } ∷ []
declared old new key e name rs are named absent is =
    let none : lookup (same_keys key) old ≡ None = found key.items old ∙ ap (λ r. option_map extent_of r) (ap (λ n. register_of (map register_with old) n) named ∙ ap (λ l. register_of l name) are ∙ absent) in
    ap (λ l. map register_with l) (is ∙ inserted_last old key e none) ∙ mapped_more old (key, e)
    ∙ ap (λ l. l ++ register_with (key, e) ∷ []) are ∙ ap (λ n. rs ++ record { name = n; quantum = e.quantum; first = e.first; size = e.size } ∷ []) named

-- and its qubits
pub counted_more : (rs : List Register) (r : Register) → qubit_count (rs ++ r ∷ []) ≡ qubit_count rs + qubits_in r
unfolding qubit_count
counted_more [] r = omega arith
counted_more (x ∷ rs) r = let h = counted_more rs r in omega arith
