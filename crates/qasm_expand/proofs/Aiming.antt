-- What arguments are, one after the other: sizes, indices and repeated qubits.
use Rattle.std.proofs.Common.{◌≡◌, ◌≢◌, ℕ, zero, suc, ◌+◌, ◌-◌, ◌<◌, ◌≤◌, Bool, true, false, cond, List, [], ◌∷◌, ◌++◌, Option, Some, None, Result, Ok, Err, option_map, refl, sym, ap, subst, ◌∙◌, ◌&&◌, nat_eq, nat_le, if◌then◌else◌, length, get_or, drop, set, append_assoc, drop-cons, arith, true≢false}
use Rattle.std.specs.Prelude.{bytes_eq, All}
use Rattle.std.proofs.Math.ListN.{drop_of_length-le, replicate}
use Rattle.std.proofs.lemmas.List.{get_or-set_same, get_or-set_other, get_or-replicate, append-nil, length-set}
use Rattle.std.proofs.lemmas.Bool.Decides.{nat_tests}
use Rattle.std.proofs.lemmas.Bool.{eqb-true}
use Rattle.qasm_parse.specs.declared.program.Span.{Span}
use Rattle.qasm_parse.specs.declared.program.Arg.{Arg}
use Rattle.qasm_expand.specs.declared.registers.Extent.{Extent}
use Rattle.qasm_expand.specs.declared.target.Target.{Target}
use Rattle.qasm_expand.specs.declared.target.Target.TheVariants.{Single, Whole}
use Rattle.qasm_expand.specs.declared.fault.FaultName.TheVariants.{Unknown}
use Rattle.qasm_expand.specs.declared.fault.ReadFault.{ReadFault}
use Rattle.qasm_expand.specs.Tables.{Register, register_of, registers_follow, registers_sound, qubits_in, qubit_count, is_among}
use Rattle.qasm_expand.specs.Maps.{extent_of}
use Rattle.qasm_expand.specs.Checks.{and_then, fault}
use Rattle.qasm_expand.specs.Gates.{before, arg_names}
use Rattle.qasm_expand.specs.Targets.{of_register, target_of, targets_of, first_uneven, index_count, qubit_at, qubits_at, repeat_at, or_else, repeat_from}
use Rattle.qasm_expand.specs.Aims.{of_extent, agrees, size_after, Fits, Within}

pub both_left : (a b : Bool) → (a && b) ≡ true → a ≡ true
both_left true b e = refl
both_left false b e = cc

pub both_right : (a b : Bool) → (a && b) ≡ true → b ≡ true
both_right true b e = e
both_right false b e = cc

pub All-cons : {X : Type 0} (P : X → Type 0) (x : X) (xs : List X) → P x → All P xs → All P (x ∷ xs)
All-cons P x xs p ps zero d h = p
All-cons P x xs p ps (suc k) d h = ps k d (omega arith)

All-tail : {X : Type 0} (P : X → Type 0) (x : X) (xs : List X) → All P (x ∷ xs) → All P xs
All-tail P x xs ps k d h = ps (suc k) d (omega arith)

even_choice : (b : Bool) (p : Span) (o : Option Span) → (if b then o else Some p) ≡ None → (b ≡ true) × (o ≡ None)
even_choice true p o e = (refl, e)
even_choice false p o e = cc

-- ---- registers
equal_numbers : (a b : ℕ) → nat_eq a b ≡ true → a ≡ b
equal_numbers a b e = eqb-true a b e

different_numbers : (a b : ℕ) → nat_eq a b ≡ false → a ≢ b
different_numbers a b e = grind (arith, nat_tests)

own_qubits : (b : Bool) (first size from rest : ℕ) → b ≡ true → nat_eq first (if b then from else 0) ≡ true → first + size ≤ from + ((if b then size else 0) + rest)
own_qubits true first size from rest q e = let p = equal_numbers first from e in omega arith
own_qubits false first size from rest q e = absurd (true≢false (sym q))

own_register : (x r : Register) (from rest : ℕ) → x ≡ r → r.quantum ≡ true → nat_eq x.first (if x.quantum then from else 0) ≡ true → r.first + r.size ≤ from + (qubits_in x + rest)
own_register x r from rest p q e =
    subst (λ (y : Register). nat_eq y.first (if y.quantum then from else 0) ≡ true → r.first + r.size ≤ from + (qubits_in y + rest)) (sym p) (own_qubits r.quantum r.first r.size from rest q) e

-- the qubits of a quantum register are among those of all
register_among : (b : Bool) (x r : Register) (l : Option Register) (from rest : ℕ) → r.quantum ≡ true → nat_eq x.first (if x.quantum then from else 0) ≡ true
    → cond b (Some x) l ≡ Some r → (l ≡ Some r → r.first + r.size ≤ (from + qubits_in x) + rest) → r.first + r.size ≤ from + (qubits_in x + rest)
register_among true x r l from rest q first e h = own_register x r from rest (cc) q first
register_among false x r l from rest q first e h = let i = h e in omega arith

qubits_among : (rs : List Register) (name : List ℕ) (r : Register) (from : ℕ) → registers_follow from rs ≡ true → register_of rs name ≡ Some r → r.quantum ≡ true → r.first + r.size ≤ from + qubit_count rs
unfolding registers_follow register_of qubit_count
qubits_among [] name r from s e q = cc
qubits_among (x ∷ rs) name r from s e q =
    register_among (bytes_eq x.name name) x r (register_of rs name) from (qubit_count rs) q (both_left _ _ s) e
    (λ h. qubits_among rs name r (from + qubits_in x) (both_right _ _ (both_right _ _ s)) h q)

pub register_within : (rs : List Register) (name : List ℕ) (r : Register) → registers_sound rs ≡ true → register_of rs name ≡ Some r → r.quantum ≡ true → r.first + r.size ≤ qubit_count rs
register_within rs name r s e q = let h : r.first + r.size ≤ 0 + qubit_count rs = qubits_among rs name r 0 (both_left _ _ s) e q in omega arith

few_numbers : (n : ℕ) → nat_le n 64 ≡ true → n ≤ 64
few_numbers n e = grind (arith, nat_tests)

pub few_qubits : (rs : List Register) → registers_sound rs ≡ true → qubit_count rs ≤ 64
few_qubits rs s = few_numbers (qubit_count rs) (both_right _ _ s)

-- ---- one argument
found_extent : (o : Option Register) (e : Extent) → option_map extent_of o ≡ Some e → (P : Register → Type 0) → ((r : Register) → o ≡ Some r → P r) → (r : Register) × (o ≡ Some r) × (extent_of r ≡ e) × P r
found_extent (Some r) e h P k = (r, refl, cc, k r refl)
found_extent None e h P k = cc

pub extent_within : (rs : List Register) (name : List ℕ) (e : Extent) → registers_sound rs ≡ true → option_map extent_of (register_of rs name) ≡ Some e → e.quantum ≡ true → e.first + e.size ≤ 64
extent_within rs name e s h q =
    let f = found_extent (register_of rs name) e h (λ r. r.quantum ≡ true → r.first + r.size ≤ qubit_count rs) (λ r i. register_within rs name r s i) in
    let few = few_qubits rs s in
    let same : extent_of f.0 ≡ e = f.2 in
    let below : e.first + e.size ≤ qubit_count rs = subst (λ (x : Extent). x.quantum ≡ true → x.first + x.size ≤ qubit_count rs) same f.3 q in
    omega arith

pub target_found : (o : Option Register) (e : Extent) (bytes : List ℕ) (a : Arg) → option_map extent_of o ≡ Some e → of_register o bytes a ≡ of_extent e bytes a
target_found (Some r) e bytes a h = let p : extent_of r ≡ e = cc in ap (λ (x : Extent). of_extent x bytes a) p
target_found None e bytes a h = cc

pub target_missed : (o : Option Register) (bytes : List ℕ) (a : Arg) → option_map extent_of o ≡ None → of_register o bytes a ≡ fault Unknown a.name
target_missed (Some r) bytes a h = cc
target_missed None bytes a h = refl

-- ---- all arguments
abbrev pub ahead : {A E : Type 0} → List A → Result (List A) E → Result (List A) E
ahead xs (Ok ys) = Ok (xs ++ ys)
ahead xs (Err e) = Err e

pub ahead_none : {A E : Type 0} (r : Result (List A) E) → r ≡ ahead [] r
ahead_none (Ok ys) = refl
ahead_none (Err e) = refl

ahead_one : {A E : Type 0} (xs : List A) (x : A) (r : Result (List A) E) → ahead xs (before x r) ≡ ahead (xs ++ x ∷ []) r
ahead_one xs x (Ok ys) = ap (λ l. Ok l) (sym (append_assoc xs (x ∷ []) ys))
ahead_one xs x (Err e) = refl

next_target : (bytes : List ℕ) (rs : List Register) (args : List Arg) (i : ℕ) (d : Arg) → i < length args
    → targets_of bytes rs (drop i args) ≡ and_then (target_of bytes rs (get_or args i d)) (λ t. before t (targets_of bytes rs (drop (i + 1) args)))
unfolding targets_of
next_target bytes rs args i d h =
    let n : suc i ≡ i + 1 = omega arith in
    ap (λ l. targets_of bytes rs l) (drop-cons args i d h)
    ∙ ap (λ (n : ℕ). and_then (target_of bytes rs (get_or args i d)) (λ t. before t (targets_of bytes rs (drop n args)))) n

module _ (bytes : List ℕ) (rs : List Register) (args : List Arg) (i : ℕ) (d : Arg) (out : List Target) (r : Result Target ReadFault) (h : i < length args)
    (is : r ≡ target_of bytes rs (get_or args i d)) (all : targets_of bytes rs args ≡ ahead out (targets_of bytes rs (drop i args))) where
  pub one_target : (t : Target) → r ≡ Ok t → targets_of bytes rs args ≡ ahead (out ++ t ∷ []) (targets_of bytes rs (drop (i + 1) args))
  one_target t ok =
      all ∙ ap (λ r. ahead out r) (next_target bytes rs args i d h)
      ∙ ap (λ (r : Result Target ReadFault). ahead out (and_then r (λ t. before t (targets_of bytes rs (drop (i + 1) args))))) (sym is ∙ ok)
      ∙ ahead_one out t (targets_of bytes rs (drop (i + 1) args))

  pub missed_target : (f : ReadFault) → r ≡ Err f → Err f ≡ targets_of bytes rs args
  missed_target f err =
      sym (all ∙ ap (λ r. ahead out r) (next_target bytes rs args i d h)
      ∙ ap (λ (r : Result Target ReadFault). ahead out (and_then r (λ t. before t (targets_of bytes rs (drop (i + 1) args))))) (sym is ∙ err))

pub all_targets : (bytes : List ℕ) (rs : List Register) (args : List Arg) (i : ℕ) (out : List Target) → length args ≤ i
    → targets_of bytes rs args ≡ ahead out (targets_of bytes rs (drop i args)) → Ok out ≡ targets_of bytes rs args
unfolding targets_of
all_targets bytes rs args i out h all = sym (all ∙ ap (λ l. ahead out (targets_of bytes rs l)) (drop_of_length-le args h) ∙ ap (λ l. Ok l) (append-nil out))

-- ---- sizes
uneven_step : (s : Option ℕ) (t : Target) (ts : List Target) (a : Arg) (args : List Arg)
    → first_uneven s (t ∷ ts) (arg_names (a ∷ args)) ≡ (if agrees s t then first_uneven (size_after s t) ts (arg_names args) else Some a.name)
unfolding first_uneven
uneven_step s (Single q) ts a args = refl
uneven_step None (Whole q n) ts a args = refl
uneven_step (Some m) (Whole q n) ts a args = refl

uneven_at : (s : Option ℕ) (ts : List Target) (args : List Arg) (k : ℕ) (t : Target) (a : Arg) → k < length ts → length ts ≡ length args
    → first_uneven s (drop k ts) (arg_names (drop k args)) ≡ (if agrees s (get_or ts k t) then first_uneven (size_after s (get_or ts k t)) (drop (k + 1) ts) (arg_names (drop (k + 1) args)) else Some (get_or args k a).name)
uneven_at s ts args k t a h same =
    let ka : k < length args = omega arith in
    let n : suc k ≡ k + 1 = omega arith in
    ap (λ l. first_uneven s l (arg_names (drop k args))) (drop-cons ts k t h ∙ ap (λ (n : ℕ). get_or ts k t ∷ drop n ts) n)
    ∙ ap (λ l. first_uneven s (get_or ts k t ∷ drop (k + 1) ts) (arg_names l)) (drop-cons args k a ka ∙ ap (λ (n : ℕ). get_or args k a ∷ drop n args) n)
    ∙ uneven_step s (get_or ts k t) (drop (k + 1) ts) (get_or args k a) (drop (k + 1) args)

module _ (s : Option ℕ) (ts : List Target) (args : List Arg) (k : ℕ) (t : Target) (a : Arg) (x : Option Span) (b : Bool) (h : k < length ts) (same : length ts ≡ length args)
    (all : x ≡ first_uneven s (drop k ts) (arg_names (drop k args))) (is : b ≡ agrees s (get_or ts k t)) where
  pub uneven_here : b ≡ false → Some (get_or args k a).name ≡ x
  uneven_here e = sym (all ∙ uneven_at s ts args k t a h same
      ∙ ap (λ (b : Bool). if b then first_uneven (size_after s (get_or ts k t)) (drop (k + 1) ts) (arg_names (drop (k + 1) args)) else Some (get_or args k a).name) (sym is ∙ e))

  pub uneven_behind : b ≡ true → (n : Option ℕ) → n ≡ size_after s (get_or ts k t) → x ≡ first_uneven n (drop (k + 1) ts) (arg_names (drop (k + 1) args))
  uneven_behind e n ne = all ∙ uneven_at s ts args k t a h same
      ∙ ap (λ (b : Bool). if b then first_uneven (size_after s (get_or ts k t)) (drop (k + 1) ts) (arg_names (drop (k + 1) args)) else Some (get_or args k a).name) (sym is ∙ e)
      ∙ ap (λ n. first_uneven n (drop (k + 1) ts) (arg_names (drop (k + 1) args))) (sym ne)

pub uneven_end : (s : Option ℕ) (ts : List Target) (ps : List Span) (k : ℕ) → length ts ≤ k → first_uneven s (drop k ts) ps ≡ None
unfolding first_uneven
uneven_end s ts ps k h = ap (λ l. first_uneven s l ps) (drop_of_length-le ts h)

-- ---- how often
pub indices_at : (ts : List Target) (k : ℕ) (t : Target) → k < length ts → index_count (drop k ts) ≡ index_count (get_or ts k t ∷ drop (k + 1) ts)
indices_at ts k t h = let n : suc k ≡ k + 1 = omega arith in ap (λ l. index_count l) (drop-cons ts k t h ∙ ap (λ (n : ℕ). get_or ts k t ∷ drop n ts) n)

pub indices_whole : (t : Target) (ts : List Target) (q n : ℕ) → t ≡ Whole q n → index_count (t ∷ ts) ≡ n
unfolding index_count
indices_whole t ts q n e = ap (λ t. index_count (t ∷ ts)) e

pub indices_single : (t : Target) (ts : List Target) → ((q n : ℕ) → t ≡ Whole q n → ⊥) → index_count (t ∷ ts) ≡ index_count ts
unfolding index_count
indices_single (Single q) ts none = refl
indices_single (Whole q n) ts none = absurd (none q n refl)

pub indices_end : (ts : List Target) (k : ℕ) → length ts ≤ k → index_count (drop k ts) ≡ 1
unfolding index_count
indices_end ts k h = ap (λ l. index_count l) (drop_of_length-le ts h)

-- registers whose sizes agree have a place of each number below the count
even_with : (n m : ℕ) (ts : List Target) (ps : List Span) (i : ℕ) → length ts ≡ length ps → first_uneven (Some m) ts ps ≡ None → All (Fits n) ts → i < m → All (Within n i) ts
unfolding first_uneven
even_with n m [] ps i same e fits h = λ k d lt. absurd (omega arith)
even_with n m (t ∷ ts) [] i same e fits h = absurd (omega arith)
even_with n m (Single q ∷ ts) (p ∷ ps) i same e fits h =
    All-cons (Within n i) (Single q) ts (fits 0 (Single q) (omega arith)) (even_with n m ts ps i (omega arith) e (All-tail (Fits n) (Single q) ts fits) h)
even_with n m (Whole q size ∷ ts) (p ∷ ps) i same e fits h =
    let both = even_choice (nat_eq m size) p (first_uneven (Some m) ts ps) e in
    let eq = equal_numbers m size both.0 in
    All-cons (Within n i) (Whole q size) ts (omega arith, fits 0 (Whole q size) (omega arith)) (even_with n m ts ps i (omega arith) both.1 (All-tail (Fits n) (Whole q size) ts fits) h)

pub even_within : (n : ℕ) (ts : List Target) (ps : List Span) (i : ℕ) → length ts ≡ length ps → first_uneven None ts ps ≡ None → All (Fits n) ts → i < index_count ts → All (Within n i) ts
unfolding first_uneven index_count
even_within n [] ps i same e fits h = λ k d lt. absurd (omega arith)
even_within n (t ∷ ts) [] i same e fits h = absurd (omega arith)
even_within n (Single q ∷ ts) (p ∷ ps) i same e fits h =
    All-cons (Within n i) (Single q) ts (fits 0 (Single q) (omega arith)) (even_within n ts ps i (omega arith) e (All-tail (Fits n) (Single q) ts fits) h)
even_within n (Whole q size ∷ ts) (p ∷ ps) i same e fits h =
    All-cons (Within n i) (Whole q size) ts (h, fits 0 (Whole q size) (omega arith)) (even_with n size ts ps i (omega arith) e (All-tail (Fits n) (Whole q size) ts fits) h)

-- ---- repeated qubits
-- the marks say which qubits are among these
abbrev pub Marks : List Bool → List ℕ → Type 0
Marks marks seen = (q : ℕ) → q < 64 → get_or marks q false ≡ is_among q seen

pub marks_none : Marks (replicate 64 false) []
unfolding is_among
marks_none q h = get_or-replicate 64 q false false h

mark_choice : (marks : List Bool) (q p : ℕ) (seen : List ℕ) (b : Bool) → nat_eq p q ≡ b → length marks ≡ 64 → p < 64 → get_or marks p false ≡ is_among p seen
    → get_or (set marks q true) p false ≡ (if b then true else is_among p seen)
mark_choice marks q p seen true e len h m = let s = equal_numbers p q e in ap (λ (k : ℕ). get_or (set marks k true) p false) (sym s) ∙ get_or-set_same marks p true false (omega arith)
mark_choice marks q p seen false e len h m = get_or-set_other marks q p true false (λ s. different_numbers p q e s) ∙ m

pub marks_more : (marks : List Bool) (q : ℕ) (seen : List ℕ) → length marks ≡ 64 → Marks marks seen → Marks (set marks q true) (q ∷ seen)
unfolding is_among
marks_more marks q seen len m p h = mark_choice marks q p seen (nat_eq p q) refl len h (m p h)

repeat_step : (seen : List ℕ) (q : ℕ) (qs : List ℕ) (p : Span) (ps : List Span) → repeat_at seen (q ∷ qs) (p ∷ ps) ≡ (if is_among q seen then Some p else repeat_at (q ∷ seen) qs ps)
unfolding repeat_at
repeat_step seen q qs p ps = refl

repeat_head : (seen : List ℕ) (ts : List Target) (args : List Arg) (i k : ℕ) (t : Target) (a : Arg) → k < length ts → length ts ≡ length args
    → repeat_at seen (qubits_at (drop k ts) i) (arg_names (drop k args))
    ≡ (if is_among (qubit_at i (get_or ts k t)) seen then Some (get_or args k a).name else repeat_at (qubit_at i (get_or ts k t) ∷ seen) (qubits_at (drop (k + 1) ts) i) (arg_names (drop (k + 1) args)))
repeat_head seen ts args i k t a h same =
    let ka : k < length args = omega arith in
    let n : suc k ≡ k + 1 = omega arith in
    ap (λ l. repeat_at seen (qubits_at l i) (arg_names (drop k args))) (drop-cons ts k t h ∙ ap (λ (n : ℕ). get_or ts k t ∷ drop n ts) n)
    ∙ ap (λ l. repeat_at seen (qubits_at (get_or ts k t ∷ drop (k + 1) ts) i) (arg_names l)) (drop-cons args k a ka ∙ ap (λ (n : ℕ). get_or args k a ∷ drop n args) n)
    ∙ repeat_step seen (qubit_at i (get_or ts k t)) (qubits_at (drop (k + 1) ts) i) (get_or args k a).name (arg_names (drop (k + 1) args))

-- what a loop over the arguments knows of those that it passed
pub record Passed (marks : List Bool) (ts : List Target) (args : List Arg) (i k : ℕ) : Type 0 where
  pub sized : length marks ≡ 64
  pub seen : List ℕ
  pub marked : Marks marks seen
  pub left : repeat_at [] (qubits_at ts i) (arg_names args) ≡ repeat_at seen (qubits_at (drop k ts) i) (arg_names (drop k args))

pub passed_none : (ts : List Target) (args : List Arg) (i : ℕ) → Passed (replicate 64 false) ts args i 0
passed_none ts args i = record { sized = refl; seen = []; marked = marks_none; left = refl }

module _ (marks : List Bool) (ts : List Target) (args : List Arg) (i k : ℕ) (t : Target) (a : Arg) (q : ℕ) (b : Bool) (h : k < length ts) (same : length ts ≡ length args)
    (p : Passed marks ts args i k) (is : q ≡ qubit_at i (get_or ts k t)) (low : q < 64) (marked : b ≡ get_or marks q false) where
  among : b ≡ is_among (qubit_at i (get_or ts k t)) p.seen
  among = marked ∙ p.marked q low ∙ ap (λ q. is_among q p.seen) is

  pub repeated_here : b ≡ true → Some (get_or args k a).name ≡ repeat_at [] (qubits_at ts i) (arg_names args)
  repeated_here e = sym (p.left ∙ repeat_head p.seen ts args i k t a h same
      ∙ ap (λ (b : Bool). if b then Some (get_or args k a).name else repeat_at (qubit_at i (get_or ts k t) ∷ p.seen) (qubits_at (drop (k + 1) ts) i) (arg_names (drop (k + 1) args))) (sym among ∙ e))

  pub passed_more : b ≡ false → Passed (set marks q true) ts args i (k + 1)
  passed_more e = record {
    sized = length-set marks q true ∙ p.sized;
    seen = q ∷ p.seen;
    marked = marks_more marks q p.seen p.sized p.marked;
    left = p.left ∙ repeat_head p.seen ts args i k t a h same
        ∙ ap (λ (b : Bool). if b then Some (get_or args k a).name else repeat_at (qubit_at i (get_or ts k t) ∷ p.seen) (qubits_at (drop (k + 1) ts) i) (arg_names (drop (k + 1) args))) (sym among ∙ e)
        ∙ ap (λ (q : ℕ). repeat_at (q ∷ p.seen) (qubits_at (drop (k + 1) ts) i) (arg_names (drop (k + 1) args))) (sym is);
  }

pub passed_all : (marks : List Bool) (ts : List Target) (args : List Arg) (i k : ℕ) → length ts ≤ k → Passed marks ts args i k → None ≡ repeat_at [] (qubits_at ts i) (arg_names args)
unfolding repeat_at
passed_all marks ts args i k h p = sym (p.left ∙ ap (λ l. repeat_at p.seen (qubits_at l i) (arg_names (drop k args))) (drop_of_length-le ts h))

-- of the indices from i on
repeat_on : (ts : List Target) (ps : List Span) (i n m : ℕ) → n ≡ suc m → repeat_from ts ps i n ≡ or_else (repeat_at [] (qubits_at ts i) ps) (repeat_from ts ps (i + 1) m)
unfolding repeat_from
repeat_on ts ps i n m e = ap (λ n. repeat_from ts ps i n) e

pub repeat_found : (ts : List Target) (ps : List Span) (i count : ℕ) (p : Span) (x : Option Span) → i < count → x ≡ repeat_from ts ps i (count - i) → Some p ≡ repeat_at [] (qubits_at ts i) ps → Some p ≡ x
repeat_found ts ps i count p x h all e = sym (all ∙ repeat_on ts ps i (count - i) (count - (i + 1)) (omega arith) ∙ ap (λ o. or_else o (repeat_from ts ps (i + 1) (count - (i + 1)))) (sym e))

pub repeat_next : (ts : List Target) (ps : List Span) (i count : ℕ) (x : Option Span) → i < count → x ≡ repeat_from ts ps i (count - i) → None ≡ repeat_at [] (qubits_at ts i) ps → x ≡ repeat_from ts ps (i + 1) (count - (i + 1))
repeat_next ts ps i count x h all e = all ∙ repeat_on ts ps i (count - i) (count - (i + 1)) (omega arith) ∙ ap (λ o. or_else o (repeat_from ts ps (i + 1) (count - (i + 1)))) (sym e)

pub repeat_end : (ts : List Target) (ps : List Span) (i count : ℕ) (x : Option Span) → count ≤ i → x ≡ repeat_from ts ps i (count - i) → None ≡ x
unfolding repeat_from
repeat_end ts ps i count x h all = let none : count - i ≡ 0 = omega arith in sym (all ∙ ap (λ n. repeat_from ts ps i n) none)
