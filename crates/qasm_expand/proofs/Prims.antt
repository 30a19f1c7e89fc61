-- Prims on places: replacing, how many they are, and where they are.
use Rattle.std.proofs.Common.{◌≡◌, ◌≢◌, ◌<◌, ◌≤◌, ℕ, zero, suc, ◌+◌, length, length-append, get_or, add-one, zero-add, arith, List, [], ◌∷◌, ◌++◌, map, refl, sym, ◌∙◌, ap, subst, true, false, ◌&&◌, Result, Ok, Err}
use Rattle.std.specs.Prelude.{nat_eq, nat_lt, Bool, not, min, if◌then◌else◌}
use Rattle.std.specs.List.{range_with_len}
use Rattle.std.proofs.lemmas.Bool.Decides.{nat_tests}
use Rattle.std.proofs.lemmas.List.{get_or-map, length-map}
use Rattle.std.proofs.lemmas.List.FromFn.{get_or-range_with_len}
use Rattle.ps_prim.specs.declared.prims.Primitive.{Primitive as Prim}
use Rattle.ps_prim.specs.declared.prims.Primitive.TheVariants.{U as UPrim, Cx as CxPrim}
use Rattle.ps_prim.specs.Maps.{IsWithin, AllWithin}
use Rattle.qasm_angle.specs.declared.types.Pair.{Pair}
use Rattle.qasm_expand.specs.declared.defs.Def.{Def}
use Rattle.qasm_expand.specs.declared.broken.Broken.{Broken}
use Rattle.qasm_expand.specs.Tables.{args_of_def, size_of_def, args_of, size_of, prim_count, is_among, all_below, all_different, defs_sound}
use Rattle.qasm_expand.specs.Bodies.{on_qubits, all_on, joined, Job, call, rest, Comes, nothing, universal, no_angle, controlled, replaced, no_value, ended, applied, broken}
use Rattle.qasm_expand.specs.Frames.{BodyFits}
use Rattle.qasm_expand.proofs.Fitting.{test_lt, def_fits}

-- ---- replacing twice
on_both : (qs ps : List ℕ) (g : Prim) → IsWithin (length ps) g → on_qubits qs (on_qubits ps g) ≡ on_qubits (map (λ q. get_or qs q 0) ps) g
on_both qs ps (UPrim theta phi lambda q) h = ap (λ k. UPrim theta phi lambda k) (sym (get_or-map (λ q. get_or qs q 0) ps q 0 0 h))
on_both qs ps (CxPrim c t) h =
    ap (λ k. CxPrim k (get_or qs (get_or ps t 0) 0)) (sym (get_or-map (λ q. get_or qs q 0) ps c 0 0 h.0)) ∙ ap (λ k. CxPrim (get_or (map (λ q. get_or qs q 0) ps) c 0) k) (sym (get_or-map (λ q. get_or qs q 0) ps t 0 0 h.1))

pub all_both : (qs ps : List ℕ) (gs : List Prim) → AllWithin (length ps) gs → all_on qs (all_on ps gs) ≡ all_on (map (λ q. get_or qs q 0) ps) gs
all_both qs ps [] h = refl
all_both qs ps (g ∷ gs) h = ap (λ x. x ∷ all_on qs (all_on ps gs)) (on_both qs ps g h.0) ∙ ap (λ xs. on_qubits (map (λ q. get_or qs q 0) ps) g ∷ xs) (all_both qs ps gs h.1)

at_range : (n q : ℕ) → q < n → get_or (range_with_len 0 n) q 0 ≡ q
at_range n q lt = get_or-range_with_len 0 n q 0 lt ∙ zero-add q

on_range : (n : ℕ) (g : Prim) → IsWithin n g → on_qubits (range_with_len 0 n) g ≡ g
on_range n (UPrim theta phi lambda q) h = ap (λ k. UPrim theta phi lambda k) (at_range n q h)
on_range n (CxPrim c t) h = ap (λ k. CxPrim k (get_or (range_with_len 0 n) t 0)) (at_range n c h.0) ∙ ap (λ k. CxPrim c k) (at_range n t h.1)

pub range_more : (a n : ℕ) → range_with_len a (n + 1) ≡ range_with_len a n ++ ((a + n) ∷ [])
range_more a zero = ap (λ k. k ∷ []) (let e : a ≡ a + 0 = omega arith in e)
range_more a (suc n) = rw add-one (ap (λ xs. a ∷ xs) (sym (ap (range_with_len (a + 1)) (add-one n)) ∙ range_more (a + 1) n ∙ ap (λ k. range_with_len (a + 1) n ++ (k ∷ [])) (let e : a + 1 + n ≡ a + suc n = omega arith in e)))

-- each argument in its own place
pub all_on_range : (n : ℕ) (gs : List Prim) → AllWithin n gs → all_on (range_with_len 0 n) gs ≡ gs
all_on_range n [] h = refl
all_on_range n (g ∷ gs) h = ap (λ x. x ∷ all_on (range_with_len 0 n) gs) (on_range n g h.0) ∙ ap (λ xs. g ∷ xs) (all_on_range n gs h.1)

-- ---- where prims are
both_true : (a b : Bool) → (a && b) ≡ true → (a ≡ true) × (b ≡ true)
both_true a b h = grind arith

pub below_at : (n : ℕ) (ps : List ℕ) (k : ℕ) → all_below n ps ≡ true → k < length ps → get_or ps k 0 < n
unfolding all_below
below_at n [] k h lt = absurd (omega arith)
below_at n (p ∷ ps) zero h lt = test_lt p n (both_true (nat_lt p n) (all_below n ps) h).0
below_at n (p ∷ ps) (suc k) h lt = below_at n ps k (both_true (nat_lt p n) (all_below n ps) h).1 (omega arith)

not_true : (b : Bool) → not b ≡ true → b ≡ false
not_true b h = grind arith

among_first : (q p : ℕ) (b : Bool) → (if nat_eq q p then true else b) ≡ false → (q ≢ p) × (b ≡ false)
among_first q p b h = (λ e. grind (arith, nat_tests), grind (arith, nat_tests))

among_at : (q : ℕ) (ps : List ℕ) (k : ℕ) → is_among q ps ≡ false → k < length ps → q ≢ get_or ps k 0
unfolding is_among
among_at q [] k h lt = absurd (omega arith)
among_at q (p ∷ ps) zero h lt = (among_first q p (is_among q ps) h).0
among_at q (p ∷ ps) (suc k) h lt = among_at q ps k (among_first q p (is_among q ps) h).1 (omega arith)

different_at : (ps : List ℕ) (j k : ℕ) → all_different ps ≡ true → j < length ps → k < length ps → j ≢ k → get_or ps j 0 ≢ get_or ps k 0
unfolding all_different
different_at [] j k h lj lk n = absurd (omega arith)
different_at (p ∷ ps) zero zero h lj lk n = absurd (n refl)
different_at (p ∷ ps) zero (suc k) h lj lk n = among_at p ps k (not_true (is_among p ps) (both_true (not (is_among p ps)) (all_different ps) h).0) (omega arith)
different_at (p ∷ ps) (suc j) zero h lj lk n = λ e. among_at p ps j (not_true (is_among p ps) (both_true (not (is_among p ps)) (all_different ps) h).0) (omega arith) (sym e)
different_at (p ∷ ps) (suc j) (suc k) h lj lk n = different_at ps j k (both_true (not (is_among p ps)) (all_different ps) h).1 (omega arith) (omega arith) (λ e. n (ap suc e))

on_within : (n : ℕ) (ps : List ℕ) (g : Prim) → all_below n ps ≡ true → all_different ps ≡ true → IsWithin (length ps) g → IsWithin n (on_qubits ps g)
on_within n ps (UPrim theta phi lambda q) b d h = below_at n ps q b h
on_within n ps (CxPrim c t) b d h = (below_at n ps c b h.0, below_at n ps t b h.1, different_at ps c t d h.0 h.1 h.2)

all_on_within : (n : ℕ) (ps : List ℕ) (gs : List Prim) → all_below n ps ≡ true → all_different ps ≡ true → AllWithin (length ps) gs → AllWithin n (all_on ps gs)
all_on_within n ps [] b d h = tt
all_on_within n ps (g ∷ gs) b d h = (on_within n ps g b d h.0, all_on_within n ps gs b d h.1)

within_append : (n : ℕ) (gs hs : List Prim) → AllWithin n gs → AllWithin n hs → AllWithin n (gs ++ hs)
within_append n [] hs h k = k
within_append n (g ∷ gs) hs h k = (h.0, within_append n gs hs h.1 k)

abbrev pub WithinIf : ℕ → Result (List Prim) Broken → Type 0
WithinIf n (Ok gs) = AllWithin n gs
WithinIf n (Err b) = Unit {0}

joined_within : (n : ℕ) (gs : List Prim) (r : Result (List Prim) Broken) → AllWithin n gs → WithinIf n r → WithinIf n (joined gs r)
joined_within n gs (Ok hs) h k = within_append n gs hs h k
joined_within n gs (Err b) h k = tt

abbrev pub WithinJob : List Def → Job → Result (List Prim) Broken → Type 0
WithinJob defs (call gate es) r = WithinIf (args_of defs gate) r
WithinJob defs (rest is) r = (k n : ℕ) → BodyFits defs k n is → WithinIf n r

-- an application's prims are on its arguments
pub comes_within : (defs : List Def) → defs_sound defs ≡ true → {ps : List Pair} {j : Job} {r : Result (List Prim) Broken} → Comes defs ps j r → WithinJob defs j r
comes_within defs s (nothing e) = tt
comes_within defs s (universal h) = (omega arith, tt)
comes_within defs s (no_angle h) = tt
comes_within defs s controlled = ((omega arith, omega arith, λ e. omega arith), tt)
comes_within defs s (replaced {d = d} {g = g} {r = r} n e h k) = subst (λ m. WithinIf m r) (ap args_of_def (sym e)) (comes_within defs s k d g.args (def_fits defs d g s e).body)
comes_within defs s (no_value n e h) = tt
comes_within defs s ended = λ k n b. tt
comes_within defs s (applied {i = i} {gs = gs} {r = r} h t) = λ k n b.
    joined_within n (all_on i.args gs) r (all_on_within n i.args gs b.0.below b.0.different (subst (λ m. AllWithin m gs) (sym b.0.takes) (comes_within defs s h))) (comes_within defs s t k n b.1)
comes_within defs s (broken h) = λ k n b. tt

-- ---- how many prims there are
abbrev pub CountIf : ℕ → Result (List Prim) Broken → Type 0
CountIf n (Ok gs) = n ≤ 4096 → length gs ≡ n
CountIf n (Err b) = Unit {0}

joined_count : (m n : ℕ) (ps : List ℕ) (gs : List Prim) (r : Result (List Prim) Broken) → (m ≤ 4096 → length gs ≡ m) → CountIf n r → CountIf (m + n) (joined (all_on ps gs) r)
joined_count m n ps gs (Ok hs) h k = λ le.
    let a : length gs ≡ m = h (omega arith) in
    let b : length hs ≡ n = k (omega arith) in
    length-append (all_on ps gs) hs ∙ ap (λ x. x + length hs) (length-map gs (on_qubits ps) ∙ a) ∙ ap (λ x. m + x) b
joined_count m n ps gs (Err b) h k = tt

told_count : (m n : ℕ) (r : Result (List Prim) Broken) → n ≡ min m 4097 → CountIf m r → CountIf n r
told_count m n (Ok gs) e h = λ le. let a : m ≡ n = omega arith in h (omega arith) ∙ a
told_count m n (Err b) e h = tt

abbrev pub count_of : List Def → Job → ℕ
count_of defs (call gate es) = size_of defs gate
count_of defs (rest is) = prim_count defs is

-- an application comes to as many prims as the gate's size tells, where that is at most 4,096
pub comes_count : (defs : List Def) → defs_sound defs ≡ true → {ps : List Pair} {j : Job} {r : Result (List Prim) Broken} → Comes defs ps j r → CountIf (count_of defs j) r
unfolding prim_count
comes_count defs s (nothing e) = λ le. sym e
comes_count defs s (universal h) = λ le. refl
comes_count defs s (no_angle h) = tt
comes_count defs s controlled = λ le. refl
comes_count defs s (replaced {d = d} {g = g} {r = r} n e h k) = subst (λ m. CountIf m r) (ap size_of_def (sym e)) (told_count (prim_count defs g.body) g.size r (def_fits defs d g s e).size (comes_count defs s k))
comes_count defs s (no_value n e h) = tt
comes_count defs s ended = λ le. refl
comes_count defs s (applied {i = i} {is = is} {gs = gs} {r = r} h t) = joined_count (size_of defs i.gate) (prim_count defs is) i.args gs r (comes_count defs s h) (comes_count defs s t)
comes_count defs s (broken h) = tt
