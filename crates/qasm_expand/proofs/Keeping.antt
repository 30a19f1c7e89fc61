-- Names that are bound where they mean no gate yet, and statements that define gates.
use Rattle.std.proofs.Common.{◌≡◌, ◌+◌, ◌<◌, ℕ, zero, suc, Bool, true, false, if◌then◌else◌, Some, None, OnOk, Result, Ok, Err, List, [], ◌∷◌, ◌++◌, length, drop, slice_get, refl, sym, ap, ◌∙◌, subst, arith, bytes_eq}
use Rattle.qasm_parse.specs.declared.program.Statement.{Statement}
use Rattle.qasm_expand.specs.declared.fault.ReadFault.{ReadFault}
use Rattle.qasm_expand.specs.declared.fault.ReadFault.TheVariants.{Fault, Memory}
use Rattle.qasm_expand.specs.Tables.{Bound, meaning, rebound}
use Rattle.qasm_expand.specs.Library.{kept_or, with_all, Gates, all_defined}
use Rattle.qasm_expand.specs.Names.{kept_at, Defines}
use Rattle.qasm_expand.specs.States.{Became}

pub on_ok_then : {A E : Type 0} {P Q : Type 0} (r : Result A E) → (P → Q) → OnOk r P → OnOk r Q
on_ok_then (Ok a) f h = f h
on_ok_then (Err e) f h = tt

pub got : {X : Type 0} (xs : List X) (i : ℕ) → i < length xs → (x : X) × (slice_get xs i ≡ Some x) × (drop i xs ≡ x ∷ drop (i + 1) xs)
got [] i h = absurd (omega (arith, h))
got (x ∷ xs) zero h = (x, refl, refl)
got (x ∷ xs) (suc i) h =
    let p = got xs i (omega (arith, h)) in
    (p.0, p.1, p.2 ∙ ap (λ k. p.0 ∷ drop k (x ∷ xs)) (let e : suc (i + 1) ≡ suc i + 1 = omega arith in e))

new_last : (bs : List Bound) (name : List ℕ) (d : ℕ) → meaning bs name ≡ None → rebound bs name d ≡ bs ++ record { name = name; def = d } ∷ []
unfolding meaning rebound
new_last [] name d e = refl
new_last (b ∷ bs) name d e = by (bytes_eq b.name name) (new_last bs name d) e
  where
    by : (t : Bool) → (meaning bs name ≡ None → rebound bs name d ≡ bs ++ record { name = name; def = d } ∷ []) → (if t then Some b.def else meaning bs name) ≡ None → (if t then record { name = name; def = d } ∷ bs else b ∷ rebound bs name d) ≡ (b ∷ bs) ++ record { name = name; def = d } ∷ []
    by true ih g = absurd (cc)
    by false ih g = ap (λ r. b ∷ r) (ih g)

pub kept_new : (bs : List Bound) (name : List ℕ) (d : ℕ) → meaning bs name ≡ None → rebound bs name d ≡ kept_or (meaning bs name) bs (record { name = name; def = d })
kept_new bs name d e = new_last bs name d e ∙ ap (λ o. kept_or o bs (record { name = name; def = d })) (sym e)

pub all_next : (bs bs' others : List Bound) (i : ℕ) (w : List Bound) → i < length others → bs' ≡ kept_at (slice_get others i) bs → w ≡ with_all bs (drop i others) → w ≡ with_all bs' (drop (i + 1) others)
unfolding with_all
all_next bs bs' others i w h e g =
    let p = got others i h in
    g ∙ ap (with_all bs) p.2 ∙ ap (λ b. with_all b (drop (i + 1) others)) (sym (e ∙ ap (λ o. kept_at o bs) p.1))

pub all_end : (bs rest w : List Bound) → rest ≡ [] → w ≡ with_all bs rest → bs ≡ w
unfolding with_all
all_end bs rest w e g = sym (g ∙ ap (with_all bs) e)

-- ---- definitions among statements
pub defines_fault : (bytes : List ℕ) (x : ReadFault) (r : Result (Unit {0}) ReadFault) (s : Statement) (mid mid' new : Gates) (us ss : List Statement) → us ≡ s ∷ ss → (y : ReadFault) × (r ≡ Err y) × (y ≡ x) → Defines (Err x) bytes s mid mid' → (w : Result Gates ReadFault) → w ≡ all_defined bytes mid us → Became r new (λ q. q ≡ w)
defines_fault bytes x r s mid mid' new us ss e (y, p, q) h w g = subst (λ z. Became z new (λ q. q ≡ w)) (sym (p ∙ ap Err q)) (by x h)
  where
    by : (f : ReadFault) → Defines (Err f) bytes s mid mid' → Became {A = Unit {0}} (Err f) new (λ q. q ≡ w)
    by (Fault name at) k = sym (g ∙ ap (all_defined bytes mid) e ∙ k ss)
    by Memory k = tt
