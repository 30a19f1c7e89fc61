-- Bodies, statement by statement, and their sizes.
use Rattle.std.proofs.Common.{◌≡◌, ◌≤◌, ◌+◌, ℕ, min, List, [], ◌∷◌, ◌++◌, Result, Ok, Err, refl, sym, ap, ◌∙◌, subst, arith, append_assoc, append-nil}
use Rattle.qasm_parse.specs.declared.program.Span.{Span}
use Rattle.qasm_parse.specs.declared.program.Call.{Call}
use Rattle.qasm_parse.specs.declared.program.Inner.{Inner as Stated}
use Rattle.qasm_parse.specs.declared.program.Inner.TheVariants.{Apply, Barrier}
use Rattle.qasm_expand.specs.declared.defs.Inner.{Inner}
use Rattle.qasm_expand.specs.declared.defs.Def.{Def}
use Rattle.qasm_expand.specs.declared.fault.ReadFault.{ReadFault}
use Rattle.qasm_expand.specs.declared.fault.ReadFault.TheVariants.{Fault, Memory}
use Rattle.qasm_expand.specs.Checks.{and_then, Known}
use Rattle.qasm_expand.specs.Tables.{Bound, prim_count, size_of, body_size}
use Rattle.qasm_expand.specs.Gates.{places, before, inner_of, body_of}
use Rattle.qasm_expand.specs.Names.{put_before, checked, Led}

-- ---- sizes
pub size_next : (defs : List Def) (is rest : List Inner) (i : Inner) (t t' w : ℕ) → is ≡ i ∷ rest → t' ≡ min (t + size_of defs i.gate) 4097 → w ≡ min (t + prim_count defs is) 4097 → w ≡ min (t' + prim_count defs rest) 4097
unfolding prim_count
size_next defs is rest i t t' w s e h =
    let f : prim_count defs is ≡ size_of defs i.gate + prim_count defs rest = ap (prim_count defs) s in
    omega (arith, e, h, f)

pub size_start : (defs : List Def) (is : List Inner) → body_size defs is ≡ min (0 + prim_count defs is) 4097
size_start defs is = omega arith

pub size_end : (defs : List Def) (is : List Inner) (t w : ℕ) → is ≡ [] → t ≤ 4097 → w ≡ min (t + prim_count defs is) 4097 → t ≡ w
unfolding prim_count
size_end defs is t w s l h =
    let f : prim_count defs is ≡ 0 = ap (prim_count defs) s in
    omega (arith, l, h, f)

-- ---- statements
module _ (bytes : List ℕ) (defs : List Def) (bound : List Bound) (params args : List (List ℕ)) where
  pub led_apply : (c : Call) (i : Inner) (old new : List Inner) (s : Stated) → s ≡ Apply c → Ok i ≡ inner_of bytes defs bound params args c → new ≡ old ++ i ∷ [] → (ss : List Stated) → put_before old (body_of bytes defs bound params args (s ∷ ss)) ≡ put_before new (body_of bytes defs bound params args ss)
  unfolding body_of
  led_apply c i old new s e f g ss =
      ap (λ x. put_before old (body_of bytes defs bound params args (x ∷ ss))) e ∙ ap (λ r. put_before old (and_then r (λ i. before i (body_of bytes defs bound params args ss)))) (sym f) ∙ by (body_of bytes defs bound params args ss) ∙ ap (λ x. put_before x (body_of bytes defs bound params args ss)) (sym g)
    where
      by : (r : Result (List Inner) ReadFault) → put_before old (before i r) ≡ put_before (old ++ i ∷ []) r
      by (Ok ys) = ap Ok (sym (append_assoc old (i ∷ []) ys))
      by (Err h) = refl

  pub led_apply_fault : (c : Call) (x : ReadFault) (r : Result (Unit {0}) ReadFault) (old new : List Inner) (s : Stated) → s ≡ Apply c → (y : ReadFault) × (r ≡ Err y) × (y ≡ x) → Known {A = Inner} (Err x) (λ q. q ≡ inner_of bytes defs bound params args c) → Led r bytes defs bound params args s old new
  unfolding body_of
  led_apply_fault c x r old new s e (y, p, q) h = subst (λ z. Led z bytes defs bound params args s old new) (sym (p ∙ ap Err q)) (by x h)
    where
      by : (f : ReadFault) → Known {A = Inner} (Err f) (λ q. q ≡ inner_of bytes defs bound params args c) → Led (Err f) bytes defs bound params args s old new
      by (Fault name at) k = λ ss. ap (λ t. body_of bytes defs bound params args (t ∷ ss)) e ∙ ap (λ r. and_then r (λ i. before i (body_of bytes defs bound params args ss))) (sym k)
      by Memory k = tt

  pub led_barrier : (ps : List Span) (r : Result (Unit {0}) ReadFault) (old : List Inner) (s : Stated) → s ≡ Barrier ps → Known r (λ q. q ≡ checked (places bytes args ps)) → Led r bytes defs bound params args s old old
  unfolding body_of
  led_barrier ps (Ok u) old s e h = λ ss. ap (λ t. put_before old (body_of bytes defs bound params args (t ∷ ss))) e ∙ ap (put_before old) (by (places bytes args ps) (body_of bytes defs bound params args ss) h)
    where
      by : (o : Result (List ℕ) ReadFault) (b : Result (List Inner) ReadFault) → Ok tt ≡ checked o → and_then o (λ qs. b) ≡ b
      by (Ok qs) b k = refl
      by (Err f) b k = absurd (cc)
  led_barrier ps (Err (Fault name at)) old s e h = λ ss. ap (λ t. body_of bytes defs bound params args (t ∷ ss)) e ∙ by (places bytes args ps) (body_of bytes defs bound params args ss) h
    where
      by : (o : Result (List ℕ) ReadFault) (b : Result (List Inner) ReadFault) → Err (Fault name at) ≡ checked o → and_then o (λ qs. b) ≡ Err (Fault name at)
      by (Ok qs) b k = absurd (cc)
      by (Err f) b k = let e : f ≡ Fault name at = cc in ap Err e
  led_barrier ps (Err Memory) old s e h = tt

  pub body_fault : (x : ReadFault) (r : Result (List Inner) ReadFault) (s : Stated) (old new : List Inner) (us ss : List Stated) (w : Result (List Inner) ReadFault) → us ≡ s ∷ ss → (y : ReadFault) × (r ≡ Err y) × (y ≡ x) → Led (Err x) bytes defs bound params args s old new → w ≡ put_before old (body_of bytes defs bound params args us) → Known r (λ q. q ≡ w)
  body_fault x r s old new us ss w e (y, p, q) h g = subst (λ z. Known z (λ q. q ≡ w)) (sym (p ∙ ap Err q)) (by x h)
    where
      by : (f : ReadFault) → Led (Err f) bytes defs bound params args s old new → Known {A = List Inner} (Err f) (λ q. q ≡ w)
      by (Fault name at) k = sym (g ∙ ap (λ t. put_before old (body_of bytes defs bound params args t)) e ∙ ap (put_before old) (k ss))
      by Memory k = tt

  pub body_end : (old : List Inner) (us : List Stated) (w : Result (List Inner) ReadFault) → us ≡ [] → w ≡ put_before old (body_of bytes defs bound params args us) → Ok old ≡ w
  unfolding body_of
  body_end old us w e g = sym (g ∙ ap (λ t. put_before old (body_of bytes defs bound params args t)) e ∙ ap Ok (append-nil old))

  pub body_start : (us : List Stated) → body_of bytes defs bound params args us ≡ put_before [] (body_of bytes defs bound params args us)
  body_start us = by (body_of bytes defs bound params args us)
    where
      by : (r : Result (List Inner) ReadFault) → r ≡ put_before [] r
      by (Ok ys) = refl
      by (Err f) = refl
