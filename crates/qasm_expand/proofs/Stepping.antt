-- Lists read one by one, up to the first fault.
use Rattle.std.proofs.Common.{◌≡◌, ◌<◌, ◌+◌, ℕ, suc, Bool, true, false, if◌then◌else◌, ◌||◌, not, nat_eq, ap₂, Option, Some, None, List, [], ◌∷◌, ◌++◌, length, drop, get_or, Result, Ok, Err, refl, sym, ap, ◌∙◌, subst, arith, append_assoc, append-nil, drop-cons, true≢false}
use Rattle.std.specs.Option.{is_none}
use Rattle.std.specs.List.{list_any}
use Rattle.indexmap.specs.IndexSet.{insert_key}
use Rattle.qasm_parse.specs.declared.program.Span.{Span}
use Rattle.qasm_parse.specs.declared.program.Arg.{Arg}
use Rattle.qasm_parse.specs.declared.program.Formula.{Formula}
use Rattle.qasm_expand.specs.declared.fault.FaultName.{FaultName}
use Rattle.qasm_expand.specs.declared.fault.FaultName.TheVariants.{Unknown, NoParameter}
use Rattle.qasm_expand.specs.declared.fault.ReadFault.{ReadFault}
use Rattle.qasm_expand.specs.declared.fault.ReadFault.TheVariants.{Fault, Memory}
use Rattle.qasm_expand.specs.Checks.{spelled, and_then, or_fault, Known}
use Rattle.qasm_expand.specs.Gates.{place_of, places, numbers, before, expression, expressions, first_again, again, names, first_repeated, arg_names}
use Rattle.qasm_expand.specs.Tables.{is_among}
use Rattle.qasm_expand.specs.Names.{put_before, checked}

-- ---- answers
-- a fault that is passed on
pub known_err : {A B : Type 0} (f : ReadFault) (r : Result B ReadFault) (P : Result A ReadFault → Type 0) (Q : Result B ReadFault → Type 0) → r ≡ Err f → (P (Err f) → Q (Err f)) → Known {A = A} (Err f) P → Known r Q
known_err (Fault name at) r P Q e go h = subst (λ s. Known s Q) (sym e) (go h)
known_err Memory r P Q e go h = subst (λ s. Known s Q) (sym e) tt

-- want of memory
pub known_memory : {B : Type 0} (f : ReadFault) (r : Result B ReadFault) (Q : Result B ReadFault → Type 0) → r ≡ Err f → f ≡ Memory → Known r Q
known_memory f r Q e m = subst (λ s. Known s Q) (sym (e ∙ ap Err m)) tt

-- a fault that is told
pub known_fault : {A : Type 0} (f : ReadFault) (P : Result A ReadFault → Type 0) → P (Err f) → Known {A = A} (Err f) P
known_fault (Fault name at) P h = h
known_fault Memory P h = tt

pub then_ok : {A B E : Type 0} {r : Result A E} {a : A} (k : A → Result B E) → Ok a ≡ r → and_then r k ≡ k a
then_ok k e = ap (λ r. and_then r k) (sym e)

pub then_err : {A B E : Type 0} {r : Result A E} {f : E} (k : A → Result B E) → Err f ≡ r → Err f ≡ and_then r k
then_err k e = ap (λ r. and_then r k) e

-- ---- the rest of a list
pub dropped : {X : Type 0} (xs : List X) (i : ℕ) (d : X) → i < length xs → drop i xs ≡ get_or xs i d ∷ drop (i + 1) xs
dropped xs i d h = drop-cons xs i d h ∙ ap (λ k. get_or xs i d ∷ drop k xs) (let e : suc i ≡ i + 1 = omega arith in e)

-- ---- one by one
module _ {A B : Type 0} (f : A → Result B ReadFault) where
  abbrev pub each : List A → Result (List B) ReadFault
  each [] = Ok []
  each (a ∷ us) = and_then (f a) (λ b. before b (each us))

  pub each_next : (xs : List B) (a : A) (us rest : List A) (b : B) (w : Result (List B) ReadFault) → us ≡ a ∷ rest → Ok b ≡ f a → w ≡ put_before xs (each us) → w ≡ put_before (xs ++ b ∷ []) (each rest)
  each_next xs a us rest b w s e h = h ∙ ap (λ l. put_before xs (each l)) s ∙ ap (λ r. put_before xs (and_then r (λ b. before b (each rest)))) (sym e) ∙ by (each rest)
    where
      by : (r : Result (List B) ReadFault) → put_before xs (before b r) ≡ put_before (xs ++ b ∷ []) r
      by (Ok ys) = ap Ok (sym (append_assoc xs (b ∷ []) ys))
      by (Err g) = refl

  pub each_fault : (xs : List B) (a : A) (us rest : List A) (g : ReadFault) (w : Result (List B) ReadFault) → us ≡ a ∷ rest → Err g ≡ f a → w ≡ put_before xs (each us) → Err g ≡ w
  each_fault xs a us rest g w s e h = sym (h ∙ ap (λ l. put_before xs (each l)) s ∙ ap (λ r. put_before xs (and_then r (λ b. before b (each rest)))) (sym e))

  pub each_end : (xs : List B) (us : List A) (w : Result (List B) ReadFault) → us ≡ [] → w ≡ put_before xs (each us) → Ok xs ≡ w
  each_end xs us w s h = sym (h ∙ ap (λ l. put_before xs (each l)) s ∙ ap Ok (append-nil xs))

  pub each_start : (us : List A) → each us ≡ put_before [] (each us)
  each_start us = by (each us)
    where
      by : (r : Result (List B) ReadFault) → r ≡ put_before [] r
      by (Ok ys) = refl
      by (Err g) = refl

  -- where only the fault matters
  pub each_checked : (a : A) (us rest : List A) (b : B) (w : Result (Unit {0}) ReadFault) → us ≡ a ∷ rest → Ok b ≡ f a → w ≡ checked (each us) → w ≡ checked (each rest)
  each_checked a us rest b w s e h = h ∙ ap (λ l. checked (each l)) s ∙ ap (λ r. checked (and_then r (λ b. before b (each rest)))) (sym e) ∙ by (each rest)
    where
      by : (r : Result (List B) ReadFault) → checked (before b r) ≡ checked r
      by (Ok ys) = refl
      by (Err g) = refl

  pub each_unchecked : (a : A) (us rest : List A) (g : ReadFault) (w : Result (Unit {0}) ReadFault) → us ≡ a ∷ rest → Err g ≡ f a → w ≡ checked (each us) → Err g ≡ w
  each_unchecked a us rest g w s e h = sym (h ∙ ap (λ l. checked (each l)) s ∙ ap (λ r. checked (and_then r (λ b. before b (each rest)))) (sym e))

-- ---- places, numbers and expressions
abbrev pub place_at : List ℕ → List (List ℕ) → FaultName → Span → Result ℕ ReadFault
place_at bytes formals missing p = or_fault missing p (place_of formals (spelled bytes p))

abbrev pub arg_at : List ℕ → List (List ℕ) → Arg → Result ℕ ReadFault
arg_at bytes formals a = place_at bytes formals Unknown a.name

pub places_each : (bytes : List ℕ) (formals : List (List ℕ)) (ps : List Span) → places bytes formals ps ≡ each (place_at bytes formals Unknown) ps
unfolding places
places_each bytes formals [] = refl
places_each bytes formals (p ∷ ps) = ap (λ r. and_then (place_at bytes formals Unknown p) (λ i. before i r)) (places_each bytes formals ps)

pub args_each : (bytes : List ℕ) (formals : List (List ℕ)) (args : List Arg) → places bytes formals (arg_names args) ≡ each (arg_at bytes formals) args
unfolding places
args_each bytes formals [] = refl
args_each bytes formals (a ∷ args) = ap (λ r. and_then (arg_at bytes formals a) (λ i. before i r)) (args_each bytes formals args)

pub numbers_each : (bytes : List ℕ) (formals : List (List ℕ)) (ps : List Span) → numbers bytes formals ps ≡ each (place_at bytes formals NoParameter) ps
unfolding numbers
numbers_each bytes formals [] = refl
numbers_each bytes formals (p ∷ ps) = ap (λ r. and_then (place_at bytes formals NoParameter p) (λ i. before i r)) (numbers_each bytes formals ps)

pub expressions_each : (bytes : List ℕ) (formals : List (List ℕ)) (fs : List Formula) → expressions bytes formals fs ≡ each (expression bytes formals) fs
unfolding expressions
expressions_each bytes formals [] = refl
expressions_each bytes formals (f ∷ fs) = ap (λ r. and_then (expression bytes formals f) (λ e. before e r)) (expressions_each bytes formals fs)

-- ---- formal names
pub again_next : (bytes : List ℕ) (out : List (List ℕ)) (p : Span) (ps rest : List Span) (w : Option Span) → ps ≡ p ∷ rest → is_none (place_of out (spelled bytes p)) ≡ true → w ≡ first_again bytes out ps → w ≡ first_again bytes (out ++ spelled bytes p ∷ []) rest
unfolding first_again
again_next bytes out p ps rest w s n h = h ∙ ap (first_again bytes out) s ∙ by (place_of out (spelled bytes p)) n
  where
    by : (o : Option ℕ) → is_none o ≡ true → again o p (first_again bytes (out ++ spelled bytes p ∷ []) rest) ≡ first_again bytes (out ++ spelled bytes p ∷ []) rest
    by None e = refl
    by (Some i) e = absurd (true≢false (sym e))

pub again_found : (bytes : List ℕ) (out : List (List ℕ)) (p : Span) (ps rest : List Span) (w : Option Span) → ps ≡ p ∷ rest → is_none (place_of out (spelled bytes p)) ≡ false → w ≡ first_again bytes out ps → w ≡ Some p
unfolding first_again
again_found bytes out p ps rest w s n h = h ∙ ap (first_again bytes out) s ∙ by (place_of out (spelled bytes p)) n
  where
    by : (o : Option ℕ) → is_none o ≡ false → again o p (first_again bytes (out ++ spelled bytes p ∷ []) rest) ≡ Some p
    by None e = absurd (true≢false e)
    by (Some i) e = refl

pub again_end : (bytes : List ℕ) (out : List (List ℕ)) (ps : List Span) (w : Option Span) → ps ≡ [] → w ≡ first_again bytes out ps → w ≡ None
unfolding first_again
again_end bytes out ps w e g = g ∙ ap (first_again bytes out) e

pub names_next : (bytes : List ℕ) (out : List (List ℕ)) (p : Span) (ps rest : List Span) (w : List (List ℕ)) → ps ≡ p ∷ rest → w ≡ out ++ names bytes ps → w ≡ (out ++ spelled bytes p ∷ []) ++ names bytes rest
names_next bytes out p ps rest w s h = h ∙ ap (λ l. out ++ names bytes l) s ∙ sym (append_assoc out (spelled bytes p ∷ []) (names bytes rest))

-- ---- different places
among : (x : ℕ) (ks : List ℕ) → is_among x ks ≡ list_any (nat_eq x) ks
unfolding is_among
among x [] = refl
among x (k ∷ ks) = by (nat_eq x k) (among x ks)
  where
    by : (b : Bool) → is_among x ks ≡ list_any (nat_eq x) ks → (if b then true else is_among x ks) ≡ (b || list_any (nat_eq x) ks)
    by true e = refl
    by false e = e

-- what was seen, in some order
abbrev pub Seen : List ℕ → List ℕ → Type 0
Seen seen keys = (x : ℕ) → is_among x seen ≡ list_any (nat_eq x) keys

pub seen_none : Seen [] []
unfolding is_among
seen_none x = refl

any_last : (x q : ℕ) (ks : List ℕ) → list_any (nat_eq x) (ks ++ q ∷ []) ≡ (nat_eq x q || list_any (nat_eq x) ks)
any_last x q [] = refl
any_last x q (k ∷ ks) = ap (λ r. nat_eq x k || r) (any_last x q ks) ∙ by (nat_eq x k) (nat_eq x q) (list_any (nat_eq x) ks)
  where
    by : (a b c : Bool) → (a || (b || c)) ≡ (b || (a || c))
    by true true c = refl
    by true false c = refl
    by false b c = refl

pub seen_more : (seen keys : List ℕ) (q : ℕ) → Seen seen keys → list_any (nat_eq q) keys ≡ false → Seen (q ∷ seen) (insert_key nat_eq keys q)
unfolding is_among
seen_more seen keys q h n x = by (nat_eq x q) ∙ sym (ap (λ b. list_any (nat_eq x) (if b then keys else keys ++ q ∷ [])) n ∙ any_last x q keys)
  where
    by : (b : Bool) → (if b then true else is_among x seen) ≡ (b || list_any (nat_eq x) keys)
    by true = refl
    by false = h x

pub repeated_next : (seen keys : List ℕ) (q : ℕ) (p : Span) (qs qs' : List ℕ) (ps ps' : List Span) (w : Option Span) → Seen seen keys → list_any (nat_eq q) keys ≡ false → qs ≡ q ∷ qs' → ps ≡ p ∷ ps'
    → w ≡ first_repeated seen qs ps → w ≡ first_repeated (q ∷ seen) qs' ps'
unfolding first_repeated
repeated_next seen keys q p qs qs' ps ps' w h n e f g = g ∙ ap₂ (λ a b. first_repeated seen a b) e f ∙ ap (λ b. if b then Some p else first_repeated (q ∷ seen) qs' ps') (h q ∙ n)

pub repeated_found : (seen keys : List ℕ) (q : ℕ) (p : Span) (qs qs' : List ℕ) (ps ps' : List Span) (w : Option Span) → Seen seen keys → list_any (nat_eq q) keys ≡ true → qs ≡ q ∷ qs' → ps ≡ p ∷ ps'
    → w ≡ first_repeated seen qs ps → w ≡ Some p
unfolding first_repeated
repeated_found seen keys q p qs qs' ps ps' w h n e f g = g ∙ ap₂ (λ a b. first_repeated seen a b) e f ∙ ap (λ b. if b then Some p else first_repeated (q ∷ seen) qs' ps') (h q ∙ n)

pub repeated_end : (seen qs : List ℕ) (ps : List Span) (w : Option Span) → qs ≡ [] → w ≡ first_repeated seen qs ps → w ≡ None
unfolding first_repeated
repeated_end seen qs ps w e g = g ∙ ap (λ a. first_repeated seen a ps) e

pub not_false : (b : Bool) → not b ≡ false → b ≡ true
not_false true e = refl
not_false false e = absurd (true≢false e)

pub not_true : (b : Bool) → not b ≡ true → b ≡ false
not_true true e = absurd (true≢false (sym e))
not_true false e = refl
