-- Identifiers among tokens, and operations of marks.
use Rattle.std.proofs.Common.{◌≡◌, ℕ, zero, suc, ◌+◌, ◌-◌, ◌≤◌, List, [], ◌∷◌, ◌++◌, arith, refl, sym, ◌∙◌, ap}
use Rattle.qasm_lex.specs.declared.types.Token.{Token}
use Rattle.qasm_angle.specs.declared.types.Op.{Op}
use Rattle.qasm_parse.specs.declared.sort.Sort.{Sort}
use Rattle.qasm_parse.specs.declared.sort.Mark.{Mark}
use Rattle.qasm_parse.specs.Grammar.{at}
use Rattle.qasm_parse.specs.Phrases.{span_of}
use Rattle.qasm_parse.specs.Formulas.{ids, id_at, id_count, counts, OpIs, OpsAre, no_op, one_op}

pub count_none : (ts : List Sort) (i n : ℕ) → n ≡ 0 → id_count ts i n ≡ 0
unfolding id_count
count_none ts i n e = ap (id_count ts i) e

count_step : (ts : List Sort) (i n : ℕ) → id_count ts i (suc n) ≡ id_count ts i n + counts (at ts (i + n))
unfolding id_count
count_step ts i n = refl

pub count_next : (ts : List Sort) (i k : ℕ) → i ≤ k → id_count ts i (k + 1 - i) ≡ id_count ts i (k - i) + counts (at ts k)
count_next ts i k le =
    let e : k + 1 - i ≡ suc (k - i) = omega arith in
    let f : i + (k - i) ≡ k = omega arith in
    ap (id_count ts i) e ∙ count_step ts i (k - i) ∙ ap (λ x. id_count ts i (k - i) + counts (at ts x)) f

count_add : (ts : List Sort) (i m n : ℕ) → id_count ts i (m + n) ≡ id_count ts i m + id_count ts (i + m) n
count_add ts i m zero = ap (id_count ts i) (let e : m + 0 ≡ m = omega arith in e) ∙ (let e : id_count ts i m ≡ id_count ts i m + 0 = omega arith in e) ∙ ap (λ x. id_count ts i m + x) (sym (count_none ts (i + m) 0 refl))
count_add ts i m (suc n) =
    let e : m + suc n ≡ suc (m + n) = omega arith in
    let f : i + (m + n) ≡ i + m + n = omega arith in
    let g = count_add ts i m n in let h = count_step ts (i + m) n in let k = count_step ts i (m + n) in
    ap (id_count ts i) e ∙ k ∙ ap (λ x. id_count ts i (m + n) + counts (at ts x)) f ∙ omega (arith, g, h)

pub count_split : (ts : List Sort) (i p t : ℕ) → i ≤ p → p ≤ t → id_count ts i (p - i) + id_count ts p (t - p) ≡ id_count ts i (t - i)
count_split ts i p t le lt =
    let e : t - i ≡ p - i + (t - p) = omega arith in
    let f : i + (p - i) ≡ p = omega arith in
    sym (ap (id_count ts i) e ∙ count_add ts i (p - i) (t - p) ∙ ap (λ x. id_count ts i (p - i) + id_count ts x (t - p)) f)

pub ids_none : (tk : List Token) (ts : List Sort) (i n : ℕ) → n ≡ 0 → ids tk ts i n ≡ []
unfolding ids
ids_none tk ts i n e = ap (ids tk ts i) e

ids_step : (tk : List Token) (ts : List Sort) (i n : ℕ) → ids tk ts i (suc n) ≡ ids tk ts i n ++ id_at (at ts (i + n)) (span_of tk (i + n))
unfolding ids
ids_step tk ts i n = refl

pub ids_next : (tk : List Token) (ts : List Sort) (i k : ℕ) → i ≤ k → ids tk ts i (k + 1 - i) ≡ ids tk ts i (k - i) ++ id_at (at ts k) (span_of tk k)
ids_next tk ts i k le =
    let e : k + 1 - i ≡ suc (k - i) = omega arith in
    let f : i + (k - i) ≡ k = omega arith in
    ap (ids tk ts i) e ∙ ids_step tk ts i (k - i) ∙ ap (λ x. ids tk ts i (k - i) ++ id_at (at ts x) (span_of tk x)) f

-- one operation more
pub ops_more : {bytes : List ℕ} {tk : List Token} {ts : List Sort} {i : ℕ} {ms : List Mark} {ops : List Op} (m : Mark) (op : Op) → OpsAre bytes tk ts i ms ops → OpIs bytes tk ts i m op → OpsAre bytes tk ts i (ms ++ (m ∷ [])) (ops ++ (op ∷ []))
ops_more m op no_op h = one_op h no_op
ops_more m op (one_op g r) h = one_op g (ops_more m op r h)
