-- A byte of a text is at one line and one column.
use Rattle.std.proofs.Common.{◌≡◌, ◌≢◌, ℕ, zero, suc, ◌+◌, ◌-◌, ◌<◌, ◌≤◌, refl, ap, sym, ◌∙◌, arith, List, [], ◌∷◌, length, ◌⊎◌, inl, inr, ◌==◌, count_by}
use Rattle.std.proofs.lemmas.List.{take_all}
use Rattle.qasm_lex.specs.Tokens.{byte}
use Rattle.qasm_lex.specs.Places.{IsLine, IsPlace}

-- no line begins behind the beginning of this one
not_behind : (bytes : List ℕ) (at s t : ℕ) → IsLine bytes at s → IsLine bytes at t → s < t → ⊥
not_behind bytes at s t a b h = by b.begins
  where
    by : (t ≡ 0) ⊎ (byte bytes (t - 1) ≡ 10) → ⊥
    by (inl e) = omega (arith, e, h)
    by (inr e) = a.inner (t - 1) (omega (arith, h)) (omega (arith, h, b.ordered)) e

line_once : (bytes : List ℕ) (at s t : ℕ) → IsLine bytes at s → IsLine bytes at t → s ≡ t
line_once bytes at s t a b = by (cases s t)
  where
    cases : (x y : ℕ) → (x ≡ y) ⊎ ((x < y) ⊎ (y < x))
    cases zero zero = inl refl
    cases zero (suc y) = inr (inl (omega arith))
    cases (suc x) zero = inr (inr (omega arith))
    cases (suc x) (suc y) = up (cases x y)
      where
        up : (x ≡ y) ⊎ ((x < y) ⊎ (y < x)) → (suc x ≡ suc y) ⊎ ((suc x < suc y) ⊎ (suc y < suc x))
        up (inl e) = inl (ap suc e)
        up (inr (inl h)) = inr (inl (omega (arith, h)))
        up (inr (inr h)) = inr (inr (omega (arith, h)))

    by : (s ≡ t) ⊎ ((s < t) ⊎ (t < s)) → s ≡ t
    by (inl e) = e
    by (inr (inl h)) = absurd (not_behind bytes at s t a b h)
    by (inr (inr h)) = absurd (not_behind bytes at t s b a h)

pub record SamePlace (line column line' column' : ℕ) : Type 0 where
  pub line_is : line ≡ line'
  pub column_is : column ≡ column'

pub place_once : (bytes : List ℕ) (at line column line' column' : ℕ) → IsPlace bytes at line column → IsPlace bytes at line' column' → SamePlace line column line' column'
place_once bytes at line column line' column' p q = record {
  line_is = p.row ∙ sym q.row;
  column_is = (let e = line_once bytes at p.cell.0 q.cell.0 p.cell.1 q.cell.1 in omega (arith, e, p.cell.2, q.cell.2));
}

-- past the end there is no LF
past_end : (bytes : List ℕ) (k : ℕ) → length bytes ≤ k → byte bytes k ≢ 10
past_end [] zero h e = omega (arith, e)
past_end [] (suc k) h e = omega (arith, e)
past_end (b ∷ bytes) zero h e = omega (arith, h)
past_end (b ∷ bytes) (suc k) h e = past_end bytes k (omega (arith, h)) e

-- a place past the end is as far behind the end of the last line
pub place_beyond : (bytes : List ℕ) (at line column : ℕ) → length bytes ≤ at → IsPlace bytes (length bytes) line column → IsPlace bytes at line (column + (at - length bytes))
place_beyond bytes at line column h p = record {
  row = p.row ∙ ap (λ (t : List ℕ). 1 + count_by (λ b. b == 10) t) (take_all (length bytes) bytes (omega arith) ∙ sym (take_all at bytes h));
  cell = (
    p.cell.0,
    record {
      ordered = (let o = p.cell.1.ordered in omega (arith, o, h));
      begins = p.cell.1.begins;
      inner = λ k a b. inside k a;
    },
    omega (arith, h, p.cell.2),
  );
}
  where
    near_or_far : (x y : ℕ) → (x < y) ⊎ (y ≤ x)
    near_or_far x zero = inr (omega arith)
    near_or_far zero (suc y) = inl (omega arith)
    near_or_far (suc x) (suc y) = up (near_or_far x y)
      where
        up : (x < y) ⊎ (y ≤ x) → (suc x < suc y) ⊎ (suc y ≤ suc x)
        up (inl l) = inl (omega (arith, l))
        up (inr l) = inr (omega (arith, l))

    inside : (k : ℕ) → p.cell.0 ≤ k → byte bytes k ≢ 10
    inside k a = by (near_or_far k (length bytes))
      where
        by : (k < length bytes) ⊎ (length bytes ≤ k) → byte bytes k ≢ 10
        by (inl l) = p.cell.1.inner k a l
        by (inr l) = past_end bytes k l
