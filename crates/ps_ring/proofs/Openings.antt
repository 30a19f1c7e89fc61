-- Lists with values put in, read at the names that have closed up.
use mathlib.Core.Path.{fun_ext}
use Rattle.std.proofs.Common.{◌≡◌, ◌≢◌, ℕ, zero, suc, ◌+◌, ◌-◌, ◌≤◌, refl, ap, sym, ◌∙◌, arith, Bool, true, false, cond, nat_lt, [], ◌∷◌, ◌++◌, length, zero-add, suc-add, ◌⊎◌, inl, inr}
use Rattle.std.proofs.lemmas.Bool.Decides.{nat_tests}
use Rattle.ps_ring.specs.Truths.{Truths, bit}
use Rattle.ps_ring.specs.Sums.{insert_at}
use Rattle.ps_ring.specs.Readings.{Assignment, opened, closed_up}
use Rattle.ps_ring.proofs.Inserts.{get_inserted, get_beside, length_insert_at}

opened_first : (u : ℕ) → opened zero u ≡ suc u
unfolding opened
opened_first u = grind (arith, nat_tests)

opened_none : (v : ℕ) → opened (suc v) zero ≡ zero
unfolding opened
opened_none v = grind (arith, nat_tests)

opened_next : (v u : ℕ) → opened (suc v) (suc u) ≡ suc (opened v u)
unfolding opened
opened_next v u = grind (arith, nat_tests)

-- a value put in at v is not read under the names that have closed up
pub bit_opened : (v u : ℕ) (b : Bool) (w : Truths) → v ≤ length w → bit (insert_at v b w) (opened v u) ≡ bit w u
unfolding insert_at
bit_opened zero u b w h = ap (bit (b ∷ w)) (opened_first u)
bit_opened (suc v) u b [] h = absurd (omega arith)
bit_opened (suc v) zero b (x ∷ w) h = ap (bit (x ∷ insert_at v b w)) (opened_none v)
bit_opened (suc v) (suc u) b (x ∷ w) h = ap (bit (x ∷ insert_at v b w)) (opened_next v u) ∙ bit_opened v u b w (omega arith)

pub closed_bit : (v : ℕ) (b : Bool) (w : Truths) → v ≤ length w → closed_up v (bit (insert_at v b w)) ≡ bit w
closed_bit v b w h = fun_ext (λ u. bit_opened v u b w h)

-- each name but v is an old name
opened_all : (v u : ℕ) → u ≢ v → (t : ℕ) × (opened v t ≡ u)
unfolding opened
opened_all v u h = (cond (nat_lt u v) u (u - 1), reached v u h)
  where
    reached : (v u : ℕ) → u ≢ v → cond (nat_lt (cond (nat_lt u v) u (u - 1)) v) (cond (nat_lt u v) u (u - 1)) (cond (nat_lt u v) u (u - 1) + 1) ≡ u
    reached v u h = grind (arith, nat_tests)

append_insert : (x w : Truths) (i : ℕ) (b : Bool) → x ++ insert_at i b w ≡ insert_at (length x + i) b (x ++ w)
unfolding insert_at
append_insert [] w i b = ap (λ k. insert_at k b w) (sym (zero-add i))
append_insert (y ∷ x) w i b = ap (λ (r : Truths). y ∷ r) (append_insert x w i b) ∙ ap (λ k. insert_at k b (y ∷ (x ++ w))) (sym (suc-add (length x) i))

-- a path variable's value is put in behind the inputs
pub behind : (n : ℕ) (x y : Truths) (i : ℕ) (b : Bool) → length x ≡ n → x ++ insert_at i b y ≡ insert_at (n + i) b (x ++ y)
behind n x y i b l = append_insert x y i b ∙ ap (λ k. insert_at (k + i) b (x ++ y)) l

pub behind_two : (n : ℕ) (x y : Truths) (i r : ℕ) (b v : Bool) → length x ≡ n → x ++ insert_at i b (insert_at r v y) ≡ insert_at (n + i) b (insert_at (n + r) v (x ++ y))
behind_two n x y i r b v l = behind n x (insert_at r v y) i b l ∙ ap (insert_at (n + i) b) (behind n x y r v l)

-- ---- a list with two values put in
abbrev pub two : ℕ → Bool → ℕ → Bool → Truths → Assignment
two v0 b p c w = bit (insert_at v0 b (insert_at p c w))

pub two_first : (v0 p : ℕ) (b c : Bool) (w : Truths) → v0 ≤ suc (length w) → two v0 b p c w v0 ≡ b
two_first v0 p b c w h = get_inserted v0 b (insert_at p c w) (omega (arith, length_insert_at p c w))

pub two_second : (v0 p : ℕ) (b c : Bool) (w : Truths) → v0 ≤ suc (length w) → p ≤ length w → two v0 b p c w (opened v0 p) ≡ c
two_second v0 p b c w h k = bit_opened v0 p b (insert_at p c w) (omega (arith, length_insert_at p c w)) ∙ get_inserted p c w k

pub two_closed : (v0 p : ℕ) (b c : Bool) (w : Truths) → v0 ≤ suc (length w) → p ≤ length w → closed_up p (closed_up v0 (two v0 b p c w)) ≡ bit w
two_closed v0 p b c w h k = ap (closed_up p) (closed_bit v0 b (insert_at p c w) (omega (arith, length_insert_at p c w))) ∙ closed_bit p c w k

pub two_beside : (v0 p : ℕ) (b d c : Bool) (w : Truths) → v0 ≤ suc (length w) → (u : ℕ) → u ≢ v0 → two v0 b p c w u ≡ two v0 d p c w u
two_beside v0 p b d c w h u n = get_beside v0 u b d (insert_at p c w) (omega (arith, length_insert_at p c w)) (λ e. n (sym e))

or_not : (u v : ℕ) → (u ≡ v) ⊎ (u ≢ v)
or_not u v = by (nat_lt u v) (nat_lt v u) refl refl
  where
    by : (s t : Bool) → nat_lt u v ≡ s → nat_lt v u ≡ t → (u ≡ v) ⊎ (u ≢ v)
    by true t e f = inr (λ d. grind (arith, nat_tests))
    by false true e f = inr (λ d. grind (arith, nat_tests))
    by false false e f = inl (grind (arith, nat_tests))

pub two_other : (v0 p : ℕ) (b c d : Bool) (w : Truths) → v0 ≤ suc (length w) → p ≤ length w → (u : ℕ) → u ≢ opened v0 p → two v0 b p c w u ≡ two v0 b p d w u
two_other v0 p b c d w h k u n = elim (or_not u v0) [
  | inl e ↦ ap (two v0 b p c w) e ∙ two_first v0 p b c w h ∙ sym (two_first v0 p b d w h) ∙ ap (two v0 b p d w) (sym e)
  | inr m ↦ let t = opened_all v0 u m in
      ap (two v0 b p c w) (sym t.1) ∙ bit_opened v0 t.0 b (insert_at p c w) (omega (arith, length_insert_at p c w))
      ∙ get_beside p t.0 c d w k (λ e. n (sym t.1 ∙ ap (opened v0) (sym e)))
      ∙ sym (bit_opened v0 t.0 b (insert_at p d w) (omega (arith, length_insert_at p d w))) ∙ ap (two v0 b p d w) t.1
]
