-- A closed sum at half of its inputs.
use Rattle.std.proofs.Common.{◌≡◌, ℕ, ◌+◌, ◌*◌, ◌%◌, ◌^◌, ◌<◌, ◌≤◌, refl, ap, sym, ◌∙◌, subst, arith, Bool, true, false, ◌&&◌, cond, nat_eq, Option, Some, None, List, [], length, bit_or}
use Rattle.std.specs.Prelude.{nat_lt}
use Rattle.std.proofs.lemmas.Bool.Decides.{nat_tests}
use Rattle.std.proofs.lemmas.Nat.Bits.{same_from_bits, bit_at-zero}
use Rattle.ps_ring.specs.Truths.{Truths, bit}
use Rattle.ps_mono.specs.Sets.{is_set, stands}
use Rattle.ps_mono.specs.Lists.{nat_eq_true, nat_eq_same}
use Rattle.ps_mono.proofs.Closings.{or_right}
use Rattle.ps_prim.specs.Overlaps.{IsOne}
use Rattle.ps_sum.specs.declared.sums.PathSum.{PathSum}
use Rattle.ps_sum.specs.Sums.{path_values}
use Rattle.ps_overlap.specs.Overlapping.{point}
use Rattle.ps_probe.specs.declared.pattern.Pattern.{Pattern}
use Rattle.ps_probe.specs.Patterns.{is_fixed, is_one, Matches, IsFixing, IsRestricted}
use Rattle.ps_probe.specs.Searching.{Before, Extends, AllOne, IsFirstOther, IsBegun, IsHalf, Searched}
use Rattle.ps_probe.proofs.Marks.{set_more, set_none}
use Rattle.ps_probe.proofs.Tables.{taken_long}
use Rattle.ps_probe.proofs.Givings.{restricted_one, restricted_back}

-- ---- the pattern
or_none : (x : ℕ) → bit_or 0 x ≡ x
or_none x = same_from_bits (bit_or 0 x) x (λ j. or_right 0 x j (bit_at-zero j))

true_or_false : (b : Bool) → cond b true false ≡ b
true_or_false true = refl
true_or_false false = refl

pub one_bit : (i v : ℕ) → i < 64 → is_set (1 * 2 ^ i % 18446744073709551616) v ≡ nat_eq v i
one_bit i v h = ap (λ x. is_set x v) (sym (or_none (1 * 2 ^ i % 18446744073709551616))) ∙ set_more 0 i v h ∙ ap (cond (nat_eq v i) true) (set_none v) ∙ true_or_false (nat_eq v i)

pub fixing_one : (n i : ℕ) (b : Bool) → i < 64 → b ≡ true → IsFixing n i b (record { len = n; fixed = 1 * 2 ^ i % 18446744073709551616; ones = 1 * 2 ^ i % 18446744073709551616 })
fixing_one n i b h e = record {
  len_is = refl;
  fixed_is = λ v. one_bit i v h;
  one_is = one_bit i i h ∙ nat_eq_same i ∙ sym e;
}

pub fixing_none : (n i : ℕ) (b : Bool) → i < 64 → b ≡ false → IsFixing n i b (record { len = n; fixed = 1 * 2 ^ i % 18446744073709551616; ones = 0 })
fixing_none n i b h e = record {
  len_is = refl;
  fixed_is = λ v. one_bit i v h;
  one_is = set_none i ∙ sym e;
}

-- ---- the sum
fixing_matches : (p : Pattern) (n i : ℕ) (b : Bool) (x : Truths) → IsFixing n i b p → bit x i ≡ b → Matches p x
fixing_matches p n i b x f e j k = by (nat_lt j p.len) k
  where
    by : (t : Bool) → (t && is_set p.fixed j) ≡ true → bit x j ≡ is_one p j
    by true q = let w : j ≡ i = nat_eq_true j i (sym (f.fixed_is j) ∙ q) in ap (bit x) w ∙ e ∙ sym (ap (is_one p) w ∙ f.one_is)
    by false q = absurd (never q)
      where
        never : false ≡ true → ⊥
        never r = cc

pub half_of : (p : Pattern) (S R : PathSum) (i : ℕ) (b : Bool) → IsFixing S.n i b p → S.outs ≡ [] → IsRestricted p S R → IsHalf S i b R
half_of p S R i b f o r = record {
  n_is = r.n_is;
  m_is = r.m_is;
  no_outs = r.no_outs;
  one = λ x l e. let m = fixing_matches p S.n i b x f e in (restricted_one p S R x r o (l ∙ sym f.len_is) m, restricted_back p S R x r o (l ∙ sym f.len_is) m);
}

-- ---- the search in a half
pub half_begun : (p : Pattern) (S R : PathSum) (i : ℕ) (b : Bool) (next : List ℕ) (from : ℕ) → IsHalf S i b R → IsBegun p S next from → IsBegun p R next from
half_begun p S R i b next from h g = record { below = λ v l. (let e = h.n_is in g.below v (omega (arith, l, e))); fixed = g.fixed }

half_none : (p : Pattern) (S R : PathSum) (i : ℕ) (b : Bool) (next : List ℕ) → IsHalf S i b R → stands i next ≡ b → AllOne p R (Extends next (i + 1)) → AllOne p S (Extends next (i + 1))
half_none p S R i b next h s a x l m t = (h.one x l (t i (omega arith) ∙ s)).0 (a x (l ∙ sym h.n_is) m t)

half_some : (p : Pattern) (S R : PathSum) (i : ℕ) (b : Bool) (next found : List ℕ) → IsHalf S i b R → stands i next ≡ b → IsFirstOther p R (Extends next (i + 1)) found → IsFirstOther p S (Extends next (i + 1)) found
half_some p S R i b next found h s a = record {
  matches = subst (λ k. Matches p (point k found)) h.n_is a.matches;
  such = such;
  other = λ o. a.other (subst (λ k. IsOne (path_values R) (point k found)) (sym h.n_is) ((h.one (point S.n found) (taken_long S.n 0 (λ u. stands u found)) (such i (omega arith) ∙ s)).1 o));
  first = λ x l m t. (h.one x l (t.0 i (omega arith) ∙ s)).0 (a.first x (l ∙ sym h.n_is) m (t.0, subst (λ k. Before x (point k found)) (sym h.n_is) t.1));
  below = λ v l. (let e = h.n_is in a.below v (omega (arith, l, e)));
  form = a.form;
}
  where
    such : Extends next (i + 1) (point S.n found)
    such = subst (λ k. Extends next (i + 1) (point k found)) h.n_is a.such

pub half_searched : (p : Pattern) (S R : PathSum) (i : ℕ) (b : Bool) (next at : List ℕ) (o : Option (List ℕ)) → IsHalf S i b R → ((v : ℕ) → stands v next ≡ cond (nat_eq v i) b (stands v at)) → Searched p R next (i + 1) o → Searched p S next (i + 1) o
half_searched p S R i b next at None h s a = half_none p S R i b next h (s i ∙ ap (λ t. cond t b (stands i at)) (nat_eq_same i)) a
half_searched p S R i b next at (Some found) h s a = half_some p S R i b next found h (s i ∙ ap (λ t. cond t b (stands i at)) (nat_eq_same i)) a

pub half_some_in : (p : Pattern) (S R : PathSum) (i : ℕ) (b : Bool) (next at found : List ℕ) → IsHalf S i b R → ((v : ℕ) → stands v next ≡ cond (nat_eq v i) b (stands v at)) → IsFirstOther p R (Extends next (i + 1)) found → IsFirstOther p S (Extends next (i + 1)) found
half_some_in p S R i b next at found h s a = half_searched p S R i b next at (Some found) h s a
