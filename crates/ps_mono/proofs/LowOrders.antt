-- The numbers of monomials of low variables have the order of the monomials.
use Rattle.std.proofs.Common.{◌≡◌, ℕ, zero, suc, ◌+◌, ◌*◌, ◌-◌, ◌/◌, ◌%◌, ◌^◌, refl, ap, ap₂, sym, ◌∙◌, arith, ◌<◌, ◌≤◌, Bool, true, false, not, nat_eq, List, ◌∷◌, ◌++◌, length, get_or, ◌⊎◌, inl, inr, nat_cmp, bit_or, append-nil}
use Rattle.std.specs.Ordering.{ordering_then, ordering_reverse}
use Rattle.std.specs.Int.{bit_at}
use Rattle.std.specs.Cmp.Lexicographic.{slice_cmp}
use Rattle.std.proofs.lemmas.Bool.{cases_lt}
use Rattle.std.proofs.lemmas.Cmp.{nat_list_cmp_total}
use Rattle.std.proofs.lemmas.Nat.{le_or_l, le_or_r, shr-shr}
use Rattle.std.proofs.lemmas.Nat.Bits.{bit_at_above, bit_at-zero, same_from_bits_below}
use Rattle.ps_mono.specs.Sets.{is_set, has, put, members, vars, stands, digit, IsVarSet, Fits8, mono_cmp}
use Rattle.ps_mono.specs.Keys.{mirror, IsLow, low_key}
use Rattle.ps_mono.specs.Lists.{members_split, members_empty, stands_below, nat_eq_true}
use Rattle.ps_mono.specs.Words.{has_at}
use Rattle.ps_mono.proofs.Calls.{stands_vars, stands_not}
use Rattle.ps_mono.proofs.Counts.{length_put}
use Rattle.ps_mono.proofs.Orders.{cmp_first}
use Rattle.ps_mono.proofs.KeyOrders.{less_nat, more_nat, same_nat, one_of}
use Rattle.ps_mono.proofs.Mirrors.{mirror_below, mirror_not, mirror_ext, mirror_split}

-- ---- the order
shift_cmp : (x a b : ℕ) → nat_cmp (x + a) (x + b) ≡ nat_cmp a b
shift_cmp x a b = by (one_of a b)
  where
    by : ((a < b) ⊎ ((b < a) ⊎ (a ≡ b))) → nat_cmp (x + a) (x + b) ≡ nat_cmp a b
    by (inl h) = less_nat (x + a) (x + b) (omega arith) ∙ sym (less_nat a b h)
    by (inr (inl h)) = more_nat (x + a) (x + b) (omega arith) ∙ sym (more_nat a b h)
    by (inr (inr h)) = same_nat (x + a) (x + b) (omega arith) ∙ sym (same_nat a b h)

same_first : (v : ℕ) (m k : List ℕ) → slice_cmp nat_cmp (v ∷ m) (v ∷ k) ≡ slice_cmp nat_cmp m k
same_first v m k = ap (λ o. ordering_then o (slice_cmp nat_cmp m k)) (same_nat v v refl)

-- the lists with v in front where the bits are 1, and the numbers with the other bits in front
put_cmp : (x y : Bool) (v c a b : ℕ) (m k : List ℕ) → a < c → b < c → ((u : ℕ) → u < suc v → stands u m ≡ false) → ((u : ℕ) → u < suc v → stands u k ≡ false) → (length m ≡ length k → slice_cmp nat_cmp m k ≡ nat_cmp a b)
    → length (put x v m) ≡ length (put y v k) → slice_cmp nat_cmp (put x v m) (put y v k) ≡ nat_cmp (digit (not x) * c + a) (digit (not y) * c + b)
unfolding put digit
put_cmp true true v c a b m k p q f g r e = same_first v m k ∙ r (omega arith) ∙ sym (shift_cmp (0 * c) a b)
put_cmp true false v c a b m k p q f g r e = cmp_first v m k (sym e) g ∙ sym (less_nat (0 * c + a) (1 * c + b) (omega arith))
put_cmp false true v c a b m k p q f g r e = nat_list_cmp_total.antisymm m (v ∷ k) ∙ ap ordering_reverse (cmp_first v k m e f) ∙ sym (more_nat (1 * c + a) (0 * c + b) (omega arith))
put_cmp false false v c a b m k p q f g r e = r e ∙ sym (shift_cmp (1 * c) a b)

members_cmp : (p q : ℕ → Bool) (lo n : ℕ) → length (members p lo n) ≡ length (members q lo n) → slice_cmp nat_cmp (members p lo n) (members q lo n) ≡ nat_cmp (mirror (λ v. not (p v)) lo n) (mirror (λ v. not (q v)) lo n)
unfolding members mirror
members_cmp p q lo zero e = refl
members_cmp p q lo (suc n) e =
    put_cmp (p lo) (q lo) lo (2 ^ n) _ _ (members p (suc lo) n) (members q (suc lo) n) (mirror_below (λ v. not (p v)) (suc lo) n) (mirror_below (λ v. not (q v)) (suc lo) n)
    (λ u l. stands_below p (suc lo) n u l) (λ u l. stands_below q (suc lo) n u l) (λ h. members_cmp p q (suc lo) n h) e

-- a set of low variables
low_members : (m : List ℕ) → IsVarSet m → IsLow m → members (λ v. stands v m) 0 119 ≡ m
low_members m s h =
    sym (append-nil (members (λ v. stands v m) 0 119)) ∙ ap (λ (k : List ℕ). members (λ v. stands v m) 0 119 ++ k) (sym (members_empty (λ v. stands v m) 119 393 h))
    ∙ sym (members_split (λ v. stands v m) 0 119 393) ∙ s

digit_most : (b : Bool) → digit b ≤ 1
unfolding digit
digit_most true = omega arith
digit_most false = omega arith

members_most : (p : ℕ → Bool) (lo n : ℕ) → length (members p lo n) ≤ n
unfolding members
members_most p lo zero = omega arith
members_most p lo (suc n) = omega (arith, length_put (p lo) lo (members p (suc lo) n), digit_most (p lo), members_most p (suc lo) n)

pub low_degree : (m : List ℕ) → IsVarSet m → IsLow m → length m ≤ 119
low_degree m s h = omega (arith, ap (λ (k : List ℕ). length k) (low_members m s h), members_most (λ v. stands v m) 0 119)

low_slices : (m k : List ℕ) → IsVarSet m → IsVarSet k → IsLow m → IsLow k → length m ≡ length k → slice_cmp nat_cmp m k ≡ nat_cmp (mirror (λ v. not (stands v m)) 0 119) (mirror (λ v. not (stands v k)) 0 119)
low_slices m k s t g h e =
    let em = low_members m s g in
    let ek = low_members k t h in
    let n : length (members (λ v. stands v m) 0 119) ≡ length (members (λ v. stands v k) 0 119) = ap (λ (x : List ℕ). length x) em ∙ e ∙ sym (ap (λ (x : List ℕ). length x) ek) in
    ap₂ (slice_cmp nat_cmp) (sym em) (sym ek) ∙ members_cmp (λ v. stands v m) (λ v. stands v k) 0 119 n

pub low_cmp : (m k : List ℕ) → IsVarSet m → IsVarSet k → IsLow m → IsLow k → nat_cmp (low_key m) (low_key k) ≡ mono_cmp m k
unfolding low_key
low_cmp m k s t g h = by (one_of (length m) (length k))
  where
    a : ℕ
    a = mirror (λ v. not (stands v m)) 0 119

    b : ℕ
    b = mirror (λ v. not (stands v k)) 0 119

    small : a < 2 ^ 119
    small = mirror_below (λ v. not (stands v m)) 0 119

    other : b < 2 ^ 119
    other = mirror_below (λ v. not (stands v k)) 0 119

    by : ((length m < length k) ⊎ ((length k < length m) ⊎ (length m ≡ length k))) → nat_cmp (length m * 2 ^ 119 + a) (length k * 2 ^ 119 + b) ≡ ordering_then (nat_cmp (length m) (length k)) (slice_cmp nat_cmp m k)
    by (inl l) = less_nat (length m * 2 ^ 119 + a) (length k * 2 ^ 119 + b) (omega (arith, small)) ∙ ap (λ o. ordering_then o (slice_cmp nat_cmp m k)) (sym (less_nat _ _ l))
    by (inr (inl l)) = more_nat (length m * 2 ^ 119 + a) (length k * 2 ^ 119 + b) (omega (arith, other)) ∙ ap (λ o. ordering_then o (slice_cmp nat_cmp m k)) (sym (more_nat _ _ l))
    by (inr (inr l)) =
        ap (λ x. nat_cmp (length m * 2 ^ 119 + a) (x * 2 ^ 119 + b)) (sym l) ∙ shift_cmp (length m * 2 ^ 119) a b ∙ sym (low_slices m k s t g h l)
        ∙ ap (λ o. ordering_then o (slice_cmp nat_cmp m k)) (sym (same_nat _ _ l))

-- ---- the number of two words
word_mirror : (ws m : List ℕ) (i : ℕ) → vars ws ≡ m → i < 8 → mirror (λ v. not (stands v m)) (64 * i) 64 ≡ mirror (λ v. not (is_set (get_or ws i 0) v)) 0 64
word_mirror ws m i e h = mirror_ext (λ v. not (stands v m)) (λ v. not (is_set (get_or ws i 0) v)) (64 * i) 0 64 (λ j l. let z : 0 + j ≡ j = omega arith in ap not (ap (stands (64 * i + j)) (sym e) ∙ stands_vars ws (64 * i + j) (omega arith) ∙ has_at ws i j l) ∙ ap (λ n. not (is_set (get_or ws i 0) n)) (sym z))

pub low_key_is : (ws m : List ℕ) (degree x y a b c : ℕ) → vars ws ≡ m → degree ≡ length m → IsVarSet m → IsLow m → x ≡ mirror (is_set (get_or ws 0 0)) 0 64 → y ≡ mirror (is_set (get_or ws 1 0)) 0 64 → a ≡ degree → b ≡ 18446744073709551615 - x → c ≡ (18446744073709551615 - y) / 512
    → a * 2 ^ 119 % 2 ^ 128 + b * 2 ^ 55 % 2 ^ 128 + c ≡ low_key m
unfolding low_key
low_key_is ws m degree x y a b c e d s h ex ey ea eb ec =
    let p : ℕ → Bool = λ v. not (stands v m) in
    let most = low_degree m s h in
    let nx = mirror_not (is_set (get_or ws 0 0)) 0 64 in
    let ny = mirror_not (is_set (get_or ws 1 0)) 0 64 in
    let whole = mirror_split p 0 64 55 in
    let tail = mirror_split p 64 55 9 in
    let end = mirror_below p 119 9 in
    let one = word_mirror ws m 0 e (omega arith) in
    let two = word_mirror ws m 1 e (omega arith) in
    omega arith

pub low_key_cmp : (key : ℕ) (m k : List ℕ) → key ≡ low_key m → IsVarSet m → IsLow m → IsVarSet k → IsLow k → nat_cmp key (low_key k) ≡ mono_cmp m k
low_key_cmp key m k e s g t h = ap (λ x. nat_cmp x (low_key k)) e ∙ low_cmp m k s t g h

-- ---- whether all variables are low
or_none : (x y : ℕ) → bit_or x y ≡ 0 → (x ≡ 0) × (y ≡ 0)
or_none x y e = (omega (arith, le_or_l x y), omega (arith, le_or_r x y))

-- the words behind the second are empty, and so is the second from bit 55 on
pub record Lower (ws : List ℕ) : Type 0 where
  pub second : get_or ws 1 0 / 2 ^ 55 ≡ 0
  pub others : (k : ℕ) → 2 ≤ k → k < 8 → get_or ws k 0 ≡ 0

pub low_from : (ws m : List ℕ) → vars ws ≡ m → Lower ws → IsLow m
unfolding is_set has
low_from ws m e h v l = by (cases_lt v 512) (cases_lt v 128)
  where
    none : (w i : ℕ) → bit_at w i ≡ 0 → is_set w i ≡ false
    none w i z = ap (λ b. nat_eq b 1) z

    by : ((v < 512) ⊎ (512 ≤ v)) → ((v < 128) ⊎ (128 ≤ v)) → stands v m ≡ false
    by (inr a) c = ap (stands v) (sym e) ∙ stands_not ws v a
    by (inl a) (inl c) =
        let d : v / 64 ≡ 1 = omega arith in
        let r : get_or ws 1 0 < 2 ^ 55 = omega (arith, h.second) in
        ap (stands v) (sym e) ∙ stands_vars ws v a ∙ ap (λ k. is_set (get_or ws k 0) (v % 64)) d ∙ none (get_or ws 1 0) (v % 64) (bit_at_above (get_or ws 1 0) 55 (v % 64) r (omega arith))
    by (inl a) (inr c) =
        ap (stands v) (sym e) ∙ stands_vars ws v a ∙ ap (λ w. is_set w (v % 64)) (h.others (v / 64) (omega arith) (omega arith)) ∙ none 0 (v % 64) (bit_at-zero (v % 64))

off_bit : (w i : ℕ) → is_set w i ≡ false → bit_at w i ≡ 0
unfolding is_set
off_bit w i e = by (bit_at w i) (omega arith) e
  where
    by : (b : ℕ) → b < 2 → nat_eq b 1 ≡ false → b ≡ 0
    by zero h e = refl
    by (suc zero) h e = cc
    by (suc (suc b)) h e = absurd (omega arith)

word_bit : (ws m : List ℕ) (k i : ℕ) → vars ws ≡ m → IsLow m → k < 8 → i < 64 → 119 ≤ 64 * k + i → bit_at (get_or ws k 0) i ≡ 0
word_bit ws m k i e h l n g = off_bit (get_or ws k 0) i (sym (has_at ws k i n) ∙ sym (stands_vars ws (64 * k + i) (omega arith)) ∙ ap (stands (64 * k + i)) e ∙ h (64 * k + i) g)

pub low_to : (ws m : List ℕ) → vars ws ≡ m → Fits8 ws → IsLow m → Lower ws
low_to ws m e f h = record {
  second = same_from_bits_below 64 (get_or ws 1 0 / 2 ^ 55) 0 (omega (arith, f.small 1)) (omega arith) (λ i l. ap (λ x. x % 2) (shr-shr (get_or ws 1 0) 55 i) ∙ by i (cases_lt i 9) ∙ sym (bit_at-zero i));
  others = λ k a b. same_from_bits_below 64 (get_or ws k 0) 0 (f.small k) (omega arith) (λ i l. word_bit ws m k i e h b l (omega arith) ∙ sym (bit_at-zero i));
}
  where
    by : (i : ℕ) → ((i < 9) ⊎ (9 ≤ i)) → bit_at (get_or ws 1 0) (55 + i) ≡ 0
    by i (inl l) = word_bit ws m 1 (55 + i) e h (omega arith) (omega arith) (omega arith)
    by i (inr l) = bit_at_above (get_or ws 1 0) 64 (55 + i) (f.small 1) (omega arith)

-- the words behind the second, one after the other
six : (ws : List ℕ) → get_or ws 2 0 ≡ 0 → get_or ws 3 0 ≡ 0 → get_or ws 4 0 ≡ 0 → get_or ws 5 0 ≡ 0 → get_or ws 6 0 ≡ 0 → get_or ws 7 0 ≡ 0 → (k : ℕ) → 2 ≤ k → k < 8 → get_or ws k 0 ≡ 0
six ws a b c d e f zero l h = absurd (omega arith)
six ws a b c d e f (suc zero) l h = absurd (omega arith)
six ws a b c d e f (suc (suc zero)) l h = a
six ws a b c d e f (suc (suc (suc zero))) l h = b
six ws a b c d e f (suc (suc (suc (suc zero)))) l h = c
six ws a b c d e f (suc (suc (suc (suc (suc zero))))) l h = d
six ws a b c d e f (suc (suc (suc (suc (suc (suc zero)))))) l h = e
six ws a b c d e f (suc (suc (suc (suc (suc (suc (suc zero))))))) l h = f
six ws a b c d e f (suc (suc (suc (suc (suc (suc (suc (suc k)))))))) l h = absurd (omega arith)

-- all that has to be empty
unfoldable pub upper : List ℕ → ℕ
upper ws = bit_or (bit_or (get_or ws 1 0 / 36028797018963968) (bit_or (bit_or (get_or ws 2 0) (get_or ws 3 0)) (get_or ws 4 0))) (bit_or (bit_or (get_or ws 5 0) (get_or ws 6 0)) (get_or ws 7 0))

upper_none : (ws : List ℕ) → upper ws ≡ 0 → Lower ws
unfolding upper
upper_none ws e =
    let a = or_none _ _ e in
    let b = or_none _ _ a.0 in
    let c = or_none _ _ b.1 in
    let d = or_none _ _ c.0 in
    let f = or_none _ _ a.1 in
    let g = or_none _ _ f.0 in
    record { second = b.0; others = six ws d.0 d.1 c.1 g.0 g.1 f.1 }

upper_all : (ws : List ℕ) → Lower ws → upper ws ≡ 0
unfolding upper
upper_all ws h = rw (h.second, h.others 2 (omega arith) (omega arith), h.others 3 (omega arith) (omega arith), h.others 4 (omega arith) (omega arith), h.others 5 (omega arith) (omega arith), h.others 6 (omega arith) (omega arith), h.others 7 (omega arith) (omega arith)) refl

pub low_test : (ws m : List ℕ) → vars ws ≡ m → Fits8 ws → (nat_eq (upper ws) 0 ≡ true → IsLow m) × (IsLow m → nat_eq (upper ws) 0 ≡ true)
low_test ws m e f = (λ t. low_from ws m e (upper_none ws (nat_eq_true (upper ws) 0 t)), λ h. ap (λ n. nat_eq n 0) (upper_all ws (low_to ws m e f h)))
