-- Sums that are read at assignments: one gate, the join and the overlap.
use Rattle.std.proofs.Common.{◌≡◌, ℕ, zero, suc, ◌+◌, ◌-◌, ◌*◌, ◌%◌, ◌<◌, refl, ap, ap₂, sym, ◌∙◌, arith, Bool, true, false, cond, nat_lt, ◌&&◌, [], ◌∷◌, ◌++◌, length, set, length-append, get_or-append-add, append_assoc}
use Rattle.std.proofs.Math.ListN.{get_or-append}
use Rattle.std.proofs.lemmas.Bool.Decides.{nat_tests}
use Rattle.ps_ring.specs.Truths.{Truths, bit}
use Rattle.ps_ring.specs.Joins.{pairing}
use Rattle.ps_ring.specs.Readings.{Assignment, taken, second_name, moved_name, JoinReading}
use Rattle.ps_ring.specs.ReadingLaws.{PlainRead, TurnedRead, JoinRead, OverlapRead}

-- lists in a row
at_front : (s t : Truths) (u : ℕ) → u < length s → bit (s ++ t) u ≡ bit s u
at_front s t u l = get_or-append s t false u l

at_back : (s t : Truths) (n u : ℕ) → length s ≡ n → bit (s ++ t) (n + u) ≡ bit t u
at_back s t n u l = ap (λ k. bit (s ++ t) (k + u)) (sym l) ∙ get_or-append-add s t u false

-- the values of a list's own variables are the list
taken_list : (w : Truths) (lo : ℕ) (a : Assignment) → ((u : ℕ) → u < length w → a (lo + u) ≡ bit w u) → taken lo (length w) a ≡ w
unfolding taken
taken_list [] lo a h = refl
taken_list (b ∷ w) lo a h = ap₂ (λ (c : Bool) (r : Truths). c ∷ r) (ap a (omega arith) ∙ h zero (omega arith)) (taken_list w (suc lo) a (λ u l. ap a (omega arith) ∙ h (suc u) (omega arith)))

pub taken_inputs : (n : ℕ) (x t : Truths) → length x ≡ n → taken 0 n (bit (x ++ t)) ≡ x
taken_inputs n x t l = ap (λ k. taken 0 k (bit (x ++ t))) (sym l) ∙ taken_list x 0 (bit (x ++ t)) (λ u h. ap (bit (x ++ t)) (omega arith) ∙ at_front x t u h)

pub plain_read : PlainRead
plain_read n f F P O e = record {
  m_is = refl;
  k_is = refl;
  phase_is = λ x lx. e.phase_is (bit (x ++ [])) ∙ ap (λ w. F w % 4294967296) (taken_inputs n x [] lx);
  outs_is = λ x lx. e.outs_is (bit (x ++ [])) ∙ ap f (taken_inputs n x [] lx);
}

turned_value : (theta phi lambda : ℕ) (q q' a a' b b' : Bool) → q ≡ q' → a ≡ a' → b ≡ b'
    → cond q (2 * lambda + 3221225472) 0 + cond (q && a) 2147483648 0 + cond a (2 * theta) 0 + cond (a && b) 2147483648 0 + cond b (2 * phi + 1073741824) 0
    ≡ cond q' (2 * lambda + 3221225472) 0 + cond (q' && a') 2147483648 0 + cond a' (2 * theta) 0 + cond (a' && b') 2147483648 0 + cond b' (2 * phi + 1073741824) 0
turned_value theta phi lambda q q' a a' b b' e f g =
    ap (λ r. cond r (2 * lambda + 3221225472) 0 + cond (r && a) 2147483648 0 + cond a (2 * theta) 0 + cond (a && b) 2147483648 0 + cond b (2 * phi + 1073741824) 0) e
    ∙ ap (λ r. cond q' (2 * lambda + 3221225472) 0 + cond (q' && r) 2147483648 0 + cond r (2 * theta) 0 + cond (r && b) 2147483648 0 + cond b (2 * phi + 1073741824) 0) f
    ∙ ap (λ r. cond q' (2 * lambda + 3221225472) 0 + cond (q' && a') 2147483648 0 + cond a' (2 * theta) 0 + cond (a' && r) 2147483648 0 + cond r (2 * phi + 1073741824) 0) g

pub turned_read : TurnedRead
turned_read n theta phi lambda q P O w e = record {
  m_is = refl;
  k_is = refl;
  phase_is = λ x a b lx.
      let A = bit (x ++ (a ∷ b ∷ [])) in
      let front : A q ≡ bit x q = at_front x (a ∷ b ∷ []) q (omega arith) in
      let first : A n ≡ a = ap A (omega arith) ∙ at_back x (a ∷ b ∷ []) n 0 lx in
      let next : A (suc n) ≡ b = ap A (omega arith) ∙ at_back x (a ∷ b ∷ []) n 1 lx in
      e.phase_is A ∙ ap (λ r. r % 4294967296) (turned_value theta phi lambda (A q) (bit x q) (A n) a (A (suc n)) b front first next);
  outs_is = λ x a b lx.
      let A = bit (x ++ (a ∷ b ∷ [])) in
      let next : A (suc n) ≡ b = ap A (omega arith) ∙ at_back x (a ∷ b ∷ []) n 1 lx in
      e.outs_is A ∙ ap₂ (λ (s : Truths) r. set s q r) (taken_inputs n x (a ∷ b ∷ []) lx) next;
}

-- ---- the join
second_at : (n m1 m2 : ℕ) (x y w o : Truths) (u : ℕ) → length x ≡ n → length y ≡ m1 → length w ≡ m2 → length o ≡ n → u < n + m2 → bit ((x ++ (y ++ w)) ++ o) (second_name n m1 m2 u) ≡ bit (o ++ w) u
unfolding second_name
second_at n m1 m2 x y w o u lx ly lw lo h = by (nat_lt u n) refl
  where
    whole : length (x ++ (y ++ w)) ≡ n + (m1 + m2)
    whole = omega (arith, length-append x (y ++ w), length-append y w)

    by : (t : Bool) → nat_lt u n ≡ t → bit ((x ++ (y ++ w)) ++ o) (cond (nat_lt u n) (n + (m1 + m2) + u) (u + m1)) ≡ bit (o ++ w) u
    by true e = rw e (at_back (x ++ (y ++ w)) o (n + (m1 + m2)) u whole ∙ sym (at_front o w u (grind (arith, nat_tests))))
    by false e =
        let d : u ≡ n + (u - n) = grind (arith, nat_tests) in
        let g : u + m1 ≡ n + (m1 + (u - n)) = grind (arith, nat_tests) in
        let f : u + m1 < length (x ++ (y ++ w)) = omega (arith, whole) in
        rw e (at_front (x ++ (y ++ w)) o (u + m1) f ∙ ap (bit (x ++ (y ++ w))) g ∙ at_back x (y ++ w) n (m1 + (u - n)) lx ∙ at_back y w m1 (u - n) ly
        ∙ sym (at_back o w n (u - n) lo) ∙ ap (bit (o ++ w)) (sym d))

front_two : (n m1 : ℕ) (x y w : Truths) (u : ℕ) → length x ≡ n → length y ≡ m1 → u < n + m1 → bit (x ++ (y ++ w)) u ≡ bit (x ++ y) u
front_two n m1 x y w u lx ly h = ap (λ s. bit s u) (sym (append_assoc x y w)) ∙ at_front (x ++ y) w u (omega (arith, length-append x y))

-- the assignment of a join: its own variables, and the first's outputs for the second's inputs
joined_at : (n m1 m2 : ℕ) (P1 P2 P : Assignment → ℕ) (O1 O2 O : Assignment → Truths) → JoinReading n m1 m2 P1 P2 P O1 O2 O → (x y w : Truths) → length x ≡ n → length y ≡ m1 → length w ≡ m2
    → (P (bit (x ++ (y ++ w))) % 4294967296 ≡ (P1 (bit (x ++ y)) + P2 (bit (O1 (bit (x ++ y)) ++ w))) % 4294967296) × (O (bit (x ++ (y ++ w))) ≡ O2 (bit (O1 (bit (x ++ y)) ++ w)))
joined_at n m1 m2 P1 P2 P O1 O2 O e x y w lx ly lw =
    let W = x ++ (y ++ w) in
    let N = n + (m1 + m2) in
    let o = O1 (bit (x ++ y)) in
    let A = bit (W ++ o) in
    let whole : length W ≡ N = omega (arith, length-append x (y ++ w), length-append y w) in
    let lo : length o ≡ n = e.width (bit (x ++ y)) in
    let front : (u : ℕ) → u < N → bit W u ≡ A u = λ u h. sym (at_front W o u (omega arith)) in
    let early : (u : ℕ) → u < n + m1 → A u ≡ bit (x ++ y) u = λ u h. at_front W o u (omega arith) ∙ front_two n m1 x y w u lx ly h in
    let outs : O1 A ≡ o = e.first_outs A (bit (x ++ y)) early in
    let own : (u : ℕ) → u < n → A (N + u) ≡ bit (O1 A) u = λ u h. at_back W o N u whole ∙ ap (λ s. bit s u) (sym outs) in
    let late : (u : ℕ) → u < n + m2 → A (second_name n m1 m2 u) ≡ bit (o ++ w) u = λ u h. second_at n m1 m2 x y w o u lx ly lw lo h in (
      ap (λ r. r % 4294967296) (e.phase_under (bit W) A front) ∙ e.phase_is A own
          ∙ ap₂ (λ r s. (r + s) % 4294967296) (e.first_phase A (bit (x ++ y)) early) (e.second_phase (λ v. A (second_name n m1 m2 v)) (bit (o ++ w)) late),
      e.outs_under (bit W) A front ∙ e.outs_is A own ∙ e.second_outs (λ v. A (second_name n m1 m2 v)) (bit (o ++ w)) late,
    )

pub join_read : JoinRead
join_read n m1 m2 k1 k2 P1 P2 P O1 O2 O e = record {
  m_is = refl;
  k_is = refl;
  phase_is = λ x y w lx ly lw. (joined_at n m1 m2 P1 P2 P O1 O2 O e x y w lx ly lw).0;
  outs_is = λ x y w lx ly lw. (joined_at n m1 m2 P1 P2 P O1 O2 O e x y w lx ly lw).1;
}

-- ---- the overlap
moved_at : (n m1 m2 : ℕ) (x y1 y2 w : Truths) (u : ℕ) → length x ≡ n → length y1 ≡ m1 → length y2 ≡ m2 → u < n + m2 → bit (x ++ (y1 ++ (y2 ++ w))) (moved_name n m1 u) ≡ bit (x ++ y2) u
unfolding moved_name
moved_at n m1 m2 x y1 y2 w u lx l1 l2 h = by (nat_lt u n) refl
  where
    by : (t : Bool) → nat_lt u n ≡ t → bit (x ++ (y1 ++ (y2 ++ w))) (cond (nat_lt u n) u (u + m1)) ≡ bit (x ++ y2) u
    by true e =
        let f : u < length x = grind (arith, nat_tests) in
        rw e (at_front x (y1 ++ (y2 ++ w)) u f ∙ sym (at_front x y2 u f))
    by false e =
        let d : u ≡ n + (u - n) = grind (arith, nat_tests) in
        let g : u + m1 ≡ n + (m1 + (u - n)) = grind (arith, nat_tests) in
        let f : u - n < length y2 = grind (arith, nat_tests) in
        rw e (ap (bit (x ++ (y1 ++ (y2 ++ w)))) g ∙ at_back x (y1 ++ (y2 ++ w)) n (m1 + (u - n)) lx ∙ at_back y1 (y2 ++ w) m1 (u - n) l1 ∙ at_front y2 w (u - n) f
        ∙ sym (at_back x y2 n (u - n) lx) ∙ ap (bit (x ++ y2)) (sym d))

last_at : (n m1 m2 : ℕ) (x y1 y2 w : Truths) (u : ℕ) → length x ≡ n → length y1 ≡ m1 → length y2 ≡ m2 → bit (x ++ (y1 ++ (y2 ++ w))) (n + (m1 + m2) + u) ≡ bit w u
last_at n m1 m2 x y1 y2 w u lx l1 l2 =
    ap (bit (x ++ (y1 ++ (y2 ++ w)))) (omega arith) ∙ at_back x (y1 ++ (y2 ++ w)) n (m1 + (m2 + u)) lx ∙ at_back y1 (y2 ++ w) m1 (m2 + u) l1 ∙ at_back y2 w m2 u l2

pub overlap_read : OverlapRead
overlap_read n m1 m2 k1 k2 P1 P2 P O1 O2 O e = record {
  m_is = refl;
  k_is = refl;
  phase_is = λ x y1 y2 w lx l1 l2 lw.
      let A = bit (x ++ (y1 ++ (y2 ++ w))) in
      let early : (u : ℕ) → u < n + m1 → A u ≡ bit (x ++ y1) u = λ u h. front_two n m1 x y1 (y2 ++ w) u lx l1 h in
      let late : (u : ℕ) → u < n + m2 → A (moved_name n m1 u) ≡ bit (x ++ y2) u = λ u h. moved_at n m1 m2 x y1 y2 w u lx l1 l2 h in
      let own : taken (n + (m1 + m2)) n A ≡ w = ap (λ k. taken (n + (m1 + m2)) k A) (sym lw) ∙ taken_list w (n + (m1 + m2)) A (λ u h. last_at n m1 m2 x y1 y2 w u lx l1 l2) in
      ap (λ r. (P A + r) % 4294967296) (sym (e.first_phase A (bit (x ++ y1)) early)) ∙ e.phase_is A
      ∙ ap₂ (λ r s. (r + s) % 4294967296) (e.second_phase (λ v. A (moved_name n m1 v)) (bit (x ++ y2)) late)
      (ap₂ (λ s t. pairing s t (O2 (λ v. A (moved_name n m1 v)))) own (e.first_outs A (bit (x ++ y1)) early) ∙ ap (pairing w (O1 (bit (x ++ y1)))) (e.second_outs (λ v. A (moved_name n m1 v)) (bit (x ++ y2)) late));
  outs_is = λ x y lx ly. e.outs_is (bit (x ++ y));
}
