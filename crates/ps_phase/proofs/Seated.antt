-- Terms summed by seats that were sorted in their place.
use Rattle.std.proofs.Common.{◌≡◌, ◌≢◌, ℕ, ◌+◌, ◌%◌, refl, ap, ap₂, sym, ◌∙◌, subst, arith, ◌<◌, ◌≤◌, Bool, true, false, List, [], ◌∷◌, ◌++◌, length, drop, take, get_or, Ordering, Less, Equal, Greater, nat_cmp, All}
use Rattle.std.specs.Ordering.{is_lt}
use Rattle.std.specs.List.Sorted.{IsPermutation, IsSortedBy, IsSortedByKey}
use Rattle.std.proofs.lemmas.Bool.Decides.{nat_tests}
use Rattle.std.proofs.lemmas.List.{take_more, take_all, map_push, get_or-map, get_or_default, get_or_read, length-map}
use Rattle.std.proofs.lemmas.List.Elements.{All-nil, All-push, All-tail, All-head}
use Rattle.std.proofs.lemmas.List.Sorted.{IsPermutation-map, All-permutation, length_permutation}
use Rattle.ps_phase.specs.declared.terms.Term.{Term}
use Rattle.ps_phase.specs.declared.seats.Seat.{Seat}
use Rattle.ps_mono.specs.Sets.{mono_cmp, IsVarSet}
use Rattle.ps_mono.specs.Keys.{IsLow, low_key}
use Rattle.ps_mono.proofs.Orders.{mono_equal}
use Rattle.ps_mono.proofs.LowOrders.{low_cmp}
use Rattle.ps_phase.specs.Phases.{phase_value, phase_occurs, IsPhasePoly, AllSmall}
use Rattle.ps_phase.specs.Adding.{choose, put_term, combined_terms}
use Rattle.ps_phase.specs.Seating.{seat_term, seat_terms, IsSeat, AllLow}
use Rattle.ps_phase.proofs.Adding.{M, cut}
use Rattle.ps_phase.proofs.Combining.{falls, combined_same, combined_other, combined_end, gathered_form, gathered_value, gathered_free}

no_seat : Seat
no_seat = record { key = 0; phase = 0; place = 0 }

-- ---- a seat for each term
pub record Seating (ts : List Term) (ss : List Seat) (i : ℕ) : Type 0 where
  pub all : All (IsSeat ts) ss
  pub terms : seat_terms ts ss ≡ take i ts

pub seating_start : (ts : List Term) (ss : List Seat) → ss ≡ [] → Seating ts ss 0
seating_start ts ss e = subst (λ (r : List Seat). Seating ts r 0) (sym e) (record { all = All-nil (IsSeat ts); terms = refl })

seat_is : (ts : List Term) (s : Seat) (t : Term) → s.place < length ts → t ≡ get_or ts s.place t → seat_term ts s ≡ t
unfolding seat_term
seat_is ts s t h e = sym (get_or_read ts s.place t h e (record { mono = []; phase = 0 }))

pub low_at : (ts : List Term) (i : ℕ) (t : Term) → AllLow ts → i < length ts → t ≡ get_or ts i t → IsLow t.mono
low_at ts i t a h e = subst (λ (u : Term). IsLow u.mono) (sym e) (a i t h)

pub seating_more : (ts : List Term) (ss rs : List Seat) (i : ℕ) (s : Seat) (t : Term) → i < length ts → t ≡ get_or ts i t → IsVarSet t.mono → IsLow t.mono → s.key ≡ low_key t.mono → s.phase ≡ t.phase → s.phase < M → s.place ≡ i → rs ≡ ss ++ s ∷ [] → Seating ts ss i → Seating ts rs (i + 1)
seating_more ts ss rs i s t h et set low key phase small place e g =
    let n : s.place < length ts = omega arith in
    let at : seat_term ts s ≡ t = seat_is ts s t n (et ∙ ap (λ (k : ℕ). get_or ts k t) (sym place)) in
    let one : IsSeat ts s = record {
      inside = n;
      set = subst (λ (u : Term). IsVarSet u.mono) (sym at) set;
      low = subst (λ (u : Term). IsLow u.mono) (sym at) low;
      key = key ∙ ap (λ (u : Term). low_key u.mono) (sym at);
      phase = phase ∙ ap (λ (u : Term). u.phase) (sym at);
      small = small;
    } in
    subst (λ (r : List Seat). Seating ts r (i + 1)) (sym e) (record {
      all = All-push (IsSeat ts) ss s g.all one;
      terms = map_push (seat_term ts) ss s ∙ ap₂ (λ (r : List Term) (u : Term). r ++ u ∷ []) g.terms (at ∙ et) ∙ sym (take_more ts i t h);
    })

pub seating_end : (ts : List Term) (ss : List Seat) (i : ℕ) → length ts ≤ i → Seating ts ss i → seat_terms ts ss ≡ ts
seating_end ts ss i h g = g.terms ∙ take_all i ts h

-- ---- seats that were sorted
seats_small : (ts : List Term) (ss : List Seat) → All (IsSeat ts) ss → AllSmall (seat_terms ts ss)
seats_small ts [] a = tt
seats_small ts (s ∷ ss) a =
    let h : IsSeat ts s = All-head (IsSeat ts) s ss a in
    (h.set, subst (λ (n : ℕ). n < M) h.phase h.small, seats_small ts ss (All-tail (IsSeat ts) s ss a))

seat_cmp : (ts : List Term) (x y : Seat) → IsSeat ts x → IsSeat ts y → nat_cmp x.key y.key ≡ mono_cmp (seat_term ts x).mono (seat_term ts y).mono
seat_cmp ts x y a b = ap₂ nat_cmp a.key b.key ∙ low_cmp (seat_term ts x).mono (seat_term ts y).mono a.set b.set a.low b.low

seat_falls : (ts : List Term) (x y : Seat) (t u : Term) → t ≡ seat_term ts x → u ≡ seat_term ts y → IsSeat ts x → IsSeat ts y → is_lt (nat_cmp x.key y.key) ≡ false → falls t u ≡ false
seat_falls ts x y t u et eu a b e = ap₂ falls et eu ∙ ap is_lt (sym (seat_cmp ts x y a b)) ∙ e

seats_sorted : (ts : List Term) (ss : List Seat) → All (IsSeat ts) ss → IsSortedByKey (λ (s : Seat). s.key) nat_cmp ss → IsSortedBy falls (seat_terms ts ss)
seats_sorted ts ss a h k d p q =
    let n : k + 1 < length ss = omega (arith, length-map ss (seat_term ts)) in
    seat_falls ts (get_or ss (k + 1) no_seat) (get_or ss k no_seat) (get_or (seat_terms ts ss) (k + 1) d) (get_or (seat_terms ts ss) k d)
    (get_or-map (seat_term ts) ss (k + 1) no_seat d n) (get_or-map (seat_term ts) ss k no_seat d (omega arith)) (a (k + 1) no_seat n) (a k no_seat (omega arith)) (h k no_seat p n)

-- ---- the sum of each run
first_term : (o : Ordering) (u w : List Term) → (o ≡ Equal → w ≡ u) → choose o u w u ≡ u
unfolding choose
first_term Less u w h = refl
first_term Equal u w h = h refl
first_term Greater u w h = refl

first_run : (t : Term) (ts : List Term) → t.phase < M → combined_terms [] 0 (t ∷ ts) ≡ combined_terms t.mono t.phase ts
unfolding combined_terms put_term
first_run t ts h = first_term (mono_cmp [] t.mono) (combined_terms t.mono t.phase ts) (combined_terms [] ((0 + t.phase) % M) ts) (λ e. let n : (0 + t.phase) % M ≡ t.phase = omega arith in ap₂ (λ (m : List ℕ) (p : ℕ). combined_terms m p ts) (mono_equal [] t.mono e) n)

-- the sum of the seats before place i stands in out, but for that of the last run
pub record Summing (ts : List Term) (ss : List Seat) (out : List Term) (run : Seat) (i end : ℕ) : Type 0 where
  pub ended : end ≡ length ss
  pub inside : run.place < length ts
  pub set : IsVarSet (seat_term ts run).mono
  pub low : IsLow (seat_term ts run).mono
  pub key : run.key ≡ low_key (seat_term ts run).mono
  pub whole : out ++ combined_terms (seat_term ts run).mono run.phase (drop i (seat_terms ts ss)) ≡ combined_terms [] 0 (seat_terms ts ss)

place_term : (ts : List Term) (ss : List Seat) (i : ℕ) (s : Seat) → i < length ss → s ≡ get_or ss i s → seat_term ts s ≡ get_or (seat_terms ts ss) i (seat_term ts s)
place_term ts ss i s h e = ap (seat_term ts) e ∙ sym (get_or-map (seat_term ts) ss i s (seat_term ts s) h)

seat_at : (ts : List Term) (ss : List Seat) (i : ℕ) (s : Seat) → All (IsSeat ts) ss → i < length ss → s ≡ get_or ss i s → IsSeat ts s
seat_at ts ss i s a h e = subst (IsSeat ts) (sym e) (a i s h)

pub summing_start : (ts : List Term) (ss : List Seat) (out : List Term) (run : Seat) (end : ℕ) → All (IsSeat ts) ss → 0 < length ss → run ≡ get_or ss 0 run → out ≡ [] → end ≡ length ss → Summing ts ss out run 1 end
summing_start ts ss out run end a h e eo ee =
    let s : IsSeat ts run = seat_at ts ss 0 run a h e in
    let n : 0 < length (seat_terms ts ss) = omega (arith, length-map ss (seat_term ts)) in
    record {
      ended = ee;
      inside = s.inside;
      set = s.set;
      low = s.low;
      key = s.key;
      whole = ap₂ (λ (r : List Term) (p : ℕ). r ++ combined_terms (seat_term ts run).mono p (drop 1 (seat_terms ts ss))) eo s.phase
          ∙ sym (first_run (seat_term ts run) (drop 1 (seat_terms ts ss)) (subst (λ (p : ℕ). p < M) s.phase s.small))
          ∙ ap (combined_terms [] 0) (sym (cut (seat_terms ts ss) 0 (seat_term ts run) n (place_term ts ss 0 run h e)));
    }

keys_equal : (x y : ℕ) → x ≡ y → nat_cmp y x ≡ Equal
keys_equal x y e = grind (arith, nat_tests)

keys_other : (x y : ℕ) → x ≢ y → nat_cmp y x ≡ Equal → ⊥
keys_other x y e f = grind (arith, nat_tests)

run_cmp : (ts : List Term) (ss : List Seat) (out : List Term) (run s : Seat) (i end : ℕ) → Summing ts ss out run i end → IsSeat ts s → nat_cmp run.key s.key ≡ mono_cmp (seat_term ts run).mono (seat_term ts s).mono
run_cmp ts ss out run s i end g b = ap₂ nat_cmp g.key b.key ∙ low_cmp (seat_term ts run).mono (seat_term ts s).mono g.set b.set g.low b.low

pub summing_same : (ts : List Term) (ss : List Seat) (out : List Term) (run s : Seat) (q i end : ℕ) → All (IsSeat ts) ss → Summing ts ss out run i end → i < end → s ≡ get_or ss i s → s.key ≡ run.key → q ≡ (run.phase + s.phase) % M
    → Summing ts ss out (record { key = run.key; phase = q; place = run.place }) (i + 1) end
unfolding seat_term
summing_same ts ss out run s q i end a g h e k eq =
    let n : i < length ss = omega (arith, g.ended) in
    let b : IsSeat ts s = seat_at ts ss i s a n e in
    let m : i < length (seat_terms ts ss) = omega (arith, g.ended, length-map ss (seat_term ts)) in
    record {
      ended = g.ended;
      inside = g.inside;
      set = g.set;
      low = g.low;
      key = g.key;
      whole = combined_same (seat_terms ts ss) out (combined_terms [] 0 (seat_terms ts ss)) (seat_term ts run).mono run.phase q i (seat_term ts s) m (place_term ts ss i s n e)
          (sym (keys_equal s.key run.key k) ∙ run_cmp ts ss out run s i end g b) (eq ∙ ap (λ (p : ℕ). (run.phase + p) % M) b.phase) g.whole;
    }

pub summing_other : (ts : List Term) (ss : List Seat) (out new : List Term) (run s : Seat) (i end : ℕ) → All (IsSeat ts) ss → Summing ts ss out run i end → i < end → s ≡ get_or ss i s → s.key ≢ run.key → new ≡ out ++ put_term (seat_term ts run).mono run.phase []
    → Summing ts ss new s (i + 1) end
summing_other ts ss out new run s i end a g h e k en =
    let n : i < length ss = omega (arith, g.ended) in
    let b : IsSeat ts s = seat_at ts ss i s a n e in
    let m : i < length (seat_terms ts ss) = omega (arith, g.ended, length-map ss (seat_term ts)) in
    record {
      ended = g.ended;
      inside = b.inside;
      set = b.set;
      low = b.low;
      key = b.key;
      whole = combined_other (seat_terms ts ss) out new (combined_terms [] 0 (seat_terms ts ss)) (seat_term ts run).mono (seat_term ts s).mono run.phase s.phase i (seat_term ts s) m (place_term ts ss i s n e)
          (λ z. keys_other s.key run.key k (run_cmp ts ss out run s i end g b ∙ z)) refl b.phase en g.whole;
    }

pub summing_end : (ts : List Term) (ss : List Seat) (out new : List Term) (run : Seat) (i end : ℕ) → Summing ts ss out run i end → end ≤ i → new ≡ out ++ put_term (seat_term ts run).mono run.phase [] → new ≡ combined_terms [] 0 (seat_terms ts ss)
summing_end ts ss out new run i end g h en =
    combined_end (seat_terms ts ss) out new (combined_terms [] 0 (seat_terms ts ss)) (seat_term ts run).mono run.phase i (omega (arith, g.ended, length-map ss (seat_term ts))) en g.whole

-- what was put behind out has the monomial at the place of the run
pub run_put : (ts : List Term) (s : Seat) (d : Term) (out new : List Term) → s.place < length ts → new ≡ out ++ put_term (get_or ts s.place d).mono s.phase [] → new ≡ out ++ put_term (seat_term ts s).mono s.phase []
unfolding seat_term
run_put ts s d out new h n = n ∙ ap (λ (u : Term). out ++ put_term u.mono s.phase []) (get_or_default ts s.place d (record { mono = []; phase = 0 }) h)

-- ---- the whole: ss were sorted to rs
seats_moved : (ts : List Term) (ss rs : List Seat) → seat_terms ts ss ≡ ts → IsPermutation ss rs → IsPermutation ts (seat_terms ts rs)
seats_moved ts ss rs e p = subst (λ (r : List Term). IsPermutation r (seat_terms ts rs)) e (IsPermutation-map (seat_term ts) ss rs p)

pub seated_form : (ts : List Term) (ss rs : List Seat) (vs : List Term) → All (IsSeat ts) ss → IsPermutation ss rs → IsSortedByKey (λ (s : Seat). s.key) nat_cmp rs → vs ≡ combined_terms [] 0 (seat_terms ts rs) → IsPhasePoly vs
seated_form ts ss rs vs a p s e =
    let b : All (IsSeat ts) rs = All-permutation (IsSeat ts) ss rs p a in
    gathered_form (seat_terms ts rs) (seat_terms ts rs) vs refl e (seats_small ts rs b) (seats_sorted ts rs b s)

pub seated_value : (ts : List Term) (ss rs : List Seat) (vs : List Term) → seat_terms ts ss ≡ ts → IsPermutation ss rs → vs ≡ combined_terms [] 0 (seat_terms ts rs) → (a : ℕ → Bool) → phase_value vs a % M ≡ phase_value ts a % M
seated_value ts ss rs vs t p e a = gathered_value ts (seat_terms ts rs) (seat_terms ts rs) vs refl e (seats_moved ts ss rs t p) a

pub seated_free : (ts : List Term) (ss rs : List Seat) (vs : List Term) → seat_terms ts ss ≡ ts → IsPermutation ss rs → vs ≡ combined_terms [] 0 (seat_terms ts rs) → (v : ℕ) → phase_occurs v vs ≡ true → phase_occurs v ts ≡ true
seated_free ts ss rs vs t p e v = gathered_free ts (seat_terms ts rs) (seat_terms ts rs) vs refl e (seats_moved ts ss rs t p) v

-- there are as many seats as terms
pub seats_some : (ts : List Term) (ss rs qs : List Seat) → qs ≡ rs → seat_terms ts ss ≡ ts → IsPermutation ss rs → 0 < length ts → 0 < length qs
seats_some ts ss rs qs e t p h = omega (arith, ap (λ (r : List Seat). length r) e, length_permutation ss rs p, length-map ss (seat_term ts), ap (λ (r : List Term). length r) t)

pub seats_all : (ts : List Term) (ss rs qs : List Seat) → qs ≡ rs → All (IsSeat ts) ss → IsPermutation ss rs → All (IsSeat ts) qs
seats_all ts ss rs qs e a p = subst (All (IsSeat ts)) (sym e) (All-permutation (IsSeat ts) ss rs p a)

pub seats_sum : (ts : List Term) (rs qs : List Seat) (vs : List Term) → qs ≡ rs → vs ≡ combined_terms [] 0 (seat_terms ts qs) → vs ≡ combined_terms [] 0 (seat_terms ts rs)
seats_sum ts rs qs vs e h = h ∙ ap (λ (r : List Seat). combined_terms [] 0 (seat_terms ts r)) e

pub summing_move : (ts : List Term) (ss : List Seat) (out new : List Term) (run next : Seat) (i end : ℕ) → new ≡ out → next ≡ run → Summing ts ss out run i end → Summing ts ss new next i end
summing_move ts ss out new run next i end eo er g = subst (λ (r : List Term). Summing ts ss r next i end) (sym eo) (subst (λ (s : Seat). Summing ts ss out s i end) (sym er) g)
