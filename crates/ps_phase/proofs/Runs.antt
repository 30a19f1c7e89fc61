-- Terms put in order and summed in place.
use Rattle.std.proofs.Common.{◌≡◌, ◌≢◌, ℕ, zero, suc, ◌+◌, ◌-◌, ◌%◌, refl, ap, sym, ◌∙◌, subst, arith, ◌<◌, ◌≤◌, List, [], ◌∷◌, ◌++◌, length, drop, take, set, get_or, ◌⊎◌, inl, inr, Bool, true, false, nat_eq, Ordering, Less, Equal, Greater}
use Rattle.std.specs.Ordering.{is_eq}
use Rattle.std.specs.Cmp.Lexicographic.{pointwise}
use Rattle.std.proofs.lemmas.Bool.{cases_eq}
use Rattle.std.proofs.lemmas.List.{take_more_set, get_or-set_other}
use Rattle.std.proofs.Math.ListN.{length-set}
use Rattle.ps_phase.specs.declared.terms.Term.{Term}
use Rattle.ps_mono.specs.Sets.{mono_cmp, IsVarSet}
use Rattle.ps_mono.specs.Orders.{mono_ties}
use Rattle.ps_mono.proofs.Orders.{mono_trans}
use Rattle.ps_phase.specs.Phases.{TermBefore, IsPhasePoly, AllSmall}
use Rattle.ps_phase.specs.Adding.{combined_terms}
use Rattle.ps_phase.specs.Placing.{Follows, IsPut}
use Rattle.ps_phase.proofs.Adding.{M, pushed_if}
use Rattle.ps_phase.proofs.Combining.{combined_start, combined_step_same, combined_other, combined_end, small_more, small_end}

-- ---- terms of which each follows the one before it
before_more : (m k : List ℕ) (ts : List Term) → mono_cmp m k ≡ Less → TermBefore k ts → TermBefore m ts
before_more m k [] l b = tt
before_more m k (t ∷ ts) l b = (mono_trans m k t.mono l b.0, before_more m k ts l b.1)

follows_rest : (t : Term) (ts : List Term) (i : ℕ) → Follows (t ∷ ts) (suc i) → Follows ts i
follows_rest t ts zero f = record { term = f.term; order = λ d l. absurd (omega arith) }
follows_rest t ts (suc i) f = record {
  term = f.term;
  order = λ d l.
      let e : suc i - 1 ≡ i = omega arith in
      let g : suc (suc i) - 1 ≡ suc i = omega arith in
      ap (λ (n : ℕ). mono_cmp (get_or ts n d).mono (get_or ts (suc i) d).mono) e ∙ sym (ap (λ (n : ℕ). mono_cmp (get_or (t ∷ ts) n d).mono (get_or (t ∷ ts) (suc (suc i)) d).mono) g) ∙ f.order d (omega arith);
}

pub all_follow : (ts : List Term) → ((i : ℕ) → i < length ts → Follows ts i) → IsPhasePoly ts
all_follow [] h = tt
all_follow (t ∷ []) h = ((h 0 (omega arith)).term t, tt, tt)
all_follow (t ∷ u ∷ ts) h =
    let r : IsPhasePoly (u ∷ ts) = all_follow (u ∷ ts) (λ i l. follows_rest t (u ∷ ts) i (h (suc i) (omega arith))) in
    let o : mono_cmp t.mono u.mono ≡ Less = (h 1 (omega arith)).order t (omega arith) in
    ((h 0 (omega arith)).term t, (o, before_more t.mono u.mono ts o r.1), r)

pub follow_more : (ts : List Term) (i : ℕ) → ((k : ℕ) → k < i → Follows ts k) → Follows ts i → (k : ℕ) → k < i + 1 → Follows ts k
follow_more ts i old new k l = by (cases_eq k i)
  where
    by : ((k ≡ i) ⊎ (k ≢ i)) → Follows ts k
    by (inl e) = subst (λ (n : ℕ). Follows ts n) (sym e) new
    by (inr d) = old k (omega arith)

-- ---- one term written
pub put_none : (xs : List Term) (k : ℕ) (t : Term) → t.phase ≡ 0 → IsPut xs k t xs k
put_none xs k t e = record {
  size = refl;
  front = pushed_if t.mono t.phase t.phase (take k xs) (take k xs) refl (inl (e, refl));
  rest = λ j d l. refl;
  none = λ z. refl;
  some = λ n. absurd (n e);
}

pub put_some : (xs : List Term) (k : ℕ) (t : Term) → t.phase ≢ 0 → k < length xs → IsPut xs k t (set xs k t) (k + 1)
put_some xs k t n l = record {
  size = length-set xs k t;
  front = pushed_if t.mono t.phase t.phase (take k xs) (take (k + 1) (set xs k t)) refl (inr (n, take_more_set xs k t l));
  rest = λ j d h. let o : j ≢ k = omega arith in get_or-set_other xs k j t d o;
  none = λ z. absurd (n z);
  some = λ z. refl;
}

-- ---- the loop: xs is the list as it was, ts as it is, its first k terms done, and run the sum of the last run before place i
pub record Runs (xs ts : List Term) (k i end : ℕ) (run : Term) : Type 0 where
  pub size : length ts ≡ length xs
  pub ended : end ≡ length xs
  pub behind : k ≤ i
  pub room : run.phase ≢ 0 → k < i
  pub rest : (j : ℕ) (d : Term) → i ≤ j → get_or ts j d ≡ get_or xs j d
  pub whole : take k ts ++ combined_terms run.mono run.phase (drop i xs) ≡ combined_terms [] 0 xs
  pub known : AllSmall (take i xs)

pub runs_start : (xs : List Term) (end : ℕ) (run : Term) → end ≡ length xs → run.mono ≡ [] → run.phase ≡ 0 → Runs xs xs 0 0 end run
runs_start xs end run e em ep = record {
  size = refl;
  ended = e;
  behind = omega arith;
  room = λ n. absurd (n ep);
  rest = λ j d l. refl;
  whole = combined_start xs [] run.mono run.phase refl em ep;
  known = tt;
}

pub runs_move : (xs ts us : List Term) (k r i end : ℕ) (run next : Term) → us ≡ ts → r ≡ k → next ≡ run → Runs xs ts k i end run → Runs xs us r i end next
runs_move xs ts us k r i end run next et ek er g =
    subst (λ (x : List Term). Runs xs x r i end next) (sym et) (subst (λ (n : ℕ). Runs xs ts n i end next) (sym ek) (subst (λ (x : Term). Runs xs ts k i end x) (sym er) g))

pub runs_same : (xs ts : List Term) (k i end : ℕ) (run t : Term) (q : ℕ) → Runs xs ts k i end run → i < end → t ≡ get_or ts i t → IsVarSet t.mono → t.phase < M → Equal ≡ mono_cmp run.mono t.mono → q ≡ (run.phase + t.phase) % M
    → Runs xs ts k (i + 1) end (record { mono = run.mono; phase = q })
runs_same xs ts k i end run t q r l et s n o eq =
    let at : t ≡ get_or xs i t = et ∙ r.rest i t (omega arith) in
    let inside : i < length xs = omega (arith, r.ended) in
    record {
      size = r.size;
      ended = r.ended;
      behind = omega (arith, r.behind);
      room = λ z. omega (arith, r.behind);
      rest = λ j d m. r.rest j d (omega arith);
      whole = combined_step_same xs (take k ts) (take k ts) (combined_terms [] 0 xs) run.mono run.mono run.phase q q i t inside at o eq refl refl refl r.whole;
      known = small_more xs i t inside at s n r.known;
    }

put_low : (ts us : List Term) (k i r : ℕ) (t : Term) → k ≤ i → (t.phase ≢ 0 → k < i) → IsPut ts k t us r → r ≤ i
put_low ts us k i r t l room p = by (cases_eq t.phase 0)
  where
    by : ((t.phase ≡ 0) ⊎ (t.phase ≢ 0)) → r ≤ i
    by (inl z) = omega (arith, p.none z)
    by (inr n) = omega (arith, p.some n, room n)

pub runs_other : (xs ts us : List Term) (k r i end : ℕ) (run t : Term) (q : ℕ) → Runs xs ts k i end run → i < end → t ≡ get_or ts i t → IsVarSet t.mono → t.phase < M → (mono_cmp run.mono t.mono ≡ Equal → ⊥) → IsPut ts k run us r → q ≡ t.phase
    → Runs xs us r (i + 1) end (record { mono = t.mono; phase = q })
runs_other xs ts us k r i end run t q g l et s n o p eq =
    let at : t ≡ get_or xs i t = et ∙ g.rest i t (omega arith) in
    let inside : i < length xs = omega (arith, g.ended) in
    let low : r ≤ i = put_low ts us k i r run g.behind g.room p in
    record {
      size = p.size ∙ g.size;
      ended = g.ended;
      behind = omega arith;
      room = λ z. omega arith;
      rest = λ j d m. p.rest j d (omega (arith, g.behind)) ∙ g.rest j d (omega arith);
      whole = combined_other xs (take k ts) (take r us) (combined_terms [] 0 xs) run.mono t.mono run.phase q i t inside at o refl eq p.front g.whole;
      known = small_more xs i t inside at s n g.known;
    }

pub runs_end : (xs ts us : List Term) (k r i end : ℕ) (run : Term) → Runs xs ts k i end run → end ≤ i → IsPut ts k run us r → take r us ≡ combined_terms [] 0 xs
runs_end xs ts us k r i end run g l p = combined_end xs (take k ts) (take r us) (combined_terms [] 0 xs) run.mono run.phase i (omega (arith, g.ended)) p.front g.whole

pub runs_small : (xs ts : List Term) (k i end : ℕ) (run : Term) → Runs xs ts k i end run → end ≤ i → AllSmall xs
runs_small xs ts k i end run g l = small_end xs i (omega (arith, g.ended)) g.known

-- ---- what `==` says
tie_equal : (o : Ordering) → is_eq o ≡ true → Equal ≡ o
tie_equal Less e = cc
tie_equal Equal e = refl
tie_equal Greater e = cc

pub eq_tied : (b : Bool) (m k : List ℕ) → b ≡ pointwise nat_eq m k → b ≡ true → Equal ≡ mono_cmp m k
eq_tied b m k e h = tie_equal (mono_cmp m k) (sym (mono_ties m k) ∙ sym e ∙ h)

pub eq_not_tied : (b : Bool) (m k : List ℕ) → b ≡ pointwise nat_eq m k → b ≡ false → mono_cmp m k ≡ Equal → ⊥
eq_not_tied b m k e h t = no (sym h ∙ e ∙ mono_ties m k ∙ ap is_eq t)
  where
    no : false ≡ true → ⊥
    no e = cc
