-- Entries of one seat alone.
use Rattle.std.proofs.Common.{ℕ, ◌≡◌, ◌≤◌, Bool, true, false, cond, List, [], ◌∷◌, ◌++◌, length, eqb, refl, ap, ◌∙◌, append-nil, arith}
use Rattle.std.proofs.lemmas.Bool.{eqb-true}
use Rattle.ps_journal.specs.History.{Entry, own_entries}
use Rattle.ps_history.proofs.Others.{own_both}
use Rattle.ps_calls.specs.Calls.{GrowsBy}

-- each of them is of the seat
abbrev pub AllOf : ℕ → List Entry → Type 0
AllOf seat [] = Unit {0}
AllOf seat (e ∷ es) = (eqb e.seat seat ≡ true) × AllOf seat es

own_few : (seat : ℕ) (es : List Entry) → length (own_entries seat es) ≤ length es
own_few seat [] = omega arith
own_few seat (e ∷ es) = by (eqb e.seat seat) (own_few seat es)
  where
    by : (b : Bool) → length (own_entries seat es) ≤ length es → length (cond b (e ∷ own_entries seat es) (own_entries seat es)) ≤ length (e ∷ es)
    by true h = omega (arith, h)
    by false h = omega (arith, h)

own_first : (seat : ℕ) (e : Entry) (es : List Entry) → own_entries seat (e ∷ es) ≡ e ∷ es → (eqb e.seat seat ≡ true) × (own_entries seat es ≡ es)
own_first seat e es h = by (eqb e.seat seat) refl h
  where
    by : (b : Bool) → eqb e.seat seat ≡ b → cond b (e ∷ own_entries seat es) (own_entries seat es) ≡ e ∷ es
        → (eqb e.seat seat ≡ true) × (own_entries seat es ≡ es)
    by true s k = (s, cc)
    by false s k = let more : ⊥ = omega (arith, own_few seat es, ap length k) in absurd more

pub own_all : (seat : ℕ) (es : List Entry) → own_entries seat es ≡ es → AllOf seat es
own_all seat [] h = tt
own_all seat (e ∷ es) h = let p = own_first seat e es h in (p.0, own_all seat es p.1)

pub all_last : (seat : ℕ) (es : List Entry) (e : Entry) → AllOf seat (es ++ e ∷ []) → e.seat ≡ seat
all_last seat [] e h = eqb-true e.seat seat h.0
all_last seat (x ∷ es) e h = all_last seat es e h.1

pub all_other : (seat other : ℕ) (es : List Entry) → AllOf seat es → eqb seat other ≡ false → own_entries other es ≡ []
all_other seat other [] h d = refl
all_other seat other (e ∷ es) h d =
    let no : eqb e.seat other ≡ false = ap (λ n. eqb n other) (eqb-true e.seat seat h.0) ∙ d in
    ap (λ b. cond b (e ∷ own_entries other es) (own_entries other es)) no ∙ all_other seat other es h.1 d

-- ---- what a journal that grows by them has of each seat
module _ {seat : ℕ} {old new : List Entry} (g : GrowsBy seat old new) where
  pub grows_own : own_entries seat new ≡ own_entries seat old ++ g.added
  grows_own = ap (own_entries seat) g.whole ∙ own_both seat old g.added ∙ ap (λ l. own_entries seat old ++ l) g.own

  pub grows_other : (other : ℕ) → eqb seat other ≡ false → own_entries other new ≡ own_entries other old
  grows_other other d =
      ap (own_entries other) g.whole ∙ own_both other old g.added
      ∙ ap (λ l. own_entries other old ++ l) (all_other seat other g.added (own_all seat g.added g.own) d) ∙ append-nil (own_entries other old)
