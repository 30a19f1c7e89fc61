-- A seat that gives a number away keeps the rule.
use Rattle.std.proofs.Common.{◌≡◌, ◌≢◌, ◌⊎◌, ℕ, ◌+◌, ◌-◌, ◌<◌, true, map, List, [], ◌∷◌, ◌++◌, length, set, Option, Some, None, refl, sym, ap, ◌∙◌, subst, inl, inr, ⊎_elim, arith}
use mathlib.Core.Option.{some, some-injective}
use mathlib.Core.Logic.{dite}
use native.Mathlib.Decide.{ℕ_discrete}
use lib.ListN.{get_elem?}
use Rattle.atomic_table.specs.Table.{State, Splits}
use Rattle.atomic_table.proofs.Lists.{at_set, at_map, at_longer}
use Rattle.ps_desk.specs.declared.entry.Entry.{Entry}
use Rattle.ps_desk.specs.declared.view.View.{View}
use Rattle.ps_desk.specs.Views.{Has, giving, given, own_of}
use Rattle.ps_desk.specs.Rule.{Core, core, Roster, Fits, Rule, refusals, parts}
use Rattle.ps_desk.proofs.TotalLemmas.{total_set, total_append}
use Rattle.ps_desk.proofs.ListLemmas.{map_of_set, map_of_snoc, at_end, own_begins, set_there}
use Rattle.ps_desk.proofs.ViewLemmas.{none_before, apart_set, waits_set, away_set}

module _ {O C R : Type 0} (journal : O → List (Entry C R)) (spare : O → ℕ) (legal : List (Entry C R) → Type 0) (seats : ℕ)
    (s : State (Option O) (View C R)) (r : Rule journal spare legal seats s) (id : ℕ) (v : View C R) (at : get_elem? s.views id ≡ some v)
    (live : v.live ≡ true) (idle : v.ticket ≡ None) (calm : v.found ≡ None) (room : v.next < v.end) where
  at_core : get_elem? (map core s.views) id ≡ some (core v)
  at_core = at_map core s.views id v at

  -- Only the first seat has spare numbers.
  here : id ≡ 0
  here = dite (ℕ_discrete id 0) (λ z. z) (λ other. let h = (r.roster.others id (core v) at_core live other).1 in absurd (omega arith))

  same : core v ≡ r.roster.first
  same = some-injective (core v) r.roster.first (sym at_core ∙ (ap (get_elem? (map core s.views)) here ∙ r.roster.at_first))

  next_is : r.roster.first.next ≡ v.next
  next_is = ap (λ (c : Core C R). c.next) (sym same)

  abbrev Old : List (Core C R)
  Old = set (map core s.views) id (core (giving v))

  abbrev New : List (Core C R)
  New = Old ++ core (given v) ∷ []

  abbrev Views : List (View C R)
  Views = set s.views id (giving v) ++ given v ∷ []

  cores : map core Views ≡ New
  cores = map_of_snoc core (set s.views id (giving v)) (given v) ∙ ap (λ l. l ++ core (given v) ∷ []) (map_of_set core s.views id (giving v))

  -- A core that was there before, with its number and its life.
  abbrev Was : ℕ → Core C R → Type 0
  Was i a = (a' : Core C R) × (get_elem? (map core s.views) i ≡ some a') × (a'.live ≡ a.live) × (a'.number ≡ a.number) × (i ≢ 0 → a' ≡ a)

  was : (i : ℕ) (a : Core C R) → get_elem? Old i ≡ some a → Was i a
  was i a e = ⊎_elim
      (λ t. (
        core v,
        ap (get_elem? (map core s.views)) t.0 ∙ at_core,
        ap (λ (c : Core C R). c.live) t.1,
        ap (λ (c : Core C R). c.number) t.1,
        (λ other. absurd (other (t.0 ∙ here))),
      ))
      (λ t. (a, t.1, refl, refl, (λ _. refl)))
      (at_set (map core s.views) id i (core (giving v)) a e)

  -- Every core is an old one, or the new one.
  split : (i : ℕ) (a : Core C R) → get_elem? New i ≡ some a → (Was i a) ⊎ ((i ≡ length Old) × (core (given v) ≡ a))
  split i a e = ⊎_elim (λ t. inl (was i a t.1)) (λ t. inr t) (at_end Old (core (given v)) a i e)

  old_below : (i : ℕ) (a : Core C R) → Was i a → a.live ≡ true → a.number < v.next
  old_below i a w l = let b = r.roster.below i w.0 w.1 (w.2 ∙ l) in let n = next_is in let e = w.3 in omega arith

  new_is : (a : Core C R) → core (given v) ≡ a → v.next ≡ a.number
  new_is a e = ap (λ (c : Core C R). c.number) e

  abbrev IsOther : Core C R → Type 0
  IsOther c = Has (v.next ∷ v.out) c.number × (c.next ≡ c.end) × (c.out ≡ []) × (c.ended ≡ [])

  out_is : r.roster.first.out ≡ v.out
  out_is = ap (λ (c : Core C R). c.out) (sym same)

  at_ended : (k : ℕ) → get_elem? v.ended k ≡ get_elem? r.roster.first.ended k
  at_ended k = ap (λ (c : Core C R). get_elem? c.ended k) same

  grown : Roster r.history r.tickets New
  grown = record {
    first = core (giving v);
    at_first = at_longer Old (core (given v) ∷ []) 0 (core (giving v))
        (ap (λ k. get_elem? Old k) (sym here) ∙ set_there (map core s.views) id (core v) (core (giving v)) at_core);
    first_is = (
      live,
      ap (λ (c : Core C R). c.number) same ∙ r.roster.first_is.1,
      omega arith,
      (let f = r.roster.first_is.3 in let a = ap (λ (c : Core C R). length c.out) same in let b = ap (λ (c : Core C R). length c.ended) same in
          let n = next_is in omega arith),
    );
    covers = λ n low. dite (ℕ_discrete v.next n)
        (λ z. inr (inl (inl z)))
        (λ other. ⊎_elim inl (λ t. inr (⊎_elim
        (λ h. inl (inr (subst (λ (l : List ℕ). Has l n) out_is h)))
        (λ e. inr (e.0, e.1, at_ended e.0 ∙ e.2, e.3)) t))
        (r.roster.covers n (let x = next_is in omega arith)));
    numbers = λ i j a b ea eb la lb eq. ⊎_elim
        (λ p. ⊎_elim
        (λ q. r.roster.numbers i j p.0 q.0 p.1 q.1 (p.2 ∙ la) (q.2 ∙ lb) (p.3 ∙ (eq ∙ sym q.3)))
        (λ q. absurd (let x = old_below i a p la in let y = new_is b q.1 in omega arith))
        (split j b eb))
        (λ p. ⊎_elim
        (λ q. absurd (let x = old_below j b q lb in let y = new_is a p.1 in omega arith))
        (λ q. p.0 ∙ sym q.0)
        (split j b eb))
        (split i a ea);
    below = λ i a ea la. ⊎_elim
        (λ p. let x = old_below i a p la in omega arith)
        (λ p. let y = new_is a p.1 in omega arith)
        (split i a ea);
    others = λ i a ea la other. ⊎_elim
        (λ p. let o = r.roster.others i a (p.1 ∙ ap some (p.4 other)) la other in
        (inr (subst (λ (l : List ℕ). Has l a.number) out_is o.0), o.1, o.2, o.3))
        (λ p. subst IsOther p.1 (inl refl, refl, refl, refl))
        (split i a ea);
    ended = λ k e a. let g = r.roster.ended k e (sym (at_ended k) ∙ a) in (g.0, g.1, (let n = next_is in let h = g.2 in omega arith));
    over = λ k i e a ek ea la. let ek' = sym (at_ended k) ∙ ek in ⊎_elim
        (λ p eq. r.roster.over k i e p.0 ek' p.1 (p.2 ∙ la) (eq ∙ sym p.3))
        (λ p eq. let y = new_is a p.1 in let h = (r.roster.ended k e ek').2 in let n = next_is in omega arith)
        (split i a ea);
    unused = λ n le. r.roster.unused n (let x = next_is in omega arith);
  }

  fresh : own_of v.next r.history ≡ []
  fresh = r.roster.unused v.next (let x = next_is in omega arith)

  new_fits : Fits r.history r.tickets (given v)
  new_fits =
      let f = r.each id v at in
      record {
        seen = f.seen;
        told = (r.history, refl);
        own = λ _. sym fresh;
        own_seen = λ _. sym (own_begins v.next v.seen r.history f.seen fresh);
        ticket = λ k e. absurd (let z : None ≡ Some k = e in cc);
        found = λ k e. absurd (let z : None ≡ Some k = e in cc);
        refused = λ k e. absurd (let z : None ≡ Some k = e in cc);
      }

  old_fits : Fits r.history r.tickets (giving v)
  old_fits =
      let f = r.each id v at in
      record { seen = f.seen; told = f.told; own = f.own; own_seen = f.own_seen; ticket = f.ticket; found = f.found; refused = f.refused }

  keeps_rule : Rule journal spare legal seats record { words = s.words; homes = s.homes; views = Views }
  keeps_rule =
      let w = giving v in
      let mid = set s.views id w in
      let a = total_set refusals s.views id v w at in
      let b = total_set parts s.views id v w at in
      let a' = total_append refusals mid (given v ∷ []) in
      let b' = total_append parts mid (given v ∷ []) in
      let few = r.few in
      let shared = r.shared in
      let pv : parts v ≡ 1 + (v.end - v.next) + length v.ended = rw live in
      let pw : parts w ≡ 1 + (v.end - (v.next + 1)) + length v.ended = rw live in
      let none_new : (t : ℕ) (u : View C R) → given v ≡ u → u.ticket ≡ Some t → ⊥ =
      (λ t u e tu. let z : None ≡ Some t = ap (λ (k : View C R). k.ticket) e ∙ tu in cc) in
      record {
        history = r.history;
        tickets = r.tickets;
        words = r.words;
        lawful = r.lawful;
        behind = r.behind;
        home = λ none. r.home (none_before s.views id v w at calm (λ j u e. none j u (at_longer mid (given v ∷ []) j u e)));
        away = λ j u h e f. ⊎_elim
            (λ t. away_set s.views id w _ calm r.away j u h t.1 f)
            (λ t. absurd (let z : None ≡ Some h = ap (λ (k : View C R). k.found) t.1 ∙ f in cc))
            (at_end mid (given v) u j e);
        each = λ j u e. ⊎_elim
            (λ t. ⊎_elim
            (λ p. subst (Fits r.history r.tickets) p.1 old_fits)
            (λ p. r.each j u p.1)
            (at_set s.views id j w u t.1))
            (λ t. subst (Fits r.history r.tickets) t.1 new_fits)
            (at_end mid (given v) u j e);
        apart = λ i j t x y ex ey tx ty. ⊎_elim
            (λ p. ⊎_elim
            (λ q. apart_set s.views id w r.apart (λ j t u other e tu tw. let z : None ≡ Some t = sym idle ∙ tw in cc) i j t x y p.1 q.1 tx ty)
            (λ q. absurd (none_new t y q.1 ty))
            (at_end mid (given v) y j ey))
            (λ p. absurd (none_new t x p.1 tx))
            (at_end mid (given v) x i ex);
        waited = λ t low high small. let w' = waits_set s.views id t v w at (λ e. e) (r.waited t low high small) in
            (w'.0, w'.1, at_longer mid (given v ∷ []) w'.0 w'.1 w'.2, w'.3);
        roster = subst (Roster r.history r.tickets) (sym cores) grown;
        few = omega arith;
        shared = (omega arith, shared.1);
      }

pub splits : {O C R : Type 0} (journal : O → List (Entry C R)) (spare : O → ℕ) (legal : List (Entry C R) → Type 0) (seats id : ℕ) (v : View C R)
    → v.live ≡ true → v.ticket ≡ None → v.found ≡ None → v.next < v.end → Splits (Rule journal spare legal seats) id v (giving v) (given v)
splits journal spare legal seats id v live idle calm room s r at = keeps_rule journal spare legal seats s r id v at live idle calm room
