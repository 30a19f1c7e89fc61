-- What a change of one view leaves of the rule.
use Rattle.std.proofs.Common.{◌≡◌, ◌≢◌, ℕ, ◌≤◌, true, List, [], ◌∷◌, ◌++◌, set, Some, None, sym, ap, ◌∙◌, ⊎_elim, arith}
use mathlib.Core.Option.{some, some-injective}
use mathlib.Core.Logic.{dite}
use native.Mathlib.Decide.{ℕ_discrete}
use lib.ListN.{get_elem?}
use Rattle.atomic_table.proofs.Lists.{at_set, set_else}
use Rattle.ps_desk.specs.declared.entry.Entry.{Entry}
use Rattle.ps_desk.specs.declared.view.View.{View}
use Rattle.ps_desk.specs.Rule.{Core, Fits, Roster, NoneAtTurn, Apart, Waits}
use Rattle.ps_desk.proofs.ListLemmas.{set_there, own_else}

module _ {C R : Type 0} where
  -- More tickets are drawn.
  pub fits_more : (history : List (Entry C R)) (t u : ℕ) (v : View C R) → t ≤ u → Fits history t v → Fits history u v
  fits_more history t u v le f = record {
    seen = f.seen;
    told = f.told;
    own = f.own;
    own_seen = f.own_seen;
    ticket = λ k e. let g = f.ticket k e in (g.0, omega arith, g.2, g.3);
    found = f.found;
    refused = λ k e. let g = f.refused k e in (g.0, omega arith);
  }

  pub more_tickets : (history : List (Entry C R)) (t u : ℕ) (cores : List (Core C R)) → t ≤ u → Roster history t cores → Roster history u cores
  more_tickets history t u cores le r = record {
    first = r.first;
    at_first = r.at_first;
    first_is = r.first_is;
    covers = r.covers;
    numbers = r.numbers;
    below = r.below;
    others = r.others;
    ended = λ k e at. let g = r.ended k e at in (g.0, (λ n is. let h = g.1 n is in (h.0, omega arith)), g.2);
    over = r.over;
    unused = r.unused;
  }

  -- The history gets an entry of a live seat.
  pub one_more : (history : List (Entry C R)) (x : Entry C R) (t id : ℕ) (a : Core C R) (cores : List (Core C R)) → get_elem? cores id ≡ some a
      → a.live ≡ true → x.seat ≡ a.number → Roster history t cores → Roster (history ++ x ∷ []) t cores
  one_more history x t id a cores at live is r = record {
    first = r.first;
    at_first = r.at_first;
    first_is = r.first_is;
    covers = r.covers;
    numbers = r.numbers;
    below = r.below;
    others = r.others;
    ended = λ k e ate. let g = r.ended k e ate in (g.0 ∙ sym (own_else history x e.number (λ same. r.over k id e a ate at live (sym same ∙ is))), g.1, g.2);
    over = r.over;
    unused = λ n le. own_else history x n (λ same. let b = r.below id a at live in omega arith) ∙ r.unused n le;
  }

  pub none_before : (views : List (View C R)) (id : ℕ) (v w : View C R) → get_elem? views id ≡ some v → v.found ≡ None
      → NoneAtTurn (set views id w) → NoneAtTurn views
  none_before views id v w at calm h j u e = dite (ℕ_discrete j id)
      (λ same. ap (λ (x : View C R). x.found) (some-injective u v (sym e ∙ (ap (get_elem? views) same ∙ at))) ∙ calm)
      (λ other. h j u (set_else views id j w other ∙ e))

  -- The new view's ticket is no other seat's.
  pub apart_set : (views : List (View C R)) (id : ℕ) (w : View C R) → Apart views
      → ((j t : ℕ) (u : View C R) → j ≢ id → get_elem? views j ≡ some u → u.ticket ≡ Some t → w.ticket ≡ Some t → ⊥)
      → Apart (set views id w)
  apart_set views id w apart new i j t a b ea eb ta tb = ⊎_elim
      (λ p. ⊎_elim
      (λ q. p.0 ∙ sym q.0)
      (λ q. absurd (new j t b q.0 q.1 tb (ap (λ (x : View C R). x.ticket) p.1 ∙ ta)))
      (at_set views id j w b eb))
      (λ p. ⊎_elim
      (λ q. absurd (new i t a p.0 p.1 ta (ap (λ (x : View C R). x.ticket) q.1 ∙ tb)))
      (λ q. apart i j t a b p.1 q.1 ta tb)
      (at_set views id j w b eb))
      (at_set views id i w a ea)

  pub waits_new : (views : List (View C R)) (id t : ℕ) (v w : View C R) → get_elem? views id ≡ some v → w.ticket ≡ Some t → Waits (set views id w) t
  waits_new views id t v w at e = (id, w, set_there views id v w at, e)

  pub waits_set : (views : List (View C R)) (id t : ℕ) (v w : View C R) → get_elem? views id ≡ some v → (v.ticket ≡ Some t → w.ticket ≡ Some t)
      → Waits views t → Waits (set views id w) t
  waits_set views id t v w at keeps p = dite (ℕ_discrete p.0 id)
      (λ same.
      let u = p.1 in
      let e : u ≡ v = some-injective u v (sym p.2 ∙ (ap (get_elem? views) same ∙ at)) in
      waits_new views id t v w at (keeps (ap (λ (x : View C R). x.ticket) (sym e) ∙ p.3)))
      (λ other. (p.0, p.1, set_else views id p.0 w other ∙ p.2, p.3))

  -- While a seat is at its turn the slot is empty: also where a view that is at none changes into one that is at none.
  pub away_set : (views : List (View C R)) (id : ℕ) (w : View C R) (Away : Type 0) → w.found ≡ None
      → ((i : ℕ) (u : View C R) (h : List (Entry C R)) → get_elem? views i ≡ some u → u.found ≡ Some h → Away)
      → (i : ℕ) (u : View C R) (h : List (Entry C R)) → get_elem? (set views id w) i ≡ some u → u.found ≡ Some h → Away
  away_set views id w Away calm away i u h e f = ⊎_elim
      (λ p. absurd (let z : None ≡ Some h = sym calm ∙ (ap (λ (x : View C R). x.found) p.1 ∙ f) in cc))
      (λ p. away i u h p.1 f)
      (at_set views id i w u e)
