-- A seat that took another back looks, and has seen the longer list.
use Rattle.std.proofs.Common.{◌≡◌, ℕ, true, List, [], Option, None, refl, sym, ap, subst, ⊎_elim, arith, slice_index, slice_set}
use mathlib.Core.Option.{some}
use lib.ListN.{get_elem?}
use Rattle.atomic_table.specs.Table.{State, Allows, keeps}
use Rattle.atomic_table.proofs.Lists.{at_set}
use Rattle.ps_desk.specs.declared.entry.Entry.{Entry}
use Rattle.ps_desk.specs.declared.view.View.{View}
use Rattle.ps_desk.specs.Views.{longer, settled, own_of, IsBeginning}
use Rattle.ps_desk.specs.Rule.{Roster, Fits, Rule, core, refusals, parts}
use Rattle.ps_desk.specs.Steps.{Settles}
use Rattle.ps_desk.proofs.TotalLemmas.{total_set}
use Rattle.ps_desk.proofs.ListLemmas.{map_set, own_between, begins_longer, begins_both, of_longer}
use Rattle.ps_desk.proofs.ViewLemmas.{none_before, apart_set, waits_set, away_set}

module _ {O C R : Type 0} (journal : O → List (Entry C R)) (spare : O → ℕ) (legal : List (Entry C R) → Type 0) (seats id : ℕ) (v : View C R)
    (live : v.live ≡ true) (calm : v.found ≡ None) where
  own_longer : (history : List (Entry C R)) (tickets : ℕ) → Fits history tickets v → v.own ≡ own_of v.number (longer v.seen v.told)
  own_longer history tickets f = of_longer (λ l. v.own ≡ own_of v.number l) v.seen v.told (f.own_seen live)
      (λ le. own_between v.number v.seen v.told history v.own (begins_longer v.seen v.told history f.seen f.told le) f.told (f.own_seen live) (f.own live))

  keeps_rule : (s : State (Option O) (View C R)) (r : Rule journal spare legal seats s) → get_elem? s.views id ≡ some v
      → Rule journal spare legal seats record { words = slice_set s.words 1 (slice_index s.words 1); homes = s.homes; views = slice_set s.views id (settled v) }
  keeps_rule s r at =
      let w = settled v in
      let f = r.each id v at in
      let refused = total_set refusals s.views id v w at in
      let shares = total_set parts s.views id v w at in
      let few = r.few in
      let shared = r.shared in
      let now : Fits r.history r.tickets w =
      (record {
        seen = of_longer (λ l. IsBeginning l r.history) v.seen v.told f.seen (λ _. f.told);
        told = (r.history, refl);
        own = f.own;
        own_seen = λ l. own_longer r.history r.tickets f;
        ticket = f.ticket;
        found = f.found;
        refused = f.refused;
      }) in
      record {
        history = r.history;
        tickets = r.tickets;
        words = ap (λ ws. slice_set ws 1 (slice_index ws 1)) r.words;
        lawful = r.lawful;
        behind = r.behind;
        home = λ none. r.home (none_before s.views id v w at calm none);
        away = away_set s.views id w _ calm r.away;
        each = λ j u e. ⊎_elim
            (λ t. subst (Fits r.history r.tickets) t.1 now)
            (λ t. r.each j u t.1)
            (at_set s.views id j w u e);
        apart = apart_set s.views id w r.apart (λ j t u other e tu tw. other (r.apart j id t u v e at tu tw));
        waited = λ t low high small. waits_set s.views id t v w at (λ e. e) (r.waited t low high small);
        roster = subst (Roster r.history r.tickets) (sym (map_set core s.views id v w at refl)) r.roster;
        few = omega arith;
        shared = (omega arith, shared.1);
      }

  pub settles : Allows (Rule journal spare legal seats) 1 id (v, []) 1 (λ n. n) (λ n w. Settles (v, []) w)
  settles s r wide at fits =
      let f = r.each id v at in
      let both = begins_both v.seen v.told r.history f.seen f.told in
      (settled v, keeps, tt, keeps_rule s r at, record { seat = refl; seen = both.0; told = both.1; own = own_longer r.history r.tickets f })
