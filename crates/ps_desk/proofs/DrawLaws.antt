-- Drawing a ticket keeps the rule.
use Rattle.std.proofs.Common.{◌≡◌, ℕ, ◌+◌, ◌%◌, ◌^◌, ◌<◌, ◌≤◌, true, map, List, [], ◌∷◌, length, Option, Some, None, refl, sym, ap, ◌∙◌, subst, ⊎_elim, arith, slice_index, slice_set}
use mathlib.Core.Option.{some}
use mathlib.Core.Logic.{dite}
use native.Mathlib.Decide.{ℕ_discrete, dec_le}
use lib.ListN.{get_elem?}
use Rattle.atomic_table.specs.Table.{State, Allows, keeps}
use Rattle.atomic_table.proofs.Lists.{at_set}
use Rattle.ps_desk.specs.declared.entry.Entry.{Entry}
use Rattle.ps_desk.specs.declared.view.View.{View}
use Rattle.ps_desk.specs.Views.{drawn, refusing}
use Rattle.ps_desk.specs.Rule.{Roster, Fits, Rule, core, total, refusal, refusals, parts}
use Rattle.ps_desk.specs.Steps.{Draws}
use Rattle.ps_desk.proofs.TotalLemmas.{total_set, total_below, refusals_below}
use Rattle.ps_desk.proofs.ListLemmas.{map_set}
use Rattle.ps_desk.proofs.ViewLemmas.{none_before, apart_set, waits_new, waits_set, away_set, fits_more, more_tickets}

module _ {O C R : Type 0} (journal : O → List (Entry C R)) (spare : O → ℕ) (legal : List (Entry C R) → Type 0) (seats : ℕ) where
  -- The ticket word does not wrap.
  counted : (s : State (Option O) (View C R)) (r : Rule journal spare legal seats s) → (slice_index s.words 0 ≡ r.tickets) × (r.tickets ≤ 262208)
  counted s r =
      let few = r.few in
      let below = total_below refusals parts refusals_below s.views in
      let shared = r.shared in
      (ap (λ ws. slice_index ws 0) r.words, omega arith)

  pub tickets_below : (s : State (Option O) (View C R)) (r : Rule journal spare legal seats s) → r.tickets ≤ 262208
  tickets_below s r = (counted s r).1

  abbrev up : List ℕ → List ℕ
  up words = slice_set words 0 ((slice_index words 0 + 1) % 2 ^ 64)

  counts_up : (s : State (Option O) (View C R)) (r : Rule journal spare legal seats s) → up s.words ≡ (r.tickets + 1) ∷ length r.history ∷ []
  counts_up s r =
      let c = counted s r in
      let n = slice_index s.words 0 in
      let one : (n + 1) % 2 ^ 64 ≡ r.tickets + 1 = omega arith in
      ap (λ ws. slice_set ws 0 ((n + 1) % 2 ^ 64)) r.words ∙ ap (λ k. k ∷ length r.history ∷ []) one

  module _ (id : ℕ) (v : View C R) (live : v.live ≡ true) (idle : v.ticket ≡ None) (calm : v.found ≡ None) where
    -- a ticket that will be served
    draws_one : (s : State (Option O) (View C R)) (r : Rule journal spare legal seats s) → get_elem? s.views id ≡ some v → r.tickets < 262144
        → Rule journal spare legal seats record { words = up s.words; homes = s.homes; views = slice_set s.views id (drawn v r.tickets) }
    draws_one s r at below =
        let w = drawn v r.tickets in
        let behind = r.behind in
        let refused = total_set refusals s.views id v w at in
        let shares = total_set parts s.views id v w at in
        let few = r.few in
        let shared = r.shared in
        let mine : Fits r.history (r.tickets + 1) w =
        (let f = r.each id v at in record {
          seen = f.seen;
          told = f.told;
          own = f.own;
          own_seen = f.own_seen;
          ticket = λ k e. let k' : r.tickets ≡ k = cc in (omega arith, omega arith, omega arith, live);
          found = λ h e. absurd (let x : None ≡ Some h = sym calm ∙ e in cc);
          refused = λ k e. let g = f.refused k e in (g.0, omega arith);
        }) in
        record {
          history = r.history;
          tickets = r.tickets + 1;
          words = counts_up s r;
          lawful = r.lawful;
          behind = omega arith;
          home = λ none. r.home (none_before s.views id v w at calm none);
          away = away_set s.views id w _ calm r.away;
          each = λ j u e. ⊎_elim
              (λ t. subst (Fits r.history (r.tickets + 1)) t.1 mine)
              (λ t. fits_more r.history r.tickets (r.tickets + 1) u (omega arith) (r.each j u t.1))
              (at_set s.views id j w u e);
          apart = apart_set s.views id w r.apart (λ j t u other e tu tw. let k : r.tickets ≡ t = cc in let b = (r.each j u e).ticket t tu in omega arith);
          waited = λ t low high small. dite (ℕ_discrete t r.tickets)
              (λ same. waits_new s.views id t v w at (ap Some (sym same)))
              (λ other. waits_set s.views id t v w at (λ e. absurd (let x : None ≡ Some t = sym idle ∙ e in cc)) (r.waited t low (omega arith) small));
          roster = subst (Roster r.history (r.tickets + 1)) (sym (map_set core s.views id v w at refl))
              (more_tickets r.history r.tickets (r.tickets + 1) (map core s.views) (omega arith) r.roster);
          few = omega arith;
          shared = (omega arith, shared.1);
        }

    -- a ticket that is refused
    draws_none : (s : State (Option O) (View C R)) (r : Rule journal spare legal seats s) → get_elem? s.views id ≡ some v
        → v.refused ≡ None → 262144 ≤ r.tickets
        → Rule journal spare legal seats record { words = up s.words; homes = s.homes; views = slice_set s.views id (refusing v r.tickets) }
    draws_none s r at first above =
        let w = refusing v r.tickets in
        let behind = r.behind in
        let refused = total_set refusals s.views id v w at in
        let shares = total_set parts s.views id v w at in
        let others : ℕ = total (λ e. refusal e.refused) v.ended in
        let was : refusals v ≡ others = rw (live, first) (omega arith) in
        let is : refusals w ≡ 1 + others = rw live (omega arith) in
        let few = r.few in
        let shared = r.shared in
        let mine : Fits r.history (r.tickets + 1) w =
        (let f = r.each id v at in record {
          seen = f.seen;
          told = f.told;
          own = f.own;
          own_seen = f.own_seen;
          ticket = λ k e. absurd (let x : None ≡ Some k = sym idle ∙ e in cc);
          found = λ h e. absurd (let x : None ≡ Some h = sym calm ∙ e in cc);
          refused = λ k e. let k' : r.tickets ≡ k = cc in (omega arith, omega arith);
        }) in
        record {
          history = r.history;
          tickets = r.tickets + 1;
          words = counts_up s r;
          lawful = r.lawful;
          behind = omega arith;
          home = λ none. r.home (none_before s.views id v w at calm none);
          away = away_set s.views id w _ calm r.away;
          each = λ j u e. ⊎_elim
              (λ t. subst (Fits r.history (r.tickets + 1)) t.1 mine)
              (λ t. fits_more r.history r.tickets (r.tickets + 1) u (omega arith) (r.each j u t.1))
              (at_set s.views id j w u e);
          apart = apart_set s.views id w r.apart (λ j t u other e tu tw. let x : None ≡ Some t = sym idle ∙ tw in cc);
          waited = λ t low high small. waits_set s.views id t v w at (λ e. e) (r.waited t low (omega arith) small);
          roster = subst (Roster r.history (r.tickets + 1)) (sym (map_set core s.views id v w at refl))
              (more_tickets r.history r.tickets (r.tickets + 1) (map core s.views) (omega arith) r.roster);
          few = omega arith;
          shared = (omega arith, shared.1);
        }

    pub draws : v.refused ≡ None → Allows (Rule journal spare legal seats) 1 id (v, []) 0 (λ n. (n + 1) % 2 ^ 64) (Draws (v, []))
    draws first s r wide at fits =
        let c = (counted s r).0 in
        dite (dec_le 262144 r.tickets)
        (λ above. (refusing v r.tickets, keeps, tt, draws_none s r at first above, ((λ h. absurd (omega arith)), (λ h. ap (λ k. (refusing v k, [])) (sym c)))))
        (λ below. (drawn v r.tickets, keeps, tt, draws_one s r at (omega arith), ((λ h. ap (λ k. (drawn v k, [])) (sym c)), (λ h. absurd (omega arith)))))
