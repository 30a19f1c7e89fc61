-- Taking the object at one's turn, and giving it back with one entry more, keep the rule.
use Rattle.std.proofs.Common.{◌≡◌, ◌≢◌, ℕ, ◌+◌, ◌%◌, ◌^◌, ◌<◌, ◌≤◌, true, map, List, [], ◌∷◌, ◌++◌, length, length-append, Option, Some, None, refl, sym, ap, ◌∙◌, subst, ⊎_elim, arith, slice_index, slice_set}
use mathlib.Core.Option.{some, none, some-injective}
use mathlib.Core.Logic.{dite}
use native.Mathlib.Decide.{ℕ_discrete}
use lib.ListN.{get_elem?}
use Rattle.std.proofs.lemmas.List.{append_cancel_left}
use Rattle.atomic_table.specs.Table.{State, Allows, keeps, takes, gives}
use Rattle.atomic_table.proofs.Lists.{at_set, at_map, set_here, set_again}
use Rattle.ps_desk.specs.declared.entry.Entry.{Entry}
use Rattle.ps_desk.specs.declared.view.View.{View}
use Rattle.ps_desk.specs.Views.{at_turn, after, IsBeginning, own_of}
use Rattle.ps_desk.specs.Rule.{Roster, Fits, Rule, NoneAtTurn, core, refusals, parts}
use Rattle.ps_desk.specs.Steps.{Looks, Ends}
use Rattle.ps_desk.proofs.TotalLemmas.{total_set}
use Rattle.ps_desk.proofs.ListLemmas.{map_set, set_there, own_else, own_here, begins_more, begins_self}
use Rattle.ps_desk.proofs.ViewLemmas.{apart_set, waits_set, one_more}
use Rattle.ps_desk.proofs.DrawLaws.{tickets_below}

some_same : {A : Type 0} {a b : A} → Some a ≡ Some b → a ≡ b
some_same e = cc

-- What a seat holds first.
held_first : {O : Type 0} → List (ℕ × Option O) → Option O
held_first [] = None
held_first (x ∷ xs) = x.1

same_object : {O : Type 0} (o o' : O) (c d : List (ℕ × Option O)) → c ≡ (0, Some o) ∷ [] → d ≡ (0, Some o') ∷ [] → c ≡ d → o ≡ o'
unfolding held_first
same_object o o' c d ec ed e = some_same (sym (ap held_first ec) ∙ (ap held_first e ∙ ap held_first ed))

has_ticket : (o : Option ℕ) (n : ℕ) → Dec (o ≡ Some n)
has_ticket None n = no (λ e. cc)
has_ticket (Some t) n = dite (ℕ_discrete t n) (λ same. yes (ap Some same)) (λ other. no (λ e. other (cc)))

module _ {O C R : Type 0} (journal : O → List (Entry C R)) (spare : O → ℕ) (legal : List (Entry C R) → Type 0) (seats : ℕ) where
  serving : (s : State (Option O) (View C R)) (r : Rule journal spare legal seats s) → slice_index s.words 1 ≡ length r.history
  serving s r = ap (λ ws. slice_index ws 1) r.words

  small : (s : State (Option O) (View C R)) (r : Rule journal spare legal seats s) → slice_index s.words 1 < 2 ^ 32
  small s r = let a = serving s r in let b = tickets_below journal spare legal seats s r in let c = r.behind in omega arith

  -- Who has the ticket that is served, and is at no turn yet, finds none at its turn.
  none_else : (s : State (Option O) (View C R)) (r : Rule journal spare legal seats s) (id : ℕ) (v : View C R) → get_elem? s.views id ≡ some v
      → v.ticket ≡ Some (length r.history) → v.found ≡ None → NoneAtTurn s.views
  none_else s r id v at mine calm j u e =
      let F : Option (List (Entry C R)) → Type 0 = λ o. u.found ≡ o → u.found ≡ None in
      (elim u.found as F [
        | None ↦ (λ x. x)
        | Some h ↦ (λ x. let f = ((r.each j u e).found h x).1 in
            let same : j ≡ id = r.apart j id (length r.history) u v e at f mine in
            ap (λ (y : View C R). y.found) (some-injective u v (sym e ∙ (ap (get_elem? s.views) same ∙ at))) ∙ calm)
      ]) refl

  -- The object that a seat holds and the journal that it found tell the one new entry.
  same_entry : (v : View C R) (o o' : O) (h h' : List (Entry C R)) (x x' : Entry C R) → o ≡ o' → h ≡ h' → journal o ≡ h ++ x ∷ [] → journal o' ≡ h' ++ x' ∷ []
      → after v h x ≡ after v h' x'
  same_entry v o o' h h' x x' eo eh adds adds' =
      let back : h ++ x' ∷ [] ≡ h ++ x ∷ [] = ap (λ (k : List (Entry C R)). k ++ x' ∷ []) eh ∙ (sym adds' ∙ (ap journal (sym eo) ∙ adds)) in
      let tails : x' ∷ [] ≡ x ∷ [] = append_cancel_left h (x' ∷ []) (x ∷ []) back in
      let ex : x ≡ x' = cc in
      ap (λ (k : List (Entry C R)). after v k x) eh ∙ ap (λ (k : Entry C R). after v h' k) ex

  module _ (id : ℕ) (v : View C R) (live : v.live ≡ true) where
    -- A load that finds another ticket changes nothing.
    waits : (s : State (Option O) (View C R)) (r : Rule journal spare legal seats s) → get_elem? s.views id ≡ some v
        → Rule journal spare legal seats record { words = slice_set s.words 1 (slice_index s.words 1); homes = s.homes; views = slice_set s.views id v }
    waits s r at =
        let words : List ℕ = slice_set s.words 1 (slice_index s.words 1) in
        let same : s.words ≡ words = r.words ∙ sym (ap (λ ws. slice_set ws 1 (slice_index ws 1)) r.words) in
        subst (λ vs. Rule journal spare legal seats record { words = words; homes = s.homes; views = vs }) (sym (set_again s.views id v at))
        (subst (λ ws. Rule journal spare legal seats record { words = ws; homes = s.homes; views = s.views }) same r)

    -- The slot is taken.
    takes_it : (s : State (Option O) (View C R)) (r : Rule journal spare legal seats s) → length s.homes ≡ 1 → get_elem? s.views id ≡ some v
        → v.found ≡ None → v.ticket ≡ Some (length r.history)
        → (o : O) → get_elem? s.homes 0 ≡ some (some (Some o)) → journal o ≡ r.history
        → Rule journal spare legal seats
        record { words = slice_set s.words 1 (slice_index s.words 1); homes = slice_set s.homes 0 none; views = slice_set s.views id (at_turn v (journal o)) }
    takes_it s r wide at calm mine o here is =
        let w = at_turn v (journal o) in
        let refused = total_set refusals s.views id v w at in
        let shares = total_set parts s.views id v w at in
        let few = r.few in
        let shared = r.shared in
        let now : Fits r.history r.tickets w =
        (let f = r.each id v at in record {
          seen = f.seen;
          told = f.told;
          own = f.own;
          own_seen = f.own_seen;
          ticket = f.ticket;
          found = λ h e'. (let x : journal o ≡ h = cc in sym x ∙ is, mine);
          refused = f.refused;
        }) in
        record {
          history = r.history;
          tickets = r.tickets;
          words = ap (λ ws. slice_set ws 1 (slice_index ws 1)) r.words;
          lawful = r.lawful;
          behind = r.behind;
          home = λ calm'. absurd (let x : Some (journal o) ≡ None = calm' id w (set_there s.views id v w at) in cc);
          away = λ i u h e f. set_here s.homes 0 none (omega arith);
          each = λ j u e. ⊎_elim
              (λ t. subst (Fits r.history r.tickets) t.1 now)
              (λ t. r.each j u t.1)
              (at_set s.views id j w u e);
          apart = apart_set s.views id w r.apart (λ j t u other e tu tw. other (r.apart j id t u v e at tu tw));
          waited = λ t low high less. waits_set s.views id t v w at (λ e. e) (r.waited t low high less);
          roster = subst (Roster r.history r.tickets) (sym (map_set core s.views id v w at refl)) r.roster;
          few = omega arith;
          shared = (omega arith, shared.1);
        }

    pub looks : v.found ≡ None → Allows (Rule journal spare legal seats) 1 id (v, []) 1 (λ n. n) (Looks journal spare legal (v, []))
    looks calm s r wide at fits =
        let n = slice_index s.words 1 in
        let is = serving s r in
        let f = r.each id v at in
        dite (has_ticket v.ticket n)
        (λ mine.
        let mine' : v.ticket ≡ Some (length r.history) = mine ∙ ap Some is in
        let home = r.home (none_else s r id v at mine' calm) in
        let o = home.0 in (
          at_turn v (journal o),
          takes 0 (Some o),
          home.1,
          takes_it s r wide at calm mine' o home.1 home.2,
          (
            (λ _. record {
              object = o;
              seat = refl;
              place = ap length home.2 ∙ sym is;
              lawful = subst legal (sym home.2) r.lawful;
              room = let room = home.3 in omega arith;
              seen = subst (IsBeginning v.seen) (sym home.2) f.seen;
              own = f.own live ∙ ap (own_of v.number) (sym home.2);
            }),
            (λ other. absurd (other mine)),
            small s r,
          ),
        ))
        (λ other. (v, keeps, tt, waits s r at, ((λ mine. absurd (other mine)), (λ _. (refl, f.own_seen live)), small s r)))

    module _ (o : O) (h : List (Entry C R)) (x : Entry C R) (mine : v.found ≡ Some h) (adds : journal o ≡ h ++ x ∷ []) (by : x.seat ≡ v.number)
        (lawful : legal (journal o)) (room : 262144 ≤ spare o + length (journal o)) where
      -- The slot is given back, and the serving word goes up.
      gives_it : (s : State (Option O) (View C R)) (r : Rule journal spare legal seats s) → length s.homes ≡ 1 → get_elem? s.views id ≡ some v
          → Rule journal spare legal seats
          record {
            words = slice_set s.words 1 ((slice_index s.words 1 + 1) % 2 ^ 64);
            homes = slice_set s.homes 0 (some (Some o));
            views = slice_set s.views id (after v h x);
          }
      gives_it s r wide at =
          let w = after v h x in
          let f = r.each id v at in
          let found = f.found h mine in
          let ticket = f.ticket (length r.history) found.1 in
          let is = serving s r in
          let refused = total_set refusals s.views id v w at in
          let shares = total_set parts s.views id v w at in
          let few = r.few in
          let shared = r.shared in
          let more : journal o ≡ r.history ++ x ∷ [] = adds ∙ ap (λ k. k ++ x ∷ []) found.0 in
          let longer : length (journal o) ≡ length r.history + 1 = ap length more ∙ length-append r.history (x ∷ []) in
          let n = slice_index s.words 1 in
          let up : (n + 1) % 2 ^ 64 ≡ length (journal o) = omega arith in
          let grows : (l : List (Entry C R)) → IsBeginning l r.history → IsBeginning l (journal o) =
          (λ l b. subst (IsBeginning l) (sym more) (begins_more l r.history x b)) in
          let own_now : v.own ++ x ∷ [] ≡ own_of v.number (r.history ++ x ∷ []) =
          ap (λ k. k ++ x ∷ []) (f.own live) ∙ sym (own_here r.history x v.number by) in
          let now : Fits (journal o) r.tickets w =
          (record {
            seen = subst (IsBeginning (h ++ x ∷ [])) (sym adds) (begins_self (h ++ x ∷ []));
            told = grows v.told f.told;
            own = λ l. own_now ∙ ap (own_of v.number) (sym more);
            own_seen = λ l. own_now ∙ ap (λ k. own_of v.number (k ++ x ∷ [])) (sym found.0);
            ticket = λ k e. absurd (let z : None ≡ Some k = e in cc);
            found = λ k e. absurd (let z : None ≡ Some k = e in cc);
            refused = f.refused;
          }) in
          -- another view has another ticket and, while it is live, another number
          let others : (j : ℕ) (u : View C R) → j ≢ id → get_elem? s.views j ≡ some u → Fits (journal o) r.tickets u =
          (λ j u ne e. let g = r.each j u e in record {
            seen = grows u.seen g.seen;
            told = grows u.told g.told;
            own = λ l. g.own l ∙ (sym (own_else r.history x u.number (λ same. ne (r.roster.numbers j id (core u) (core v)
                (at_map core s.views j u e) (at_map core s.views id v at) l live (sym same ∙ by)))) ∙ ap (own_of u.number) (sym more));
            own_seen = g.own_seen;
            ticket = λ k e'. let z = g.ticket k e' in
                let apart : length r.history ≢ k = (λ same. ne (r.apart j id k u v e at e' (found.1 ∙ ap Some same))) in
                (omega arith, z.1, z.2, z.3);
            found = λ k e'. absurd (ne (r.apart j id (length r.history) u v e at (g.found k e').1 found.1));
            refused = g.refused;
          }) in
          record {
            history = journal o;
            tickets = r.tickets;
            words = ap (λ ws. slice_set ws 1 ((n + 1) % 2 ^ 64)) r.words ∙ ap (λ k. r.tickets ∷ k ∷ []) up;
            lawful = lawful;
            behind = omega arith;
            home = λ calm. (o, set_here s.homes 0 (some (Some o)) (omega arith), refl, room);
            away = λ j u k e is'. ⊎_elim
                (λ t. absurd (let z : None ≡ Some k = ap (λ (y : View C R). y.found) t.1 ∙ is' in cc))
                (λ t. absurd (t.0 (r.apart j id (length r.history) u v t.1 at ((r.each j u t.1).found k is').1 found.1)))
                (at_set s.views id j w u e);
            each = λ j u e. ⊎_elim
                (λ t. subst (Fits (journal o) r.tickets) t.1 now)
                (λ t. others j u t.0 t.1)
                (at_set s.views id j w u e);
            apart = apart_set s.views id w r.apart (λ j t u other e tu tw. let z : None ≡ Some t = tw in cc);
            waited = λ t low high less. waits_set s.views id t v w at
                (λ e. absurd (let z : Some (length r.history) ≡ Some t = sym found.1 ∙ e in let z' : length r.history ≡ t = cc in omega arith))
                (r.waited t (omega arith) high less);
            roster = subst (Roster (journal o) r.tickets) (sym (map_set core s.views id v w at refl))
                (subst (λ k. Roster k r.tickets (map core s.views)) (sym more)
                (one_more r.history x r.tickets id (core v) (map core s.views) (at_map core s.views id v at) live by r.roster));
            few = omega arith;
            shared = (omega arith, shared.1);
          }

      pub ends : Allows (Rule journal spare legal seats) 1 id (v, (0, Some o) ∷ []) 1 (λ n. (n + 1) % 2 ^ 64) (Ends journal (v, (0, Some o) ∷ []))
      ends s r wide at fits = (
        after v h x,
        gives,
        tt,
        gives_it s r wide at,
        (λ o' h' x' held found adds'.
            let same : o ≡ o' = same_object o o' ((0, Some o) ∷ []) ((0, Some o') ∷ []) refl refl held in
            ap (λ (u : View C R). (u, [])) (same_entry v o o' h h' x x' same (some_same (sym mine ∙ found)) adds adds')),
      )
