-- A desk whose seats have all come back has its object in the slot.
use Rattle.std.proofs.Common.{◌≡◌, ℕ, ◌<◌, ◌≤◌, true, map, List, [], length, Option, Some, None, refl, sym, ap, ◌∙◌, subst, inl, inr, ⊎_elim, arith}
use mathlib.Core.Option.{some, some-injective}
use mathlib.Core.Logic.{dite}
use native.Mathlib.Decide.{ℕ_discrete, dec_le}
use lib.ListN.{get_elem?}
use Rattle.atomic_table.specs.Table.{State, Final, Seen}
use Rattle.atomic_table.proofs.Lists.{at_map}
use Rattle.ps_desk.specs.declared.entry.Entry.{Entry}
use Rattle.ps_desk.specs.declared.view.View.{View}
use Rattle.ps_desk.specs.Views.{Has, own_of}
use Rattle.ps_desk.specs.Rule.{Core, core, Rule, NoneAtTurn}
use Rattle.ps_desk.specs.Seats.{Closed}
use Rattle.ps_desk.proofs.ListLemmas.{no_length, owned}

module _ {O C R : Type 0} (journal : O → List (Entry C R)) (spare : O → ℕ) (legal : List (Entry C R) → Type 0) (seats : ℕ)
    (s : State (Option O) (View C R)) (r : Rule journal spare legal seats s) (id : ℕ) (v : View C R) (at : get_elem? s.views id ≡ some v)
    (live : v.live ≡ true) (first : v.number ≡ 0) (calm : v.found ≡ None) (idle : v.ticket ≡ None) (alone : length v.out ≡ 0) where
  here : id ≡ 0
  here = r.roster.numbers id 0 (core v) r.roster.first (at_map core s.views id v at) r.roster.at_first live r.roster.first_is.0
      (first ∙ sym r.roster.first_is.1)

  same : core v ≡ r.roster.first
  same = some-injective (core v) r.roster.first (sym (at_map core s.views id v at) ∙ (ap (get_elem? (map core s.views)) here ∙ r.roster.at_first))

  none_out : r.roster.first.out ≡ []
  none_out = ap (λ (c : Core C R). c.out) (sym same) ∙ no_length v.out alone

  at_ended : (k : ℕ) → get_elem? v.ended k ≡ get_elem? r.roster.first.ended k
  at_ended k = ap (λ (c : Core C R). get_elem? c.ended k) same

  -- A live view is this one.
  only_one : (j : ℕ) (u : View C R) → get_elem? s.views j ≡ some u → u.live ≡ true → u ≡ v
  only_one j u e l = dite (ℕ_discrete j 0)
      (λ z. some-injective u v (sym e ∙ (ap (get_elem? s.views) (z ∙ sym here) ∙ at)))
      (λ other. absurd (subst (λ l. Has l u.number) none_out (r.roster.others j (core u) (at_map core s.views j u e) l other).0))

  none_turns : NoneAtTurn s.views
  none_turns j u e =
      let F : Option (List (Entry C R)) → Type 0 = λ o. u.found ≡ o → u.found ≡ None in
      (elim u.found as F [
        | None ↦ (λ x. x)
        | Some h ↦ (λ x. let f = r.each j u e in
            let l = (f.ticket (length r.history) (f.found h x).1).3 in
            ap (λ (y : View C R). y.found) (only_one j u e l) ∙ calm)
      ]) refl

  -- A refused ticket was drawn, so all those below were served.
  whole : (t : ℕ) → 262144 ≤ t → t < r.tickets → 262144 ≤ length r.history
  whole t high low = dite (dec_le 262144 (length r.history)) (λ h. h) (λ h. absurd (
      let w = r.waited (length r.history) (omega arith) (omega arith) (omega arith) in
      let l = ((r.each w.0 w.1 w.2).ticket (length r.history) w.3).3 in
      let z : None ≡ Some (length r.history) = sym idle ∙ (sym (ap (λ (y : View C R). y.ticket) (only_one w.0 w.1 w.2 l)) ∙ w.3) in
      cc))

  closes_with : Closed legal v r.history
  closes_with =
      let f = r.each id v at in
      record {
        lawful = r.lawful;
        seen = f.seen;
        own = f.own live ∙ ap (λ n. own_of n r.history) first;
        ended = λ k e a. (r.roster.ended k e (sym (at_ended k) ∙ a)).0;
        all = λ k x a. dite (dec_le r.roster.first.next x.seat)
            (λ high. absurd (owned r.history k x a (r.roster.unused x.seat high)))
            (λ low. ⊎_elim inl (λ t. ⊎_elim
            (λ h. absurd (subst (λ l. Has l x.seat) none_out h))
            (λ e. inr (e.0, e.1, at_ended e.0 ∙ e.2, e.3)) t)
            (r.roster.covers x.seat (omega arith)));
        refused = λ t e. let g = f.refused t e in whole t g.0 g.1;
        refused_ended = λ k t e a is. let g = (r.roster.ended k e (sym (at_ended k) ∙ a)).1 t is in whole t g.0 g.1;
      }

  closes : (o : O) × (get_elem? s.homes 0 ≡ some (some (Some o))) × Closed legal v (journal o)
  closes =
      let home = r.home none_turns in
      let P : List (Entry C R) → Type 0 = λ h. Closed legal v h in
      (home.0, home.1, subst P (sym home.2) closes_with)

-- The same of the table at its end.
pub closes_final : {O C R : Type 0} (journal : O → List (Entry C R)) (spare : O → ℕ) (legal : List (Entry C R) → Type 0) (seats id : ℕ) (v : View C R)
    (ws : List ℕ) (xs : List (Option O)) → v.live ≡ true → v.number ≡ 0 → v.found ≡ None → v.ticket ≡ None → length v.out ≡ 0
    → Final (Seen (Rule journal spare legal seats) id v) ws xs → (o : O) × (get_elem? xs 0 ≡ some (Some o)) × Closed legal v (journal o)
closes_final journal spare legal seats id v ws xs live first calm idle alone f =
    let c = closes journal spare legal seats f.0 f.1.0 id v f.1.1 live first calm idle alone in
    (c.0, f.4 0 (Some c.0) c.1, c.2)

pub is_there : {O : Type 0} (xs : List (Option O)) (o : O) (found : Option O) → get_elem? xs 0 ≡ some (Some o) → get_elem? xs 0 ≡ some found → found ≡ Some o
is_there xs o found a b = some-injective found (Some o) (sym b ∙ a)

pub some_same : {A : Type 0} (a b : A) → Some a ≡ Some b → a ≡ b
some_same a b e = cc
