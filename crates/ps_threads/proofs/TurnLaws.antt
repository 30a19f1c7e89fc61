-- Turns at a desk, as what a session takes.
use Rattle.std.proofs.Common.{◌≡◌, ◌≤◌, ℕ, [], ◌∷◌, ◌++◌, Some, refl, sym, ap, ◌∙◌, subst}
use Rattle.std.proofs.lemmas.Bool.{false≢true}
use Rattle.atomic_table.specs.Seated.{TableId}
use Rattle.ps_desk.specs.declared.object.Object.{Ghosts}
use Rattle.ps_desk.specs.declared.view.View.{View}
use Rattle.ps_desk.specs.declared.seat.Seat.{Seat}
use Rattle.ps_desk.specs.Rule.{core}
use Rattle.ps_desk.specs.Views.{entry, refusing}
use Rattle.ps_desk.specs.Seats.{view_of, desk_of, Turned as DeskTurned}
use Rattle.ps_journal.specs.declared.commands.Cmd.{Cmd}
use Rattle.ps_journal.specs.declared.replies.Reply.{Reply}
use Rattle.ps_journal.specs.History.{IsLegal, own_entries}
use Rattle.ps_history.proofs.Lists.{some_same}
use Rattle.ps_calls.specs.Turns.{Stays, Turned, Refused, desk}
use Rattle.ps_threads.specs.Seated.{seat_view}

same_desk : (a b : TableId) → desk a ≡ desk b → a ≡ b
same_desk a b h = cc

module _ {O : Type 0} {o : Ghosts O Cmd Reply} where
  -- what the type of a seat keeps of its own entries
  pub own_is : (s : Seat O Cmd Reply o) → (view_of s).own ≡ own_entries (view_of s).number (view_of s).seen
  own_is s = s.rests.own ∙ ap (λ k. own_entries k (view_of s).seen) (sym s.rests.number_is.0)

  module _ (s t : Seat O Cmd Reply o) where
    pub stays_where : desk_of t ≡ desk_of s → core (view_of t) ≡ core (view_of s) → Stays (seat_view s) (seat_view t)
    stays_where d k = record { number = ap (λ x. x.number) k; over = ap desk d; alone = refl; rest = ap Some k }

    pub turn_done : (c : Cmd) (reply : Reply) → DeskTurned IsLegal (view_of s) (view_of t) c reply → Turned (seat_view s) (seat_view t) c reply
    turn_done c reply w =
        let e = entry (view_of s).number c reply in
        let whole : (view_of t).seen ≡ w.before ++ e ∷ [] = ap (λ (v : View Cmd Reply). v.seen) w.view in
        record {
          before = w.before;
          seen = w.seen;
          whole = whole;
          lawful = subst IsLegal (sym whole) w.lawful;
          own =
              ap (own_entries (view_of s).number) whole ∙ sym w.own ∙ ap (λ (v : View Cmd Reply). v.own) w.view
              ∙ ap (λ l. l ++ e ∷ []) (own_is s);
          below = w.below;
          unrefused = ap (λ (v : View Cmd Reply). v.refused) w.view ∙ w.not_refused;
          alone = λ h. absurd (false≢true h);
        }

    pub turn_stays : (c : Cmd) (reply : Reply) → desk_of t ≡ desk_of s → DeskTurned IsLegal (view_of s) (view_of t) c reply → Stays (seat_view s) (seat_view t)
    turn_stays c reply d w = stays_where d (ap core w.view)

    pub full_stays : (ticket : ℕ) → desk_of t ≡ desk_of s → view_of t ≡ refusing (view_of s) ticket → Stays (seat_view s) (seat_view t)
    full_stays ticket d e = stays_where d (ap core e)

    pub turn_full : (ticket : ℕ) → view_of t ≡ refusing (view_of s) ticket → 262144 ≤ ticket → Refused (seat_view s) (seat_view t) ticket
    turn_full ticket e late = record {
      seen = ap (λ (v : View Cmd Reply). v.seen) e;
      refused = ap (λ (v : View Cmd Reply). v.refused) e;
      late = late;
    }

  -- ---- and back
  pub stays_desk : (s t : Seat O Cmd Reply o) → Stays (seat_view s) (seat_view t) → desk_of t ≡ desk_of s
  stays_desk s t w = same_desk (desk_of t) (desk_of s) w.over

  pub stays_core : (s t : Seat O Cmd Reply o) → Stays (seat_view s) (seat_view t) → core (view_of t) ≡ core (view_of s)
  stays_core s t w = some_same (core (view_of t)) (core (view_of s)) w.rest
