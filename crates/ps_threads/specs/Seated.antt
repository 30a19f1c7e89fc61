-- Seats of a desk with a book, as what takes turns.
use Rattle.std.specs.Prelude.{◌≡◌, false, [], Some}
use Rattle.ps_desk.specs.declared.object.Object.{Ghosts}
use Rattle.ps_desk.specs.declared.seat.Seat.{Seat}
use Rattle.ps_desk.specs.Rule.{core}
use Rattle.ps_desk.specs.Seats.{view_of, desk_of}
use Rattle.ps_journal.specs.declared.commands.Cmd.{Cmd}
use Rattle.ps_journal.specs.declared.replies.Reply.{Reply}
use Rattle.ps_calls.specs.Turns.{TurnView, desk}

module _ {O : Type 0} {o : Ghosts O Cmd Reply} where
  -- it stands over its desk, at which others take turns too
  abbrev pub seat_view : Seat O Cmd Reply o → TurnView
  seat_view s = record {
    number = (view_of s).number;
    over = desk (desk_of s);
    alone = false;
    rest = Some (core (view_of s));
    seen = (view_of s).seen;
    refused = (view_of s).refused;
  }

  -- it was split off before any turn, and took none
  pub record IsFresh (s : Seat O Cmd Reply o) : Type 0 where
    pub own : (view_of s).own ≡ []
    pub ended : (view_of s).ended ≡ []
