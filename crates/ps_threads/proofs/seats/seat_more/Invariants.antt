use Rattle.std.proofs.Common.{◌≡◌, ◌+◌, ◌≤◌, vec_len, vec_capacity}
use Rattle.ps_desk.specs.Seats.{desk_of, view_of}
use Rattle.ps_threads.specs.Worked.{AreIdle}
use Rattle.ps_threads.specs.Lent.{Lends}
use Rattle.ps_threads.proofs.seats.seat_more.Given as goal

abbrev pub invariant-loop : goal.invariant-loop
invariant-loop l =
    record {
      desk : desk_of l.first ≡ desk_of l.fn.first;
      ended : (view_of l.first).ended ≡ (view_of l.fn.first).ended;
      end : (view_of l.first).end ≡ (view_of l.fn.first).end;
      next : (view_of l.first).next ≡ (view_of l.fn.first).next + l.counter;
      lends : Lends (view_of l.first) (view_of l.first).next;
      len : vec_len l.seats ≡ l.counter;
      few : l.counter ≤ l.fn.count;
      room : l.fn.count ≤ vec_capacity l.seats;
      idle : AreIdle (desk_of l.fn.first) (view_of l.fn.first).next l.seats.items;
    }
