use Rattle.std.proofs.Common.{◌≡◌, ◌+◌, List, length, vec_len}
use Rattle.ps_desk.specs.Seats.{desk_of, view_of}
use Rattle.ps_script.specs.declared.script.Line.{Line}
use Rattle.ps_threads.specs.Served.{AreBack}
use Rattle.ps_threads.specs.Lent.{AllServe, Lends, Came}
use Rattle.ps_threads.proofs.seats.take_back.Given as goal

abbrev pub decreases-loop-finished : goal.decreases-loop-finished
decreases-loop-finished l = vec_len l.done

abbrev pub invariant-loop-finished : goal.invariant-loop-finished
invariant-loop-finished l =
    record {
      desk : desk_of l.first ≡ desk_of l.fn.first;
      lends : Lends (view_of l.first) (vec_len l.done + 1);
      count : length (view_of l.first).ended + vec_len l.done ≡ vec_len l.fn.done;
      back : AreBack (desk_of l.fn.first) l.done.items;
      came : (lines : List Line) → AllServe lines l.fn.done.items
          → AllServe lines l.done.items × Came lines (vec_len l.fn.done) l.ending (view_of l.first).ended;
    }
