use Rattle.std.proofs.Common.{◌≡◌, ◌+◌, List, ◌++◌, length, vec_len, vec_capacity}
use Rattle.std.specs.Vec.Iter.{into_iter_items}
use Rattle.std.specs.declared.vec.Vec.{Vec}
use Rattle.std.specs.declared.alloc.Global.{Global}
use Rattle.ps_desk.specs.Seats.{desk_of, view_of}
use Rattle.ps_script.specs.declared.command.Command.{Command}
use Rattle.ps_script.specs.declared.script.Line.{Line}
use Rattle.ps_threads.specs.Served.{AreDealt, AreJobs}
use Rattle.ps_threads.specs.Lent.{Lends}
use Rattle.ps_threads.proofs.seats.seat_all.Given as goal

abbrev pub invariant-loop-commands : goal.invariant-loop-commands
invariant-loop-commands l =
    record {
      desk : desk_of l.first ≡ desk_of l.fn.first;
      ended : (view_of l.first).ended ≡ (view_of l.fn.first).ended;
      end : (view_of l.first).end ≡ (view_of l.fn.first).end;
      next : (view_of l.first).next ≡ vec_len l.jobs + 1;
      lends : Lends (view_of l.first) (vec_len l.jobs + 1);
      count : length (into_iter_items l.commands-iterator) + vec_len l.jobs ≡ vec_len l.fn.dealt;
      capacity : vec_capacity l.jobs ≡ vec_capacity l.fn.jobs;
      before : List (Vec Command Global);
      split : l.fn.dealt.items ≡ before ++ into_iter_items l.commands-iterator;
      placed : length before ≡ vec_len l.jobs;
      jobs : (lines : List Line) → AreDealt lines l.fn.dealt.items → AreJobs lines (desk_of l.fn.first) l.jobs.items;
    }
