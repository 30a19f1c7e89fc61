use Rattle.std.proofs.Common.{◌≡◌, List, ◌++◌}
use Rattle.std.specs.Vec.Iter.{into_iter_items}
use Rattle.ps_desk.specs.Rule.{core}
use Rattle.ps_desk.specs.Seats.{view_of, desk_of}
use Rattle.ps_script.specs.declared.command.Command.{Command}
use Rattle.ps_threads.proofs.ServedLaws.{Stands}
use Rattle.ps_threads.proofs.serving.serve.Given as goal

abbrev pub invariant-loop-asked : goal.invariant-loop-asked
invariant-loop-asked g l =
    record {
      desk : desk_of l.session.seat ≡ desk_of l.fn.job.seat;
      core_is : core (view_of l.session.seat) ≡ core (view_of l.fn.job.seat);
      served : List Command;
      split : l.fn.job.commands.items ≡ served ++ into_iter_items l.asked-iterator;
      stands : Stands served (view_of l.session.seat).own;
    }
