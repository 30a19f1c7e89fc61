use Rattle.std.proofs.Common.{length, ◌-◌, ◌≡◌, ◌≤◌, take}
use Rattle.std.specs.Io.KnownBytes.{append_known}
use Rattle.ps_io.proofs.writing.write_all.Given as goal

-- the front of the bytes is written
abbrev pub invariant-loop-done : goal.invariant-loop-done
invariant-loop-done g l =
    record {
      within : l.done ≤ length l.bytes;
      front : g.W.Sink.held l.sink ≡ append_known (g.W.Sink.held l.fn.sink) (take l.done l.bytes);
      never_falls : g.W.Sink.faults l.fn.sink ≤ g.W.Sink.faults l.sink;
    }

abbrev pub decreases-loop-done : goal.decreases-loop-done
decreases-loop-done g l = length l.bytes - l.done
