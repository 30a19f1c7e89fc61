use Rattle.std.proofs.Common.{◌≡◌, ◌≤◌, vec_len, ◌-◌}
use Rattle.std.specs.Io.KnownBytes.{prepend_known}
use Rattle.ps_io.proofs.reading.read_all.Given as goal

-- what was read stood in front of what is left
abbrev pub invariant-pieces : goal.invariant-pieces
invariant-pieces g l =
    record {
      room : vec_len l.piece ≡ 16384;
      within : vec_len l.bytes ≤ l.limit;
      front : g.S.Source.remaining l.fn.source ≡ prepend_known l.bytes.items (g.S.Source.remaining l.source);
      never_falls : g.S.Source.faults l.fn.source ≤ g.S.Source.faults l.source;
    }

abbrev pub decreases-pieces : goal.decreases-pieces
decreases-pieces g l = l.limit - vec_len l.bytes
