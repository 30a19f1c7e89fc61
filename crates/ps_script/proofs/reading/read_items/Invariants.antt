use Rattle.std.proofs.Common.{◌≤◌, ◌+◌, length, map}
use Rattle.ps_script.specs.Reading.{asked_of}
use Rattle.ps_script.specs.Items.{LeadsOn}
use Rattle.ps_script.proofs.reading.read_items.Given as goal

abbrev pub invariant-loop-rest : goal.invariant-loop-rest
invariant-loop-rest l =
    LeadsOn 1 l.bytes (map asked_of l.lines.items) l.number l.rest
    × (l.number + length l.rest ≤ length l.bytes + 1)
    × (length l.rest ≤ length l.bytes)

abbrev pub decreases-loop-rest : goal.decreases-loop-rest
decreases-loop-rest l = length l.rest
