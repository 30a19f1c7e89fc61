use Rattle.std.proofs.Common.{◌≡◌, ◌-◌, ◌≤◌}
use Rattle.std.specs.Prelude.{vec_len, vec_capacity}
use Rattle.std.specs.List.{range_with_len}
use Rattle.ps_book.proofs.opening.make_room.Given as goal

abbrev pub invariant-loop-number : goal.invariant-loop-number
invariant-loop-number l = (l.numbers.items ≡ range_with_len l.first (l.number - l.first)) × (vec_len l.numbers ≡ l.number - l.first) × (l.more ≤ vec_capacity l.numbers)
