use Rattle.std.proofs.Common.{◌≡◌, ◌≤◌}
use Rattle.ps_desk.specs.Rule.{core}
use Rattle.ps_desk.specs.Seats.{view_of, desk_of}
use Rattle.ps_desk.proofs.tests.turns.Given as goal

abbrev pub invariant-loop-k : goal.invariant-loop-k
invariant-loop-k g l = (l.answered ≤ l.k) × (desk_of l.seat ≡ desk_of l.initial.seat) × (core (view_of l.seat) ≡ core (view_of l.initial.seat))
