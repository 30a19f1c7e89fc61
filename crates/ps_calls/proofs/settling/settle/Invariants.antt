use Rattle.std.proofs.Common.{ℕ, ◌-◌, length}
use Rattle.ps_calls.specs.Calls.{Grows}
use Rattle.ps_calls.specs.Settling.{Asking, IsAsking}
use Rattle.ps_calls.proofs.settling.settle.Given as goal

abbrev pub invariant-rounds : goal.invariant-rounds
invariant-rounds g l =
    record {
      grows : Grows (g.T.Turns.view l.fn.turns) (g.T.Turns.view l.turns);
      asks : (at : Asking) → IsAsking at 0 (g.T.Turns.view l.fn.turns) → (n : ℕ) × IsAsking at n (g.T.Turns.view l.turns);
    }

abbrev pub decreases-rounds : goal.decreases-rounds
decreases-rounds g l = 262144 - length (g.T.Turns.view l.turns).seen
