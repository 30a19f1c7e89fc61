use Rattle.std.proofs.Common.{refl, List, ℕ, ◌∷◌, []}
use Rattle.ps_mono.proofs.Calls.{zeros, var_is}
use Rattle.ps_mono.proofs.Counts.{one_counted, zeros_fit}
use Rattle.ps_mono.proofs.mono.Mono.var.Goals as goal

pub invariant_of-result : goal.invariant_of-result
invariant_of-result c = let ws : List ℕ = 0 ∷ 0 ∷ 0 ∷ 0 ∷ 0 ∷ 0 ∷ 0 ∷ 0 ∷ [] in one_counted ws c.args.v zeros_fit zeros c.requires

pub returns : goal.returns
returns c = let ws : List ℕ = 0 ∷ 0 ∷ 0 ∷ 0 ∷ 0 ∷ 0 ∷ 0 ∷ 0 ∷ [] in var_is ws c.args.v refl zeros c.requires
