use Rattle.std.proofs.Common.{◌≡◌, map, take, get_or}
use Rattle.qasm_expand.proofs.bodies.places_of.Given as goal

abbrev pub invariant-loop-arg : goal.invariant-loop-arg
invariant-loop-arg l = l.places.items ≡ map (λ q. get_or l.outer q 0) (take l.arg-index l.args)
